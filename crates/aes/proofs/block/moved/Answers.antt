use Rattle.std.proofs.Common.{◌+◌, ◌%◌, rules}
use Rattle.aes.specs.Block.{at}
use Rattle.aes.proofs.Table.{from_fn_listed}
use Rattle.aes.proofs.block.moved.Goals as goal

pub returns : goal.returns
returns c =
    from_fn_listed _ _ (λ j. at c.args.s ((j + at c.args.by (j % 4)) % 16)) 16 c.from_fn.result (λ k y q l h. search rules)
    c.from_fn.ensures.items
