use Rattle.std.proofs.Common.{rules}
use Rattle.std.specs.Int.Bits.{bit_xor}
use Rattle.aes.specs.Block.{at, xored}
use Rattle.aes.proofs.Table.{from_fn_listed}
use Rattle.aes.proofs.bytes.xor.Goals as goal

pub returns : goal.returns
unfolding xored
returns g c =
    from_fn_listed _ _ (λ j. bit_xor (at c.args.a j) (at c.args.b j)) g.row.N c.from_fn.result (λ k y q l h. search rules)
    c.from_fn.ensures.items
