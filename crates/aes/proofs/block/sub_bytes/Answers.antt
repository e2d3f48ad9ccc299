use Rattle.std.proofs.Common.{rules}
use Rattle.aes.specs.Field.{s_box}
use Rattle.aes.specs.Block.{sub_bytes, inv_sub_bytes}
use Rattle.aes.proofs.Blocks.{inv_sub_bytes-sub_bytes}
use Rattle.aes.proofs.Table.{step, map_listed}
use Rattle.aes.proofs.block.sub_bytes.Goals as goal

pub returns : goal.returns
unfolding sub_bytes
returns c =
    let s = c.args.s in
    step sub_bytes inv_sub_bytes s _ (map_listed _ _ s_box s 16 c.map.result (λ k y q l h. search rules) c.map.ensures.items)
    (inv_sub_bytes-sub_bytes s (search rules, λ j. search rules))
