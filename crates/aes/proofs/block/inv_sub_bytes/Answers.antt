use Rattle.std.proofs.Common.{rules}
use Rattle.aes.specs.Field.{inv_s_box}
use Rattle.aes.specs.Block.{sub_bytes, inv_sub_bytes}
use Rattle.aes.proofs.Blocks.{sub_bytes-inv_sub_bytes}
use Rattle.aes.proofs.Table.{step, map_listed}
use Rattle.aes.proofs.block.inv_sub_bytes.Goals as goal

pub returns : goal.returns
unfolding inv_sub_bytes
returns c =
    let s = c.args.s in
    step inv_sub_bytes sub_bytes s _ (map_listed _ _ inv_s_box s 16 c.map.result (λ k y q l h. search rules) c.map.ensures.items)
    (sub_bytes-inv_sub_bytes s (search rules, λ j. search rules))
