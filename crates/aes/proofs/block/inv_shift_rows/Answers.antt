use Rattle.std.proofs.Common.{rules}
use Rattle.aes.specs.Block.{shift_rows, inv_shift_rows}
use Rattle.aes.proofs.Blocks.{shift_rows-inv_shift_rows}
use Rattle.aes.proofs.Table.{step}
use Rattle.aes.proofs.block.inv_shift_rows.Goals as goal

pub returns : goal.returns
unfolding inv_shift_rows
returns c =
    let s = c.args.s in step inv_shift_rows shift_rows s _ c.moved.ensures (shift_rows-inv_shift_rows s (search rules, λ j. search rules))
