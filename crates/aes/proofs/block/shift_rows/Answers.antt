use Rattle.std.proofs.Common.{rules}
use Rattle.aes.specs.Block.{shift_rows, inv_shift_rows}
use Rattle.aes.proofs.Blocks.{inv_shift_rows-shift_rows}
use Rattle.aes.proofs.Table.{step}
use Rattle.aes.proofs.block.shift_rows.Goals as goal

pub returns : goal.returns
unfolding shift_rows
returns c =
    let s = c.args.s in step shift_rows inv_shift_rows s _ c.moved.ensures (inv_shift_rows-shift_rows s (search rules, λ j. search rules))
