use Rattle.std.proofs.Common.{rules}
use Rattle.aes.specs.Block.{columns, mix, inv_mix, mix_columns, inv_mix_columns}
use Rattle.aes.proofs.Blocks.{columns_undone}
use Rattle.aes.proofs.Matrices.{inv_mix-mix}
use Rattle.aes.proofs.Table.{step}
use Rattle.aes.proofs.block.mix_columns.Goals as goal

pub returns : goal.returns
unfolding columns
returns c =
    let s = c.args.s in
    step mix_columns inv_mix_columns s _
    (simp (c.columns.ensures, c.join.ensures, c.mix_column.ensures.made, c.mix_column-2.ensures.made, c.mix_column-3.ensures.made, c.mix_column-4.ensures.made))
    (columns_undone inv_mix mix inv_mix-mix s (search rules, λ j. search rules))
