use Rattle.std.proofs.Common.{rules}
use Rattle.aes.specs.Block.{column, mix, inv_mix, mix_column, inv_mix_column}
use Rattle.aes.proofs.Matrices.{mix-inv_mix, column_undone}
use Rattle.aes.proofs.Table.{step}
use Rattle.aes.proofs.columns.inv_mix_column.Goals as goal

pub returns : goal.returns
unfolding column
returns c =
    let v = c.args.v in
    step inv_mix_column mix_column v _
    (simp (c.multiples.ensures, c.multiples-2.ensures, c.multiples-3.ensures, c.multiples-4.ensures))
    (column_undone mix inv_mix mix-inv_mix v (search rules, λ j. search rules))
