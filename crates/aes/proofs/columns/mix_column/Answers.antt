use Rattle.std.proofs.Common.{rules}
use Rattle.aes.specs.Field.{doubled}
use Rattle.aes.specs.Block.{column, mix, inv_mix, mix_column, inv_mix_column}
use Rattle.aes.proofs.Linear.{by_one, by_two, by_three}
use Rattle.aes.proofs.Matrices.{inv_mix-mix, column_undone}
use Rattle.aes.proofs.Table.{step, map_listed}
use Rattle.aes.proofs.columns.mix_column.Goals as goal

pub returns : goal.returns
unfolding column
returns c =
    let v = c.args.v in
    step mix_column inv_mix_column v _
    (let twice = map_listed _ _ doubled v 4 c.map.result (λ k y q l h. search rules) c.map.ensures.items in simp (by_one, by_two, by_three, twice))
    (column_undone inv_mix mix inv_mix-mix v (search rules, λ j. search rules))
