use Rattle.std.proofs.Common.{rules}
use Rattle.aes.specs.Field.{s_box}
use Rattle.aes.proofs.Schedule.{next_key_made}
use Rattle.aes.proofs.Table.{map_listed}
use Rattle.aes.proofs.keys.next_key.Goals as goal

pub returns : goal.returns
returns c =
    let last = map_listed _ _ s_box _ 4 c.map.result (λ k y q l h. search rules) c.map.ensures.items in
    next_key_made c.args.key c.args.constant c.map.result c.xor-a.result c.xor-b.result c.xor-c.result c.xor-d.result c.join.result
    (simp c.columns.ensures at last) (simp c.columns.ensures at c.xor-a.ensures) (simp c.columns.ensures at c.xor-b.ensures)
    (simp c.columns.ensures at c.xor-c.ensures) (simp c.columns.ensures at c.xor-d.ensures) c.join.ensures
