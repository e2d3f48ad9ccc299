-- The table's entry is S of its place, by one test over the whole table.
use Rattle.std.proofs.Common.{rules}
use Rattle.aes.specs.Field.{doubled, partial, product, power, inverse, s_box, inv_s_box}
use Rattle.aes.proofs.AllBytes.{inv_s_box-s_box}
use Rattle.aes.proofs.Table.{entry, step}
use Rattle.aes.proofs.sbox.sub_byte.Goals as goal

pub returns : goal.returns
unfolding doubled partial product power inverse s_box
returns c =
    let b = c.args.b in step s_box inv_s_box b _ (entry s_box 256 b 0 (search rules)) (inv_s_box-s_box b (search rules))
