-- The table's entry is the byte that S takes to its place, by one test over the whole table.
use Rattle.std.proofs.Common.{rules}
use Rattle.aes.specs.Field.{doubled, partial, product, power, inverse, s_box, inv_s_box}
use Rattle.aes.proofs.AllBytes.{s_box-inv_s_box}
use Rattle.aes.proofs.Table.{entry, step}
use Rattle.aes.proofs.inv_sbox.inv_sub_byte.Goals as goal

pub returns : goal.returns
unfolding doubled partial product power inverse inv_s_box
returns c =
    let b = c.args.b in step inv_s_box s_box b _ (entry inv_s_box 256 b 0 (search rules)) (s_box-inv_s_box b (search rules))
