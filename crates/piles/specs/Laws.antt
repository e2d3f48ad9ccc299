-- The cipher for tests takes back what it makes.
-- Assumes nothing.
use Rattle.std.specs.Prelude.{ℕ, ◌%◌, List}
use Rattle.aes.specs.Block.{Bytes, at, shift_rows, inv_shift_rows}
use Rattle.aes.proofs.Blocks.{shift_rows_bytes, inv_shift_rows_bytes, inv_shift_rows-shift_rows, shift_rows-inv_shift_rows}
use Rattle.aes.proofs.Table.{listed_bytes}
use Rattle.interfaces.specs.Maps.{Inverse}
use Rattle.piles.specs.Shifts.{repeated}

-- the tweak twice is sixteen bytes
pub repeated_bytes : (t : List ℕ) → Bytes 8 t → Bytes 16 (repeated t)
unfolding repeated
repeated_bytes t w = listed_bytes 16 (λ j. at t (j % 8)) (λ j h. w.1 (j % 8))

-- either shift of the rows undoes the other
pub shift_inverse : Inverse (λ t b. shift_rows b) (λ t b. inv_shift_rows b)
shift_inverse = record {
  image_block = λ t b w v. shift_rows_bytes b v;
  origin_block = λ t b w v. inv_shift_rows_bytes b v;
  origin_image = λ t b w v. inv_shift_rows-shift_rows b v;
  image_origin = λ t b w v. shift_rows-inv_shift_rows b v;
}
