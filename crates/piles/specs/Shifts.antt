-- A cipher for tests: XOR of a key, the rows shifted, XOR of the tweak.
-- Assumes nothing.
use Rattle.std.specs.Prelude.{ℕ, ◌%◌, List}
use Rattle.aes.specs.Block.{at, listed, xored, shift_rows, inv_shift_rows}
use Rattle.interfaces.specs.Maps.{Map}

-- the tweak twice
unfoldable pub repeated : List ℕ → List ℕ
repeated t = listed 16 λ j. at t (j % 8)

abbrev pub shifted_map : List ℕ → Map
shifted_map key = record {
  image = λ t b. xored 16 (shift_rows (xored 16 b key)) (repeated t);
  origin = λ t b. xored 16 (inv_shift_rows (xored 16 b (repeated t))) key;
}
