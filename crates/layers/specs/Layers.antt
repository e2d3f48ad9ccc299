-- What the layers make of the maps below them.
-- Assumes nothing.
use Rattle.std.specs.Prelude.{ℕ, ◌*◌, ◌^◌, List}
use Rattle.aes.specs.Block.{xored}
use Rattle.interfaces.specs.Maps.{Maps}
use Rattle.interfaces.specs.Numbers.{big_endian}
use Rattle.interfaces.specs.Sides.{other}

-- p is XORed into the block before the image is taken, and q into the image
abbrev pub padded : List ℕ → List ℕ → Maps → Maps
padded p q m = record {
  image = λ s t b. xored 16 (m.image s t (xored 16 b p)) q;
  origin = λ s t b. xored 16 (m.origin s t (xored 16 b q)) p;
}

-- owner × 2^45, a number in eight bytes, is XORed into the tweak
abbrev pub own_tweak : ℕ → List ℕ → List ℕ
own_tweak owner t = xored 8 t (big_endian 8 (owner * 2 ^ 45))

abbrev pub owned : ℕ → Maps → Maps
owned owner m = record {
  image = λ s t b. m.image s (own_tweak owner t) b;
  origin = λ s t b. m.origin s (own_tweak owner t) b;
}

-- each side has the other's images
abbrev pub crossed : Maps → Maps
crossed m = record { image = λ s t b. m.image (other s) t b; origin = λ s t b. m.origin (other s) t b }
