-- What a cipher makes of a tweak and a block, the law of it, and what is made of others.
-- Assumes nothing.
use Rattle.std.specs.Prelude.{◌≡◌, ℕ, List}
use Rattle.aes.specs.Block.{Bytes}
use Rattle.interfaces.specs.declared.sides.Side.{Side}
use Rattle.interfaces.specs.Sides.{by_side}

-- of a tweakable cipher: the image of a block under a tweak, and the block of an image
pub record Map : Type 0 where
  pub image : List ℕ → List ℕ → List ℕ
  pub origin : List ℕ → List ℕ → List ℕ

-- of a forkcipher: the same on each side
pub record Maps : Type 0 where
  pub image : Side → List ℕ → List ℕ → List ℕ
  pub origin : Side → List ℕ → List ℕ → List ℕ

-- under every tweak, image and origin take blocks to blocks, and either undoes the other
pub record Inverse (image origin : List ℕ → List ℕ → List ℕ) : Type 0 where
  pub image_block : (t b : List ℕ) → Bytes 8 t → Bytes 16 b → Bytes 16 (image t b)
  pub origin_block : (t b : List ℕ) → Bytes 8 t → Bytes 16 b → Bytes 16 (origin t b)
  pub origin_image : (t b : List ℕ) → Bytes 8 t → Bytes 16 b → origin t (image t b) ≡ b
  pub image_origin : (t b : List ℕ) → Bytes 8 t → Bytes 16 b → image t (origin t b) ≡ b

-- that on each side
abbrev pub Lawful : Maps → Type 0
Lawful m = (s : Side) → Inverse (m.image s) (m.origin s)

-- one side of a forkcipher
abbrev pub one_side : Side → Maps → Map
one_side s m = record { image = m.image s; origin = m.origin s }

-- a side's image is its limb's image of the stem's image, under the same tweak
abbrev pub joined : Map → Map → Map → Maps
joined stem left right = record {
  image = λ s t b. by_side left.image right.image s t (stem.image t b);
  origin = λ s t b. stem.origin t (by_side left.origin right.origin s t b);
}
