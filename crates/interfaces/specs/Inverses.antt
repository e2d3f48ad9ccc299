-- Inverses made of inverses.
-- Assumes nothing.
use Rattle.std.specs.Prelude.{ℕ, List}
use Rattle.std.proofs.Common.{ap, ◌∙◌}
use Rattle.aes.specs.Block.{Bytes, xored}
use Rattle.aes.proofs.Blocks.{xored_bytes, xored_twice}
use Rattle.interfaces.specs.declared.sides.Side.{Side}
use Rattle.interfaces.specs.declared.sides.Side.TheVariants.{Left, Right}
use Rattle.interfaces.specs.Maps.{Inverse}
use Rattle.interfaces.specs.Sides.{by_side}

module _ {i o : List ℕ → List ℕ → List ℕ} (inv : Inverse i o) where
  -- under another tweak
  pub retweaked : (f : List ℕ → List ℕ) → ((t : List ℕ) → Bytes 8 t → Bytes 8 (f t)) → Inverse (λ t b. i (f t) b) (λ t b. o (f t) b)
  retweaked f h = record {
    image_block = λ t b w. inv.image_block (f t) b (h t w);
    origin_block = λ t b w. inv.origin_block (f t) b (h t w);
    origin_image = λ t b w. inv.origin_image (f t) b (h t w);
    image_origin = λ t b w. inv.image_origin (f t) b (h t w);
  }

  -- one after the other, under the same tweak
  pub after : {j p : List ℕ → List ℕ → List ℕ} → Inverse j p → Inverse (λ t b. j t (i t b)) (λ t b. o t (p t b))
  after {j} {p} jnv = record {
    image_block = λ t b w v. jnv.image_block t (i t b) w (inv.image_block t b w v);
    origin_block = λ t b w v. inv.origin_block t (p t b) w (jnv.origin_block t b w v);
    origin_image = λ t b w v. ap (o t) (jnv.origin_image t (i t b) w (inv.image_block t b w v)) ∙ inv.origin_image t b w v;
    image_origin = λ t b w v. ap (j t) (inv.image_origin t (p t b) w (jnv.origin_block t b w v)) ∙ jnv.image_origin t b w v;
  }

-- a side's choice of two
pub side_inverse : {i o j p : List ℕ → List ℕ → List ℕ} → Inverse i o → Inverse j p → (s : Side) → Inverse (by_side i j s) (by_side o p s)
side_inverse l r Left = l
side_inverse l r Right = r

-- XOR with sixteen bytes that the tweak decides
pub xor_inverse : (f : List ℕ → List ℕ) → ((t : List ℕ) → Bytes 8 t → Bytes 16 (f t)) → Inverse (λ t b. xored 16 b (f t)) (λ t b. xored 16 b (f t))
xor_inverse f h = record {
  image_block = λ t b w v. xored_bytes 16 b (f t) v.1 (h t w).1;
  origin_block = λ t b w v. xored_bytes 16 b (f t) v.1 (h t w).1;
  origin_image = λ t b w v. xored_twice 16 b (f t) v;
  image_origin = λ t b w v. xored_twice 16 b (f t) v;
}
