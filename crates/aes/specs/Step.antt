-- A step that can be undone.
-- Assumes nothing.
use Rattle.std.specs.Prelude.{◌≡◌}

-- r is f of s, and g of r is s again
pub record Step {X : Type 0} (f g : X → X) (s r : X) : Type 0 where
  pub made : r ≡ f s
  pub undone : g r ≡ s
