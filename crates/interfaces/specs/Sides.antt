-- The two sides of a forkcipher.
-- Assumes nothing.
use Rattle.interfaces.specs.declared.sides.Side.{Side}
use Rattle.interfaces.specs.declared.sides.Side.TheVariants.{Left, Right}

abbrev pub other : Side → Side
other Left = Right
other Right = Left

-- the choice that a side makes of two
abbrev pub by_side : {X : Type 0} → X → X → Side → X
by_side l r Left = l
by_side l r Right = r
