-- The piles that a call is handed.
use Rattle.interfaces.specs.Maps.{Maps}
use Rattle.ledgers.specs.Rows.{both, Piles as TwoPiles}
use Rattle.sealed.specs.declared.piles.Piles.{Piles}

-- the images of the two ciphers, by what each kind of cipher has for its images
abbrev pub images : {H A : Type 0} → (H → Maps) → (A → Maps) → Piles H A → TwoPiles
images home away piles = both (home piles.home.now) (away piles.away.now)
