-- The piles that a call is handed keep the law, since both ciphers do. Assumes nothing.
use Rattle.interfaces.specs.Maps.{Lawful, Maps}
use Rattle.ledgers.specs.Laws.{BothLawful}
use Rattle.ledgers.proofs.Places.{both_lawful}
use Rattle.sealed.specs.Piles.{images}
use Rattle.sealed.specs.declared.piles.Piles.{Piles}

pub lawful : {H A : Type 0} {home : H → Maps} {away : A → Maps} → ((c : H) → Lawful (home c)) → ((c : A) → Lawful (away c)) → (piles : Piles H A) → BothLawful (images home away piles)
lawful h a piles = both_lawful (h piles.home.now) (a piles.away.now)
