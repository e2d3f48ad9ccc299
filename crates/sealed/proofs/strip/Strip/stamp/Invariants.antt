use Rattle.ledgers.proofs.Stamping.{Mixing}
use Rattle.sealed.specs.Piles.{images}
use Rattle.sealed.proofs.strip.Strip.stamp.Given as goal

abbrev pub invariant-loop-row : goal.invariant-loop-row
invariant-loop-row g l = Mixing (images g.H.Forkcipher.maps g.A.Forkcipher.maps l.piles) l.self.place l.rows l.row l.sum
