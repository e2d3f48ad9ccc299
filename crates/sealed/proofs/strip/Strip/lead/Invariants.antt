use Rattle.ledgers.specs.Machine.{restored}
use Rattle.ledgers.proofs.Cells.{Swept}
use Rattle.sealed.specs.Piles.{images}
use Rattle.sealed.specs.Serving.{leads}
use Rattle.sealed.proofs.strip.Strip.lead.Given as goal

abbrev pub invariant-loop-row : goal.invariant-loop-row
invariant-loop-row g l =
    let p = l.self.place in
    Swept (restored (images g.H.Forkcipher.maps g.A.Forkcipher.maps l.piles) p (leads l.way p)) l.self.rows.count l.initial.memory l.memory l.row
