use Rattle.ledgers.proofs.Lists.{Going}
use Rattle.sealed.specs.Calls.{state}
use Rattle.sealed.specs.Piles.{images}
use Rattle.replays.specs.Ready.{Untouched}
use Rattle.replays.proofs.resuming.make_all.Given as goal

abbrev pub invariant-loop-i : goal.invariant-loop-i
invariant-loop-i g l =
    let piles = images g.H.Forkcipher.maps g.A.Forkcipher.maps l.piles in
    record {
      going : Going piles l.calls (state l.initial.strip l.initial.memory) (state l.strip l.memory) l.i l.answers;
      room : Untouched l.initial.room l.room;
    }
