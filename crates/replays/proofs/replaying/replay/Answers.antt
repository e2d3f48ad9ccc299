use Rattle.std.proofs.Common.{length, sym, ap, ◌∙◌, subst}
use Rattle.ledgers.specs.Ledgers.{ledger_lay}
use Rattle.ledgers.specs.Laws.{Follows}
use Rattle.ledgers.proofs.Followed.{ran_follows}
use Rattle.sealed.specs.Calls.{state}
use Rattle.sealed.specs.Piles.{images}
use Rattle.sealed.proofs.Lawful.{lawful}
use Rattle.replays.specs.Ready.{unready_text}
use Rattle.replays.proofs.replaying.replay.Goals as goal

pub returns-clause-law : goal.returns-clause-law
returns-clause-law g c =
    let piles = images g.H.Forkcipher.maps g.A.Forkcipher.maps c.args.piles.now in
    let ok = lawful g.met.H.Forkcipher.lawful g.met.A.Forkcipher.lawful c.args.piles.now in
    let l = ledger_lay c.args.number c.args.text.now in
    let laid = c.in_ok-strip.ensures in
    record {
      ready = ap (λ h. unready_text (length c.args.text.now) h c.args.calls.now) (sym c.of-held.ensures) ∙ c.in_ok-check_text.ensures;
      follows = subst (λ b. Follows piles c.args.calls.now b (state c.make_all.new.strip c.make_all.new.memory) c.make_all.new.answers l) laid.is (ran_follows piles ok _ _ _ _ c.make_all.ensures.ran l (laid.stands piles));
    }
