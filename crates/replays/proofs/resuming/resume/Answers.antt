use Rattle.std.proofs.Common.{sym, ◌∙◌, ap₂, rules}
use Rattle.ledgers.proofs.Places.{strips_stand}
use Rattle.ledgers.proofs.Followed.{ran_follows}
use Rattle.sealed.proofs.Lawful.{lawful}
use Rattle.replays.specs.Ready.{lengths, unready}
use Rattle.replays.proofs.Readiness.{begun}
use Rattle.replays.proofs.resuming.resume.Goals as goal

pub returns-clause-law : goal.returns-clause-law
returns-clause-law g c =
    let ok = lawful g.met.H.Forkcipher.lawful g.met.A.Forkcipher.lawful c.args.piles.now in
    let held = lengths c.args.memory.now c.args.room.now c.args.answers.now in
    let ready = ap₂ (λ n h. unready n.count h c.args.calls.now) (sym c.rows.ensures) (sym c.of-held.ensures) ∙ c.in_ok-check.ensures in
    record {
      ready = ready;
      stood = strips_stand _ ok _ (begun _ held c.args.calls.now ready).fit (λ k. search rules);
      follows = ran_follows _ ok _ _ _ _ c.make_all.ensures.ran;
    }
