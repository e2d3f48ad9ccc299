use Rattle.std.proofs.Common.{◌≡◌, ap, ◌∙◌, rules}
use Rattle.std.proofs.lemmas.List.{get_or_default}
use Rattle.ledgers.specs.Rows.{each_row, plain}
use Rattle.ledgers.specs.Stamps.{stamp}
use Rattle.ledgers.specs.Machine.{stamp_of}
use Rattle.ledgers.proofs.Cells.{Sized}
use Rattle.ledgers.proofs.Stamping.{mixing_none, mixing_more, mixing_all}
use Rattle.ledgers.proofs.Tells.{stamp_tells_row, turn_keeps_stamp}
use Rattle.sealed.specs.Calls.{state}
use Rattle.sealed.specs.Piles.{images}
use Rattle.sealed.proofs.Lawful.{lawful}
use Rattle.sealed.proofs.strip.Strip.stamp.Goals as goal

pub loop-row-init : goal.loop-row-init
loop-row-init g c =
    let sized : Sized c.head-sum.result = search rules in
    mixing_none _ _ _ _ _ c.in_ok-rows.ensures.count sized c.head-sum.ensures

pub loop-row-preserved : goal.loop-row-preserved
loop-row-preserved g c =
    let rows = c.in_ok-rows.rows.now in
    mixing_more _ _ _ _ _ _ _ c.loop-row.invariant c.loop-row-test.true (get_or_default rows c.loop-row.row _ _ c.loop-row-test.true) c.mixed-sum.ensures

pub returns-clause-shows : goal.returns-clause-shows
returns-clause-shows g c =
    let piles = images g.H.Forkcipher.maps g.A.Forkcipher.maps c.args.piles.now in
    let p = c.args.self.now.place in
    let done : c.loop-row.sum ≡ stamp_of piles (state c.args.self.now c.args.memory.now)
    = mixing_all _ _ _ _ _ c.loop-row.invariant c.loop-row-test.false ∙ ap (λ cs. stamp piles p (each_row (plain piles p) 0 cs)) c.in_ok-rows.ensures.rows in
    search rules

-- the laws hold of every strip, whatever comes of the call
pub returns-in_err-takes_answer-clause-kept : goal.returns-in_err-takes_answer-clause-kept
returns-in_err-takes_answer-clause-kept g c = turn_keeps_stamp _ (lawful g.met.H.Forkcipher.lawful g.met.A.Forkcipher.lawful c.args.piles.now) _

pub returns-in_err-takes_answer-clause-tells : goal.returns-in_err-takes_answer-clause-tells
returns-in_err-takes_answer-clause-tells g c = stamp_tells_row _ (lawful g.met.H.Forkcipher.lawful g.met.A.Forkcipher.lawful c.args.piles.now) _

pub returns-clause-kept : goal.returns-clause-kept
returns-clause-kept g c = turn_keeps_stamp _ (lawful g.met.H.Forkcipher.lawful g.met.A.Forkcipher.lawful c.args.piles.now) _

pub returns-clause-tells : goal.returns-clause-tells
returns-clause-tells g c = stamp_tells_row _ (lawful g.met.H.Forkcipher.lawful g.met.A.Forkcipher.lawful c.args.piles.now) _
