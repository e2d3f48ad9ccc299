use Rattle.std.proofs.Common.{◌≡◌, ◌<◌, ◌≤◌, true, [], length, get_or, sym, ap, ◌∙◌, subst}
use Rattle.std.proofs.lemmas.List.{get_or_default}
use Rattle.std.proofs.lemmas.List.Elements.{All-get_or}
use Rattle.ledgers.specs.declared.call.Act.TheVariants.{Write}
use Rattle.ledgers.specs.declared.call.Call.{Call}
use Rattle.ledgers.proofs.Lists.{going_more, going_all}
use Rattle.replays.specs.Ready.{served}
use Rattle.replays.proofs.Readiness.{begun, served_kept}
use Rattle.replays.proofs.resuming.make_all.Goals as goal

-- what stands past the end
abbrev none : Call
none = record { memory = 0; act = Write 0 [] }

pub hand-answer-requires-clause-call_served : goal.hand-answer-requires-clause-call_served
hand-answer-requires-clause-call_served g c =
    let room = c.args.room.now in
    let now = All-get_or (λ x. served c.args.strip.now.rows.count (length room.spare.now) (length room.blank.now) x ≡ true) c.args.calls.now c.loop-i.i none c.loop-i-test.true (begun _ _ _ c.requires).room in
    served_kept (get_or c.args.calls.now c.loop-i.i none) c.loop-i.invariant.going.rows (ap length c.loop-i.invariant.room.spare) (ap length c.loop-i.invariant.room.blank) now

pub loop-i-preserved : goal.loop-i-preserved
loop-i-preserved g c =
    let i = c.loop-i.i in
    let place : i < length c.loop-i.answers = subst (λ n. i < n) (sym (c.loop-i.auto.answers ∙ (begun _ _ _ c.requires).each)) c.loop-i-test.true in
    record {
      going = going_more _ c.args.calls.now _ _ _ i c.loop-i.answers _ _ c.loop-i.invariant.going c.loop-i-test.true place (get_or_default c.args.calls.now i _ _ c.loop-i-test.true) c.hand-answer.ensures.made;
      room = record {
        spare = c.hand-answer.ensures.room.spare ∙ c.loop-i.invariant.room.spare;
        blank = c.hand-answer.ensures.room.blank ∙ c.loop-i.invariant.room.blank;
        same_spare = c.hand-answer.ensures.room.same_spare ∙ c.loop-i.invariant.room.same_spare;
        same_blank = c.hand-answer.ensures.room.same_blank ∙ c.loop-i.invariant.room.same_blank;
      };
    }

pub returns-clause-ran : goal.returns-clause-ran
returns-clause-ran g c =
    let i = c.loop-i.i in
    let all : length c.loop-i.answers ≤ i = subst (λ n. n ≤ i) (sym (c.loop-i.auto.answers ∙ (begun _ _ _ c.requires).each)) c.loop-i-test.false in
    going_all _ _ _ _ i c.loop-i.answers c.loop-i.invariant.going c.loop-i-test.false all
