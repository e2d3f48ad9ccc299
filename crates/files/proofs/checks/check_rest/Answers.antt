use Rattle.std.proofs.Common.{◌≡◌, ◌+◌, ◌*◌, ◌≤◌, [], length, sym, refl, ap, ◌∙◌, arith}
use Rattle.std.proofs.lemmas.Result.{err_from_is_err_and}
use Rattle.files.specs.Layout.{trailer, entries, entry_start, rows, number, rows_before}
use Rattle.files.specs.Verdict.{least_number, entries_verdict, end_verdict}
use Rattle.files.proofs.Accepted.{trailer_few, trailer_whole}
use Rattle.files.proofs.Slots.{slots_long, slot_is}
use Rattle.files.proofs.Verdicts.{fields_of, refused_first, sound_first, rows_more, least_more, entries_sound, entries_refused}
use Rattle.files.proofs.checks.check_rest.Goals as goal

pub slots-entry-items-requires : goal.slots-entry-items-requires
slots-entry-items-requires c =
    let bs = c.args.file.bytes.now in
    omega (arith, ap (λ t. t.start) c.args.file.is, ap (λ t. t.count) c.args.file.is, trailer_whole (length bs) (trailer bs) c.requires)

pub loop-i-init : goal.loop-i-init
unfolding rows_before least_number entries_verdict
loop-i-init c = (refl, refl, refl, omega arith)

pub check_entry-requires-clause-few : goal.check_entry-requires-clause-few
check_entry-requires-clause-few c =
    let bs = c.args.file.bytes.now in
    let few : c.loop-i.before.rows ≤ 1048576 = omega (arith, trailer_few (length bs) (trailer bs) c.requires, slots_long bs _ c.slots-entry-items.ensures) in
    few

pub returns-in_err-before : goal.returns-in_err-before
returns-in_err-before c =
    let bs = c.args.file.bytes.now in
    let i = c.loop-i.i in
    let p = err_from_is_err_and c.from_residual.result c.from_residual.ensures.1 in
    let at : c.args.file.trailer.start + 32 * i ≡ entry_start bs i = omega (arith, ap (λ t. t.start) c.args.file.is) in
    let slot = slot_is bs _ c.slots-entry-items.ensures i [] c.loop-i-test.true in
    let here = fields_of bs i _ _ _ _ slot at c.loop-i.invariant.1 c.loop-i.invariant.2 c.in_err-before.ensures.is in
    rw (p.1, p.2) (refused_first _ (entries_refused bs _ (entries bs) i (omega (arith, slots_long bs _ c.slots-entry-items.ensures)) c.loop-i.invariant.0 here))

pub loop-i-preserved : goal.loop-i-preserved
loop-i-preserved c =
    let bs = c.args.file.bytes.now in
    let i = c.loop-i.i in
    let at : c.args.file.trailer.start + 32 * i ≡ entry_start bs i = omega (arith, ap (λ t. t.start) c.args.file.is) in
    let slot = slot_is bs _ c.slots-entry-items.ensures i [] c.loop-i-test.true in
    let here = fields_of bs i _ _ _ _ slot at c.loop-i.invariant.1 c.loop-i.invariant.2 c.in_ok-before.ensures.is in
    let leaves = c.in_ok-before.ensures.leaves in (
      entries_sound bs i c.loop-i.invariant.0 here,
      leaves.next_least ∙ ap (λ e. number e + 1) slot ∙ sym (least_more bs i),
      leaves.more_rows ∙ (λ j. c.loop-i.invariant.2 j + rows (slot j)) ∙ sym (rows_more bs i),
      omega (arith, leaves.more_rows, leaves.rows_few),
    )

pub check_end-requires : goal.check_end-requires
check_end-requires c =
    let bs = c.args.file.bytes.now in
    omega (arith, trailer_few (length bs) (trailer bs) c.requires, slots_long bs _ c.slots-entry-items.ensures)

pub returns : goal.returns
returns c =
    let bs = c.args.file.bytes.now in
    let i : c.loop-i.i ≡ entries bs = omega (arith, slots_long bs _ c.slots-entry-items.ensures) in
    let sum : c.loop-i.before.rows ≡ rows_before bs (entries bs) = c.loop-i.invariant.2 ∙ ap (rows_before bs) i in
    c.check_end.ensures
    ∙ ap (end_verdict (length bs) (trailer bs) (entries bs)) sum
    ∙ sound_first _ (c.loop-i.invariant.0 ∙ ap (entries_verdict bs) i)
