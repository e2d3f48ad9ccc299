use Rattle.std.proofs.Common.{◌≡◌, ◌*◌, ◌≤◌}
use Rattle.files.specs.Faults.{sound}
use Rattle.files.specs.Layout.{rows_before}
use Rattle.files.specs.Verdict.{least_number, entries_verdict}
use Rattle.files.proofs.checks.check_rest.Given as goal

abbrev pub invariant-loop-i : goal.invariant-loop-i
invariant-loop-i l =
    (sound ≡ entries_verdict l.file.bytes.now l.i)
    × (l.before.least ≡ least_number l.file.bytes.now l.i)
    × (l.before.rows ≡ rows_before l.file.bytes.now l.i)
    × (l.before.rows ≤ 4096 * l.i)
