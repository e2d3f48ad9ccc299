-- One entry's check.
use Rattle.std.specs.Prelude.{◌≡◌, ℕ, ◌+◌, ◌≤◌, List, Option, Some, None, cond, not, ◌==◌, nat_lt}
use Rattle.strips.specs.Rows.{most_rows}
use Rattle.files.specs.declared.checks.Before.{Before}
use Rattle.files.specs.declared.parts.Trailer.{Trailer}
use Rattle.files.specs.Layout.{entries_start, count, edition, spare, total_rows, mark, number, station, pile, rows, zeros}

-- a trailer's fields
abbrev pub trailer_fields : List ℕ → Trailer
trailer_fields t = record {
  start = entries_start t;
  count = count t;
  edition = edition t;
  spare = spare t;
  total = total_rows t;
  mark = mark t;
}

-- where the first field of an entry begins, in its bytes e, that no entry may have, whatever the others are
abbrev pub faulty_field : (e : List ℕ) → Option ℕ
faulty_field e =
    cond (nat_lt 2 (station e)) (Some 2)
    (cond (nat_lt 1 (pile e)) (Some 3)
    (cond (nat_lt most_rows (rows e)) (Some 4)
    (cond (not (zeros e == 0)) (Some 12) None)))

-- what a sound entry leaves the next one
pub record Passed (e : List ℕ) (before after : Before) : Type 0 where
  pub next_least : after.least ≡ number e + 1
  pub more_rows : after.rows ≡ before.rows + rows e
  pub rows_few : rows e ≤ most_rows
