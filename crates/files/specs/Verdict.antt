-- Which refusal a file gets: the checks in their order, and the first that fails decides.
use Rattle.std.specs.Prelude.{ℕ, zero, suc, ◌+◌, ◌-◌, ◌*◌, cond, not, List, length, ◌==◌, nat_lt}
use Rattle.strips.specs.Rows.{most_rows}
use Rattle.files.specs.declared.fault.FileFault.{FileFault}
use Rattle.files.specs.declared.fault.FileFault.TheVariants.{Short, Mark, Edition, Shape, Field, Order, BodyStart, TotalRows}
use Rattle.files.specs.Faults.{Verdict, sound, refused, told}
use Rattle.files.specs.Layout.{trailer, entries_start, count, most_entries, entries, edition, spare, total_rows, mark, entry_start, entry, number, station, pile, rows, body_start, zeros, rows_before}

abbrev pub refuse : FileFault → Verdict
refuse f = refused (told f)

-- two verdicts, one after the other
infixr 40 ◌and_then◌
unfoldable pub ◌and_then◌ : Verdict → Verdict → Verdict
sound and_then v = v
refused f and_then v = refused f

-- FNCP
abbrev pub file_mark : ℕ
file_mark = 0x464E4350

-- the trailer t of a file of len bytes
abbrev pub trailer_verdict : (len : ℕ) (t : List ℕ) → Verdict
trailer_verdict len t =
    cond (not (mark t == file_mark)) (refuse (Mark (len - 16 + 12)))
    (cond (not (edition t == 1)) (refuse (Edition (len - 16 + 6)))
    (cond (nat_lt most_entries (count t)) (refuse (Shape (len - 16 + 4)))
    (cond (not (spare t == 0)) (refuse (Shape (len - 16 + 7)))
    (cond (not (entries_start t + 32 * count t + 16 == len)) (refuse (Shape (len - 16))) sound))))

-- entry i, whose bytes are e and begin at byte `at`: its strip number is to be at least `least`, and its body is to
-- begin at byte `end`
abbrev pub fields_verdict : (i : ℕ) (e : List ℕ) (at least end : ℕ) → Verdict
fields_verdict i e at least end =
    cond (nat_lt 2 (station e)) (refuse (Field i (at + 2)))
    (cond (nat_lt 1 (pile e)) (refuse (Field i (at + 3)))
    (cond (nat_lt most_rows (rows e)) (refuse (Field i (at + 4)))
    (cond (not (zeros e == 0)) (refuse (Field i (at + 12)))
    (cond (nat_lt (number e) least) (refuse (Order i at))
    (cond (not (body_start e == end)) (refuse (BodyStart i (at + 8))) sound)))))

-- one above the strip number before entry i, if there is one
unfoldable pub least_number : List ℕ → ℕ → ℕ
least_number bs zero = 0
least_number bs (suc i) = number (entry bs i) + 1

-- its body is to begin where those before it end
abbrev pub entry_verdict : List ℕ → ℕ → Verdict
entry_verdict bs i = fields_verdict i (entry bs i) (entry_start bs i) (least_number bs i) (16 * rows_before bs i)

-- the first n entries
unfoldable pub entries_verdict : List ℕ → (n : ℕ) → Verdict
entries_verdict bs zero = sound
entries_verdict bs (suc i) = entries_verdict bs i and_then entry_verdict bs i

-- the end of a file of len bytes with trailer t, after all n entries, which have `sum` rows
abbrev pub end_verdict : (len : ℕ) (t : List ℕ) (n sum : ℕ) → Verdict
end_verdict len t n sum =
    cond (not (16 * sum == entries_start t)) (refuse (BodyStart n (len - 16)))
    (cond (not (total_rows t == sum)) (refuse (TotalRows n (len - 16 + 8))) sound)

-- the entries, and then the end
abbrev pub rest_verdict : List ℕ → Verdict
rest_verdict bs = entries_verdict bs (entries bs) and_then end_verdict (length bs) (trailer bs) (entries bs) (rows_before bs (entries bs))

unfoldable pub verdict : List ℕ → Verdict
verdict bs = cond (nat_lt (length bs) 16) (refuse Short) (trailer_verdict (length bs) (trailer bs) and_then rest_verdict bs)
