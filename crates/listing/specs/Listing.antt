-- The lines that list a strip file.
use Rattle.std.specs.Prelude.{◌≡◌, ℕ, ◌≤◌, cond, List, ◌++◌, length, codes, decimal, sum_by, nat_lt}
use Rattle.std.specs.List.{flat_map}
use Rattle.strips.specs.Places.{station_word, pile_word}
use Rattle.files.specs.declared.record.Record.{Record}
use Rattle.files.specs.Faults.{Fault, Verdict, sound, refused}
use Rattle.files.specs.Layout.{trailer, entries, total_rows}
use Rattle.files.specs.Records.{records}
use Rattle.files.specs.Sound.{IsStripFile}
use Rattle.files.specs.Verdict.{verdict}
use Rattle.listing.specs.Text.{Put}

-- the line of a record
unfoldable pub record_line : Record → List ℕ
record_line r = codes "strip " ++ decimal r.number ++ (codes " rows " ++ decimal r.rows) ++ codes " station " ++ station_word r.station ++ codes " pile " ++ pile_word r.pile ++ codes "\n"

-- the line that counts entries and rows
unfoldable pub total_line : (entries rows : ℕ) → List ℕ
total_line n s = codes "entries " ++ decimal n ++ (codes " rows " ++ decimal s) ++ codes "\n"

-- the line of a refusal, behind the words for what was refused
unfoldable pub fault_line : List ℕ → (number entry byte : ℕ) → List ℕ
fault_line words n e b = words ++ decimal n ++ (codes " entry " ++ decimal e) ++ (codes " byte " ++ decimal b) ++ codes "\n"

-- all rows of some records
abbrev pub row_sum : List Record → ℕ
row_sum rs = sum_by (λ r. r.rows) rs

unfoldable pub records_listing : List Record → List ℕ
records_listing rs = flat_map record_line rs ++ total_line (length rs) (row_sum rs)

abbrev pub refused_line : Fault → List ℕ
refused_line f = fault_line (codes "fault file ") f.number f.entry f.byte

unfoldable pub listing_by : List ℕ → Verdict → List ℕ
listing_by bs sound = records_listing (records bs)
listing_by bs (refused f) = refused_line f

-- an input of over 65,536 bytes is refused before it is looked at
abbrev pub most_input : ℕ
most_input = 65536

abbrev pub too_long_line : List ℕ
too_long_line = fault_line (codes "fault list ") 16 0 0

unfoldable pub listing : List ℕ → List ℕ
listing bs = cond (nat_lt most_input (length bs)) too_long_line (listing_by bs (verdict bs))

-- the figures of the last line: the entries of the file, and the sum of their rows, as the trailer has them
pub record Totals (bs : List ℕ) : Type 0 where
  pub counted : length (records bs) ≡ entries bs
  pub summed : row_sum (records bs) ≡ total_rows (trailer bs)

-- a call that listed bs in a place: from its start stands the listing, r bytes of it, and past that the place is as it was
pub record Lists (bs before after : List ℕ) (r : ℕ) : Type 0 where
  pub lines : Put before 0 (listing bs) after r
  pub within : r ≤ length after
  pub totals : IsStripFile bs → Totals bs
