-- How long the lines of a listing are, and which lines are listed.
use Rattle.std.proofs.Common.{◌∷◌, get_or, append_assoc, append-nil, ◌≡◌, ℕ, ◌+◌, ◌*◌, ◌^◌, ◌<◌, ◌≤◌, List, [], ◌++◌, length, decimal, sum, sym, subst, ap, ◌∙◌, arith, length-append}
use mathlib.Core.List.{map-map}
use Rattle.std.specs.List.{range_with_len, flat_map, All}
use Rattle.std.proofs.lemmas.Grind.{common_steps}
use Rattle.std.proofs.lemmas.List.FromFn.{length-map-range_with_len}
use Rattle.std.proofs.lemmas.Fmt.{length-decimal-le}
use Rattle.std.proofs.lemmas.List.{flat_map_more}
use Rattle.std.proofs.lemmas.List.Sums.{sum-map}
use Rattle.std.proofs.lemmas.Bool.Decides.{nat_tests}
use Rattle.strips.specs.declared.place.Station.{Station}
use Rattle.strips.specs.declared.place.Station.TheVariants.{Plain, Left, Right}
use Rattle.strips.specs.declared.place.Pile.{Pile}
use Rattle.strips.specs.declared.place.Pile.TheVariants.{Home, Away}
use Rattle.strips.specs.Places.{station_word, pile_word}
use Rattle.strips.specs.Rows.{most_rows}
use Rattle.files.specs.declared.record.Record.{Record}
use Rattle.files.specs.Faults.{Fault, sound, refused}
use Rattle.files.specs.Layout.{most_entries, entries, entry, rows_before}
use Rattle.files.specs.Records.{record_of, first_records, records}
use Rattle.files.specs.Sound.{IsStripFile}
use Rattle.files.specs.Verdict.{verdict}
use Rattle.listing.specs.Lengths.{longest_record}
use Rattle.listing.specs.Text.{Put}
use Rattle.listing.proofs.Laid.{put_within}
use Rattle.listing.specs.Listing.{record_line, total_line, row_sum, records_listing, refused_line, too_long_line, listing_by, listing, most_input, Totals, Lists}

-- how many digits the numbers of a line have
pub number_short : (n : ℕ) → n < 2 ^ 16 → length (decimal n) ≤ 5
number_short n small = length-decimal-le 5 n (omega arith) (omega arith) (omega arith)

pub rows_short : (n : ℕ) → n ≤ most_rows → length (decimal n) ≤ 4
rows_short n few = length-decimal-le 4 n (omega arith) (omega arith) (omega arith)

pub entries_short : (n : ℕ) → n ≤ most_entries → length (decimal n) ≤ 3
entries_short n few = length-decimal-le 3 n (omega arith) (omega arith) (omega arith)

pub sum_short : (n : ℕ) → n ≤ most_rows * most_entries → length (decimal n) ≤ 7
sum_short n few = length-decimal-le 7 n (omega arith) (omega arith) (omega arith)

pub any_short : (n : ℕ) → n < 2 ^ 64 → length (decimal n) ≤ 20
any_short n small = length-decimal-le 20 n (omega arith) (omega arith) small

-- and how long its words are
pub station_short : (s : Station) → length (station_word s) ≤ 5
station_short Plain = omega arith
station_short Left = omega arith
station_short Right = omega arith

pub pile_short : (p : Pile) → length (pile_word p) ≤ 4
pile_short Home = omega arith
pile_short Away = omega arith

pub record_short : (r : Record) → r.number < 2 ^ 16 → r.rows ≤ most_rows → length (record_line r) ≤ longest_record
unfolding record_line
record_short r n m = simp length-append (omega (arith, number_short r.number n, rows_short r.rows m, station_short r.station, pile_short r.pile))

pub ruleset room = (length-append, number_short, rows_short, entries_short, sum_short, any_short, station_short, pile_short)

-- the file's own figures
first_rows : (bs : List ℕ) (n : ℕ) → row_sum (first_records bs n) ≡ rows_before bs n
unfolding first_records rows_before
first_rows bs n = sym (sum-map (λ r. r.rows) (first_records bs n)) ∙ ap sum (map-map (λ r. r.rows) (λ i. record_of (entry bs i)) (range_with_len 0 n))

records_long : (bs : List ℕ) → length (records bs) ≡ entries bs
unfolding first_records
records_long bs = length-map-range_with_len (λ i. record_of (entry bs i)) 0 (entries bs)

pub file_totals : (bs : List ℕ) → IsStripFile bs → Totals bs
file_totals bs f = record { counted = records_long bs; summed = first_rows bs (entries bs) ∙ sym f.total_is_sum }

-- the records listed, and those that are left
module _ (bs : List ℕ) (listed left : List Record) (all : listed ++ left ≡ records bs) where
  pub listed_few : length listed + length left ≡ entries bs
  listed_few = sym (length-append listed left) ∙ ap length all ∙ records_long bs

  pub next_few : (r : Record) (others : List Record) → All (λ x. x.rows ≤ most_rows) (records bs) → left ≡ r ∷ others → r.rows ≤ most_rows
  next_few r others few is =
      let here : get_or (listed ++ r ∷ others) (length listed) r ≡ r = grind (arith, common_steps) in
      let same : get_or (records bs) (length listed) r ≡ r = ap (λ rs. get_or rs (length listed) r) (sym all ∙ ap (λ l. listed ++ l) is) ∙ here in
      omega (arith, ap (λ x. x.rows) same, few (length listed) r (omega (arith, listed_few, ap length is, records_long bs)))

  pub one_more : (r : Record) (others : List Record) → left ≡ r ∷ others → (listed ++ r ∷ []) ++ others ≡ records bs
  one_more r others is = append_assoc listed (r ∷ []) others ∙ ap (λ l. listed ++ l) (sym is) ∙ all

  pub lines_done : (n s : ℕ) → left ≡ [] → n ≡ entries bs → s ≡ row_sum listed → flat_map record_line listed ++ total_line n s ≡ records_listing (records bs)
  unfolding records_listing
  lines_done n s none is_n is_s =
      let done : listed ≡ records bs = sym (append-nil listed) ∙ ap (λ l. listed ++ l) (sym none) ∙ all in
      let long : n ≡ length (records bs) = is_n ∙ sym (records_long bs) in
      (λ j. flat_map record_line (done j) ++ total_line (long j) ((is_s ∙ ap row_sum done) j))

-- which lines are listed
pub listing_long : (bs : List ℕ) → most_input < length bs → too_long_line ≡ listing bs
unfolding listing
listing_long bs long = grind (arith, nat_tests)

listing_read : (bs : List ℕ) → length bs ≤ most_input → listing_by bs (verdict bs) ≡ listing bs
unfolding listing
listing_read bs fits = grind (arith, nat_tests)

pub listing_refused : (bs : List ℕ) (f : Fault) → length bs ≤ most_input → refused f ≡ verdict bs → refused_line f ≡ listing bs
unfolding listing_by
listing_refused bs f fits is = ap (listing_by bs) is ∙ listing_read bs fits

pub listing_sound : (bs : List ℕ) → length bs ≤ most_input → sound ≡ verdict bs → records_listing (records bs) ≡ listing bs
unfolding listing_by
listing_sound bs fits is = ap (listing_by bs) is ∙ listing_read bs fits

pub lists : {bs before after : List ℕ} {r : ℕ} → Put before 0 (listing bs) after r → Lists bs before after r
lists {bs} p = record { lines = p; within = put_within p; totals = file_totals bs }
