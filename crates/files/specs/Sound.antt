-- What a strip file is, with no order of checks.
use Rattle.std.specs.Prelude.{◌≡◌, ℕ, ◌+◌, ◌*◌, ◌<◌, ◌≤◌, List, length}
use Rattle.strips.specs.Rows.{most_rows}
use Rattle.files.specs.Layout.{trailer, entries_start, most_entries, entries, edition, spare, total_rows, mark, entry, number, station, pile, rows, body_start, zeros, rows_before}
use Rattle.files.specs.Verdict.{file_mark}

pub record EntryFits (bs : List ℕ) (i : ℕ) : Type 0 where
  pub station_known : station (entry bs i) ≤ 2
  pub pile_known : pile (entry bs i) ≤ 1
  pub rows_few : rows (entry bs i) ≤ most_rows
  pub zeros_zero : zeros (entry bs i) ≡ 0
  pub body_follows : body_start (entry bs i) ≡ 16 * rows_before bs i

pub record IsStripFile (bs : List ℕ) : Type 0 where
  pub has_trailer : 16 ≤ length bs
  pub has_mark : mark (trailer bs) ≡ file_mark
  pub edition_one : edition (trailer bs) ≡ 1
  pub entries_few : entries bs ≤ most_entries
  pub spare_zero : spare (trailer bs) ≡ 0
  pub entries_end : entries_start (trailer bs) + 32 * entries bs + 16 ≡ length bs
  pub entries_fit : (i : ℕ) → i < entries bs → EntryFits bs i
  pub numbers_rise : (i j : ℕ) → i < j → j < entries bs → number (entry bs i) < number (entry bs j)
  pub bodies_end : 16 * rows_before bs (entries bs) ≡ entries_start (trailer bs)
  pub total_is_sum : total_rows (trailer bs) ≡ rows_before bs (entries bs)
