-- The record that an entry's bytes write.
use Rattle.std.specs.Prelude.{◌≡◌, ℕ, ◌≤◌, cond, List, map, ◌==◌}
use Rattle.std.specs.List.{range_with_len}
use Rattle.strips.specs.declared.place.Station.{Station}
use Rattle.strips.specs.declared.place.Station.TheVariants.{Plain, Left, Right}
use Rattle.strips.specs.declared.place.Pile.{Pile}
use Rattle.strips.specs.declared.place.Pile.TheVariants.{Home, Away}
use Rattle.strips.specs.Places.{station_number, pile_number}
use Rattle.strips.specs.Rows.{most_rows}
use Rattle.files.specs.declared.record.Record.{Record}
use Rattle.files.specs.Layout.{entries, entry, number, station, pile, rows, body_start, stamp}

-- the station that has a number, and the pile
abbrev pub station_of : ℕ → Station
station_of n = cond (n == 0) Plain (cond (n == 1) Left Right)

abbrev pub pile_of : ℕ → Pile
pile_of n = cond (n == 0) Home Away

abbrev pub record_of : List ℕ → Record
record_of e = record {
  number = number e;
  station = station_of (station e);
  pile = pile_of (pile e);
  rows = rows e;
  start = body_start e;
  stamp = stamp e;
}

-- a record is the entry's: its station and pile are those whose numbers stand there, and a strip may have its rows
pub record Reads (e : List ℕ) (r : Record) : Type 0 where
  pub is : r ≡ record_of e
  pub station_named : station_number r.station ≡ station e
  pub pile_named : pile_number r.pile ≡ pile e
  pub rows_few : r.rows ≤ most_rows

-- the records of the first n entries
unfoldable pub first_records : List ℕ → ℕ → List Record
first_records bs n = map (λ i. record_of (entry bs i)) (range_with_len 0 n)

abbrev pub records : List ℕ → List Record
records bs = first_records bs (entries bs)
