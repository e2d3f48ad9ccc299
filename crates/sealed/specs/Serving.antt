-- What the private functions do with rows: the parts of what the calls promise.
-- Assumes nothing.
use Rattle.std.specs.Prelude.{◌≡◌, ℕ, List, [], slice_index_or, slice_set}
use Rattle.std.specs.List.{concat}
use Rattle.aes.specs.Block.{xored}
use Rattle.interfaces.specs.declared.sides.Side.{Side}
use Rattle.interfaces.specs.declared.sides.Side.TheVariants as side
use Rattle.interfaces.specs.Sides.{other}
use Rattle.strips.specs.declared.place.Place.{Place}
use Rattle.strips.specs.declared.place.Station.{Station}
use Rattle.strips.specs.declared.place.Station.TheVariants.{Plain, Left, Right}
use Rattle.ledgers.specs.Rows.{Piles, cells, each_row, plain, stored}
use Rattle.ledgers.specs.Ledgers.{changed}
use Rattle.ledgers.specs.Machine.{cells_after, moved, restored}
use Rattle.ledgers.specs.Stamps.{right_of}
use Rattle.ledgers.specs.declared.call.Act.TheVariants.{Exchange}
use Rattle.ledgers.specs.declared.call.Change.TheVariants.{Turn}
use Rattle.sealed.specs.declared.strip.Strip.{Strip}
use Rattle.sealed.specs.declared.ways.Way.{Way}
use Rattle.sealed.specs.declared.ways.Way.TheVariants.{Fork, Back, Cross, Anew}

-- the station of a side
abbrev pub on : Side → Station
on side.Left = Left
on side.Right = Right

-- the stations that a way starts at, and the place that it leads to
abbrev pub Starts : Way → Station → Type 0
Starts (Fork s) at = at ≡ Plain
Starts (Back s) at = at ≡ on s
Starts (Cross s) at = at ≡ on s
Starts (Anew to) at = Unit {0}

abbrev pub leads : Way → Place → Place
leads (Fork s) p = changed (Turn (on s)) p
leads (Back s) p = changed (Turn Plain) p
leads (Cross s) p = changed (Turn (on (other s))) p
leads (Anew to) p = to

-- a way that serves a turn from a place
pub record Serves (p : Place) (wanted : Station) (way : Way) : Type 0 where
  pub starts : Starts way p.station
  pub there : leads way p ≡ changed (Turn wanted) p

-- a strip's bytes with one row stored at another place, and with all rows
abbrev pub row_moved : Piles → Strip → Place → ℕ → List ℕ → List ℕ
row_moved piles s to k m = let cs = cells s.rows.count m in concat (slice_set cs k (restored piles s.place to k (slice_index_or cs k [])))

abbrev pub all_moved : Piles → Strip → Place → List ℕ → List ℕ
all_moved piles s to m = concat (moved piles s.place to (cells s.rows.count m))

-- a row that is stored at a place, as the place stores it for another row
abbrev pub copied : Piles → Place → (from to : ℕ) → List ℕ → List ℕ
copied piles p from to b = stored piles p to (plain piles p from b)

-- a strip's bytes with two rows traded
abbrev pub traded : Piles → Strip → List ℕ → (first second : ℕ) → List ℕ
traded piles s m first second = concat (cells_after piles (Exchange first second) s.place (cells s.rows.count m))

-- a block XORed with the right image of a row that is stored so
abbrev pub mixed_with : Piles → Place → ℕ → List ℕ → List ℕ → List ℕ
mixed_with piles p row b sum = xored 16 sum (right_of (piles p.pile) p.number row (plain piles p row b))

-- the plain blocks of rows that are stored at a place
abbrev pub opened_rows : Piles → Place → List (List ℕ) → List (List ℕ)
opened_rows piles p cs = each_row (plain piles p) 0 cs
