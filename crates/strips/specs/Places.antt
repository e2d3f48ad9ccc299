-- The numbers and the words of stations and piles.
use Rattle.std.specs.Prelude.{◌≡◌, ℕ, ◌<◌, List, ◌++◌, codes, decimal, Result, MatchResult}
use Rattle.strips.specs.declared.place.Station.{Station}
use Rattle.strips.specs.declared.place.Station.TheVariants.{Plain, Left, Right}
use Rattle.strips.specs.declared.place.Pile.{Pile}
use Rattle.strips.specs.declared.place.Pile.TheVariants.{Home, Away}
use Rattle.strips.specs.declared.unknown.UnknownNumber.{UnknownNumber}

-- the numbers of the stations and of the piles in a file
abbrev pub station_number : Station → ℕ
station_number Plain = 0
station_number Left = 1
station_number Right = 2

abbrev pub pile_number : Pile → ℕ
pile_number Home = 0
pile_number Away = 1

-- the station that has the number n, and the pile; else n, which is above them all
abbrev pub StationOf : ℕ → Result Station UnknownNumber → Type 0
StationOf n r = MatchResult r (λ s. station_number s ≡ n) (λ e. (e.0 ≡ n) × (2 < n))

abbrev pub PileOf : ℕ → Result Pile UnknownNumber → Type 0
PileOf n r = MatchResult r (λ p. pile_number p ≡ n) (λ e. (e.0 ≡ n) × (1 < n))

-- their words
abbrev pub station_word : Station → List ℕ
station_word Plain = codes "plain"
station_word Left = codes "left"
station_word Right = codes "right"

abbrev pub pile_word : Pile → List ℕ
pile_word Home = codes "home"
pile_word Away = codes "away"

abbrev pub unknown_text : UnknownNumber → List ℕ
unknown_text e = codes "unknown number " ++ decimal e.0
