-- How a strip's rows lie in its bytes. A pile is a forkcipher under any number of layers; a strip has two at hand.
-- Assumes nothing.
use Rattle.std.specs.Prelude.{ℕ, suc, ◌+◌, ◌*◌, ◌^◌, ◌<◌, List, [], ◌∷◌}
use Rattle.std.specs.List.{concat}
use Rattle.std.specs.Simd.{first_chunks}
use Rattle.aes.specs.Block.{Bytes, at}
use Rattle.interfaces.specs.Maps.{Maps}
use Rattle.interfaces.specs.Numbers.{big_endian}
use Rattle.interfaces.specs.declared.sides.Side.{Side}
use Rattle.strips.specs.declared.place.Place.{Place}
use Rattle.strips.specs.declared.place.Pile.{Pile}
use Rattle.strips.specs.declared.place.Pile.TheVariants.{Home, Away}
use Rattle.strips.specs.declared.place.Station.{Station}
use Rattle.strips.specs.declared.place.Station.TheVariants.{Plain, Left, Right}

-- the images of the home and of the away cipher
abbrev pub Piles : Type 0
Piles = Pile → Maps

abbrev pub both : Maps → Maps → Piles
both home away Home = home
both home away Away = away

-- a row is a block of sixteen bytes, and memory is bytes
abbrev pub IsBlock : List ℕ → Type 0
IsBlock b = Bytes 16 b

abbrev pub Small : List ℕ → Type 0
Small s = (j : ℕ) → at s j < 256

-- the tweak for a use (0 for rows, 1 for the header), a strip's number and a row
abbrev pub tweak : ℕ → ℕ → ℕ → List ℕ
tweak u number row = big_endian 8 (u * 2 ^ 61 + number * 2 ^ 29 + row)

abbrev pub row_tweak : ℕ → ℕ → List ℕ
row_tweak number row = tweak 0 number row

abbrev pub header_tweak : ℕ → List ℕ
header_tweak number = tweak 1 number 0

-- at plain the block itself, and else what f makes of it on that side under the tweak
abbrev pub at_station : Station → (Side → List ℕ → List ℕ → List ℕ) → List ℕ → List ℕ → List ℕ
at_station Plain f t b = b
at_station Left f t b = f Side.Left t b
at_station Right f t b = f Side.Right t b

-- a place's image of a row's plain block, and the plain block of such an image
abbrev pub stored : Piles → Place → ℕ → List ℕ → List ℕ
stored piles p row b = at_station p.station (piles p.pile).image (row_tweak p.number row) b

abbrev pub plain : Piles → Place → ℕ → List ℕ → List ℕ
plain piles p row b = at_station p.station (piles p.pile).origin (row_tweak p.number row) b

-- f of each row and its index, from k on
abbrev pub each_row : (ℕ → List ℕ → List ℕ) → ℕ → List (List ℕ) → List (List ℕ)
each_row f k [] = []
each_row f k (b ∷ bs) = f k b ∷ each_row f (suc k) bs

-- the first n rows of bytes
abbrev pub cells : ℕ → List ℕ → List (List ℕ)
cells n bytes = first_chunks 16 n bytes

-- the bytes of rows at a place, and the rows whose bytes they are
abbrev pub sealed : Piles → Place → List (List ℕ) → List ℕ
sealed piles p rows = concat (each_row (stored piles p) 0 rows)

abbrev pub opened : Piles → Place → ℕ → List ℕ → List (List ℕ)
opened piles p n bytes = each_row (plain piles p) 0 (cells n bytes)
