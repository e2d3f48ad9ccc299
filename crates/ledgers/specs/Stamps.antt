-- The stamp of rows under a number and a pile.
-- Assumes nothing.
use Rattle.std.specs.Prelude.{ℕ, suc, List, [], ◌∷◌, ◌++◌, length, replicate}
use Rattle.aes.specs.Block.{xored}
use Rattle.interfaces.specs.Maps.{Maps}
use Rattle.interfaces.specs.Numbers.{big_endian}
use Rattle.interfaces.specs.declared.sides.Side.TheVariants.{Left, Right}
use Rattle.ledgers.specs.Rows.{Piles, row_tweak, header_tweak}
use Rattle.strips.specs.declared.place.Place.{Place}

-- four bytes for the row count, then zeros
abbrev pub header : ℕ → List ℕ
header rows = big_endian 4 rows ++ replicate 12 0

-- a block XORed with f of each row and its index, from k on
abbrev pub mixed : (ℕ → List ℕ → List ℕ) → List ℕ → ℕ → List (List ℕ) → List ℕ
mixed f sum k [] = sum
mixed f sum k (b ∷ bs) = mixed f (xored 16 sum (f k b)) (suc k) bs

-- a row's right image, and the header's left image
abbrev pub right_of : Maps → ℕ → ℕ → List ℕ → List ℕ
right_of m number row b = m.image Right (row_tweak number row) b

abbrev pub head_of : Maps → ℕ → ℕ → List ℕ
head_of m number rows = m.image Left (header_tweak number) (header rows)

-- the station has no part in it
abbrev pub stamp : Piles → Place → List (List ℕ) → List ℕ
stamp piles p rows = let m = piles p.pile in mixed (right_of m p.number) (head_of m p.number (length rows)) 0 rows
