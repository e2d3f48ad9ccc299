-- The steps on a block of sixteen bytes. Place j is row j mod 4 of column j div 4.
-- FIPS 197: "The State", "SHIFTROWS()", "MIXCOLUMNS()", "ADDROUNDKEY()" and the sections on their inverses.
-- Assumes nothing.
use Rattle.std.specs.Prelude.{◌≡◌, ℕ, zero, suc, ◌+◌, ◌-◌, ◌*◌, ◌/◌, ◌%◌, ◌<◌, List, [], ◌∷◌, map, length, bit_xor, slice_index}
use Rattle.std.specs.List.{range_with_len}
use Rattle.aes.specs.Field.{product, s_box, inv_s_box}

-- the entry at j, and 0 past the end
abbrev pub at : List ℕ → ℕ → ℕ
at s j = slice_index s j

-- a list of n bytes
abbrev pub Bytes : ℕ → List ℕ → Type 0
Bytes n s = (length s ≡ n) × ((j : ℕ) → at s j < 256)

-- the list whose entry at j is f j, for j below n
abbrev pub listed : ℕ → (ℕ → ℕ) → List ℕ
listed n f = map f (range_with_len 0 n)

-- the XOR of two lists of n bytes
unfoldable pub xored : ℕ → List ℕ → List ℕ → List ℕ
xored n a b = listed n λ j. bit_xor (at a j) (at b j)

abbrev pub add_round_key : List ℕ → List ℕ → List ℕ
add_round_key s k = xored 16 s k

unfoldable pub sub_bytes : List ℕ → List ℕ
sub_bytes s = listed 16 λ j. s_box (at s j)

unfoldable pub inv_sub_bytes : List ℕ → List ℕ
inv_sub_bytes s = listed 16 λ j. inv_s_box (at s j)

-- row r moved left by r columns, and right
unfoldable pub shift_rows : List ℕ → List ℕ
shift_rows s = listed 16 λ j. at s ((j + 4 * (j % 4)) % 16)

unfoldable pub inv_shift_rows : List ℕ → List ℕ
inv_shift_rows s = listed 16 λ j. at s ((j + 12 * (j % 4)) % 16)

-- a matrix by its first row: each row is the one above, turned right by one
abbrev pub coefficient : List ℕ → ℕ → ℕ → ℕ
coefficient m r i = at m ((i + (4 - r)) % 4)

abbrev pub sum4 : (ℕ → ℕ) → ℕ
sum4 f = bit_xor (bit_xor (f 0) (f 1)) (bit_xor (f 2) (f 3))

-- a column of four bytes times that matrix
unfoldable pub column : List ℕ → List ℕ → List ℕ
column m v = listed 4 λ r. sum4 λ i. product (coefficient m r i) (at v i)

-- the matrices of the two mixings
abbrev pub mix : List ℕ
mix = 0x02 ∷ 0x03 ∷ 0x01 ∷ 0x01 ∷ []

abbrev pub inv_mix : List ℕ
inv_mix = 0x0E ∷ 0x0B ∷ 0x0D ∷ 0x09 ∷ []

-- column c of a block
abbrev pub quarter : List ℕ → ℕ → List ℕ
quarter s c = listed 4 λ i. at s (4 * c + i)

-- the block whose column c is f c
abbrev pub joined : (ℕ → List ℕ) → List ℕ
joined f = listed 16 λ j. at (f (j / 4)) (j % 4)

-- one of four lists, by its number
abbrev pub four : List ℕ → List ℕ → List ℕ → List ℕ → ℕ → List ℕ
four a b c d zero = a
four a b c d (suc zero) = b
four a b c d (suc (suc zero)) = c
four a b c d (suc (suc (suc n))) = d

-- each column of a block times the matrix
unfoldable pub columns : List ℕ → List ℕ → List ℕ
columns m s = joined λ c. column m (quarter s c)

abbrev pub mix_column : List ℕ → List ℕ
mix_column v = column mix v

abbrev pub inv_mix_column : List ℕ → List ℕ
inv_mix_column v = column inv_mix v

abbrev pub mix_columns : List ℕ → List ℕ
mix_columns s = columns mix s

abbrev pub inv_mix_columns : List ℕ → List ℕ
inv_mix_columns s = columns inv_mix s

-- a round before its key, and that undone
abbrev pub full_round : List ℕ → List ℕ
full_round s = mix_columns (shift_rows (sub_bytes s))

abbrev pub inv_full_round : List ℕ → List ℕ
inv_full_round s = inv_sub_bytes (inv_shift_rows (inv_mix_columns s))
