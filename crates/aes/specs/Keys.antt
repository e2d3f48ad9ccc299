-- Round constants and round keys.
-- FIPS 197: "KEYEXPANSION()". Assumes nothing.
use Rattle.std.specs.Prelude.{◌≡◌, ℕ, zero, suc, ◌+◌, ◌<◌, List, [], ◌∷◌, map, bit_xor, slice_index_or}
use Rattle.std.specs.List.{range_with_len}
use Rattle.aes.specs.Field.{doubled, s_box}
use Rattle.aes.specs.Block.{Bytes, at, listed}

-- the constants of rounds 1 to 16
abbrev pub round_constants : List ℕ
round_constants =
    0x01 ∷ 0x02 ∷ 0x04 ∷ 0x08 ∷ 0x10 ∷ 0x20 ∷ 0x40 ∷ 0x80 ∷ 0x1B ∷ 0x36 ∷ 0x6C ∷ 0xD8 ∷ 0xAB ∷ 0x4D ∷ 0x9A ∷ 0x2F ∷ []

-- sixteen bytes: the first is 01, and each other one is the double of the one before
pub record Doubling (cs : List ℕ) : Type 0 where
  pub first : at cs 0 ≡ 1
  pub doubles : (i : ℕ) → i < 15 → at cs (i + 1) ≡ doubled (at cs i)

-- byte j of the round key after k, where c is its constant
unfoldable pub key_byte : List ℕ → ℕ → ℕ → ℕ
key_byte k c zero = bit_xor (bit_xor (at k 0) (s_box (at k 13))) c
key_byte k c (suc zero) = bit_xor (at k 1) (s_box (at k 14))
key_byte k c (suc (suc zero)) = bit_xor (at k 2) (s_box (at k 15))
key_byte k c (suc (suc (suc zero))) = bit_xor (at k 3) (s_box (at k 12))
key_byte k c (suc (suc (suc (suc j)))) = bit_xor (at k (j + 4)) (key_byte k c j)

unfoldable pub next_key : List ℕ → ℕ → List ℕ
next_key k c = listed 16 (key_byte k c)

-- round key i of a key: the key itself, and then each from the one before
unfoldable pub round_key : List ℕ → ℕ → List ℕ
round_key key zero = key
round_key key (suc i) = next_key (round_key key i) (at round_constants i)

-- the seventeen round keys of a key
unfoldable pub schedule : List ℕ → List (List ℕ)
schedule key = map (round_key key) (range_with_len 0 17)

abbrev pub row : List (List ℕ) → ℕ → List ℕ
row rows i = slice_index_or rows i []

-- the rows are the round keys of the first of them, which is a key
abbrev pub Scheduled : List (List ℕ) → Type 0
Scheduled rows = Bytes 16 (row rows 0) × (rows ≡ schedule (row rows 0))
