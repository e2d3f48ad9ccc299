-- Bytes as polynomials over bits, modulo 11B (hexadecimal), and the substitution S.
-- FIPS 197: "Multiplication in GF(2^8)", "Multiplicative Inverses in GF(2^8)", "SUBBYTES()", "INVSUBBYTES()".
-- Assumes nothing.
use Rattle.std.specs.Prelude.{◌≡◌, ℕ, zero, suc, ◌+◌, ◌*◌, ◌/◌, ◌%◌, ◌^◌, ◌<◌, ◌≢◌, bit_xor}

-- b times the polynomial x: one place up, and 1B for the bit that leaves the byte
unfoldable pub doubled : ℕ → ℕ
doubled b = bit_xor (b % 128 * 2) (b / 128 % 2 * 0x1B)

-- the product by the first k bits of a: b for bit 0, double b for bit 1, and so on
unfoldable pub partial : ℕ → ℕ → ℕ → ℕ
partial zero a b = 0
partial (suc k) a b = bit_xor (a % 2 * b) (partial k (a / 2) (doubled b))

unfoldable pub product : ℕ → ℕ → ℕ
product a b = partial 8 a b

-- b to the power 2 ^ (k + 1) - 2
unfoldable pub power : ℕ → ℕ → ℕ
power zero b = 1
power (suc k) b = let s = product b b in product s (power k s)

-- b to the power 254, which is the inverse of b, and 00 for 00
unfoldable pub inverse : ℕ → ℕ
inverse b = power 7 b

-- that it is the inverse: a byte that is not 00 times its inverse is 01, 00 goes to 00, and no other byte has the product 01
pub record Inverses : Type 0 where
  pub cancels : (b : ℕ) → b < 256 → b ≢ 0 → product b (inverse b) ≡ 1
  pub zero_kept : inverse 0 ≡ 0
  pub only : (b c : ℕ) → b < 256 → c < 256 → product b c ≡ 1 → c ≡ inverse b

-- bit i of the number
abbrev pub bit : ℕ → ℕ → ℕ
bit c i = c / 2 ^ i % 2

-- the number whose bit i is f i, for the first k bits
abbrev pub from_bits : ℕ → (ℕ → ℕ) → ℕ
from_bits zero f = 0
from_bits (suc k) f = from_bits k f + 2 ^ k * f k

-- bit i of a byte, whose bits stand in a ring
abbrev pub ring : ℕ → ℕ → ℕ
ring c i = bit c (i % 8)

-- S: bit i is the XOR of bits i, i + 4, i + 5, i + 6, i + 7 of the inverse, and bit i of 63
unfoldable pub s_box : ℕ → ℕ
s_box b =
    let c = inverse b in
    from_bits 8 λ i. (ring c i + ring c (i + 4) + ring c (i + 5) + ring c (i + 6) + ring c (i + 7) + bit 0x63 i) % 2

-- S undone: bit i of the inverse is the XOR of bits i + 2, i + 5, i + 7, and bit i of 05
unfoldable pub inv_s_box : ℕ → ℕ
inv_s_box b = inverse (from_bits 8 λ i. (ring b (i + 2) + ring b (i + 5) + ring b (i + 7) + bit 0x05 i) % 2)
