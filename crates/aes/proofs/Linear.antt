-- Doubling and multiplying are linear over XOR, and stay within bytes.
-- What is linear is known by its values at the eight single bits.
-- Assumes nothing.
use Rattle.std.proofs.Common.{◌≡◌, ℕ, zero, suc, ◌+◌, ◌-◌, ◌*◌, ◌/◌, ◌%◌, ◌^◌, ◌<◌, ◌≤◌, sym, refl, ap, ◌∙◌, ap₂, ⊎_elim, one-mul, pow-suc, zero-mul, arith}
use native.Mathlib.Nat.{pow-zero}
use Rattle.std.specs.Int.Bits.{bit_xor, xor_comm, xor_assoc, xor_self, xor_zero_r, xor_mod, xor_shr, xor_block, xor_shifted, xor_lt}
use Rattle.std.proofs.lemmas.Bool.{cases_lt}
use Rattle.aes.specs.Field.{doubled, partial, product}

-- four terms, the middle two exchanged
pub xor_swap : (a b c d : ℕ) → bit_xor (bit_xor a b) (bit_xor c d) ≡ bit_xor (bit_xor a c) (bit_xor b d)
xor_swap a b c d =
    xor_assoc a b (bit_xor c d)
    ∙ ap (bit_xor a) (sym (xor_assoc b c d) ∙ ap (λ x. bit_xor x d) (xor_comm b c) ∙ xor_assoc c b d)
    ∙ sym (xor_assoc a c (bit_xor b d))

abbrev pub Linear : (ℕ → ℕ) → Type 0
Linear f = (a b : ℕ) → f (bit_xor a b) ≡ bit_xor (f a) (f b)

linear_zero : (f : ℕ → ℕ) → Linear f → f 0 ≡ 0
linear_zero f l = l 0 0 ∙ xor_self (f 0)

pub by_bits : (f g : ℕ → ℕ) → Linear f → Linear g → (k : ℕ) → ((i : ℕ) → i < k → f (2 ^ i) ≡ g (2 ^ i)) → (c : ℕ) → c < 2 ^ k → f c ≡ g c
by_bits f g lf lg zero e c h =
    let z : c ≡ 0 = omega (arith, pow-zero 2) in
    ap f z ∙ linear_zero f lf ∙ sym (ap g z ∙ linear_zero g lg)
by_bits f g lf lg (suc k) e c h =
    let less : (d : ℕ) → d < 2 ^ k → f d ≡ g d = by_bits f g lf lg k (λ i l. e i (omega arith)) in
    ⊎_elim
    (λ (l : c < 2 ^ k). less c l)
    (λ (l : 2 ^ k ≤ c).
    let r : ℕ = c - 2 ^ k in
    let small : r < 2 ^ k = omega (arith, pow-suc 2 k) in
    let parts : c ≡ bit_xor (2 ^ k) r = sym (ap (λ x. bit_xor x r) (sym (one-mul (2 ^ k))) ∙ xor_shifted 1 k r small ∙ omega arith) in
    ap f parts ∙ lf (2 ^ k) r ∙ ap₂ bit_xor (e k (omega arith)) (less r small) ∙ sym (ap g parts ∙ lg (2 ^ k) r))
    (cases_lt c (2 ^ k))

-- XORed twice is not at all
pub xor_twice : (a b : ℕ) → bit_xor (bit_xor a b) b ≡ a
xor_twice a b = xor_assoc a b b ∙ ap (bit_xor a) (xor_self b) ∙ xor_zero_r a

shift_linear : (a b : ℕ) → bit_xor a b * 2 ≡ bit_xor (a * 2) (b * 2)
shift_linear a b =
    let e : bit_xor (a * 2 ^ 1 + 0) (b * 2 ^ 1 + 0) ≡ bit_xor a b * 2 ^ 1 + bit_xor 0 0 = xor_block 1 a b 0 0 (omega arith) (omega arith) in
    let p : a * 2 ^ 1 + 0 ≡ a * 2 = omega arith in
    let q : b * 2 ^ 1 + 0 ≡ b * 2 = omega arith in
    let z : bit_xor a b * 2 ^ 1 + 0 ≡ bit_xor a b * 2 = omega arith in
    sym z ∙ sym e ∙ ap₂ bit_xor p q

-- a digit of two, times a number
digit_linear : (k d e : ℕ) → d < 2 → e < 2 → bit_xor d e * k ≡ bit_xor (d * k) (e * k)
digit_linear k zero zero h i = simp zero-mul
digit_linear k zero (suc zero) h i = simp zero-mul
digit_linear k (suc zero) zero h i = simp (zero-mul, xor_zero_r)
digit_linear k (suc zero) (suc zero) h i = simp (zero-mul, xor_self)
digit_linear k zero (suc (suc e)) h i = absurd (omega arith)
digit_linear k (suc zero) (suc (suc e)) h i = absurd (omega arith)
digit_linear k (suc (suc d)) e h i = absurd (omega arith)

doubled_linear : (a b : ℕ) → doubled (bit_xor a b) ≡ bit_xor (doubled a) (doubled b)
unfolding doubled
doubled_linear a b =
    let low : bit_xor a b % 128 * 2 ≡ bit_xor (a % 128 * 2) (b % 128 * 2) =
    ap (λ x. x * 2) (xor_mod a b 7) ∙ shift_linear (a % 128) (b % 128) in
    let high : bit_xor a b / 128 % 2 * 0x1B ≡ bit_xor (a / 128 % 2 * 0x1B) (b / 128 % 2 * 0x1B) =
    ap (λ x. x % 2 * 0x1B) (xor_shr a b 7)
    ∙ ap (λ x. x * 0x1B) (xor_mod (a / 128) (b / 128) 1)
    ∙ digit_linear 0x1B (a / 128 % 2) (b / 128 % 2) (omega arith) (omega arith) in
    ap₂ bit_xor low high ∙ xor_swap (a % 128 * 2) (b % 128 * 2) (a / 128 % 2 * 0x1B) (b / 128 % 2 * 0x1B)

digit_product : (d a b : ℕ) → d < 2 → d * bit_xor a b ≡ bit_xor (d * a) (d * b)
digit_product zero a b h = simp zero-mul
digit_product (suc zero) a b h = simp one-mul
digit_product (suc (suc d)) a b h = absurd (omega arith)

partial_linear : (k m a b : ℕ) → partial k m (bit_xor a b) ≡ bit_xor (partial k m a) (partial k m b)
unfolding partial
partial_linear zero m a b = refl
partial_linear (suc k) m a b =
    ap₂ bit_xor (digit_product (m % 2) a b (omega arith))
    (ap (partial k (m / 2)) (doubled_linear a b) ∙ partial_linear k (m / 2) (doubled a) (doubled b))
    ∙ xor_swap (m % 2 * a) (m % 2 * b) (partial k (m / 2) (doubled a)) (partial k (m / 2) (doubled b))

pub product_linear : (m a b : ℕ) → product m (bit_xor a b) ≡ bit_xor (product m a) (product m b)
unfolding product
product_linear m a b = partial_linear 8 m a b

doubled_byte : (b : ℕ) → doubled b < 256
unfolding doubled
doubled_byte b = xor_lt 8 (b % 128 * 2) (b / 128 % 2 * 0x1B) (omega arith) (omega arith)

digit_byte : (d b : ℕ) → d < 2 → b < 256 → d * b < 256
digit_byte zero b h i = rw zero-mul (omega arith)
digit_byte (suc zero) b h i = rw one-mul i
digit_byte (suc (suc d)) b h i = absurd (omega arith)

partial_byte : (k m b : ℕ) → b < 256 → partial k m b < 256
unfolding partial
partial_byte zero m b h = omega arith
partial_byte (suc k) m b h =
    xor_lt 8 (m % 2 * b) (partial k (m / 2) (doubled b)) (digit_byte (m % 2) b (omega arith) h)
    (partial_byte k (m / 2) (doubled b) (doubled_byte b))

pub product_byte : (m b : ℕ) → b < 256 → product m b < 256
unfolding product
product_byte m b h = partial_byte 8 m b h

pub by_one : (b : ℕ) → product 1 b ≡ b
unfolding partial product
by_one b = simp (zero-mul, one-mul, xor_zero_r)

pub by_two : (b : ℕ) → product 2 b ≡ doubled b
unfolding partial product
by_two b = simp (zero-mul, one-mul, xor_zero_r)

pub by_three : (b : ℕ) → product 3 b ≡ bit_xor b (doubled b)
unfolding partial product
by_three b = simp (zero-mul, one-mul, xor_zero_r)
