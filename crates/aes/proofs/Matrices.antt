-- The two matrices undo each other on every column.
-- Assumes nothing.
use Rattle.std.proofs.Common.{◌≡◌, ℕ, zero, suc, ◌^◌, ◌<◌, Bool, true, false, cond, eqb, List, map, sym, refl, ap, ◌∙◌, ap₂, arith, lit<}
use Rattle.std.specs.Int.Bits.{bit_xor, xor_zero_r, xor_lt}
use Rattle.std.specs.List.{range_with_len}
use Rattle.aes.specs.Field.{doubled, partial, product}
use Rattle.aes.specs.Block.{Bytes, listed, at, coefficient, sum4, column, mix, inv_mix}
use Rattle.aes.proofs.Table.{entry as table-entry, every, same_table, relisted, listed_bytes}
use Rattle.aes.proofs.Linear.{Linear, by_bits, xor_swap, product_linear, product_byte}

-- what the matrix n after the matrix m makes in row r of the byte x in row q
abbrev entry : List ℕ → List ℕ → ℕ → ℕ → ℕ → ℕ
entry n m r q x = sum4 λ i. product (coefficient n r i) (product (coefficient m i q) x)

abbrev unit : ℕ → ℕ → ℕ → ℕ
unit r q x = cond (eqb r q) x 0

-- the entries of a matrix, as functions of a byte that is a single bit
abbrev cube : (ℕ → ℕ → ℕ → ℕ) → List (List (List ℕ))
cube f = map (λ r. map (λ q. listed 8 (λ i. f r q (2 ^ i))) (range_with_len 0 4)) (range_with_len 0 4)

abbrev pub Undoes : List ℕ → List ℕ → Type 0
Undoes n m = cube (entry n m) ≡ cube unit

pub inv_mix-mix : Undoes inv_mix mix
unfolding doubled partial product
inv_mix-mix = refl

pub mix-inv_mix : Undoes mix inv_mix
unfolding doubled partial product
mix-inv_mix = refl

sum4_xor : (f g : ℕ → ℕ) → bit_xor (sum4 f) (sum4 g) ≡ sum4 (λ q. bit_xor (f q) (g q))
sum4_xor f g =
    xor_swap (bit_xor (f 0) (f 1)) (bit_xor (f 2) (f 3)) (bit_xor (g 0) (g 1)) (bit_xor (g 2) (g 3))
    ∙ ap₂ bit_xor (xor_swap (f 0) (f 1) (g 0) (g 1)) (xor_swap (f 2) (f 3) (g 2) (g 3))

sum4_swap : (g : ℕ → ℕ → ℕ) → sum4 (λ i. sum4 (g i)) ≡ sum4 (λ q. sum4 (λ i. g i q))
sum4_swap g =
    ap₂ bit_xor (sum4_xor (g 0) (g 1)) (sum4_xor (g 2) (g 3))
    ∙ sum4_xor (λ q. bit_xor (g 0 q) (g 1 q)) (λ q. bit_xor (g 2 q) (g 3 q))

product-sum4 : (k : ℕ) (f : ℕ → ℕ) → product k (sum4 f) ≡ sum4 (λ q. product k (f q))
product-sum4 k f =
    product_linear k (bit_xor (f 0) (f 1)) (bit_xor (f 2) (f 3))
    ∙ ap₂ bit_xor (product_linear k (f 0) (f 1)) (product_linear k (f 2) (f 3))

sum4_same : (f g : ℕ → ℕ) → ((i : ℕ) → i < 4 → f i ≡ g i) → sum4 f ≡ sum4 g
sum4_same f g e =
    ap₂ bit_xor (ap₂ bit_xor (e 0 (lit< tt)) (e 1 (lit< tt))) (ap₂ bit_xor (e 2 (lit< tt)) (e 3 (lit< tt)))

-- one of four terms, where the others are 0
sum4_unit : (v : ℕ → ℕ) (r : ℕ) → r < 4 → sum4 (λ q. unit r q (v q)) ≡ v r
sum4_unit v zero h = xor_zero_r (bit_xor (v 0) 0) ∙ xor_zero_r (v 0)
sum4_unit v (suc zero) h = xor_zero_r (v 1)
sum4_unit v (suc (suc zero)) h = xor_zero_r (v 2)
sum4_unit v (suc (suc (suc zero))) h = refl
sum4_unit v (suc (suc (suc (suc r)))) h = absurd (omega arith)

entry_linear : (n m : List ℕ) (r q : ℕ) → Linear (entry n m r q)
entry_linear n m r q a b =
    sum4_same (λ i. product (coefficient n r i) (product (coefficient m i q) (bit_xor a b)))
    (λ i. bit_xor (product (coefficient n r i) (product (coefficient m i q) a)) (product (coefficient n r i) (product (coefficient m i q) b)))
    (λ i h.
    ap (product (coefficient n r i)) (product_linear (coefficient m i q) a b)
    ∙ product_linear (coefficient n r i) (product (coefficient m i q) a) (product (coefficient m i q) b))
    ∙ sym (sum4_xor (λ i. product (coefficient n r i) (product (coefficient m i q) a)) (λ i. product (coefficient n r i) (product (coefficient m i q) b)))

either_linear : (c : Bool) (a b : ℕ) → cond c (bit_xor a b) 0 ≡ bit_xor (cond c a 0) (cond c b 0)
either_linear true a b = refl
either_linear false a b = refl

entry_unit : (n m : List ℕ) → Undoes n m → (r q x : ℕ) → r < 4 → q < 4 → x < 256 → entry n m r q x ≡ unit r q x
entry_unit n m u r q x hr hq hx =
    let bits : (ℕ → ℕ → ℕ → ℕ) → ℕ → ℕ → List ℕ = λ f r q. listed 8 (λ i. f r q (2 ^ i)) in
    let rows = every 4 (λ r. map (bits (entry n m) r) (range_with_len 0 4)) (λ r. map (bits unit r) (range_with_len 0 4)) u r hr in
    let agree = every 4 (bits (entry n m) r) (bits unit r) rows q hq in
    by_bits (entry n m r q) (unit r q) (entry_linear n m r q) (either_linear (eqb r q)) 8
    (every 8 (λ i. entry n m r q (2 ^ i)) (λ i. unit r q (2 ^ i)) agree) x hx

pub column_undone : (n m : List ℕ) → Undoes n m → (v : List ℕ) → Bytes 4 v → column n (column m v) ≡ v
unfolding column
column_undone n m u v b =
    same_table 4 (λ r. sum4 λ i. product (coefficient n r i) (at (column m v) i)) (at v)
    (λ r h.
    sum4_same (λ i. product (coefficient n r i) (at (column m v) i)) (λ i. sum4 λ q. product (coefficient n r i) (product (coefficient m i q) (at v q)))
    (λ i hi.
    ap (product (coefficient n r i)) (table-entry (λ i. sum4 λ q. product (coefficient m i q) (at v q)) 4 i 0 hi)
    ∙ product-sum4 (coefficient n r i) (λ q. product (coefficient m i q) (at v q)))
    ∙ sum4_swap (λ i q. product (coefficient n r i) (product (coefficient m i q) (at v q)))
    ∙ sum4_same (λ q. entry n m r q (at v q)) (λ q. unit r q (at v q)) (λ q hq. entry_unit n m u r q (at v q) h hq (b.1 q))
    ∙ sum4_unit (at v) r h)
    ∙ sym (relisted 4 v b)

sum4_byte : (f : ℕ → ℕ) → ((i : ℕ) → i < 4 → f i < 256) → sum4 f < 256
sum4_byte f h =
    xor_lt 8 (bit_xor (f 0) (f 1)) (bit_xor (f 2) (f 3)) (xor_lt 8 (f 0) (f 1) (h 0 (lit< tt)) (h 1 (lit< tt)))
    (xor_lt 8 (f 2) (f 3) (h 2 (lit< tt)) (h 3 (lit< tt)))

pub column_bytes : (m v : List ℕ) → Bytes 4 v → Bytes 4 (column m v)
unfolding column
column_bytes m v b =
    listed_bytes 4 (λ r. sum4 λ i. product (coefficient m r i) (at v i))
    (λ r h. sum4_byte (λ i. product (coefficient m r i) (at v i)) (λ i hi. product_byte (coefficient m r i) (at v i) (b.1 i)))
