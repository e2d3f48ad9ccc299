-- Facts about all 256 bytes, each by one computed test.
-- Assumes nothing.
use Rattle.std.proofs.Common.{◌≡◌, ℕ, ◌^◌, ◌<◌, cond, eqb, ◌≢◌, sym, refl, ap, ◌∙◌, ⊎_elim, zero-mul, arith, ne_eqb}
use Rattle.std.proofs.lemmas.Bool.{cases_eq}
use Rattle.aes.specs.Field.{doubled, partial, product, power, inverse, Inverses, s_box, inv_s_box}
use Rattle.aes.specs.Block.{listed}
use Rattle.aes.proofs.Linear.{by_bits, product_linear}
use Rattle.aes.proofs.Table.{every, all_small}

inverse_rule : (b : ℕ) → b < 256 → product b (inverse b) ≡ cond (eqb b 0) 0 1
unfolding doubled partial product power inverse
inverse_rule = every 256 (λ b. product b (inverse b)) (λ b. cond (eqb b 0) 0 1) refl

inverse_one : (b : ℕ) → b < 256 → product (inverse b) 1 ≡ inverse b
unfolding doubled partial product power inverse
inverse_one = every 256 (λ b. product (inverse b) 1) inverse refl

-- the inverse undoes the product, at each single bit
inverse_bits : (b : ℕ) → b < 256 → (listed 8 λ i. product (inverse b) (product b (2 ^ i))) ≡ (listed 8 λ i. cond (eqb b 0) 0 (2 ^ i))
unfolding doubled partial product power inverse
inverse_bits =
    every 256 (λ b. listed 8 λ i. product (inverse b) (product b (2 ^ i))) (λ b. listed 8 λ i. cond (eqb b 0) 0 (2 ^ i)) refl

by_zero : (b : ℕ) → product 0 b ≡ 0
unfolding partial product
by_zero b = simp zero-mul

inverse_zero : inverse 0 ≡ 0
unfolding doubled partial product power inverse
inverse_zero = refl

-- so only the inverse has the product 1
inverse_only : (b c : ℕ) → b < 256 → c < 256 → b ≢ 0 → product b c ≡ 1 → c ≡ inverse b
inverse_only b c hb hc n e =
    let f : ℕ → ℕ = λ x. product (inverse b) (product b x) in
    let back : f c ≡ c =
    by_bits f (λ x. x)
    (λ x y. ap (product (inverse b)) (product_linear b x y) ∙ product_linear (inverse b) (product b x) (product b y)) (λ x y. refl) 8
    (λ i l. every 8 (λ i. f (2 ^ i)) (λ i. cond (eqb b 0) 0 (2 ^ i)) (inverse_bits b hb) i l ∙ ap (λ t. cond t 0 (2 ^ i)) (ne_eqb b 0 n))
    c hc in
    sym back ∙ ap (product (inverse b)) e ∙ inverse_one b hb

pub inverses : Inverses
inverses = record {
  cancels = λ b h n. inverse_rule b h ∙ ap (λ t. cond t 0 1) (ne_eqb b 0 n);
  zero_kept = inverse_zero;
  only = λ b c hb hc e.
      ⊎_elim
      (λ (z : b ≡ 0). let no : ◌≡◌ {A = ℕ} 0 1 = sym (by_zero c) ∙ sym (ap (λ x. product x c) z) ∙ e in absurd (omega arith))
      (λ n. inverse_only b c hb hc n e)
      (cases_eq b 0);
}

pub inv_s_box-s_box : (b : ℕ) → b < 256 → inv_s_box (s_box b) ≡ b
unfolding doubled partial product power inverse s_box inv_s_box
inv_s_box-s_box = every 256 (λ b. inv_s_box (s_box b)) (λ b. b) refl

pub s_box-inv_s_box : (b : ℕ) → b < 256 → s_box (inv_s_box b) ≡ b
unfolding doubled partial product power inverse s_box inv_s_box
s_box-inv_s_box = every 256 (λ b. s_box (inv_s_box b)) (λ b. b) refl

pub s_box_byte : (b : ℕ) → b < 256 → s_box b < 256
unfolding doubled partial product power inverse s_box
s_box_byte = all_small 256 s_box refl

pub inv_s_box_byte : (b : ℕ) → b < 256 → inv_s_box b < 256
unfolding doubled partial product power inverse inv_s_box
inv_s_box_byte = all_small 256 inv_s_box refl
