-- Lists made from a function of the place. What holds of every number below a bound, or at every entry of a table, is
-- one computed test: antt computes the list of a function and compares it, and these lemmas give the fact at each place.
-- Assumes nothing.
use Rattle.std.proofs.Common.{◌≡◌, ℕ, zero, suc, ◌+◌, ◌<◌, ◌≤◌, subst, arith, true, ltb, List, map, get_or, sym, refl, ap, ◌∙◌, ⊎_elim, zero-add, lit<, ltb-true}
use Rattle.std.specs.List.{range_with_len}
use Rattle.std.proofs.lemmas.List.FromFn.{get_or-map-range_with_len, fill_by_all, length-map-range_with_len}
use Rattle.std.proofs.lemmas.List.{get_or_past}
use Rattle.std.proofs.lemmas.Bool.{cases_lt, cases_eq}
use Rattle.aes.specs.Block.{Bytes, at, listed}
use Rattle.aes.specs.Step.{Step}
use Rattle.std.specs.Array.{IsFromFnResult, IsFromFnResultFrom, IsMapOf, MapsFrom}
use denote.Param.Members.{Mut, Called}

module _ {X : Type 0} where
  -- an entry of the table of f is f of its place
  pub entry : (f : ℕ → X) (n k : ℕ) (d : X) → k < n → get_or (map f (range_with_len 0 n)) k d ≡ f k
  entry f n k d h = get_or-map-range_with_len f 0 n k k d h (zero-add k)

  -- two functions with the same table agree at every place, and the other way round
  pub every : (n : ℕ) (f g : ℕ → X) → map f (range_with_len 0 n) ≡ map g (range_with_len 0 n) → (k : ℕ) → k < n → f k ≡ g k
  every n f g e k h = sym (entry f n k (f 0) h) ∙ ap (λ xs. get_or xs k (f 0)) e ∙ entry g n k (f 0) h

  pub same_table : (n : ℕ) (f g : ℕ → X) → ((k : ℕ) → k < n → f k ≡ g k) → map f (range_with_len 0 n) ≡ map g (range_with_len 0 n)
  same_table n f g e =
      fill_by_all g (map f (range_with_len 0 n)) n (f 0) (length-map-range_with_len f 0 n) (λ k h. entry f n k (f 0) h ∙ e k h)

-- a function whose values below n are bytes, by one test
pub all_small : (n : ℕ) (f : ℕ → ℕ) → map (λ k. ltb (f k) 256) (range_with_len 0 n) ≡ map (λ k. true) (range_with_len 0 n) → (k : ℕ) → k < n → f k < 256
all_small n f e k h = ltb-true (f k) 256 (every n (λ k. ltb (f k) 256) (λ k. true) e k h)

-- a list of bytes is the list of its entries
pub relisted : (n : ℕ) (s : List ℕ) → Bytes n s → s ≡ listed n (at s)
relisted n s b = fill_by_all (at s) s n 0 b.0 (λ k h. refl)

pub listed_bytes : (n : ℕ) (f : ℕ → ℕ) → ((k : ℕ) → k < n → f k < 256) → Bytes n (listed n f)
listed_bytes n f h = (
  length-map-range_with_len f 0 n,
  λ k. ⊎_elim
      (λ (l : k < n). rw (entry f n k 0 l) (h k l))
      (λ (g : n ≤ k). rw (get_or_past (listed n f) k 0 (rw (length-map-range_with_len f 0 n) g)) (lit< tt))
      (cases_lt k n),
)

-- what is f of s, where g undoes f
pub step : {X : Type 0} (f g : X → X) (s r : X) → r ≡ f s → g (f s) ≡ s → Step f g s r
step f g s r e u = record { made = e; undone = ap g e ∙ u }

-- ---- arrays that calls of a closure fill, where the calls leave the closure as it was

module _ {F : Type 0} (g : Mut F (ℕ × Unit {0}) ℕ) (f : F) (h : ℕ → ℕ) where
  filled_from : (ys : List ℕ) (i n : ℕ) → ((k y : ℕ) (q : F) → k < i + n → Called g f (k, tt) y q → (y ≡ h k) × (q ≡ f))
      → IsFromFnResultFrom g f ys i n → (k : ℕ) → i ≤ k → k < i + n → at ys k ≡ h k
  filled_from ys i zero says made k le lt = absurd (omega arith)
  filled_from ys i (suc n) says made k le lt =
      let now = says i made.1 made.0 (omega arith) made.3 in
      let rest : IsFromFnResultFrom g f ys (i + 1) n = subst (λ q. IsFromFnResultFrom g q ys (i + 1) n) now.1 made.4 in
      ⊎_elim
      (λ (e : k ≡ i). ap (at ys) e ∙ made.2.1 0 ∙ now.0 ∙ ap h (sym e))
      (λ ne. filled_from ys (i + 1) n (λ j y q l c. says j y q (omega arith) c) rest k (omega arith) (omega arith))
      (cases_eq k i)

  -- what `from_fn` makes, by what each call gives
  pub from_fn_listed : (n : ℕ) (ys : List ℕ) → ((k y : ℕ) (q : F) → k < n → Called g f (k, tt) y q → (y ≡ h k) × (q ≡ f))
      → IsFromFnResult g f ys n → ys ≡ listed n h
  from_fn_listed n ys says made =
      fill_by_all h ys n 0 made.long (λ k l. filled_from ys 0 n (λ j y q m c. says j y q (omega arith) c) made.each k (omega arith) (omega arith))

module _ {F : Type 0} (g : Mut F (ℕ × Unit {0}) ℕ) (f : F) (h : ℕ → ℕ) (xs : List ℕ) where
  mapped_from : (ys : List ℕ) (i n : ℕ) → ((k y : ℕ) (q : F) → k < i + n → Called g f (at xs k, tt) y q → (y ≡ h (at xs k)) × (q ≡ f))
      → MapsFrom g f xs ys i n → (k : ℕ) → i ≤ k → k < i + n → at ys k ≡ h (at xs k)
  mapped_from ys i zero says made k le lt = absurd (omega arith)
  mapped_from ys i (suc n) says made k le lt =
      let now = says i made.2 made.0 (omega arith) (rw (made.3.1 0) made.5) in
      let rest : MapsFrom g f xs ys (i + 1) n = subst (λ q. MapsFrom g q xs ys (i + 1) n) now.1 made.6 in
      ⊎_elim
      (λ (e : k ≡ i). ap (at ys) e ∙ made.4.1 0 ∙ now.0 ∙ ap (λ j. h (at xs j)) (sym e))
      (λ ne. mapped_from ys (i + 1) n (λ j y q l c. says j y q (omega arith) c) rest k (omega arith) (omega arith))
      (cases_eq k i)

  -- what an array's `map` makes
  pub map_listed : (n : ℕ) (ys : List ℕ) → ((k y : ℕ) (q : F) → k < n → Called g f (at xs k, tt) y q → (y ≡ h (at xs k)) × (q ≡ f))
      → IsMapOf g f xs ys n → ys ≡ listed n (λ k. h (at xs k))
  map_listed n ys says made =
      fill_by_all (λ k. h (at xs k)) ys n 0 made.long
      (λ k l. mapped_from ys 0 n (λ j y q m c. says j y q (omega arith) c) made.each k (omega arith) (omega arith))
