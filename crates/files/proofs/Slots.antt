-- The entries of a file, cut into 32 bytes each.
use Rattle.std.proofs.Common.{◌≡◌, ℕ, zero, suc, ◌+◌, ◌-◌, ◌*◌, ◌/◌, ◌<◌, ◌≤◌, Bor, List, Option, Some, None, ◌∷◌, length, get_or, take, drop, map, refl, ap, ◌∙◌, arith, length-drop}
use Rattle.std.specs.List.{range_with_len, HoldsAt}
use Rattle.std.specs.Simd.{first_chunks}
use Rattle.std.proofs.lemmas.List.{drop-drop, take_all}
use Rattle.std.proofs.lemmas.List.FromFn.{length-map-range_with_len, get_or-map-range_with_len}
use Rattle.std.specs.Option.{IfSome, MatchOption, ok_or}
use Rattle.files.specs.declared.fault.FileFault.TheVariants.{NoSuchEntry}
use Rattle.files.specs.Faults.{Named}
use Rattle.files.specs.Layout.{part, entries_start, trailer, entries, entry, slots}

chunks_from : (bs : List ℕ) (s n a : ℕ) → first_chunks 32 n (drop (s + 32 * a) bs) ≡ map (λ i. part bs (s + 32 * i) 32) (range_with_len a n)
chunks_from bs s zero a = refl
chunks_from bs s (suc n) a =
    let next : s + 32 * a + 32 ≡ s + 32 * (a + 1) = omega arith in
    ap (λ l. part bs (s + 32 * a) 32 ∷ first_chunks 32 n l) (drop-drop 32 (s + 32 * a) bs ∙ ap (λ k. drop k bs) next)
    ∙ ap (λ l. part bs (s + 32 * a) 32 ∷ l) (chunks_from bs s n (a + 1))

-- what is left behind the entries is too short for one more
pub slots_cut : (bs : List ℕ) (s : ℕ) → s ≡ entries_start (trailer bs) → s + 32 * entries bs + 16 ≡ length bs → first_chunks 32 (length (take (length bs - s) (drop s bs)) / 32) (take (length bs - s) (drop s bs)) ≡ slots bs
unfolding slots
slots_cut bs s is ends =
    let whole : take (length bs - s) (drop s bs) ≡ drop s bs = take_all (length bs - s) (drop s bs) (simp length-drop (omega arith)) in
    let n : length (drop s bs) / 32 ≡ entries bs = simp length-drop (omega arith) in
    let from : s ≡ s + 32 * 0 = omega arith in
    ap (λ xs. first_chunks 32 (length xs / 32) xs) whole
    ∙ (λ j. first_chunks 32 (n j) (drop (from j) bs))
    ∙ chunks_from bs s (entries bs) 0
    ∙ ap (λ t. map (λ i. part bs (t + 32 * i) 32) (range_with_len 0 (entries bs))) is

module _ (bs : List ℕ) (ss : List (List ℕ)) (is : ss ≡ slots bs) where
  pub slots_long : length ss ≡ entries bs
  unfolding slots
  slots_long = ap length is ∙ length-map-range_with_len (entry bs) 0 (entries bs)

  pub slot_is : (i : ℕ) (d : List ℕ) → i < length ss → get_or ss i d ≡ entry bs i
  unfolding slots
  slot_is i d lt = ap (λ l. get_or l i d) is ∙ get_or-map-range_with_len (entry bs) 0 (entries bs) i i d (omega (arith, slots_long)) (omega arith)

  -- looking for entry i among them
  pub slot_named : (i : ℕ) (r : Option (Bor (List ℕ))) → IfSome r (λ x. x.now ≡ get_or ss i x.now) → MatchOption r (length ss ≤ i) (λ x. (i < length ss) × HoldsAt (λ y. x.now ≡ y) ss i) → Named bs i (λ e. e.now ≡ entry bs i) (ok_or r (NoSuchEntry i))
  slot_named i (Some x) at below = (omega (arith, slots_long, below.0), at ∙ slot_is i x.now below.0)
  slot_named i None at above = (omega (arith, slots_long), refl)
