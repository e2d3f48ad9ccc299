-- Bytes put into a place, one after another.
use Rattle.std.proofs.Common.{◌≡◌, ℕ, ◌+◌, ◌≤◌, List, [], ◌++◌, length, take, drop, sym, refl, ap, ◌∙◌, subst, append_assoc, add_assoc, arith, length-append, length-drop}
use borrow.Rule.Slice.PartMut.{put_mid}
use Rattle.std.proofs.lemmas.List.{drop-drop, take-append-drop, length-take-le, take_at, drop_at}
use Rattle.listing.specs.declared.text.Page.{Page}
use Rattle.listing.specs.Text.{laid, Put, Adds}

module _ (place : List ℕ) (at : ℕ) (xs : List ℕ) (fits : at + length xs ≤ length place) where
  front : length (take at place ++ xs) ≡ at + length xs
  front = simp length-append (omega (arith, length-take-le at place (omega arith)))

  laid_is : laid place at xs ≡ (take at place ++ xs) ++ drop (at + length xs) place
  unfolding laid
  laid_is = sym (append_assoc (take at place) xs (drop (at + length xs) place))

  pub length-laid : length (laid place at xs) ≡ length place
  length-laid = ap length laid_is ∙ length-append (take at place ++ xs) (drop (at + length xs) place) ∙ simp length-drop (omega (arith, front))

  laid_front : take (at + length xs) (laid place at xs) ≡ take at place ++ xs
  laid_front = rw laid_is (take_at _ _ _ front)

  laid_rest : (n : ℕ) → drop (at + length xs + n) (laid place at xs) ≡ drop (at + length xs + n) place
  laid_rest n = sym (drop-drop n (at + length xs) (laid place at xs)) ∙ ap (drop n) (ap (drop (at + length xs)) laid_is ∙ drop_at _ _ _ front) ∙ drop-drop n (at + length xs) place

  laid-laid : (ys : List ℕ) → laid (laid place at xs) (at + length xs) ys ≡ laid place at (xs ++ ys)
  unfolding laid
  laid-laid ys =
      ap (λ l. l ++ (ys ++ drop (at + length xs + length ys) (laid place at xs))) laid_front
      ∙ ap (λ l. (take at place ++ xs) ++ (ys ++ l)) (laid_rest (length ys))
      ∙ simp (append_assoc, length-append, add_assoc)

pub put_part : (place : List ℕ) (at k : ℕ) (xs ys : List ℕ) → k ≡ length xs → ys ≡ xs → put_mid at k place ys ≡ laid place at xs
unfolding laid
put_part place at k xs ys e same = rw (drop-drop, e, same)

-- two calls, one after the other
pub adds_both : {p q r : Page} {xs ys : List ℕ} → Adds p xs q → Adds q ys r → Adds p (xs ++ ys) r
adds_both {p} {q} {r} {xs} {ys} a b = record {
  put = record {
    bytes = b.put.bytes ∙ ap (λ n. laid q.place.now n ys) a.put.ends ∙ ap (λ l. laid l (p.used + length xs) ys) a.put.bytes ∙ laid-laid p.place.now p.used xs (omega (arith, a.put.ends, a.within, a.long)) ys;
    ends = omega (arith, a.put.ends, b.put.ends, length-append xs ys);
  };
  within = b.within;
  long = b.long ∙ a.long;
  same = b.same ∙ a.same;
}

pub adds_as : {p q : Page} {xs ys : List ℕ} → xs ≡ ys → Adds p xs q → Adds p ys q
adds_as {p} {q} same a = subst (λ l. Adds p l q) same a

pub adds_none : (p : Page) → p.used ≤ length p.place.now → Adds p [] p
unfolding laid
adds_none p within =
    let all : p.used ≡ p.used + 0 = omega arith in
    record {
      put = record { bytes = sym (take-append-drop p.used p.place.now) ∙ ap (λ n. take p.used p.place.now ++ drop n p.place.now) all; ends = omega arith };
      within = within;
      long = refl;
      same = refl;
    }

pub put_within : {before after xs : List ℕ} {e : ℕ} → Put before 0 xs after e → e ≤ length after
unfolding laid
put_within {before} {after} {xs} {e} p = omega (arith, p.ends, ap length p.bytes, length-append xs (drop (0 + length xs) before))
