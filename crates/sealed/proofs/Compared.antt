-- Two strips are compared.
-- Assumes nothing.
use Rattle.std.proofs.Common.{◌≡◌, ℕ, ◌<◌, Bool, List, [], length, get_or, Decides, sym, ap, ◌∙◌, subst, zero-add}
use Rattle.std.proofs.lemmas.List.{ext_get_or, get_or_default}
use Rattle.strips.specs.declared.place.Place.{Place}
use Rattle.ledgers.specs.Rows.{Piles, plain}
use Rattle.ledgers.specs.Machine.{State}
use Rattle.ledgers.specs.Laws.{BothLawful, ledger_of}
use Rattle.ledgers.proofs.Cells.{get_or-each_row, length-each_row}
use Rattle.ledgers.proofs.Tells.{bytes_tell_rows, rows_are}
use Rattle.sealed.specs.Calls.{SameRows}
use Rattle.sealed.specs.Serving.{opened_rows}

pub decides_same : {X : Type 0} {r : Bool} (x y : X) {x' y' : X} → x ≡ x' → y ≡ y' → Decides r (x ≡ y) → Decides r (x' ≡ y')
decides_same x y ex ey d = ((λ t. sym ex ∙ d.0 t ∙ ey), (λ e. d.1 (ex ∙ e ∙ sym ey)))

-- ---- row by row
module _ (piles : Piles) (p q : Place) (xs ys : List (List ℕ)) (count : length xs ≡ length ys) where
  row_is : (z : Place) (zs : List (List ℕ)) (k : ℕ) (d : List ℕ) → k < length zs → plain piles z k (get_or zs k d) ≡ get_or (opened_rows piles z zs) k []
  row_is z zs k d lt =
      ap (plain piles z k) (get_or_default zs k d [] lt)
      ∙ sym (get_or-each_row (plain piles z) 0 zs k [] lt ∙ ap (λ j. plain piles z j (get_or zs k [])) (zero-add k))

  long : (z : Place) (zs : List (List ℕ)) → length (opened_rows piles z zs) ≡ length zs
  long z zs = length-each_row (plain piles z) 0 zs

  pub each_same : ((k : ℕ) → k < length xs → plain piles p k (get_or xs k []) ≡ plain piles q k (get_or ys k [])) → opened_rows piles p xs ≡ opened_rows piles q ys
  each_same h =
      ext_get_or [] (opened_rows piles p xs) (opened_rows piles q ys) (long p xs ∙ count ∙ sym (long q ys))
      (λ k lt.
      let inside = subst (λ z. k < z) (long p xs) lt in
      sym (row_is p xs k [] inside) ∙ h k inside ∙ row_is q ys k [] (subst (λ z. k < z) count inside))

  pub one_same : (k : ℕ) (d e : List ℕ) → k < length xs → opened_rows piles p xs ≡ opened_rows piles q ys → plain piles p k (get_or xs k d) ≡ plain piles q k (get_or ys k e)
  one_same k d e lt same = row_is p xs k d lt ∙ ap (λ zs. get_or zs k []) same ∙ sym (row_is q ys k e (subst (λ z. k < z) count lt))

-- ---- what the answer says of the ledgers
module _ (piles : Piles) (ok : BothLawful piles) (s t : State) where
  pub by_bytes : (b : Bool) → s.rows ≡ t.rows → s.place ≡ t.place → Decides b (s.bytes ≡ t.bytes) → SameRows piles s t b
  by_bytes b count place d l k hs ht =
      let tell = bytes_tell_rows piles ok s t l k hs ht count place in
      ((λ z. tell.0 (d.0 z)), (λ e. d.1 (tell.1 e)))

  pub by_rows : (b : Bool) → Decides b ((ledger_of piles s).rows ≡ (ledger_of piles t).rows) → SameRows piles s t b
  by_rows b d l k hs ht = decides_same _ _ (rows_are piles ok s l hs) (rows_are piles ok t k ht) d
