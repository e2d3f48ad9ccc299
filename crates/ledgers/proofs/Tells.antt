-- What bytes and stamps tell of the rows.
-- Assumes nothing.
use Rattle.std.proofs.Common.{◌≡◌, ℕ, ◌<◌, List, [], length, get_or, set, Some, None, Option, sym, refl, ap, ◌∙◌, subst, ap₂, ⊎_elim, All}
use Rattle.std.proofs.lemmas.List.{length-set, ext_get_or, get_or-set_same, get_or-set_other}
use Rattle.std.proofs.lemmas.Bool.{cases_eq}
use Rattle.std.proofs.lemmas.List.Elements.{All-get_or}
use Rattle.strips.specs.declared.fault.StripFault.{StripFault}
use Rattle.strips.specs.declared.place.Place.{Place}
use Rattle.ledgers.specs.declared.call.Change.TheVariants.{Turn}
use Rattle.ledgers.specs.declared.call.Act.TheVariants.{Convert}
use Rattle.ledgers.specs.Rows.{Piles, IsBlock, sealed, opened}
use Rattle.ledgers.specs.Stamps.{mixed, right_of, head_of, stamp}
use Rattle.ledgers.specs.Ledgers.{Ledger, refusal, accepted, kept_or, ledger_step}
use Rattle.ledgers.specs.Machine.{State, stamp_of, step}
use Rattle.ledgers.specs.Laws.{BothLawful, StandsFor, BytesTellRows, OneApart, StampTellsRow, TurnKeepsStamp, ledger_of, turn_call}
use Rattle.ledgers.proofs.Places.{stands_sealed, opened-sealed}
use Rattle.ledgers.proofs.Steps.{state_of, stands_is, stepped}
use Rattle.ledgers.proofs.Stamping.{stamp_by, stamp_one}

module _ (piles : Piles) (ok : BothLawful piles) where
  rows_from_sealed : (p : Place) (xs ys : List (List ℕ)) → All IsBlock xs → All IsBlock ys → length xs ≡ length ys → sealed piles p xs ≡ sealed piles p ys → xs ≡ ys
  rows_from_sealed p xs ys hx hy long e =
      sym (opened-sealed piles ok p xs hx) ∙ ap₂ (opened piles p) long e ∙ opened-sealed piles ok p ys hy

  -- the rows of the one ledger that a strip can stand for
  pub rows_are : (s : State) (l : Ledger) → StandsFor piles s l → (ledger_of piles s).rows ≡ l.rows
  rows_are s l h = ap (λ t. (ledger_of piles t).rows) (stands_is piles ok s l h) ∙ opened-sealed piles ok l.place l.rows h.blocks

  pub bytes_tell_rows : (s t : State) → BytesTellRows piles s t
  bytes_tell_rows s t l m hs ht en ep =
      let p = s.place in
      let es = stands_sealed piles ok s l hs in
      let et = stands_sealed piles ok t m ht ∙ ap (λ q. sealed piles q m.rows) (sym ep) in (
        (λ e. rows_from_sealed p l.rows m.rows hs.blocks ht.blocks (sym hs.count ∙ en ∙ ht.count) (sym es ∙ e ∙ et)),
        (λ e. es ∙ ap (sealed piles p) e ∙ sym et),
      )

  -- ---- stamps
  own_stamp : (l : Ledger) → All IsBlock l.rows → stamp_of piles (state_of piles l) ≡ stamp piles l.place l.rows
  own_stamp l h = ap (stamp piles l.place) (opened-sealed piles ok l.place l.rows h)

  stamp_stands : (s : State) (l : Ledger) → StandsFor piles s l → stamp_of piles s ≡ stamp piles l.place l.rows
  stamp_stands s l h = ap (stamp_of piles) (stands_is piles ok s l h) ∙ own_stamp l h.blocks

  pub turn_keeps_stamp : (s : State) → TurnKeepsStamp piles s
  turn_keeps_stamp s l h n station =
      let turned = stepped piles ok (turn_call n station) l tt h.blocks in
      ap (λ t. stamp_of piles (step piles (turn_call n station) t)) (stands_is piles ok s l h)
      ∙ ap (stamp_of piles) turned.state
      ∙ own_stamp (ledger_step (turn_call n station) l) turned.blocks
      ∙ same (refusal (length l.rows) (turn_call n station))
      ∙ sym (stamp_stands s l h)
    where
      -- the station has no part in the stamp
      same : (r : Option StripFault) → let m = kept_or r l (accepted (Convert (Turn station)) l) in stamp piles m.place m.rows ≡ stamp piles l.place l.rows
      same None = refl
      same (Some f) = refl

  -- ---- rows one apart
  -- the one with the other's row put in is the other
  one_put : (xs ys : List (List ℕ)) (o : OneApart xs ys) → ys ≡ set xs o.at (get_or ys o.at [])
  one_put xs ys o =
      ext_get_or [] ys (set xs o.at (get_or ys o.at [])) (sym o.long ∙ sym (length-set xs o.at _))
      (λ k lt. ⊎_elim
      (λ e. ap (λ j. get_or ys j []) e ∙ sym (ap (λ j. get_or (set xs o.at (get_or ys o.at [])) j []) e ∙ get_or-set_same xs o.at (get_or ys o.at []) [] o.inside))
      (λ ne. sym (get_or-set_other xs o.at k (get_or ys o.at []) [] ne ∙ o.alike k ne))
      (cases_eq k o.at))

  stamps_differ : (l m : Ledger) → l.place.number ≡ m.place.number → l.place.pile ≡ m.place.pile
      → All IsBlock l.rows → All IsBlock m.rows → OneApart l.rows m.rows
      → stamp piles l.place l.rows ≡ stamp piles m.place m.rows → ⊥
  stamps_differ l m en ep hl hm o e =
      let q = l.place.pile in
      let number = l.place.number in
      let i = o.at in
      let c = get_or m.rows i [] in
      let c_block : IsBlock c = All-get_or IsBlock m.rows i [] (subst (λ n. i < n) o.long o.inside) hm in
      let same : stamp_by (piles q) (ok q) number l.rows ≡ stamp_by (piles q) (ok q) number (set l.rows i c)
      = e ∙ ap₂ (λ z k. mixed (right_of (piles z) k) (head_of (piles z) k (length m.rows)) 0 m.rows) (sym ep) (sym en)
      ∙ ap (λ rows. mixed (right_of (piles q) number) (head_of (piles q) number (length rows)) 0 rows) (one_put l.rows m.rows o) in
      o.apart (stamp_one (piles q) (ok q) number l.rows i c hl c_block o.inside same)

  pub stamp_tells_row : (s : State) → StampTellsRow piles s
  stamp_tells_row s t l m hs ht en ep o e =
      stamps_differ l m
      (sym (ap (λ p. p.number) hs.same_place) ∙ en ∙ ap (λ p. p.number) ht.same_place)
      (sym (ap (λ p. p.pile) hs.same_place) ∙ ep ∙ ap (λ p. p.pile) ht.same_place)
      hs.blocks ht.blocks o (sym (stamp_stands s l hs) ∙ e ∙ stamp_stands t m ht)
