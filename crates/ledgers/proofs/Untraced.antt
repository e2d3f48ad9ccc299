-- Conversions but the last accepted of each kind leave no trace. Assumes nothing.
use Rattle.std.proofs.Common.{◌≡◌, ℕ, ◌*◌, Bool, true, false, cond, not, ◌&&◌, ◌||◌, eqb, List, [], ◌∷◌, length, get_or, set, Some, None, Option, sym, refl, ap, ◌∙◌, subst}
use Rattle.std.proofs.lemmas.List.{length-set}
use Rattle.std.proofs.lemmas.Bool.{true≢false}
use Rattle.strips.specs.declared.place.Place.{Place}
use Rattle.strips.specs.declared.fault.StripFault.{StripFault}
use Rattle.strips.specs.declared.fault.StripFault.TheVariants.{WrongMemory}
use Rattle.ledgers.specs.declared.call.Change.{Change}
use Rattle.ledgers.specs.declared.call.Change.TheVariants.{Turn, Renumber, Transfer}
use Rattle.ledgers.specs.declared.call.Call.{Call}
use Rattle.ledgers.specs.declared.call.Act.{Act}
use Rattle.ledgers.specs.declared.call.Act.TheVariants.{Write, Exchange, Convert, Read, Stamp}
use Rattle.ledgers.specs.Rows.{Piles}
use Rattle.ledgers.specs.Ledgers.{Ledger, done, shown, unless, first, fits, refusal, changed, kept_or, refused_or, ledger_step, ledger_run, ledger_answers}
use Rattle.ledgers.specs.Struck.{Kind, turns, renumbers, transfers, kind, same_kind, later, struck, row_answers}

-- without the conversions that leave no trace, row calls answer alike and the end is the same
pub record Untraced (piles : Piles) (calls : List Call) (l : Ledger) : Type 0 where
  pub answers : row_answers calls (ledger_answers piles calls l) ≡ row_answers (struck (length l.rows) calls) (ledger_answers piles (struck (length l.rows) calls) l)
  pub end : ledger_run calls l ≡ ledger_run (struck (length l.rows) calls) l

-- two places have the part that a kind of conversion sets
abbrev Part : Kind → Place → Place → Type 0
Part turns p q = p.station ≡ q.station
Part renumbers p q = p.number ≡ q.number
Part transfers p q = p.pile ≡ q.pile

-- two places have each part that nothing behind sets
abbrev Agree : ℕ → List Call → Place → Place → Type 0
Agree n cs p q = (k : Kind) → later k n cs ≡ false → Part k p q

-- a conversion leaves the parts of the other kinds, and sets its own
part_left : (k : Kind) (d : Change) (p q : Place) → same_kind k (kind d) ≡ false → Part k p q → Part k (changed d p) q
part_left turns (Turn s) p q e h = absurd (true≢false e)
part_left turns (Renumber n) p q e h = h
part_left turns (Transfer z) p q e h = h
part_left renumbers (Turn s) p q e h = h
part_left renumbers (Renumber n) p q e h = absurd (true≢false e)
part_left renumbers (Transfer z) p q e h = h
part_left transfers (Turn s) p q e h = h
part_left transfers (Renumber n) p q e h = h
part_left transfers (Transfer z) p q e h = absurd (true≢false e)

part_set : (d : Change) (p q : Place) → Part (kind d) (changed d p) (changed d q)
part_set (Turn s) p q = refl
part_set (Renumber n) p q = refl
part_set (Transfer z) p q = refl

part_sym : (k : Kind) (p q : Place) → Part k p q → Part k q p
part_sym turns p q h = sym h
part_sym renumbers p q h = sym h
part_sym transfers p q h = sym h

pub same_kind_is : (k j : Kind) → same_kind k j ≡ true → j ≡ k
same_kind_is turns turns e = refl
same_kind_is turns renumbers e = absurd (true≢false (sym e))
same_kind_is turns transfers e = absurd (true≢false (sym e))
same_kind_is renumbers turns e = absurd (true≢false (sym e))
same_kind_is renumbers renumbers e = refl
same_kind_is renumbers transfers e = absurd (true≢false (sym e))
same_kind_is transfers turns e = absurd (true≢false (sym e))
same_kind_is transfers renumbers e = absurd (true≢false (sym e))
same_kind_is transfers transfers e = refl

abbrev with_place : List (List ℕ) → Place → Ledger
with_place rows p = record { rows = rows; place = p }

module _ (piles : Piles) (n : ℕ) where
  record Alike (cs ds : List Call) (l m : Ledger) : Type 0 where
    pub told : row_answers cs (ledger_answers piles cs l) ≡ row_answers ds (ledger_answers piles ds m)
    pub end : ledger_run cs l ≡ ledger_run ds m

  abbrev Goal : List Call → Type 0
  Goal cs = (rows : List (List ℕ)) (p q : Place) → length rows ≡ n → Agree n cs p q → Alike cs (struck n cs) (with_place rows p) (with_place rows q)

  none : Goal []
  none rows p q e ag = record {
    told = refl;
    end = λ i. record { rows = rows; place = record { number = ag renumbers refl i; station = ag turns refl i; pile = ag transfers refl i } };
  }

  -- a call that keeps the place, on both sides
  same_step : (r : Option StripFault) (cs : List Call) → Goal cs → (rows new : List (List ℕ)) (p q : Place) → length rows ≡ n → length new ≡ n → Agree n cs p q
      → Alike cs (struck n cs) (kept_or r (with_place rows p) (with_place new p)) (kept_or r (with_place rows q) (with_place new q))
  same_step None cs ih rows new p q e e' ag = ih new p q e' ag
  same_step (Some f) cs ih rows new p q e e' ag = ih rows p q e ag

  -- a conversion, by whether it is handed the strip's memory and whether one of its kind is behind
  module _ (m : ℕ) (d : Change) (cs : List Call) (ih : Goal cs) (rows : List (List ℕ)) (p q : Place) (e : length rows ≡ n) where
    abbrev call : Call
    call = record { memory = m; act = Convert d }

    refusal_is : refusal (length rows) call ≡ unless (fits n m) WrongMemory
    refusal_is = ap (λ k. first (unless (eqb m (16 * k)) WrongMemory) None) e ∙ go (fits n m)
      where
        go : (b : Bool) → first (unless b WrongMemory) None ≡ unless b WrongMemory
        go true = refl
        go false = refl

    converted : (x : Place) → fits n m ≡ true → ledger_step call (with_place rows x) ≡ with_place rows (changed d x)
    converted x fit = ap (λ r. kept_or r (with_place rows x) (with_place rows (changed d x))) (refusal_is ∙ ap (λ b. unless b WrongMemory) fit)

    left_alone : (x : Place) → fits n m ≡ false → ledger_step call (with_place rows x) ≡ with_place rows x
    left_alone x fit = ap (λ r. kept_or r (with_place rows x) (with_place rows (changed d x))) (refusal_is ∙ ap (λ b. unless b WrongMemory) fit)

    dropped : (l k : Ledger) → Alike cs (struck n cs) (ledger_step call l) k → Alike (call ∷ cs) (struck n cs) l k
    dropped l k a = record { told = a.told; end = a.end }

    kept : (l k : Ledger) → Alike cs (struck n cs) (ledger_step call l) (ledger_step call k) → Alike (call ∷ cs) (call ∷ struck n cs) l k
    kept l k a = record { told = a.told; end = a.end }

    unfit : (k : Kind) → fits n m ≡ false → later k n cs ≡ false → later k n (call ∷ cs) ≡ false
    unfit k fit h = ap (λ b. (same_kind k (kind d) && b) || later k n cs) fit ∙ ap (λ b. b || later k n cs) (go (same_kind k (kind d))) ∙ h
      where
        go : (b : Bool) → (b && false) ≡ false
        go true = refl
        go false = refl

    unlike : (k : Kind) → same_kind k (kind d) ≡ false → later k n cs ≡ false → later k n (call ∷ cs) ≡ false
    unlike k eq h = ap (λ b. (b && fits n m) || later k n cs) eq ∙ h

    module _ (ag : Agree n (call ∷ cs) p q) where
      struck_agree : later (kind d) n cs ≡ true → Agree n cs (changed d p) q
      struck_agree lat k h = go (same_kind k (kind d)) refl
        where
          go : (b : Bool) → same_kind k (kind d) ≡ b → Part k (changed d p) q
          go true eq = absurd (true≢false (sym lat ∙ ap (λ j. later j n cs) (same_kind_is k (kind d) eq) ∙ h))
          go false eq = part_left k d p q eq (ag k (unlike k eq h))

      kept_agree : Agree n cs (changed d p) (changed d q)
      kept_agree k h = go (same_kind k (kind d)) refl
        where
          go : (b : Bool) → same_kind k (kind d) ≡ b → Part k (changed d p) (changed d q)
          go true eq = subst (λ j. Part j (changed d p) (changed d q)) (same_kind_is k (kind d) eq) (part_set d p q)
          go false eq = part_left k d p (changed d q) eq (part_sym k (changed d q) p (part_left k d q p eq (part_sym k p q (ag k (unlike k eq h)))))

      convert : (fit lat : Bool) → fits n m ≡ fit → later (kind d) n cs ≡ lat
          → Alike (call ∷ cs) (cond (fit && not lat) (call ∷ struck n cs) (struck n cs)) (with_place rows p) (with_place rows q)
      convert false lat fe le =
          dropped _ _ (subst (λ x. Alike cs (struck n cs) x (with_place rows q)) (sym (left_alone p fe)) (ih rows p q e (λ k h. ag k (unfit k fe h))))
      convert true true fe le =
          dropped _ _ (subst (λ x. Alike cs (struck n cs) x (with_place rows q)) (sym (converted p fe)) (ih rows (changed d p) q e (struck_agree le)))
      convert true false fe le =
          kept _ _ (subst (λ x. Alike cs (struck n cs) x (ledger_step call (with_place rows q))) (sym (converted p fe))
          (subst (λ x. Alike cs (struck n cs) (with_place rows (changed d p)) x) (sym (converted q fe)) (ih rows (changed d p) (changed d q) e kept_agree)))

  by_act : (m : ℕ) (a : Act) (cs : List Call) → Goal cs → Goal (record { memory = m; act = a } ∷ cs)
  by_act m (Write i b) cs ih rows p q e ag =
      let x = same_step (refusal (length rows) (record { memory = m; act = Write i b })) cs ih rows (set rows i b) p q e (length-set rows i b ∙ e) ag in
      record { told = ap (λ more. refused_or (refusal (length rows) (record { memory = m; act = Write i b })) done ∷ more) x.told; end = x.end }
  by_act m (Exchange i j) cs ih rows p q e ag =
      let new = set (set rows i (get_or rows j [])) j (get_or rows i []) in
      let x = same_step (refusal (length rows) (record { memory = m; act = Exchange i j })) cs ih rows new p q e (length-set (set rows i (get_or rows j [])) j _ ∙ length-set rows i _ ∙ e) ag in
      record { told = ap (λ more. refused_or (refusal (length rows) (record { memory = m; act = Exchange i j })) done ∷ more) x.told; end = x.end }
  by_act m (Convert d) cs ih rows p q e ag = convert m d cs ih rows p q e ag (fits n m) (later (kind d) n cs) refl refl
  by_act m (Read i k) cs ih rows p q e ag =
      let x = same_step (refusal (length rows) (record { memory = m; act = Read i k })) cs ih rows rows p q e e ag in
      record { told = ap (λ more. refused_or (refusal (length rows) (record { memory = m; act = Read i k })) (shown (get_or rows i [])) ∷ more) x.told; end = x.end }
  by_act m (Stamp k) cs ih rows p q e ag =
      let x = same_step (refusal (length rows) (record { memory = m; act = Stamp k })) cs ih rows rows p q e e ag in
      record { told = x.told; end = x.end }

  alike : (cs : List Call) → Goal cs
  alike [] = none
  alike (c ∷ cs) = by_act c.memory c.act cs (alike cs)

pub untraced : (piles : Piles) (calls : List Call) (l : Ledger) → Untraced piles calls l
untraced piles cs l =
    let a = alike piles (length l.rows) cs l.rows l.place l.place refl (λ k _. same k) in
    record { answers = a.told; end = a.end }
  where
    same : (k : Kind) → Part k l.place l.place
    same turns = refl
    same renumbers = refl
    same transfers = refl
