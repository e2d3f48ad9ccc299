-- What it takes to begin a list of calls.
-- Assumes nothing.
use Rattle.std.proofs.Common.{◌≡◌, ℕ, ◌+◌, ◌*◌, ◌≤◌, Bool, true, false, cond, ◌||◌, eqb, leb, List, [], ◌∷◌, length, Some, None, sym, refl, ap, ◌∙◌, ⊎_elim, All, Option, option_map, not}
use Rattle.std.proofs.lemmas.Bool.{and_parts, eqb-true, leb-true, or_cases}
use Rattle.std.proofs.lemmas.List.Elements.{All-cons, All-nil}
use Rattle.std.proofs.lemmas.Option.{none-some}
use Rattle.std.specs.List.{position_from}
use Rattle.strips.specs.declared.fault.StripFault.TheVariants.{WrongMemory}
use Rattle.ledgers.specs.Ledgers.{fits, unless}
use Rattle.ledgers.specs.declared.call.Call.{Call}
use Rattle.replays.specs.declared.ready.Lengths.{Lengths}
use Rattle.replays.specs.declared.ready.Unready.{Unready}
use Rattle.replays.specs.declared.ready.Unready.TheVariants.{Refused, Answers, NoRoom}
use Rattle.replays.specs.Ready.{after, place_named, roomy, served, unready, unserved}

-- ---- where nothing is found, all is there
abbrev IsServed : (n spare blank : ℕ) → Call → Type 0
IsServed n spare blank c = served n spare blank c ≡ true

module _ (n spare blank : ℕ) where
  abbrev from : ℕ → List Call → Option Unready
  from k cs = option_map NoRoom (position_from (λ c. not (served n spare blank c)) k cs)

  pub all_served : (k : ℕ) (calls : List Call) → from k calls ≡ None → All (IsServed n spare blank) calls
  all_served k [] e = All-nil (IsServed n spare blank)
  all_served k (c ∷ cs) e = go (served n spare blank c) refl (all_served (k + 1) cs)
    where
      found : (b : Bool) → served n spare blank c ≡ b → option_map NoRoom (cond (not b) (Some k) (position_from (λ x. not (served n spare blank x)) (k + 1) cs)) ≡ None
      found b is = sym (ap (λ x. option_map NoRoom (cond (not x) (Some k) (position_from (λ y. not (served n spare blank y)) (k + 1) cs))) is) ∙ e

      go : (b : Bool) → served n spare blank c ≡ b → (from (k + 1) cs ≡ None → All (IsServed n spare blank) cs) → All (IsServed n spare blank) (c ∷ cs)
      go true is more = All-cons (IsServed n spare blank) c cs is (more (found true is))
      go false is more = absurd (none-some (NoRoom k) (sym (found false is)))

-- slices keep their lengths, and the strip its rows
pub served_kept : {n n' spare spare' blank blank' : ℕ} (c : Call) → n' ≡ n → spare' ≡ spare → blank' ≡ blank → served n spare blank c ≡ true → served n' spare' blank' c ≡ true
served_kept c en es eb h = (λ j. served (en j) (es j) (eb j) c) ∙ h

-- memory of another length is in the spare
pub in_spare : (n spare blank : ℕ) (c : Call) → served n spare blank c ≡ true → (c.memory ≡ 16 * n → ⊥) → c.memory ≤ spare
in_spare n spare blank c h ne =
    ⊎_elim (λ e. absurd (ne (eqb-true c.memory (16 * n) e))) (leb-true c.memory spare)
    (or_cases (fits n c.memory) (leb c.memory spare) (and_parts (fits n c.memory || leb c.memory spare) (roomy blank (place_named c.act)) h).0)

pub record Begun (n : ℕ) (h : Lengths) (calls : List Call) : Type 0 where
  pub fit : h.memory ≡ 16 * n
  pub each : h.answers ≡ length calls
  pub room : All (IsServed n h.spare h.blank) calls

pub begun : (n : ℕ) (h : Lengths) (calls : List Call) → unready n h calls ≡ None → Begun n h calls
begun n h calls e = go (fits n h.memory) refl
  where
    counted : (b : Bool) → eqb h.answers (length calls) ≡ b → unserved n h calls ≡ None → (h.answers ≡ length calls) × (from n h.spare h.blank 0 calls ≡ None)
    counted true is u = (eqb-true h.answers (length calls) is, sym (ap (λ b. cond b (from n h.spare h.blank 0 calls) (Some Answers)) is) ∙ u)
    counted false is u = absurd (none-some Answers (sym (sym (ap (λ b. cond b (from n h.spare h.blank 0 calls) (Some Answers)) is) ∙ u)))

    go : (b : Bool) → fits n h.memory ≡ b → Begun n h calls
    go true is =
        let u : unserved n h calls ≡ None = sym (ap (λ b. after (unless b WrongMemory) (unserved n h calls)) is) ∙ e in
        let rest = counted (eqb h.answers (length calls)) refl u in
        record { fit = eqb-true h.memory (16 * n) is; each = rest.0; room = all_served n h.spare h.blank 0 calls rest.1 }
    go false is = absurd (none-some (Refused WrongMemory) (sym (sym (ap (λ b. after (unless b WrongMemory) (unserved n h calls)) is) ∙ e)))
