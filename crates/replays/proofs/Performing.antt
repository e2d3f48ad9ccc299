-- One call of a list, by what the strip's calls promise.
-- Assumes nothing.
use Rattle.std.proofs.Common.{◌≡◌, ℕ, ◌-◌, ◌*◌, ◌≤◌, List, ◌++◌, length, take, drop, Some, None, Option, sym, refl, ap, ◌∙◌, arith}
use Rattle.std.proofs.lemmas.List.{length-take-le, take-append-drop}
use Rattle.std.specs.List.{concat}
use Rattle.strips.specs.declared.fault.StripFault.{StripFault}
use Rattle.ledgers.specs.Rows.{Piles, cells}
use Rattle.ledgers.specs.Ledgers.{Answer, kept_or, refusal}
use Rattle.ledgers.specs.Machine.{Made, SoundAct, State, carried, cells_after, place_after, step, step_answer}
use Rattle.ledgers.specs.declared.call.Act.{Act}
use Rattle.ledgers.specs.declared.call.Call.{Call}
use Rattle.ledgers.proofs.Cells.{concat-cells}
use Rattle.ledgers.proofs.Steps.{memory_fits}
use Rattle.ledgers.proofs.Lists.{answer_misfit, step_misfit}
use Rattle.sealed.specs.Calls.{call, state}
use Rattle.sealed.specs.declared.strip.Strip.{Strip}

-- ---- a call that shows leaves the strip and its bytes
module _ (piles : Piles) (c : Call) (s : State) (long : c.memory ≡ length s.bytes) (rows : cells_after piles c.act s.place (cells s.rows s.bytes) ≡ cells s.rows s.bytes) (place : place_after c.act s.place ≡ s.place) where
  same_at : (o : Option StripFault) → refusal s.rows c ≡ o → s ≡ kept_or o s (carried piles c.act s)
  same_at (Some f) e = refl
  same_at None e =
      let bytes = sym (ap concat rows ∙ concat-cells s.rows s.bytes (sym long ∙ memory_fits s.rows c e)) in
      λ i. record { rows = s.rows; place = sym place i; bytes = bytes i }

  same : s ≡ step piles c s
  same = same_at (refusal s.rows c) refl

pub shows_made : (piles : Piles) (a b : Act) (s : Strip) (m : List ℕ) (x : Answer)
    → (cells_after piles b s.place (cells s.rows.count m) ≡ cells s.rows.count m) → (place_after b s.place ≡ s.place)
    → a ≡ b → x ≡ step_answer piles (call b m) (state s m) → SoundAct a → Made piles (call a m) (state s m) (state s m) x
shows_made piles a b s m x rows place e told sound = record {
  end = same piles (call b m) (state s m) refl rows place ∙ ap (λ y. step piles (call y m) (state s m)) (sym e);
  answered = told ∙ ap (λ y. step_answer piles (call y m) (state s m)) (sym e);
  sound = sound;
}

-- ---- a call that is handed other memory: that memory and the strip stay
module _ (piles : Piles) (s s' : Strip) (m spare part' : List ℕ) (c : Call) (x : Answer) (within : c.memory ≤ length spare) (ne : c.memory ≡ 16 * s.rows.count → ⊥)
    (made : Made piles (call c.act (take (c.memory - 0) spare)) (state s (take (c.memory - 0) spare)) (state s' part') x) where
  abbrev front : List ℕ
  front = take (c.memory - 0) spare

  unfit : length front ≡ 16 * s.rows.count → ⊥
  unfit h = ne (sym (length-take-le (c.memory - 0) spare (omega arith) ∙ omega arith) ∙ h)

  stay : state s' part' ≡ state s front
  stay = made.end ∙ step_misfit piles (call c.act front) (state s front) unfit

  pub other_spare : part' ++ drop (c.memory - 0) spare ≡ spare
  other_spare = ap (λ t. t.bytes ++ drop (c.memory - 0) spare) stay ∙ take-append-drop (c.memory - 0) spare

  pub other_made : Made piles c (state s m) (state s' m) x
  other_made = record {
    end = ap (λ t. record { rows = t.rows; place = t.place; bytes = m }) stay ∙ sym (step_misfit piles c (state s m) ne);
    answered = made.answered ∙ answer_misfit piles (call c.act front) (state s front) unfit ∙ sym (answer_misfit piles c (state s m) ne);
    sound = made.sound;
  }
