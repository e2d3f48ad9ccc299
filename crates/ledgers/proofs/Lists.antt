-- A list of calls in progress. Assumes nothing.
use Rattle.std.proofs.Common.{◌≡◌, ℕ, ◌+◌, ◌*◌, ◌<◌, ◌≤◌, List, [], ◌∷◌, ◌++◌, length, get_or, take, drop, set, Some, None, Option, sym, refl, ap, ◌∙◌, subst, ap₂, All}
use Rattle.std.proofs.lemmas.List.{drop_more, take_more, take_more_set, append_assoc, append-nil, take_all, drop_all}
use Rattle.std.proofs.lemmas.List.Elements.{All-nil, All-push}
use Rattle.strips.specs.declared.fault.StripFault.{StripFault}
use Rattle.strips.specs.declared.fault.StripFault.TheVariants.{WrongMemory}
use Rattle.ledgers.specs.declared.call.Call.{Call}
use Rattle.ledgers.specs.Rows.{Piles}
use Rattle.ledgers.specs.Ledgers.{Answer, refused, refusal, kept_or, refused_or}
use Rattle.ledgers.specs.Machine.{State, Sound, Made, Ran, carried, reply, step, step_answer, run, run_answers}
use Rattle.ledgers.proofs.Steps.{refusal_memory}

-- the first i calls are done: what is left leads to the same end and answers
pub record Going (piles : Piles) (calls : List Call) (start now : State) (i : ℕ) (told : List Answer) : Type 0 where
  pub rows : now.rows ≡ start.rows
  pub end : run piles (drop i calls) now ≡ run piles calls start
  pub answers : take i told ++ run_answers piles (drop i calls) now ≡ run_answers piles calls start
  pub sound : All Sound (take i calls)

module _ (piles : Piles) where
  pub step-rows : (c : Call) (s : State) → (step piles c s).rows ≡ s.rows
  step-rows c s = go (refusal s.rows c)
    where
      go : (r : Option StripFault) → (kept_or r s (carried piles c.act s)).rows ≡ s.rows
      go None = refl
      go (Some f) = refl

  -- a call that is handed memory of another length
  pub step_misfit : (c : Call) (s : State) → (c.memory ≡ 16 * s.rows → ⊥) → step piles c s ≡ s
  step_misfit c s ne =
      ap (λ r. kept_or r s (carried piles c.act s))
      (sym (refusal_memory s.rows c.memory c.act ne))

  pub answer_misfit : (c : Call) (s : State) → (c.memory ≡ 16 * s.rows → ⊥) → step_answer piles c s ≡ refused WrongMemory
  answer_misfit c s ne =
      ap (λ r. refused_or r (reply piles c.act s)) (sym (refusal_memory s.rows c.memory c.act ne))

  pub going_none : (calls : List Call) (start : State) (told : List Answer) → Going piles calls start start 0 told
  going_none calls start told = record { rows = refl; end = refl; answers = refl; sound = All-nil Sound }

  pub going_more : (calls : List Call) (start now next : State) (i : ℕ) (told : List Answer) (c : Call) (a : Answer)
      → Going piles calls start now i told → i < length calls → i < length told → c ≡ get_or calls i c → Made piles c now next a
      → Going piles calls start next (i + 1) (set told i a)
  going_more calls start now next i told c a g lt room is made =
      let left : drop i calls ≡ c ∷ drop (i + 1) calls = drop_more calls i c lt ∙ ap (λ x. x ∷ drop (i + 1) calls) (sym is) in
      record {
        rows = ap (λ s. s.rows) made.end ∙ step-rows c now ∙ g.rows;
        end = ap (run piles (drop (i + 1) calls)) made.end ∙ sym (ap (λ cs. run piles cs now) left) ∙ g.end;
        answers =
            ap₂ ◌++◌ (take_more_set told i a room ∙ ap (λ x. take i told ++ (x ∷ [])) made.answered) (ap (run_answers piles (drop (i + 1) calls)) made.end)
            ∙ append_assoc (take i told) (step_answer piles c now ∷ []) _
            ∙ ap (λ more. take i told ++ more) (sym (ap (λ cs. run_answers piles cs now) left))
            ∙ g.answers;
        sound = subst (All Sound) (sym (take_more calls i c lt ∙ ap (λ x. take i calls ++ (x ∷ [])) (sym is))) (All-push Sound (take i calls) c g.sound made.sound);
      }

  -- all are done
  pub going_all : (calls : List Call) (start now : State) (i : ℕ) (told : List Answer) → Going piles calls start now i told → length calls ≤ i → length told ≤ i → Ran piles calls start now told
  going_all calls start now i told g h k =
      let none = drop_all i calls h in
      record {
        end = sym (ap (λ cs. run piles cs now) none) ∙ g.end;
        answered = sym (append-nil told) ∙ ap₂ ◌++◌ (sym (take_all i told k)) (sym (ap (λ cs. run_answers piles cs now) none)) ∙ g.answers;
        sound = subst (All Sound) (take_all i calls h) g.sound;
      }
