-- All the calls of a list are made: what the strip answered and where it ended is what the laws say.
-- Assumes nothing.
use Rattle.std.proofs.Common.{◌≡◌, ℕ, Bool, true, false, cond, List, [], ◌∷◌, length, sym, ap, ◌∙◌, subst, All}
use Rattle.std.proofs.lemmas.List.Elements.{All-cons, All-head, All-tail}
use Rattle.ledgers.specs.declared.call.Call.{Call}
use Rattle.ledgers.specs.Rows.{Piles}
use Rattle.ledgers.specs.Ledgers.{Answer, Ledger, fits, ledger_run, ledger_answers}
use Rattle.ledgers.specs.Machine.{State, Ran, Sound, run, run_answers}
use Rattle.ledgers.specs.Struck.{stays, struck, row_answers}
use Rattle.ledgers.specs.Laws.{BothLawful, StandsFor, Follows}
use Rattle.ledgers.proofs.Steps.{state_of, stands_is, run_both, keeps_up}
use Rattle.ledgers.proofs.Striking.{struck_right}
use Rattle.ledgers.proofs.Untraced.{untraced}

sound_struck : (n : ℕ) (cs : List Call) → All Sound cs → All Sound (struck n cs)
sound_struck n [] h = h
sound_struck n (c ∷ cs) h = go (stays n (fits n c.memory) cs c.act) (sound_struck n cs (All-tail Sound c cs h))
  where
    go : (b : Bool) → All Sound (struck n cs) → All Sound (cond b (c ∷ struck n cs) (struck n cs))
    go true rest = All-cons Sound c _ (All-head Sound c cs h) rest
    go false rest = rest

module _ (piles : Piles) (ok : BothLawful piles) where
  -- what the ledger says of struck lists, said of the strip and its bytes
  module _ (cs : List Call) (sound : All Sound cs) (s : State) (l : Ledger) (h : StandsFor piles s l) where
    abbrev ds : List Call
    ds = struck s.rows cs

    back : struck (length l.rows) cs ≡ ds
    back = ap (λ k. struck k cs) (sym h.count)

    answers_untraced : row_answers cs (run_answers piles cs s) ≡ row_answers ds (run_answers piles ds s)
    answers_untraced =
        let is = stands_is piles ok s l h in
        ap (row_answers cs) (ap (run_answers piles cs) is ∙ (run_both piles ok cs l sound h.blocks).1)
        ∙ (untraced piles cs l).answers
        ∙ ap (λ xs. row_answers xs (ledger_answers piles xs l)) back
        ∙ sym (ap (row_answers ds) (ap (run_answers piles ds) is ∙ (run_both piles ok ds l (sound_struck s.rows cs sound) h.blocks).1))

    end_untraced : run piles cs s ≡ run piles ds s
    end_untraced =
        let is = stands_is piles ok s l h in
        ap (run piles cs) is ∙ (run_both piles ok cs l sound h.blocks).0
        ∙ ap (state_of piles) ((untraced piles cs l).end ∙ ap (λ xs. ledger_run xs l) back)
        ∙ sym (ap (run piles ds) is ∙ (run_both piles ok ds l (sound_struck s.rows cs sound) h.blocks).0)

  pub ran_follows : (calls : List Call) (before after : State) (told : List Answer) → Ran piles calls before after told
      → (l : Ledger) → StandsFor piles before l → Follows piles calls before after told l
  ran_follows calls before after told ran l h =
      let kept = keeps_up piles ok calls ran.sound before l h in
      record {
        made = ran.end;
        told = ran.answered;
        answered = ran.answered ∙ kept.answers;
        stands = subst (λ s. StandsFor piles s (ledger_run calls l)) (sym ran.end) kept.stands;
        struck_out = struck_right before.rows calls;
        untraced = ap (row_answers calls) ran.answered ∙ answers_untraced calls ran.sound before l h;
        end = ran.end ∙ end_untraced calls ran.sound before l h;
      }
