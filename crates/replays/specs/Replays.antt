-- What a list of calls on one strip answers and leaves.
-- Assumes nothing.
use Rattle.std.specs.Prelude.{◌≡◌, ℕ, List, length, Some, None, MatchResult, Result}
use Rattle.ledgers.specs.Rows.{Piles}
use Rattle.ledgers.specs.Ledgers.{Answer, Ledger, ledger_lay}
use Rattle.ledgers.specs.Machine.{laid}
use Rattle.ledgers.specs.Laws.{Follows, StandsFor, ledger_of}
use Rattle.ledgers.specs.declared.call.Call.{Call}
use Rattle.sealed.specs.Calls.{state}
use Rattle.sealed.specs.declared.strip.Strip.{Strip}
use Rattle.replays.specs.Ready.{unready, unready_text}
use Rattle.replays.specs.declared.ready.Lengths.{Lengths}
use Rattle.replays.specs.declared.ready.Unready.{Unready}

-- a list on a strip: x are the answers before it, x' after it. Begun, it follows whichever ledger the strip stood for, and
-- there is one
pub record Resumed (piles : Piles) (calls : List Call) (h : Lengths) (s s' : Strip) (m m' : List ℕ) (x' : List Answer) : Type 0 where
  pub ready : unready s.rows.count h calls ≡ None
  pub stood : StandsFor piles (state s m) (ledger_of piles (state s m))
  pub follows : (l : Ledger) → StandsFor piles (state s m) l → Follows piles calls (state s m) (state s' m') x' l

-- not begun, all is as it was
pub record NotResumed (calls : List Call) (h : Lengths) (s s' : Strip) (m m' : List ℕ) (x x' : List Answer) (e : Unready) : Type 0 where
  pub why : unready s.rows.count h calls ≡ Some e
  pub strip : s' ≡ s
  pub memory : m' ≡ m
  pub answers : x' ≡ x

abbrev pub Resumes : Piles → List Call → Lengths → (s s' : Strip) (m m' : List ℕ) (x x' : List Answer) → Result (Unit {0}) Unready → Type 0
Resumes piles calls h s s' m m' x x' r = MatchResult r (λ _. Resumed piles calls h s s' m m' x') (NotResumed calls h s s' m m' x x')

-- a list on a text: it follows the ledger that is laid from the text
pub record Replayed (piles : Piles) (calls : List Call) (h : Lengths) (number : ℕ) (text m' : List ℕ) (x' : List Answer) (s : Strip) : Type 0 where
  pub ready : unready_text (length text) h calls ≡ None
  pub follows : Follows piles calls (laid number text) (state s m') x' (ledger_lay number text)

pub record NotReplayed (calls : List Call) (h : Lengths) (text m m' : List ℕ) (x x' : List Answer) (e : Unready) : Type 0 where
  pub why : unready_text (length text) h calls ≡ Some e
  pub memory : m' ≡ m
  pub answers : x' ≡ x

abbrev pub Replays : Piles → List Call → Lengths → (number : ℕ) (text m m' : List ℕ) (x x' : List Answer) → Result Strip Unready → Type 0
Replays piles calls h number text m m' x x' r = MatchResult r (Replayed piles calls h number text m' x') (NotReplayed calls h text m m' x x')
