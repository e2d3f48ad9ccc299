-- What a call on a strip returns and leaves.
-- Assumes nothing.
use Rattle.std.specs.Prelude.{◌≡◌, ℕ, Bool, List, length, Some, None, Ok, Err, Decides, MatchResult, Option, Result}
use Rattle.strips.specs.declared.place.Place.{Place}
use Rattle.strips.specs.declared.fault.StripFault.{StripFault}
use Rattle.ledgers.specs.Rows.{Piles}
use Rattle.ledgers.specs.Ledgers.{Answer, Ledger, first, ledger_lay, lay_refusal, wrong_memory}
use Rattle.ledgers.specs.Machine.{State, laid, step, step_answer}
use Rattle.ledgers.specs.Laws.{StandsFor}
use Rattle.ledgers.specs.declared.call.Act.{Act}
use Rattle.ledgers.specs.declared.call.Call.{Call}
use Rattle.sealed.specs.declared.strip.Strip.{Strip}

-- a strip with its memory, and an act that is handed this memory
abbrev pub state : Strip → List ℕ → State
state s m = record { rows = s.rows.count; place = s.place; bytes = m }

abbrev pub call : Act → List ℕ → Call
call a m = record { memory = length m; act = a }

abbrev pub at_place : Place → Strip → Strip
at_place p s = record { rows = s.rows; place = p }

-- what is returned with an answer, and what an answer place then holds
abbrev pub returned : Answer → Result (Unit {0}) StripFault
returned (Ok x) = Ok tt
returned (Err f) = Err f

abbrev pub held : Answer → List ℕ → List ℕ
held (Ok None) x = x
held (Ok (Some b)) x = b
held (Err f) x = x

-- a check that passes where P holds, and else refuses with f
abbrev pub Checks : {T : Type 0} → Type 0 → StripFault → Result T StripFault → Type 0
Checks P f r = MatchResult r (λ _. P) (λ e. (¬ P) × (e ≡ f))

-- a call that writes: s and m are the strip and its memory before it, s' and m' after it
pub record Does (piles : Piles) (a : Act) (s s' : Strip) (m m' : List ℕ) (r : Result (Unit {0}) StripFault) : Type 0 where
  pub result : r ≡ returned (step_answer piles (call a m) (state s m))
  pub strip : s' ≡ at_place (step piles (call a m) (state s m)).place s
  pub memory : m' ≡ (step piles (call a m) (state s m)).bytes

-- a call that answers: x is the answer place before it, x' after it
pub record Shows (piles : Piles) (a : Act) (s : Strip) (m x x' : List ℕ) (r : Result (Unit {0}) StripFault) : Type 0 where
  pub result : r ≡ returned (step_answer piles (call a m) (state s m))
  pub place : x' ≡ held (step_answer piles (call a m) (state s m)) x

-- lay: the strip and the memory are those that are laid from the text, and under any two piles they stand for its ledger
pub record Laid (number : ℕ) (text m m' : List ℕ) (s : Strip) : Type 0 where
  pub passed : lay_refusal (length text) (length m) ≡ None
  pub is : state s m' ≡ laid number text
  pub stands : (piles : Piles) → StandsFor piles (state s m') (ledger_lay number text)

-- or it is refused as the table says, with the memory as it was
pub record LayRefused (text m m' : List ℕ) (f : StripFault) : Type 0 where
  pub fault : lay_refusal (length text) (length m) ≡ Some f
  pub memory : m' ≡ m

abbrev pub Lays : ℕ → List ℕ → List ℕ → List ℕ → Result Strip StripFault → Type 0
Lays number text m m' r = MatchResult r (Laid number text m m') (LayRefused text m m')

-- two strips are compared: refused where either memory does not fit its strip, and else true exactly where the ledgers
-- that they stand for have the same rows
abbrev pub SameRows : Piles → (s t : State) → Bool → Type 0
SameRows piles s t b = (l k : Ledger) → StandsFor piles s l → StandsFor piles t k → Decides b (l.rows ≡ k.rows)

abbrev pub compare_refusal : (s t : Strip) (m n : List ℕ) → Option StripFault
compare_refusal s t m n = first (wrong_memory s.rows.count (length m)) (wrong_memory t.rows.count (length n))

pub record Compared (piles : Piles) (s t : Strip) (m n : List ℕ) (b : Bool) : Type 0 where
  pub passed : compare_refusal s t m n ≡ None
  pub same : SameRows piles (state s m) (state t n) b

abbrev pub Compares : Piles → (s t : Strip) (m n : List ℕ) → Result Bool StripFault → Type 0
Compares piles s t m n r = MatchResult r (Compared piles s t m n) (λ f. compare_refusal s t m n ≡ Some f)
