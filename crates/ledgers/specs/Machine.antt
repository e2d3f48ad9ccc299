-- A strip with its bytes, and what the calls make of them: stored rows, where the ledger has plain ones.
-- Assumes nothing. The laws over it are in Laws.
use Rattle.std.specs.Prelude.{◌≡◌, ℕ, List, [], ◌∷◌, slice_index_or, slice_set, All}
use Rattle.std.specs.List.{concat}
use Rattle.strips.specs.declared.place.Place.{Place}
use Rattle.ledgers.specs.Rows.{Piles, IsBlock, stored, plain, each_row, cells, opened}
use Rattle.ledgers.specs.Stamps.{stamp}
use Rattle.ledgers.specs.Ledgers.{Answer, done, shown, count_of, filled, ledger_lay, refusal, changed, kept_or, refused_or}
use Rattle.ledgers.specs.declared.call.Act.{Act}
use Rattle.ledgers.specs.declared.call.Act.TheVariants.{Write, Exchange, Convert, Read, Stamp}
use Rattle.ledgers.specs.declared.call.Call.{Call}

pub record State : Type 0 where
  pub rows : ℕ
  pub place : Place
  pub bytes : List ℕ

-- the strip that is laid from a text
abbrev pub laid : ℕ → List ℕ → State
laid number text = record { rows = count_of text; place = (ledger_lay number text).place; bytes = filled text }

-- the stamp of the rows whose bytes these are
abbrev pub stamp_of : Piles → State → List ℕ
stamp_of piles s = stamp piles s.place (opened piles s.place s.rows s.bytes)

-- ---- an accepted act on the rows cs that are stored at the place p
-- row i's plain block
abbrev pub plain_row : Piles → Place → List (List ℕ) → ℕ → List ℕ
plain_row piles p cs i = plain piles p i (slice_index_or cs i [])

-- a row that is stored at p, stored at q
abbrev pub restored : Piles → Place → Place → ℕ → List ℕ → List ℕ
restored piles p q k c = stored piles q k (plain piles p k c)

abbrev pub moved : Piles → Place → Place → List (List ℕ) → List (List ℕ)
moved piles p q cs = each_row (restored piles p q) 0 cs

abbrev pub place_after : Act → Place → Place
place_after (Write i b) p = p
place_after (Exchange i j) p = p
place_after (Convert d) p = changed d p
place_after (Read i len) p = p
place_after (Stamp len) p = p

abbrev pub cells_after : Piles → Act → Place → List (List ℕ) → List (List ℕ)
cells_after piles (Write i b) p cs = slice_set cs i (stored piles p i b)
cells_after piles (Exchange i j) p cs = slice_set (slice_set cs i (stored piles p i (plain_row piles p cs j))) j (stored piles p j (plain_row piles p cs i))
cells_after piles (Convert d) p cs = moved piles p (changed d p) cs
cells_after piles (Read i len) p cs = cs
cells_after piles (Stamp len) p cs = cs

abbrev pub reply : Piles → Act → State → Answer
reply piles (Write i b) s = done
reply piles (Exchange i j) s = done
reply piles (Convert d) s = done
reply piles (Read i len) s = shown (plain_row piles s.place (cells s.rows s.bytes) i)
reply piles (Stamp len) s = shown (stamp_of piles s)

abbrev pub carried : Piles → Act → State → State
carried piles a s = record { rows = s.rows; place = place_after a s.place; bytes = concat (cells_after piles a s.place (cells s.rows s.bytes)) }

-- ---- one call, refused or not, and a list of calls, each on what the one before left
abbrev pub step : Piles → Call → State → State
step piles c s = kept_or (refusal s.rows c) s (carried piles c.act s)

abbrev pub step_answer : Piles → Call → State → Answer
step_answer piles c s = refused_or (refusal s.rows c) (reply piles c.act s)

abbrev pub run : Piles → List Call → State → State
run piles [] s = s
run piles (c ∷ cs) s = run piles cs (step piles c s)

abbrev pub run_answers : Piles → List Call → State → List Answer
run_answers piles [] s = []
run_answers piles (c ∷ cs) s = step_answer piles c s ∷ run_answers piles cs (step piles c s)

-- ---- calls that were made
-- a call's own block is a block, as the types of the code have it
abbrev pub SoundAct : Act → Type 0
SoundAct (Write i b) = IsBlock b
SoundAct (Exchange i j) = Unit {0}
SoundAct (Convert d) = Unit {0}
SoundAct (Read i len) = Unit {0}
SoundAct (Stamp len) = Unit {0}

abbrev pub Sound : Call → Type 0
Sound c = SoundAct c.act

-- one call: what it left and answered
pub record Made (piles : Piles) (c : Call) (before after : State) (answer : Answer) : Type 0 where
  pub end : after ≡ step piles c before
  pub answered : answer ≡ step_answer piles c before
  pub sound : Sound c

-- a list of calls
pub record Ran (piles : Piles) (calls : List Call) (before after : State) (answers : List Answer) : Type 0 where
  pub end : after ≡ run piles calls before
  pub answered : answers ≡ run_answers piles calls before
  pub sound : All Sound calls
