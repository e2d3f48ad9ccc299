-- A list of calls without the conversions that leave no trace: all but the last accepted one of each kind.
-- Assumes nothing.
use Rattle.std.specs.Prelude.{◌≡◌, ℕ, suc, ◌≤◌, Bool, true, false, cond, not, ◌&&◌, ◌||◌, List, [], ◌∷◌}
use Rattle.ledgers.specs.Ledgers.{Answer, fits}
use Rattle.ledgers.specs.declared.call.Change.{Change}
use Rattle.ledgers.specs.declared.call.Change.TheVariants.{Turn, Renumber, Transfer}
use Rattle.ledgers.specs.declared.call.Act.{Act}
use Rattle.ledgers.specs.declared.call.Act.TheVariants.{Write, Exchange, Convert, Read, Stamp}
use Rattle.ledgers.specs.declared.call.Call.{Call}

pub data Kind : Type 0 where
  turns renumbers transfers : Kind

abbrev pub kind : Change → Kind
kind (Turn s) = turns
kind (Renumber n) = renumbers
kind (Transfer q) = transfers

abbrev pub same_kind : Kind → Kind → Bool
same_kind turns turns = true
same_kind turns renumbers = false
same_kind turns transfers = false
same_kind renumbers turns = false
same_kind renumbers renumbers = true
same_kind renumbers transfers = false
same_kind transfers turns = false
same_kind transfers renumbers = false
same_kind transfers transfers = true

abbrev pub converts : Kind → Act → Bool
converts k (Write i b) = false
converts k (Exchange i j) = false
converts k (Convert d) = same_kind k (kind d)
converts k (Read i len) = false
converts k (Stamp len) = false

-- does the list hold an accepted conversion of the kind, at a strip of n rows?
abbrev pub later : Kind → ℕ → List Call → Bool
later k n [] = false
later k n (c ∷ cs) = (converts k c.act && fits n c.memory) || later k n cs

-- is this call kept before those behind it? Of conversions only the last accepted of each kind
abbrev pub stays : ℕ → Bool → List Call → Act → Bool
stays n fit cs (Write i b) = true
stays n fit cs (Exchange i j) = true
stays n fit cs (Convert d) = fit && not (later (kind d) n cs)
stays n fit cs (Read i len) = true
stays n fit cs (Stamp len) = true

abbrev pub struck : ℕ → List Call → List Call
struck n [] = []
struck n (c ∷ cs) = cond (stays n (fits n c.memory) cs c.act) (c ∷ struck n cs) (struck n cs)

-- ---- that so much is struck, and no more: of each kind one conversion at the most is left, and all other calls are
abbrev pub how_many : Kind → List Call → ℕ
how_many k [] = 0
how_many k (c ∷ cs) = cond (converts k c.act) (suc (how_many k cs)) (how_many k cs)

abbrev pub is_conversion : Act → Bool
is_conversion (Write i b) = false
is_conversion (Exchange i j) = false
is_conversion (Convert d) = true
is_conversion (Read i len) = false
is_conversion (Stamp len) = false

abbrev pub others : List Call → List Call
others [] = []
others (c ∷ cs) = cond (is_conversion c.act) (others cs) (c ∷ others cs)

pub record StruckOut (calls left : List Call) : Type 0 where
  pub once : (k : Kind) → how_many k left ≤ 1
  pub rest : others left ≡ others calls

-- ---- the answers to reads, writes and exchanges
abbrev pub on_rows : Act → Bool
on_rows (Write i b) = true
on_rows (Exchange i j) = true
on_rows (Convert d) = false
on_rows (Read i len) = true
on_rows (Stamp len) = false

abbrev pub row_answers : List Call → List Answer → List Answer
row_answers [] told = []
row_answers (c ∷ cs) [] = []
row_answers (c ∷ cs) (a ∷ told) = cond (on_rows c.act) (a ∷ row_answers cs told) (row_answers cs told)
