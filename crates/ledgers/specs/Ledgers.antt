-- The ledger of a strip: rows and a place. It is fed the calls' arguments, and of memory and answer places the lengths;
-- no cipher is in it but in the value of a stamp.
-- Assumes nothing.
use Rattle.std.specs.Prelude.{ℕ, ◌-◌, ◌*◌, Bool, true, false, List, [], ◌∷◌, ◌++◌, length, replicate, Some, None, Ok, Err, Option, Result, ◌==◌, nat_le, nat_lt, slice_index_or, slice_set}
use Rattle.strips.specs.Rows.{most_text, rows_for}
use Rattle.strips.specs.declared.fault.StripFault.{StripFault}
use Rattle.strips.specs.declared.fault.StripFault.TheVariants.{LongText, WrongMemory, NoSuchRow, WrongAnswerPlace}
use Rattle.strips.specs.declared.place.Pile.TheVariants.{Home}
use Rattle.strips.specs.declared.place.Station.TheVariants.{Plain}
use Rattle.strips.specs.declared.place.Place.{Place}
use Rattle.ledgers.specs.Rows.{Piles, cells}
use Rattle.ledgers.specs.Stamps.{stamp}
use Rattle.ledgers.specs.declared.call.Change.{Change}
use Rattle.ledgers.specs.declared.call.Change.TheVariants.{Turn, Renumber, Transfer}
use Rattle.ledgers.specs.declared.call.Act.{Act}
use Rattle.ledgers.specs.declared.call.Act.TheVariants.{Write, Exchange, Convert, Read, Stamp}
use Rattle.ledgers.specs.declared.call.Call.{Call}

-- ---- answers: done, what the answer place then holds, or a refusal
abbrev pub Answer : Type 0
Answer = Result (Option (List ℕ)) StripFault

abbrev pub done : Answer
done = Ok None

abbrev pub shown : List ℕ → Answer
shown b = Ok (Some b)

abbrev pub refused : StripFault → Answer
refused f = Err f

-- ---- the ledger
pub record Ledger : Type 0 where
  pub rows : List (List ℕ)
  pub place : Place

-- ---- laying
-- how many rows a text takes, and the text with its last row filled up with zeros
abbrev pub count_of : List ℕ → ℕ
count_of text = rows_for (length text)

abbrev pub filled : List ℕ → List ℕ
filled text = text ++ replicate (16 * count_of text - length text) 0

abbrev pub ledger_lay : ℕ → List ℕ → Ledger
ledger_lay number text = record { rows = cells (count_of text) (filled text); place = record { number = number; station = Plain; pile = Home } }

-- ---- refusals
-- the fault of a test that must pass, and the first of two
abbrev pub unless : Bool → StripFault → Option StripFault
unless true f = None
unless false f = Some f

abbrev pub first : Option StripFault → Option StripFault → Option StripFault
first None g = g
first (Some f) g = Some f

-- memory of 16 bytes for each of n rows
abbrev pub fits : ℕ → ℕ → Bool
fits n len = len == 16 * n

abbrev pub wrong_memory : ℕ → ℕ → Option StripFault
wrong_memory n len = unless (fits n len) WrongMemory

abbrev pub no_row : ℕ → ℕ → Option StripFault
no_row n i = unless (nat_lt i n) (NoSuchRow i)

abbrev pub wrong_place : ℕ → Option StripFault
wrong_place len = unless (len == 16) WrongAnswerPlace

-- lay, by its text's length and its memory's
abbrev pub lay_refusal : ℕ → ℕ → Option StripFault
lay_refusal len memory = first (unless (nat_le len most_text) LongText) (wrong_memory (rows_for len) memory)

-- the other calls at n rows: first the memory, then what the act names
abbrev pub act_refusal : ℕ → Act → Option StripFault
act_refusal n (Write i b) = no_row n i
act_refusal n (Exchange i j) = first (no_row n i) (no_row n j)
act_refusal n (Convert d) = None
act_refusal n (Read i len) = first (no_row n i) (wrong_place len)
act_refusal n (Stamp len) = wrong_place len

abbrev pub refusal : ℕ → Call → Option StripFault
refusal n c = first (wrong_memory n c.memory) (act_refusal n c.act)

-- ---- one call
-- what a conversion makes of a place
abbrev pub changed : Change → Place → Place
changed (Turn s) p = record { number = p.number; station = s; pile = p.pile }
changed (Renumber n) p = record { number = n; station = p.station; pile = p.pile }
changed (Transfer q) p = record { number = p.number; station = p.station; pile = q }

-- what an accepted act makes of the ledger, and what it answers
abbrev pub accepted : Act → Ledger → Ledger
accepted (Write i b) l = record { rows = slice_set l.rows i b; place = l.place }
accepted (Exchange i j) l = record { rows = slice_set (slice_set l.rows i (slice_index_or l.rows j [])) j (slice_index_or l.rows i []); place = l.place }
accepted (Convert d) l = record { rows = l.rows; place = changed d l.place }
accepted (Read i len) l = l
accepted (Stamp len) l = l

abbrev pub answer_of : Piles → Act → Ledger → Answer
answer_of piles (Write i b) l = done
answer_of piles (Exchange i j) l = done
answer_of piles (Convert d) l = done
answer_of piles (Read i len) l = shown (slice_index_or l.rows i [])
answer_of piles (Stamp len) l = shown (stamp piles l.place l.rows)

-- a refused call changes nothing and answers its fault
abbrev pub kept_or : {S : Type 0} → Option StripFault → S → S → S
kept_or None old new = new
kept_or (Some f) old new = old

abbrev pub refused_or : Option StripFault → Answer → Answer
refused_or None a = a
refused_or (Some f) a = refused f

abbrev pub ledger_step : Call → Ledger → Ledger
ledger_step c l = kept_or (refusal (length l.rows) c) l (accepted c.act l)

abbrev pub ledger_answer : Piles → Call → Ledger → Answer
ledger_answer piles c l = refused_or (refusal (length l.rows) c) (answer_of piles c.act l)

-- ---- a list of calls
abbrev pub ledger_run : List Call → Ledger → Ledger
ledger_run [] l = l
ledger_run (c ∷ cs) l = ledger_run cs (ledger_step c l)

abbrev pub ledger_answers : Piles → List Call → Ledger → List Answer
ledger_answers piles [] l = []
ledger_answers piles (c ∷ cs) l = ledger_answer piles c l ∷ ledger_answers piles cs (ledger_step c l)
