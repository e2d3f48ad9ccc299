-- What holds of strips, for any two piles that keep the law of forkciphers.
-- Assumes nothing.
use Rattle.std.specs.Prelude.{◌≡◌, ℕ, ◌*◌, ◌<◌, List, [], length, take, drop, ◌≢◌, slice_index_or, All}
use Rattle.interfaces.specs.Maps.{Lawful}
use Rattle.strips.specs.declared.place.Pile.{Pile}
use Rattle.strips.specs.declared.place.Station.{Station}
use Rattle.ledgers.specs.Rows.{Piles, IsBlock, opened, stored}
use Rattle.ledgers.specs.Ledgers.{Answer, Ledger, ledger_run, ledger_answers}
use Rattle.ledgers.specs.Machine.{State, stamp_of, step, run, run_answers}
use Rattle.ledgers.specs.Struck.{StruckOut, struck, row_answers}
use Rattle.ledgers.specs.declared.call.Change.TheVariants.{Turn}
use Rattle.ledgers.specs.declared.call.Act.TheVariants.{Convert}
use Rattle.ledgers.specs.declared.call.Call.{Call}

abbrev pub BothLawful : Piles → Type 0
BothLawful piles = (q : Pile) → Lawful (piles q)

-- a strip with its bytes stands for a ledger: it has the ledger's row count and place, and each row of the bytes is the
-- place's image of the ledger's row
pub record StandsFor (piles : Piles) (s : State) (l : Ledger) : Type 0 where
  pub count : s.rows ≡ length l.rows
  pub same_place : s.place ≡ l.place
  pub size : length s.bytes ≡ 16 * s.rows
  pub each : (k : ℕ) → k < s.rows → take 16 (drop (16 * k) s.bytes) ≡ stored piles s.place k (slice_index_or l.rows k [])
  pub blocks : All IsBlock l.rows

-- the one ledger that a strip can stand for
abbrev pub ledger_of : Piles → State → Ledger
ledger_of piles s = record { rows = opened piles s.place s.rows s.bytes; place = s.place }

-- ---- over a whole list of calls
-- a strip was asked the calls, gave these answers and ended so
pub record Follows (piles : Piles) (calls : List Call) (before after : State) (answers : List Answer) (l : Ledger) : Type 0 where
  -- each call was made as the strip's own calls promise, on what the one before left
  pub made : after ≡ run piles calls before
  pub told : answers ≡ run_answers piles calls before
  -- the answers are the ledger's, and the end stands for the ledger's end
  pub answered : answers ≡ ledger_answers piles calls l
  pub stands : StandsFor piles after (ledger_run calls l)
  -- conversions leave no trace: with all but the last accepted of each kind struck out, the calls on rows answer alike,
  -- and the strip and its bytes end the same
  pub struck_out : StruckOut calls (struck before.rows calls)
  pub untraced : row_answers calls answers ≡ row_answers (struck before.rows calls) (run_answers piles (struck before.rows calls) before)
  pub end : after ≡ run piles (struck before.rows calls) before

-- ---- of two strips under the same piles
-- at one place and row count, bytes are equal exactly when the ledgers' rows are
abbrev pub BytesTellRows : Piles → State → State → Type 0
BytesTellRows piles s t =
    (l m : Ledger) → StandsFor piles s l → StandsFor piles t m → s.rows ≡ t.rows → s.place ≡ t.place
    → (s.bytes ≡ t.bytes → l.rows ≡ m.rows) × (l.rows ≡ m.rows → s.bytes ≡ t.bytes)

-- rows that differ in just one
pub record OneApart (xs ys : List (List ℕ)) : Type 0 where
  pub at : ℕ
  pub inside : at < length xs
  pub long : length xs ≡ length ys
  pub apart : slice_index_or xs at [] ≢ slice_index_or ys at []
  pub alike : (k : ℕ) → (k ≢ at) → slice_index_or xs k [] ≡ slice_index_or ys k []

-- under one number and pile, and whatever their stations, strips whose ledgers are one row apart have different stamps
abbrev pub StampTellsRow : Piles → State → Type 0
StampTellsRow piles s =
    (t : State) (l m : Ledger) → StandsFor piles s l → StandsFor piles t m
    → s.place.number ≡ t.place.number → s.place.pile ≡ t.place.pile → OneApart l.rows m.rows
    → stamp_of piles s ≢ stamp_of piles t

-- ---- turns
-- a turn that is handed memory of n bytes
abbrev pub turn_call : ℕ → Station → Call
turn_call n station = record { memory = n; act = Convert (Turn station) }

-- no turn, accepted or refused, changes the stamp
abbrev pub TurnKeepsStamp : Piles → State → Type 0
TurnKeepsStamp piles s =
    (l : Ledger) → StandsFor piles s l → (n : ℕ) (station : Station) → stamp_of piles (step piles (turn_call n station) s) ≡ stamp_of piles s
