-- When a list of calls is begun: each call finds the memory and the answer place that it is to be handed.
-- Assumes nothing.
use Rattle.std.specs.Prelude.{◌≡◌, ℕ, Bool, cond, not, ◌&&◌, ◌||◌, List, length, Some, None, Option, Result, MatchResult, ◌==◌, nat_le, option_map}
use Rattle.std.specs.List.{position_from}
use Rattle.strips.specs.Rows.{rows_for}
use Rattle.strips.specs.declared.fault.StripFault.{StripFault}
use Rattle.ledgers.specs.Ledgers.{Answer, fits, lay_refusal, wrong_memory}
use Rattle.ledgers.specs.declared.call.Act.{Act}
use Rattle.ledgers.specs.declared.call.Act.TheVariants.{Write, Exchange, Convert, Read, Stamp}
use Rattle.ledgers.specs.declared.call.Call.{Call}
use Rattle.replays.specs.declared.making.Room.{Room}
use Rattle.replays.specs.declared.ready.Lengths.{Lengths}
use Rattle.replays.specs.declared.ready.Unready.{Unready}
use Rattle.replays.specs.declared.ready.Unready.TheVariants.{Refused, Answers, NoRoom}

-- the lengths of what is handed in
abbrev pub lengths : (memory : List ℕ) → Room → List Answer → Lengths
lengths m r x = record { memory = length m; spare = length r.spare.now; blank = length r.blank.now; answers = length x }

-- what is at hand is afterwards what it was: the same two slices, of the same bytes
pub record Untouched (r r' : Room) : Type 0 where
  pub spare : r'.spare.now ≡ r.spare.now
  pub blank : r'.blank.now ≡ r.blank.now
  pub same_spare : r'.spare.ghost_name ≡ r.spare.ghost_name
  pub same_blank : r'.blank.ghost_name ≡ r.blank.ghost_name

-- the length of the answer place that an act names; one without names none, and 16 bytes are always at hand
abbrev pub place_named : Act → ℕ
place_named (Write i b) = 16
place_named (Exchange i j) = 16
place_named (Convert d) = 16
place_named (Read i len) = len
place_named (Stamp len) = len

-- a place of 16 bytes, or a front part of the blank
abbrev pub roomy : (blank len : ℕ) → Bool
roomy blank len = len == 16 || nat_le len blank

-- at n rows: the strip's own memory or a front part of the spare, and room for the answer
abbrev pub served : (n spare blank : ℕ) → Call → Bool
served n spare blank c = (fits n c.memory || nat_le c.memory spare) && roomy blank (place_named c.act)

-- the first call that is not served, and that there is no room for it
abbrev pub first_unserved : (n spare blank : ℕ) → List Call → Option ℕ
first_unserved n spare blank calls = position_from (λ c. not (served n spare blank c)) 0 calls

abbrev pub no_room : (n spare blank : ℕ) → List Call → Option Unready
no_room n spare blank calls = option_map NoRoom (first_unserved n spare blank calls)

-- a refusal of the strip's own, and else what follows
abbrev pub after : Option StripFault → Option Unready → Option Unready
after None o = o
after (Some f) o = Some (Refused f)

-- by the lengths of the strip's memory, the spare, the blank and the answers
abbrev pub unserved : (n : ℕ) → Lengths → List Call → Option Unready
unserved n h calls = cond (h.answers == length calls) (no_room n h.spare h.blank calls) (Some Answers)

-- a list on a strip of n rows, and one on a text of len bytes
abbrev pub unready : (n : ℕ) → Lengths → List Call → Option Unready
unready n h calls = after (wrong_memory n h.memory) (unserved n h calls)

abbrev pub unready_text : (len : ℕ) → Lengths → List Call → Option Unready
unready_text len h calls = after (lay_refusal len h.memory) (unserved (rows_for len) h calls)

-- what a check answers that looks for such a thing: that it found none, or what it found
abbrev pub Finds : Option Unready → Result (Unit {0}) Unready → Type 0
Finds o r = MatchResult r (λ _. o ≡ None) (λ e. o ≡ Some e)
