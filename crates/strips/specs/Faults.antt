-- What a strip fault tells: its number, and the row refused (0 where no row is); and its text.
use Rattle.std.specs.Prelude.{ℕ, List, ◌++◌, codes, decimal}
use Rattle.strips.specs.declared.fault.StripFault.{StripFault}
use Rattle.strips.specs.declared.fault.StripFault.TheVariants.{LongText, WrongMemory, NoSuchRow, WrongAnswerPlace}

pub record Fault : Type 0 where
  pub number : ℕ
  pub row : ℕ

abbrev pub fault : (number row : ℕ) → Fault
fault n r = record { number = n; row = r }

abbrev pub told : StripFault → Fault
told LongText = fault 1 0
told WrongMemory = fault 2 0
told (NoSuchRow row) = fault 3 row
told WrongAnswerPlace = fault 4 0

abbrev pub fault_text : StripFault → List ℕ
fault_text LongText = codes "a text of over 65,536 bytes"
fault_text WrongMemory = codes "memory that is not 16 bytes for each row"
fault_text (NoSuchRow row) = codes "no row " ++ decimal row
fault_text WrongAnswerPlace = codes "an answer place that is not 16 bytes"
