-- What each answer of the crate tells.
use Rattle.std.specs.Prelude.{◌≡◌, ℕ, ◌<◌, ◌≤◌, Bool, true, false, List, ◌++◌, codes, decimal, Ok, Err, Result}
use Rattle.strips.specs.Faults as strip
use Rattle.files.specs.declared.fault.FileFault.{FileFault}
use Rattle.files.specs.declared.fault.FileFault.TheVariants.{Short, Mark, Edition, Shape, Field, Order, BodyStart, TotalRows, NoSuchEntry, Stamp, ShortOutput, Strip}
use Rattle.files.specs.Layout.{entries}

-- a refusal's number, the entries fully checked before it (or the entry named), the byte where the faulty field
-- begins, and the row of a strip fault that it carries
pub record Fault : Type 0 where
  pub number : ℕ
  pub entry : ℕ
  pub byte : ℕ
  pub row : ℕ

abbrev pub fault : (number entry byte : ℕ) → Fault
fault n e b = record { number = n; entry = e; byte = b; row = 0 }

abbrev pub told : FileFault → Fault
told Short = fault 5 0 0
told (Mark byte) = fault 6 0 byte
told (Edition byte) = fault 7 0 byte
told (Shape byte) = fault 8 0 byte
told (Field entry byte) = fault 9 entry byte
told (Order entry byte) = fault 10 entry byte
told (BodyStart entry byte) = fault 11 entry byte
told (TotalRows entry byte) = fault 12 entry byte
told (NoSuchEntry entry) = fault 13 entry 0
told (Stamp entry byte) = fault 14 entry byte
told (ShortOutput entry) = fault 15 entry 0
told (Strip entry f) = record { number = (strip.told f).number; entry = entry; byte = 0; row = (strip.told f).row }

-- a refusal in words
abbrev pub figures_text : Fault → List ℕ
figures_text f = codes "fault " ++ decimal f.number ++ codes " at entry " ++ decimal f.entry ++ codes ", byte " ++ decimal f.byte

abbrev pub fault_text : FileFault → List ℕ
fault_text (Strip entry f) = codes "entry " ++ decimal entry ++ codes ": " ++ strip.fault_text f
fault_text f = figures_text (told f)

pub data Verdict : Type 0 where
  sound : Verdict
  refused : Fault → Verdict

abbrev pub is_sound : Verdict → Bool
is_sound sound = true
is_sound (refused f) = false

-- what a call answered, as a verdict
abbrev pub answer : {T : Type 0} → Result T FileFault → Verdict
answer (Ok x) = sound
answer (Err e) = refused (told e)

-- a call that names entry i: it gives what is wanted, or there is no such entry and it refuses so
abbrev pub Named : {T : Type 0} → List ℕ → ℕ → (T → Type 0) → Result T FileFault → Type 0
Named bs i Wanted (Ok x) = (i < entries bs) × Wanted x
Named bs i Wanted (Err e) = (entries bs ≤ i) × (told e ≡ told (NoSuchEntry i))
