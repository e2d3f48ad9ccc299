-- What a strip is asked, as an act.
use Rattle.std.specs.Prelude.{ℕ}
use Rattle.ledgers.specs.declared.call.Act.{Act}
use Rattle.ledgers.specs.declared.call.Act.TheVariants.{Read, Stamp}
use Rattle.replays.specs.declared.making.Question.{Question}
use Rattle.replays.specs.declared.making.Question.TheVariants as question

-- with an answer place of so many bytes
abbrev pub asking : Question → ℕ → Act
asking (question.Row i) len = Read i len
asking question.Stamp len = Stamp len
