use Rattle.std.proofs.Common.{map}
use Rattle.aes.specs.Keys.{row}
use Rattle.aes.proofs.Schedule.{Keyed}
use Rattle.aes.proofs.keys.KeySet.new.Given as goal

abbrev pub invariant-loop-i : goal.invariant-loop-i
invariant-loop-i l = Keyed (row (map (λ k. k.bytes) l.initial.rows) 0) (map (λ k. k.bytes) l.rows) l.i
