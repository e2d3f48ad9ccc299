use Rattle.std.proofs.Common.{◌≡◌, take}
use Rattle.ciphers.specs.Rounds.{rounds}
use Rattle.ciphers.proofs.rounds.Tweak.rounds.Given as goal

abbrev pub invariant-loop-key : goal.invariant-loop-key
invariant-loop-key l = l.s ≡ rounds l.self.bytes (take l.key-index l.keys) l.initial.s
