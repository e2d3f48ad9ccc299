use Rattle.std.proofs.Common.{◌≡◌, take}
use Rattle.ciphers.specs.Rounds.{plain_rounds}
use Rattle.ciphers.proofs.aes128.rounds.Given as goal

abbrev pub invariant-loop-key : goal.invariant-loop-key
invariant-loop-key l = l.s ≡ plain_rounds (take l.key-index l.keys) l.initial.s
