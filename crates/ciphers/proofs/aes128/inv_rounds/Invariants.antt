use Rattle.std.proofs.Common.{◌≡◌}
use Rattle.ciphers.specs.Rounds.{inv_plain_rounds}
use Rattle.ciphers.proofs.aes128.inv_rounds.Given as goal

-- what is left to undo, of what has been undone, is the whole
abbrev pub invariant-loop-key : goal.invariant-loop-key
invariant-loop-key l = inv_plain_rounds l.key-iterator.iter.rest.now l.s ≡ inv_plain_rounds l.keys l.initial.s
