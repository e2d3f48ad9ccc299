use Rattle.std.proofs.Common.{◌≡◌}
use Rattle.ciphers.specs.Rounds.{inv_rounds}
use Rattle.ciphers.proofs.rounds.Tweak.inv_rounds.Given as goal

-- what is left to undo, of what has been undone, is the whole
abbrev pub invariant-loop-key : goal.invariant-loop-key
invariant-loop-key l =
    inv_rounds l.self.bytes l.key-iterator.iter.rest.now l.s ≡ inv_rounds l.self.bytes l.keys l.initial.s
