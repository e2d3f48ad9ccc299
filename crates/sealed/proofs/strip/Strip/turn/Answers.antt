use Rattle.std.proofs.Common.{rules}
use Rattle.sealed.proofs.Lawful.{lawful}
use Rattle.sealed.proofs.Staying.{stays}
use Rattle.sealed.proofs.strip.Strip.turn.Goals as goal

pub returns-in_default : goal.returns-in_default
returns-in_default g c =
    stays _ (lawful g.met.H.Forkcipher.lawful g.met.A.Forkcipher.lawful c.args.piles.now)
    c.args.self.now c.args.memory.now c.args.wanted (search rules) (λ k. search rules) (search rules)
