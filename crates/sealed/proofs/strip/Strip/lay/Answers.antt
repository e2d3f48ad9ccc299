use Rattle.std.proofs.Common.{rules}
use Rattle.sealed.proofs.Laid.{lays}
use Rattle.sealed.proofs.strip.Strip.lay.Goals as goal

pub returns : goal.returns
returns c = lays c.args.number c.args.text.now c.args.memory.now c.fill.new.memory c.take_up-strip.result (λ k. search rules) (search rules) (search rules)
