use Rattle.ledgers.proofs.Tells.{bytes_tell_rows}
use Rattle.sealed.proofs.Lawful.{lawful}
use Rattle.sealed.proofs.strip.Strip.same_rows.Goals as goal

pub returns-clause-law : goal.returns-clause-law
returns-clause-law g c = bytes_tell_rows _ (lawful g.met.H.Forkcipher.lawful g.met.A.Forkcipher.lawful c.args.piles.now) _ _
