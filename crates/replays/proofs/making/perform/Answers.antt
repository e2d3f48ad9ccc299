use Rattle.std.proofs.Common.{refl}
use Rattle.replays.proofs.Performing.{shows_made}
use Rattle.replays.proofs.making.perform.Goals as goal

pub returns-in-Read-clause-made : goal.returns-in-Read-clause-made
returns-in-Read-clause-made g c = shows_made _ _ _ c.args.strip.now _ _ refl refl c.in-Read.is c.answer.ensures.answer c.is_sound.ensures

pub returns-in-Stamp-clause-made : goal.returns-in-Stamp-clause-made
returns-in-Stamp-clause-made g c = shows_made _ _ _ c.args.strip.now _ _ refl refl c.in-Stamp.is c.answer-in-Stamp.ensures.answer c.is_sound.ensures
