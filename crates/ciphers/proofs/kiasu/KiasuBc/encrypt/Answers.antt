use Rattle.std.proofs.Common.{◌∙◌, rules}
use Rattle.aes.specs.KeySets.{key_of}
use Rattle.ciphers.specs.Laws.{kiasu_made}
use Rattle.ciphers.specs.Tweaks.{spread}
use Rattle.ciphers.proofs.Rows.{rounds_run}
use Rattle.ciphers.proofs.kiasu.KiasuBc.encrypt.Goals as goal

pub returns : goal.returns
returns c =
    let keys = c.args.self.now.keys in
    let t = c.args.tweak in
    let run = (simp c.new-tweak.ensures at c.rounds.ensures) ∙ rounds_run keys (spread t) 0 9 c.args.block (search rules) in
    kiasu_made (key_of keys) t keys.scheduled.0 (search rules, λ j. search rules) c.args.block _
    (search rules, λ j. search rules) (simp run at (simp c.new-tweak.ensures at c.last_round.ensures))
