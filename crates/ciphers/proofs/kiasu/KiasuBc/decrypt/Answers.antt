use Rattle.std.proofs.Common.{ap, ◌∙◌, rules}
use Rattle.aes.specs.KeySets.{key_of}
use Rattle.ciphers.specs.Forks.{inv_run}
use Rattle.ciphers.specs.Laws.{inv_kiasu_made}
use Rattle.ciphers.specs.Tweaks.{spread, tweaked_key}
use Rattle.ciphers.proofs.Rows.{inv_rounds_run}
use Rattle.ciphers.proofs.kiasu.KiasuBc.decrypt.Goals as goal

pub returns : goal.returns
returns c =
    let keys = c.args.self.now.keys in
    let t = c.args.tweak in
    let last = simp c.new-tweak.ensures at c.inv_last_round.ensures in
    inv_kiasu_made (key_of keys) t keys.scheduled.0 (search rules, λ j. search rules) c.args.block _
    (search rules, λ j. search rules)
    ((simp c.new-tweak.ensures at c.inv_rounds.ensures) ∙ inv_rounds_run keys (spread t) 0 9 c.inv_last_round.result (search rules) ∙ ap (inv_run (tweaked_key (key_of keys) t) 0 9) last)
