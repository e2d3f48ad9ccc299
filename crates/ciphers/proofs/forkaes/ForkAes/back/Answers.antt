use Rattle.std.proofs.Common.{ap, ◌∙◌, rules}
use Rattle.aes.specs.KeySets.{key_of}
use Rattle.ciphers.specs.Forks.{inv_stem}
use Rattle.ciphers.specs.Laws.{inv_fork_aes_made}
use Rattle.ciphers.specs.Tweaks.{spread, tweaked_key}
use Rattle.ciphers.proofs.Rows.{inv_rounds_run}
use Rattle.ciphers.proofs.forkaes.ForkAes.back.Goals as goal

pub returns : goal.returns
returns c =
    let keys = c.args.self.now.keys in
    let t = c.args.tweak in
    let stem = simp c.new-tweak.ensures at c.inv_branch.ensures in
    inv_fork_aes_made (key_of keys) t keys.scheduled.0 (search rules, λ j. search rules) c.args.side c.args.image _
    (search rules, λ j. search rules)
    ((simp c.new-tweak.ensures at c.inv_rounds.ensures) ∙ inv_rounds_run keys (spread t) 0 5 c.inv_branch.result (search rules) ∙ ap (inv_stem (tweaked_key (key_of keys) t)) stem)
