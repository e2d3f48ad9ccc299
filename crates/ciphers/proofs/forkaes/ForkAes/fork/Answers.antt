use Rattle.std.proofs.Common.{ap, ◌∙◌, rules}
use Rattle.aes.specs.KeySets.{key_of}
use Rattle.interfaces.specs.declared.sides.Side.TheVariants.{Left, Right}
use Rattle.ciphers.specs.Forks.{branch}
use Rattle.ciphers.specs.Laws.{fork_aes_made}
use Rattle.ciphers.specs.Tweaks.{spread, tweaked_key}
use Rattle.ciphers.proofs.Rows.{rounds_run}
use Rattle.ciphers.proofs.forkaes.ForkAes.fork.Goals as goal

pub returns : goal.returns
returns c =
    let keys = c.args.self.now.keys in
    let t = c.args.tweak in
    let b = c.args.block in
    let law = fork_aes_made (key_of keys) t keys.scheduled.0 (search rules, λ j. search rules) in
    let stem = (simp c.new-tweak.ensures at c.rounds-stem.ensures) ∙ rounds_run keys (spread t) 0 5 b (search rules) in
    record {
      left = law Left b _ (search rules, λ j. search rules) ((simp c.new-tweak.ensures at c.branch-self.ensures) ∙ ap (branch (tweaked_key (key_of keys) t) Left) stem);
      right = law Right b _ (search rules, λ j. search rules) ((simp c.new-tweak.ensures at c.branch-self-2.ensures) ∙ ap (branch (tweaked_key (key_of keys) t) Right) stem);
    }
