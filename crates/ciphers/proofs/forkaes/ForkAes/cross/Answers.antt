use Rattle.std.proofs.Common.{rules}
use Rattle.aes.specs.KeySets.{key_of}
use Rattle.interfaces.specs.Sides.{other}
use Rattle.ciphers.specs.Laws.{crossed}
use Rattle.ciphers.proofs.forkaes.ForkAes.cross.Goals as goal

pub returns : goal.returns
returns c =
    let keys = c.args.self.now.keys in
    let side = c.args.side in
    let e = crossed (key_of keys) c.args.tweak keys.scheduled.0 (search rules, λ j. search rules) side (other side) c.args.image (search rules, λ j. search rules) in
    let stem = simp c.new-tweak.ensures at c.inv_branch.ensures in
    let made = simp c.new-tweak.ensures at c.branch-self.ensures in
    cc
