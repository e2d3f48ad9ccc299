use Rattle.std.proofs.Common.{rules}
use Rattle.aes.specs.Block.{Bytes, xored}
use Rattle.aes.proofs.Blocks.{xored_bytes, xored_twice}
use Rattle.layers.proofs.pad.PadForkcipher.cross.Goals as goal

-- the pad p goes out and in again between the two sides
pub returns : goal.returns
returns g c =
    let me = c.args.self.now in
    let t = c.args.tweak in
    let b = c.args.image in
    let s = c.args.side in
    let bt : Bytes 8 t = (search rules, λ j. search rules) in
    let bb : Bytes 16 b = (search rules, λ j. search rules) in
    let low = g.met.C.Forkcipher.lawful me.lower s in
    let e = xored_twice 16 _ me.p (low.origin_block t (xored 16 b me.q) bt (xored_bytes 16 b me.q bb.1 me.blocks.1.1)) in
    simp e (search rules)
