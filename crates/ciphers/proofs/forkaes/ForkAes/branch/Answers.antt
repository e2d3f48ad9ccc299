use Rattle.std.proofs.Common.{ap}
use Rattle.ciphers.specs.Forks.{start}
use Rattle.ciphers.specs.Rounds.{rounds}
use Rattle.ciphers.proofs.Rows.{rounds_run, branch_within}
use Rattle.ciphers.proofs.forkaes.ForkAes.branch.Goals as goal

pub returns : goal.returns
returns c =
    let t = c.args.tweak.bytes in
    let keys = c.args.self.now.keys in
    let e = rounds_run keys t (start c.args.side) 5 c.args.stem (branch_within c.args.side) in
    let r = ap (λ ks. rounds t ks c.args.stem) c.branch_keys.ensures.rounds in
    cc
