use Rattle.std.proofs.Common.{ap}
use Rattle.ciphers.specs.Forks.{start}
use Rattle.ciphers.specs.Rounds.{inv_rounds}
use Rattle.ciphers.proofs.Rows.{inv_rounds_run, branch_within}
use Rattle.ciphers.proofs.forkaes.ForkAes.inv_branch.Goals as goal

pub returns : goal.returns
returns c =
    let t = c.args.tweak.bytes in
    let keys = c.args.self.now.keys in
    let s = c.add_key.result in
    let e = inv_rounds_run keys t (start c.args.side) 5 s (branch_within c.args.side) in
    let r = ap (λ ks. inv_rounds t ks s) c.branch_keys.ensures.rounds in
    cc
