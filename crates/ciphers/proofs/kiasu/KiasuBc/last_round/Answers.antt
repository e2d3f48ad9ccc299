use Rattle.std.proofs.Common.{[], lit<}
use Rattle.ciphers.proofs.Rows.{row_key}
use Rattle.ciphers.proofs.kiasu.KiasuBc.last_round.Goals as goal

pub returns : goal.returns
returns c =
    let a = row_key c.args.self.now.keys 9 (record { bytes = [] }) (lit< tt) in
    let b = row_key c.args.self.now.keys 10 (record { bytes = [] }) (lit< tt) in
    cc
