use Rattle.std.proofs.Common.{[], lit<}
use Rattle.ciphers.proofs.Rows.{row_key}
use Rattle.ciphers.proofs.forkaes.ForkAes.branch_keys.Goals as goal

pub returns-in-Left-clause-end : goal.returns-in-Left-clause-end
returns-in-Left-clause-end c = rw c.in-Left.is (row_key c.args.self.now.keys 10 (record { bytes = [] }) (lit< tt))

pub returns-in-Right-clause-end : goal.returns-in-Right-clause-end
returns-in-Right-clause-end c = rw c.in-Right.is (row_key c.args.self.now.keys 16 (record { bytes = [] }) (lit< tt))
