use Rattle.std.proofs.Common.{arith}
use Rattle.files.proofs.Accepted.{body_within}
use Rattle.files.proofs.file.StripFile.body.Goals as goal

pub slice_bounds-result-end : goal.slice_bounds-result-end
slice_bounds-result-end c =
    let entry = c.in_ok-entry.ensures in
    omega (arith, body_within c.args.self.now.bytes.now c.args.self.now.accepted c.args.i c.in_ok-entry.entry.now entry.0 entry.1)
