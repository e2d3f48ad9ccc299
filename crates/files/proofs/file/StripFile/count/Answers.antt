use Rattle.std.proofs.Common.{arith}
use Rattle.files.proofs.Accepted.{file_accepted}
use Rattle.files.proofs.Slots.{slots_long}
use Rattle.files.proofs.file.StripFile.count.Goals as goal

pub returns : goal.returns
returns c =
    let bs = c.args.self.now.bytes.now in
    let is = slots_long bs _ c.slots.ensures in
    record { is = is; few = omega (arith, (file_accepted bs c.args.self.now.accepted).entries_few, is) }
