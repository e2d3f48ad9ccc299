use Rattle.files.proofs.Accepted.{entry_read}
use Rattle.files.proofs.file.StripFile.entry.Goals as goal

pub unwrap-requires : goal.unwrap-requires
unwrap-requires c =
    let slot = c.in_ok-slot.ensures in
    entry_read c.args.self.now.bytes.now c.args.self.now.accepted _ c.in_ok-slot.field-0.now c.read.result slot.0 slot.1 c.read.ensures.fault
