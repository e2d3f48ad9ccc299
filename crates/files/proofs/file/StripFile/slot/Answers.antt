use Rattle.files.proofs.Slots.{slot_named}
use Rattle.files.proofs.file.StripFile.slot.Goals as goal

pub returns : goal.returns
returns c =
    let found = c.get.ensures.lookup in
    rw c.ok_or.ensures.value (slot_named c.args.self.now.bytes.now _ c.slots-slots.ensures c.args.i c.get.result found.1 found.3)
