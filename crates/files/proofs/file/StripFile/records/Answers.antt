use Rattle.std.proofs.Common.{map, ap, ◌∙◌, arith}
use mathlib.Core.List.{map-map}
use Rattle.std.specs.List.{range_with_len}
use Rattle.files.specs.Checks.{faulty_field}
use Rattle.files.specs.Layout.{entries, entry, slots}
use Rattle.files.specs.Records.{record_of, first_records}
use Rattle.files.proofs.Accepted.{entry_sound, records_few}
use Rattle.files.proofs.Slots.{slots_long, slot_is}
use Rattle.files.proofs.file.StripFile.records.Goals as goal

pub of-requires : goal.of-requires
of-requires c k d lt =
    let bs = c.args.self.now.bytes.now in
    ap faulty_field (slot_is bs _ c.slots.ensures k d lt) ∙ entry_sound bs c.args.self.now.accepted k (omega (arith, slots_long bs _ c.slots.ensures))

pub returns : goal.returns
unfolding first_records slots
returns c =
    let bs = c.args.self.now.bytes.now in
    record {
      are = ap (map record_of) (c.of.ensures ∙ c.slots.ensures) ∙ map-map record_of (entry bs) (range_with_len 0 (entries bs));
      few = records_few bs c.args.self.now.accepted;
    }
