-- The records that an iterator has yet to give.
use Rattle.std.specs.Prelude.{List, map}
use Rattle.files.specs.declared.record.Record.{Record}
use Rattle.files.specs.declared.records.Records.{Records}
use Rattle.files.specs.Records.{record_of}

abbrev pub records_left : Records → List Record
records_left r = map record_of r.slots.now
