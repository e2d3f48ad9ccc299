use Rattle.std.proofs.Common.{◌≡◌, ◌+◌, ◌*◌, ◌≤◌, ◌++◌, length}
use Rattle.std.specs.List.{flat_map}
use Rattle.files.specs.Left.{records_left}
use Rattle.files.specs.Records.{records}
use Rattle.listing.specs.Listing.{record_line, row_sum}
use Rattle.listing.specs.Text.{Adds}
use Rattle.listing.proofs.text.Page.put_file.Given as goal

abbrev pub invariant-loop-record : goal.invariant-loop-record
invariant-loop-record l =
    record {
      listed : Adds l.fn.self (flat_map record_line l.yielded) l.self;
      short : l.self.used ≤ l.fn.self.used + 46 * length l.yielded;
      counted : l.rows ≡ row_sum l.yielded;
      few : l.rows ≤ 4096 * length l.yielded;
      all : l.yielded ++ records_left l.record-iterator ≡ records l.fn.file.bytes.now;
      long : length l.yielded + length (records_left l.record-iterator) ≡ l.entries;
    }
