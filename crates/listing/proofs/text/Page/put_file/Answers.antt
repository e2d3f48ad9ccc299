use Rattle.std.proofs.Common.{[], ◌∷◌, ◌∙◌, length, sym, refl, ap, arith, rules, length-append}
use Rattle.std.proofs.lemmas.List.{flat_map_more}
use Rattle.std.proofs.lemmas.List.Sums.{sum_by-append}
use Rattle.files.specs.declared.record.Record.{Record}
use Rattle.files.specs.Left.{records_left}
use Rattle.listing.specs.Listing.{record_line}
use Rattle.listing.proofs.Laid.{adds_none, adds_both, adds_as}
use Rattle.listing.proofs.Listed.{record_short, listed_few, next_few, one_more, lines_done}
use Rattle.listing.proofs.text.Page.put_file.Goals as goal

pub loop-record-init : goal.loop-record-init
loop-record-init c =
    let all = ap records_left c.into_iter-record-iterator.ensures.into_iter_gives ∙ c.records-record-items.ensures.are in
    record {
      listed = adds_none _ (omega arith);
      short = omega arith;
      counted = refl;
      few = omega arith;
      all = all;
      long = listed_few c.args.file.bytes.now [] (records_left c.into_iter-record-iterator.result) all ∙ sym c.count-entries.ensures.is;
    }

pub loop-record-preserved : goal.loop-record-preserved
loop-record-preserved c =
    let so_far = c.loop-record.invariant in
    let put = c.put_record.ensures in
    let next = next_few c.args.file.bytes.now c.loop-record.yielded (records_left c.loop-record.record-iterator) so_far.all c.in-Some.record (records_left c.next.new.self) c.records-record-items.ensures.few c.in-Some.ensures.steps in
    let short = record_short c.in-Some.record (search rules) next in
    let long = length-append c.loop-record.yielded (c.in-Some.record ∷ []) in
    record {
      listed = adds_as (flat_map_more record_line [] c.loop-record.yielded c.in-Some.record) (adds_both so_far.listed put);
      short = omega (arith, put.put.ends, short, long);
      counted = omega (arith, so_far.counted, sum_by-append (λ (r : Record). r.rows) c.loop-record.yielded (c.in-Some.record ∷ []));
      few = omega (arith, next, long);
      all = one_more c.args.file.bytes.now c.loop-record.yielded (records_left c.loop-record.record-iterator) so_far.all c.in-Some.record (records_left c.next.new.self) c.in-Some.ensures.steps;
      long = omega (arith, so_far.long, long, ap length c.in-Some.ensures.steps);
    }

pub returns : goal.returns
returns c =
    let so_far = c.loop-record.invariant in
    adds_as (lines_done _ _ _ so_far.all _ _ c.in-None.ensures.steps.0 c.count-entries.ensures.is so_far.counted) (adds_both so_far.listed c.put_total.ensures)
