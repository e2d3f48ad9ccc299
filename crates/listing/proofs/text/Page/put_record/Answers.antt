use Rattle.std.proofs.Common.{◌∙◌}
use Rattle.listing.specs.Listing.{record_line}
use Rattle.listing.proofs.Laid.{adds_both, adds_as}
use Rattle.listing.proofs.text.Page.put_record.Goals as goal

pub returns : goal.returns
unfolding record_line
returns c =
    adds_both (adds_both (adds_both (adds_both (adds_both (adds_both
    c.put_labelled.ensures c.put_labelled-2.ensures)
    c.put.ensures)
    (adds_as (c.as_bytes.ensures.value ∙ c.word.ensures) c.put-2.ensures))
    c.put-3.ensures)
    (adds_as (c.as_bytes-2.ensures.value ∙ c.word-2.ensures) c.put-4.ensures))
    c.put-5.ensures
