use Rattle.listing.specs.Listing.{total_line}
use Rattle.listing.proofs.Laid.{adds_both}
use Rattle.listing.proofs.text.Page.put_total.Goals as goal

pub returns : goal.returns
unfolding total_line
returns c = adds_both (adds_both c.put_labelled.ensures c.put_labelled-2.ensures) c.put.ensures
