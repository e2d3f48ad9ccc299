use Rattle.listing.specs.Listing.{fault_line}
use Rattle.listing.proofs.Laid.{adds_both}
use Rattle.listing.proofs.text.Page.put_fault.Goals as goal

pub returns : goal.returns
unfolding fault_line
returns c = adds_both (adds_both (adds_both c.put_labelled.ensures c.put_labelled-2.ensures) c.put_labelled-3.ensures) c.put.ensures
