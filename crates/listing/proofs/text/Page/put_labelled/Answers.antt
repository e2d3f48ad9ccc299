use Rattle.listing.proofs.Laid.{adds_both}
use Rattle.listing.proofs.text.Page.put_labelled.Goals as goal

pub returns : goal.returns
returns c = adds_both c.put.ensures c.put_number.ensures
