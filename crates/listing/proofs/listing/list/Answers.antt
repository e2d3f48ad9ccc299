use Rattle.listing.proofs.Listed.{lists}
use Rattle.listing.proofs.listing.list.Goals as goal

pub returns : goal.returns
returns c = lists c.put_listing.ensures.put
