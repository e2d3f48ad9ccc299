use Rattle.std.proofs.Common.{ap, ◌∙◌, arith}
use Rattle.std.proofs.lemmas.Bool.Decides.{not_from_Decides}
use Rattle.files.specs.Faults.{told}
use Rattle.files.specs.Records.{records}
use Rattle.listing.specs.Listing.{records_listing}
use Rattle.listing.proofs.Laid.{adds_as}
use Rattle.listing.proofs.Listed.{listing_long, listing_refused, listing_sound}
use Rattle.listing.proofs.text.Page.put_listing.Goals as goal

pub returns-then-is_long : goal.returns-then-is_long
returns-then-is_long c = adds_as (listing_long c.args.input.now (c.is_long.ensures.0 c.if-is_long.true)) c.put_fault.ensures

pub returns-in-Ok : goal.returns-in-Ok
returns-in-Ok c =
    adds_as (ap (λ bs. records_listing (records bs)) c.new.ensures ∙ listing_sound c.args.input.now (omega (arith, not_from_Decides _ c.is_long.ensures c.if-is_long.false)) c.in-Ok.ensures.is)
    c.put_file.ensures

pub returns-in-Err : goal.returns-in-Err
returns-in-Err c = adds_as (listing_refused c.args.input.now (told c.in-Err.fault) (omega (arith, not_from_Decides _ c.is_long.ensures c.if-is_long.false)) c.in-Err.ensures.is) c.put_refusal.ensures
