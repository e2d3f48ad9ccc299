use Rattle.std.proofs.Common.{◌≡◌, ◌+◌, ◌-◌, length, refl, ap, ◌∙◌, arith}
use borrow.Rule.Slice.PartMut.{put_mid}
use Rattle.listing.specs.Text.{laid}
use Rattle.listing.proofs.Laid.{put_part, length-laid}
use Rattle.listing.proofs.text.Page.put.Goals as goal

pub returns : goal.returns
returns c =
    let place = c.args.self.now.place.now in
    let used = c.args.self.now.used in
    let xs = c.args.text.now in
    let after = put_mid used (used + length xs - used) place c.copy_from_slice.new.self in
    let bytes : after ≡ laid place used xs = put_part place used (used + length xs - used) xs c.copy_from_slice.new.self (omega arith) c.copy_from_slice.ensures.after in
    let long : length after ≡ length place = ap length bytes ∙ length-laid place used xs c.requires in
    record { put = record { bytes = bytes; ends = refl }; within = omega (arith, long); long = long; same = refl }
