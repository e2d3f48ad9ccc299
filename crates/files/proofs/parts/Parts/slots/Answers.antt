use Rattle.std.proofs.Common.{ap, ◌∙◌, arith}
use Rattle.files.proofs.Slots.{slots_cut}
use Rattle.files.proofs.parts.Parts.slots.Goals as goal

pub returns : goal.returns
returns c =
    let file = c.args.self in
    c.as_chunks.ensures.front ∙ slots_cut file.bytes.now file.trailer.start (ap (λ t. t.start) file.is) (omega (arith, ap (λ t. t.count) file.is))
