use Rattle.std.proofs.Common.{length, ap, ◌∙◌, arith}
use Rattle.files.specs.Layout.{entries_start, trailer, entries}
use Rattle.files.proofs.Accepted.{file_accepted}
use Rattle.files.proofs.file.StripFile.slots.Goals as goal

pub of-requires : goal.of-requires
of-requires c = (file_accepted _ c.args.self.now.accepted).has_trailer

pub slots-requires : goal.slots-requires
slots-requires c =
    let file = c.of.result in
    let start = ap (λ t. t.start) file.is ∙ ap (λ bs. entries_start (trailer bs)) c.of.ensures in
    let count = ap (λ t. t.count) file.is ∙ ap entries c.of.ensures in
    omega (arith, start, count, ap length c.of.ensures, (file_accepted _ c.args.self.now.accepted).entries_end)
