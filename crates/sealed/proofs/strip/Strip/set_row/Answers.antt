use Rattle.std.proofs.Common.{◌≡◌, ◌+◌, ◌-◌, ◌*◌, ◌++◌, take, ap, ◌∙◌, ap₂, arith}
use borrow.Rule.Slice.PartMut.{put_mid}
use Rattle.std.proofs.lemmas.List.{drop-drop}
use Rattle.ledgers.proofs.Cells.{put_concat}
use Rattle.sealed.proofs.strip.Strip.set_row.Goals as goal

pub returns : goal.returns
returns c =
    let k = c.args.row in
    let m = c.args.memory.now in
    let sixteen : 16 * k + 16 - 16 * k ≡ 16 = omega arith in
    ap₂ (λ n ys. put_mid (16 * k) n m ys) sixteen c.copy_from_slice.ensures.after
    ∙ ap (λ rest. take (16 * k) m ++ (c.args.block ++ rest)) (drop-drop 16 (16 * k) m)
    ∙ put_concat c.args.self.now.rows.count m k c.args.block c.requires.memory_fits c.requires.row_within
