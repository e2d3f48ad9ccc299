use Rattle.std.proofs.Common.{set, ap, ◌∙◌, ap₂, rules}
use Rattle.std.specs.List.{concat}
use Rattle.ledgers.specs.Rows.{cells}
use Rattle.ledgers.proofs.Cells.{Sized, put_twice}
use Rattle.sealed.specs.Piles.{images}
use Rattle.sealed.specs.Serving.{copied}
use Rattle.sealed.proofs.strip.Strip.trade.Goals as goal

pub returns : goal.returns
returns g c =
    let piles = images g.H.Forkcipher.maps g.A.Forkcipher.maps c.args.piles.now in
    let p = c.args.self.now.place in
    let n = c.args.self.now.rows.count in
    let m = c.args.memory.now in
    let i = c.args.first in
    let j = c.args.second in
    let sized : Sized c.copied-for_first.result = search rules in
    put_twice n m c.set_row.new.memory c.set_row-2.new.memory i j _ _ c.requires.memory_fits sized c.set_row.ensures c.set_row-2.ensures
    ∙ ap₂ (λ x y. concat (set (set (cells n m) i x) j y))
    (c.copied-for_first.ensures ∙ ap (copied piles p j i) c.row-b.ensures) (c.copied-for_second.ensures ∙ ap (copied piles p i j) c.row-a.ensures)
