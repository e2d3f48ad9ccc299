use Rattle.std.proofs.Common.{◌≡◌, ◌*◌, length, arith}
use Rattle.ledgers.proofs.Cells.{swept_more, swept_all}
use Rattle.sealed.proofs.strip.Strip.lead.Goals as goal

pub loop-row-preserved : goal.loop-row-preserved
loop-row-preserved g c =
    let long : length c.lead_row.new.memory ≡ 16 * c.args.self.now.rows.count = omega arith in
    swept_more _ _ _ _ _ _ c.loop-row.invariant (omega arith) long c.lead_row.ensures

pub returns : goal.returns
returns g c =
    let end : c.loop-row.row ≡ c.args.self.now.rows.count = omega arith in
    swept_all _ _ _ _ (rw end at c.loop-row.invariant)
