use Rattle.std.proofs.Common.{◌≡◌, arith, ap, rules}
use Rattle.std.proofs.lemmas.Slice.Eq.{slice_eq-Decides}
use Rattle.std.proofs.lemmas.Bool.Decides.{Decides-eqb}
use Rattle.sealed.specs.Piles.{images}
use Rattle.sealed.specs.Serving.{opened_rows}
use Rattle.sealed.proofs.Compared.{by_bytes, by_rows, decides_same}
use Rattle.sealed.proofs.Lawful.{lawful}
use Rattle.sealed.proofs.strip.Strip.agrees.Goals as goal

pub returns-then-eq : goal.returns-then-eq
returns-then-eq g c =
    let place : c.args.self.now.place ≡ c.args.other.now.place = search rules in
    let count : c.args.self.now.rows.count ≡ c.args.other.now.rows.count = omega arith in
    by_bytes _ (lawful g.met.H.Forkcipher.lawful g.met.A.Forkcipher.lawful c.args.piles.now) _ _ _ count place (slice_eq-Decides Decides-eqb _ _ _ c.eq-then-eq.ensures)

pub returns : goal.returns
returns g c =
    let piles = images g.H.Forkcipher.maps g.A.Forkcipher.maps c.args.piles.now in
    by_rows _ (lawful g.met.H.Forkcipher.lawful g.met.A.Forkcipher.lawful c.args.piles.now) _ _ _
    (decides_same _ _ (ap (opened_rows piles c.args.self.now.place) c.split.ensures.rows) (ap (opened_rows piles c.args.other.now.place) c.split-2.ensures.rows) c.same_plain.ensures)
