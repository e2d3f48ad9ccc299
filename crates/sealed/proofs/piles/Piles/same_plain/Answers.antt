use Rattle.std.proofs.Common.{rules, ℕ, ◌<◌, [], length}
use Rattle.sealed.specs.Piles.{images}
use Rattle.sealed.proofs.Compared.{each_same, one_same}
use Rattle.sealed.proofs.piles.Piles.same_plain.Goals as goal

pub returns : goal.returns
returns g c =
    let piles = images g.H.Forkcipher.maps g.A.Forkcipher.maps c.args.self.now in (
      (λ t. each_same piles c.args.place c.args.other c.args.rows.now c.args.others.now c.requires.same_count (λ k lt. search rules)),
      (λ e.
          let same = λ (k : ℕ) (lt : k < length c.args.rows.now). one_same piles c.args.place c.args.other c.args.rows.now c.args.others.now c.requires.same_count k [] [] lt e in
          search rules),
    )
