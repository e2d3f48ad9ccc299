use Rattle.std.proofs.Common.{◌≡◌, suc, slice_index_or, None, subst, arith}
use Rattle.files.specs.Checks.{faulty_field}
use Rattle.files.proofs.iter.RecordsIterator.next.Goals as goal

pub invariant_of-self : goal.invariant_of-self
invariant_of-self c =
    let cut = c.in_ok-first.ensures.cases in
    record { sound = λ k d lt. subst (λ l. faulty_field (slice_index_or l (suc k) d) ≡ None) cut.0 (c.args.self.now.sound (suc k) d (omega arith)) }
