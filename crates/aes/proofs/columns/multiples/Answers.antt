use Rattle.std.proofs.Common.{one-mul, zero-mul}
use Rattle.std.specs.Int.Bits.{xor_zero_r}
use Rattle.aes.specs.Field.{partial, product}
use Rattle.aes.proofs.columns.multiples.Goals as goal

pub returns : goal.returns
unfolding partial product
returns c =
    simp (zero-mul, one-mul, xor_zero_r, c.double-two.ensures, c.double-four.ensures, c.double-eight.ensures)
