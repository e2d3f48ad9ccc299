use Rattle.std.proofs.Common.{◌≡◌, ◌*◌, ◌/◌, ◌%◌, ap, arith}
use Rattle.std.specs.Int.Bits.{bit_xor}
use Rattle.aes.specs.Field.{doubled}
use Rattle.aes.proofs.columns.double.Goals as goal

pub returns : goal.returns
unfolding doubled
returns c =
    let b = c.args.b in
    let e : b / 128 ≡ b / 128 % 2 = omega arith in ap (λ x. bit_xor (b % 128 * 2) (x * 0x1B)) e
