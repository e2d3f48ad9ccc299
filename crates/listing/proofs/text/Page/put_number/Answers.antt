use Rattle.std.proofs.Common.{sym, ap, ◌∙◌, arith, length}
use Rattle.std.proofs.lemmas.Fmt.{decimal_digit}
use Rattle.listing.proofs.Laid.{adds_as}
use Rattle.listing.proofs.text.Page.put_number.Goals as goal

pub put-requires : goal.put-requires
put-requires c = omega (arith, c.requires, ap length (decimal_digit c.args.n c.if-n-lt10.true))

pub returns-then-n-lt10 : goal.returns-then-n-lt10
returns-then-n-lt10 c = adds_as (sym (decimal_digit c.args.n c.if-n-lt10.true)) c.put.ensures

pub returns : goal.returns
returns c = adds_as (c.as_bytes.ensures.value ∙ c.format.ensures.text) c.put-2.ensures
