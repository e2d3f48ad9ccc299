use Rattle.std.proofs.Common.{◌≡◌, length, Err, ap, ◌∙◌}
use Rattle.std.proofs.lemmas.Result.{err_from_is_err_and}
use Rattle.files.specs.declared.fault.FileFault.TheVariants.{Short}
use Rattle.files.specs.Faults.{answer}
use Rattle.files.specs.Layout.{trailer}
use Rattle.files.specs.Verdict.{verdict, trailer_verdict, rest_verdict}
use Rattle.files.proofs.Accepted.{decides, short_verdict, long_verdict}
use Rattle.files.proofs.Verdicts.{refused_first, sound_first}
use Rattle.files.proofs.checks.check.Goals as goal

pub returns-then-bytes-lt16 : goal.returns-then-bytes-lt16
returns-then-bytes-lt16 c =
    let is = short_verdict c.args.bytes.now c.if-bytes-lt16.true in
    record { is = is; accepts = decides c.args.bytes.now {T = Unit {0}} (Err Short) is }

pub returns-in_err-check_trailer : goal.returns-in_err-check_trailer
returns-in_err-check_trailer c =
    let bs = c.args.bytes.now in
    let p = err_from_is_err_and c.from_residual.result c.from_residual.ensures.1 in
    let trailer = ap (λ b. trailer_verdict (length b) (trailer b)) c.of-file.ensures in
    let is : answer c.from_residual.result ≡ verdict bs =
    rw (p.1, p.2) (refused_first _ (c.in_err-check_trailer.ensures ∙ trailer) ∙ long_verdict bs c.if-bytes-lt16.false) in
    record { is = is; accepts = decides bs c.from_residual.result is }

pub returns : goal.returns
returns c =
    let bs = c.args.bytes.now in
    let trailer = ap (λ b. trailer_verdict (length b) (trailer b)) c.of-file.ensures in
    let is : answer c.check_rest.result ≡ verdict bs =
    c.check_rest.ensures ∙ ap rest_verdict c.of-file.ensures ∙ sound_first _ (c.in_ok-check_trailer.ensures ∙ trailer) ∙ long_verdict bs c.if-bytes-lt16.false in
    record { is = is; accepts = decides bs c.check_rest.result is }
