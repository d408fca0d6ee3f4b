use Rattle.std.proofs.Common.{◌^◌, ◌<◌, arith, lit≤}
use Rattle.std.proofs.lemmas.Int.Digits.{length-digits_of-le, length-digits_of_step}
use Rattle.nfold_cli.proofs.run_texts.+binary_digits.Goals as goal

pub returns-clause-digits : goal.returns-clause-digits
returns-clause-digits t c =
    let above : 0 < c.args.number = omega arith in
    omega (arith, length-digits_of_step 2 c.args.number (lit≤ tt) above, c.binary_digits.ensures.digits)

pub returns-clause-few : goal.returns-clause-few
returns-clause-few t c =
    let above : 0 < c.args.number = omega arith in
    let fits : c.args.number < 2 ^ 128 = omega arith in
    omega (
      arith,
      length-digits_of_step 2 c.args.number (lit≤ tt) above,
      length-digits_of-le 2 128 c.args.number (lit≤ tt) fits,
      c.binary_digits.ensures.digits,
    )
