use Rattle.std.proofs.Common.{◌≡◌, ◌-ℤ◌, FitsSigned, w64, arith, rules}
use Rattle.std.proofs.lemmas.Int.{ints}
use Rattle.convex_costs.proofs.Numbers.{rem_is_zero}
use Rattle.convex_costs.proofs.lines.has_whole_slope.Goals as goal

pub returns : goal.returns
returns c =
    let p = c.args.p in
    let q = c.args.q in
    let low : FitsSigned w64 p.value = search rules in
    let high : FitsSigned w64 q.value = search rules in
    let from : FitsSigned w64 p.at = search rules in
    let to : FitsSigned w64 q.at = search rules in
    let rise : c.difference-rise.result ≡ q.value -ℤ p.value = omega (arith, ints, c.difference-rise.ensures.value) in
    let run : c.difference-run.result ≡ q.at -ℤ p.at = omega (arith, ints, c.difference-run.ensures.value) in
    rem_is_zero _ _ _ rise c.difference-rise.ensures.small c.difference-run.ensures.small _ run
