use Rattle.std.proofs.Common.{◌≡◌, ◌-ℤ◌, FitsSigned, w64, arith, rules}
use Rattle.std.proofs.lemmas.Int.{ints}
use Rattle.convex_costs.proofs.Numbers.{quotient_small}
use Rattle.convex_costs.proofs.lines.slope.Goals as goal

pub returns-clause-small : goal.returns-clause-small
returns-clause-small c =
    let p = c.args.p in
    let q = c.args.q in
    let low : FitsSigned w64 p.value = search rules in
    let high : FitsSigned w64 q.value = search rules in
    let rise : c.difference-rise.result ≡ q.value -ℤ p.value = omega (arith, ints, c.difference-rise.ensures.value) in
    quotient_small _ c.difference-run.result _ rise c.difference-rise.ensures.small c.difference-run.ensures.small
