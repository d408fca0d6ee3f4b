use Rattle.std.proofs.Common.{◌≡◌, ◌*ℤ◌, ◌+ℤ◌, ◌-ℤ◌, FitsSigned, w64, arith, ◌∙◌, rules}
use Rattle.std.proofs.lemmas.Int.{ints}
use Rattle.lattice_laws.proofs.Tests.{is_bounded_true}
use Rattle.convex_costs.proofs.Bits.{stretch_of, rise_fits, sum_fits, sum_read}
use Rattle.convex_costs.proofs.lines.value_on_line.Goals as goal

pub overflow_mul-result : goal.overflow_mul-result
overflow_mul-result c =
    let from : FitsSigned w64 c.args.p.at = search rules in
    let reach = c.ranges.v in
    let run : c.difference-run.result ≡ c.args.v -ℤ c.args.p.at = omega (arith, ints, c.difference-run.ensures.value) in
    let slope = c.slope-slope.ensures.small in
    let is = stretch_of c.args.p c.args.q c.args.v c.slope-slope.result _ c.requires.left c.requires.right reach slope
    run in
    rise_fits _ _ is

pub overflow_add-result : goal.overflow_add-result
overflow_add-result c =
    let from : FitsSigned w64 c.args.p.at = search rules in
    let reach = c.ranges.v in
    let run : c.difference-run.result ≡ c.args.v -ℤ c.args.p.at = omega (arith, ints, c.difference-run.ensures.value) in
    let slope = c.slope-slope.ensures.small in
    let is = stretch_of c.args.p c.args.q c.args.v c.slope-slope.result _ c.requires.left c.requires.right reach slope
    run in
    sum_fits _ _ is c.args.p.value (is_bounded_true c.args.p.value c.requires.left.1)

pub returns : goal.returns
returns c =
    let from : FitsSigned w64 c.args.p.at = search rules in
    let reach = c.ranges.v in
    let run : c.difference-run.result ≡ c.args.v -ℤ c.args.p.at = omega (arith, ints, c.difference-run.ensures.value) in
    let slope = c.slope-slope.ensures.small in
    let is = stretch_of c.args.p c.args.q c.args.v c.slope-slope.result _ c.requires.left c.requires.right reach slope
    run in
    sum_read _ _ is c.args.p.value (is_bounded_true c.args.p.value c.requires.left.1)
    ∙ (λ i. c.args.p.value +ℤ c.slope-slope.ensures.slope i *ℤ run i)
