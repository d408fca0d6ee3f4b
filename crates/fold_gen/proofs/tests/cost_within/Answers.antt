use Rattle.std.proofs.Common.{rules, ◌≤ℤ◌, ℤ, FitsSigned, w64}
use Rattle.std.proofs.lemmas.Int.{to_z-of_z}
use Rattle.fold_theory.specs.declared.Cost.{Cost}
use Rattle.fold_program.proofs.PlaceLaws.{column_of_bounds}
use Rattle.fold_gen.proofs.tests.cost_within.Goals as goal

pub cost_at-requires-clause-within : goal.cost_at-requires-clause-within
cost_at-requires-clause-within c =
    let place : FitsSigned w64 c.args.v = search rules in
    let low : FitsSigned w64 c.lower-lower.result = search rules in
    let high : FitsSigned w64 c.upper-upper.result = search rules in
    let above : c.lower-lower.result ≤ℤ c.args.v = search rules in
    let below : c.args.v ≤ℤ c.upper-upper.result = search rules in
    simp to_z-of_z
    (column_of_bounds c.args.program.now c.args.brick c.args.col c.lower-lower.result c.upper-upper.result
    (λ (l u : ℤ) (cost : Cost). (l ≤ℤ c.args.v) × (c.args.v ≤ℤ u)) c.n.ensures.program c.lower-lower.ensures
    c.upper-upper.ensures (λ cost. (above, below)))
