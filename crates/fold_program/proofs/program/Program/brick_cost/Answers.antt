use Rattle.std.proofs.Common.{rules, ◌≤ℤ◌, ◌∙◌, sym, subst, FitsSigned, arith}
use Rattle.std.specs.Int.{w128}
use Rattle.std.specs.List.{AllZip}
use Rattle.std.proofs.lemmas.Int.{to_z-of_z}
use Rattle.lattice_theory.specs.Vectors.{Vector}
use Rattle.fold_program.proofs.CostLaws.{in_range, brick_cost_is, brick_magnitude_is, few_of_brick}
use Rattle.fold_program.proofs.program.Program.brick_cost.Goals as goal

pub cost_of-requires-clause-within : goal.cost_of-requires-clause-within
cost_of-requires-clause-within c =
    let b = c.costs_of.ensures.costs in
    let h = c.requires.within b.0 b.1 in
    in_range c.costs_of.result.now c.args.vector.now
    (subst (λ (l : Vector). AllZip ◌≤ℤ◌ l c.args.vector.now) b.2.lower h.0)
    (subst (λ (u : Vector). AllZip ◌≤ℤ◌ c.args.vector.now u) b.2.upper h.1)

pub cost_of-requires-clause-few : goal.cost_of-requires-clause-few
cost_of-requires-clause-few c =
    few_of_brick c.args.self.now c.args.brick c.costs_of.result.now c.n.ensures.magnitude c.costs_of.ensures.costs

pub returns-clause-cost : goal.returns-clause-cost
returns-clause-cost c =
    let fits : FitsSigned w128 c.cost_of.result = search rules in
    let b = c.costs_of.ensures.costs in
    simp to_z-of_z (
      b.0,
      b.1,
      c.cost_of.ensures.cost
          ∙ sym (brick_cost_is b.0 c.costs_of.result.now c.args.vector.now b.2),
    )

pub returns-clause-small : goal.returns-clause-small
returns-clause-small c =
    let fits : FitsSigned w128 c.cost_of.result = search rules in
    let b = c.costs_of.ensures.costs in
    simp to_z-of_z (b.0, b.1, omega (arith, c.cost_of.ensures.small, brick_magnitude_is b.0 c.costs_of.result.now b.2))
