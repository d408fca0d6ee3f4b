use Rattle.std.proofs.Common.{rules, ◌≡◌, ◌≤◌, unsigned_abs, FitsSigned, w64, ℤ}
use Rattle.std.specs.Int.{w128}
use Rattle.std.proofs.lemmas.Int.{to_z-of_z}
use Rattle.fold_theory.specs.declared.Cost.{Cost}
use Rattle.fold_theory.specs.Costs.{value, magnitude}
use Rattle.fold_program.proofs.CostLaws.{column_at, column_inside}
use Rattle.fold_program.proofs.program.Program.cost_at.Goals as goal

pub returns-clause-cost : goal.returns-clause-cost
returns-clause-cost c =
    let fits : FitsSigned w128 c.value.result = search rules in
    let place : FitsSigned w64 c.args.v = search rules in
    let inside = column_inside c.args.self.now c.args.brick c.args.col c.costs_of.result.now _ c.costs_of.ensures.costs
    c.requires.within in
    simp to_z-of_z
    (column_at c.args.self.now c.args.brick c.args.col c.costs_of.result.now c.index-costs_of-col.result
    c.costs_of.ensures.costs inside c.index-costs_of-col.is
    (λ (l u : ℤ) (cost : Cost). c.value.result ≡ value cost c.args.v) (simp to_z-of_z at c.value.ensures.value))

pub returns-clause-small : goal.returns-clause-small
returns-clause-small c =
    let fits : FitsSigned w128 c.value.result = search rules in
    let inside = column_inside c.args.self.now c.args.brick c.args.col c.costs_of.result.now _ c.costs_of.ensures.costs
    c.requires.within in
    simp to_z-of_z
    (column_at c.args.self.now c.args.brick c.args.col c.costs_of.result.now c.index-costs_of-col.result
    c.costs_of.ensures.costs inside c.index-costs_of-col.is
    (λ (l u : ℤ) (cost : Cost). unsigned_abs c.value.result ≤ magnitude cost l u) c.value.ensures.small)
