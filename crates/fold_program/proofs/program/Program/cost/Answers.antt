use Rattle.std.proofs.Common.{rules, arith, ◌≤ℤ◌, ◌-◌, ◌∙◌, sym, subst, FitsSigned, to_z}
use Rattle.std.specs.Int.{w128}
use Rattle.std.specs.List.{AllZip}
use Rattle.lattice_theory.specs.Vectors.{Vector}
use Rattle.std.proofs.lemmas.Int.{ints, to_z-of_z}
use Rattle.fold_laws.proofs.Points.{point-length, within_at}
use Rattle.fold_program.proofs.CostLaws.{IsNextCost, in_range, brick_cost_is, cost_from_step, cost_from_end, few_here}
use Rattle.fold_program.proofs.CostLaws.{next_cost}
use Rattle.fold_program.proofs.program.Program.cost.Goals as goal
use Rattle.fold_program.proofs.program.Program.cost.Goals.{After-cost_of-cost}

-- what this brick costs is small beside what is left
next : (c : After-cost_of-cost) →
    IsNextCost c.args.self.now c.loop-brick.brick (to_z w128 c.loop-brick.cost-bits) c.cost_of-cost.result
next c =
    next_cost c.args.self.now c.loop-brick.brick c.costs_of.result.now
    (to_z w128 c.loop-brick.cost-bits) c.n-brick-end.ensures.magnitude
    c.costs_of.ensures.costs c.loop-brick.invariant.from c.loop-brick.invariant.small c.cost_of-cost.result
    c.cost_of-cost.ensures.small

pub brick-requires-clause-to : goal.brick-requires-clause-to
brick-requires-clause-to c =
    omega (
      arith,
      point-length (c.args.self.now).bricks c.args.p.now c.requires.within,
      c.loop-brick-test.true,
      c.n-brick-end.ensures.bricks,
    )

pub cost_of-cost-requires-clause-within : goal.cost_of-cost-requires-clause-within
cost_of-cost-requires-clause-within c =
    let b = c.costs_of.ensures.costs in
    let h = within_at (c.args.self.now).bricks c.args.p.now
    (c.loop-brick.brick - 1) b.0 c.brick.result.now c.requires.within b.1 c.brick.ensures.vector in
    in_range c.costs_of.result.now c.brick.result.now
    (subst (λ (l : Vector). AllZip ◌≤ℤ◌ l c.brick.result.now) b.2.lower h.0)
    (subst (λ (u : Vector). AllZip ◌≤ℤ◌ c.brick.result.now u) b.2.upper h.1)

pub cost_of-cost-requires-clause-few : goal.cost_of-cost-requires-clause-few
cost_of-cost-requires-clause-few c =
    few_here c.args.self.now c.loop-brick.brick c.costs_of.result.now
    (to_z w128 c.loop-brick.cost-bits) c.n-brick-end.ensures.magnitude
    c.costs_of.ensures.costs c.loop-brick.invariant.from c.loop-brick.invariant.small

pub overflow_add-cost : goal.overflow_add-cost
overflow_add-cost c =
    let here : FitsSigned w128 c.cost_of-cost.result = search rules in
    simp to_z-of_z (next c).fits

pub loop-brick-preserved : goal.loop-brick-preserved
loop-brick-preserved c =
    let b = c.costs_of.ensures.costs in
    let here : FitsSigned w128 c.cost_of-cost.result = search rules in
    let more = (next c.before).fits in
    let step = cost_from_step c.loop-brick.brick (c.args.self.now).bricks c.args.p.now b.0 c.brick.result.now
    c.loop-brick.invariant.from b.1 c.brick.ensures.vector in
    let value = c.cost_of-cost.ensures.cost ∙ sym (brick_cost_is b.0 c.costs_of.result.now c.brick.result.now b.2) in
    record {
      from = omega arith;
      so_far = simp to_z-of_z (omega (arith, ints, step, value, c.loop-brick.invariant.so_far));
      small = simp to_z-of_z (next c.before).left;
    }

pub returns-2-clause-cost : goal.returns-2-clause-cost
returns-2-clause-cost c =
    let b = c.costs_of.ensures.costs in
    let here : FitsSigned w128 c.cost_of-cost.result = search rules in
    let more = (next c.before).fits in
    let step = cost_from_step c.loop-brick.brick (c.args.self.now).bricks c.args.p.now b.0 c.brick.result.now
    c.loop-brick.invariant.from b.1 c.brick.ensures.vector in
    let value = c.cost_of-cost.ensures.cost ∙ sym (brick_cost_is b.0 c.costs_of.result.now c.brick.result.now b.2) in
    let end = cost_from_end c.loop-brick.brick (c.args.self.now).bricks c.args.p.now
    (omega (arith, c.n-brick-end.ensures.bricks)) in
    simp to_z-of_z (omega (arith, ints, step, value, end, c.loop-brick.invariant.so_far))

pub returns-2-clause-small : goal.returns-2-clause-small
returns-2-clause-small c =
    let here : FitsSigned w128 c.cost_of-cost.result = search rules in
    let more = (next c.before).fits in
    simp to_z-of_z (next c.before).small
