use Rattle.std.proofs.Common.{arith, ◌≡◌, ◌≤◌, ◌+◌, ◌-◌, ◌*◌, ◌∙◌, sym, ap, length}
use Rattle.std.proofs.Math.Nat.{mul-le-mul_right}
use Rattle.std.proofs.lemmas.List.Elements.{recursion_from_All}
use Rattle.fold_theory.specs.Costs.{BoundedCost}
use Rattle.lattice_laws.proofs.VectorLists.{length-flat}
use Rattle.fold_program.proofs.AcceptLaws.{length-map}
use Rattle.fold_program.proofs.ViewLaws.{bricks_are, brick_at}
use Rattle.fold_program.proofs.CostLaws.{costs_of_row}
use Rattle.fold_program.proofs.program.Program.costs_of.Goals as goal

pub slice_bounds-result-end : goal.slice_bounds-result-end
slice_bounds-result-end c =
    let t = c.self.inside.link.cols in
    let even = recursion_from_All (λ row. length row ≡ t) c.self.inside.lower.rows c.self.invariant.lower_widths in
    let many : length c.self.inside.costs.items ≡ length c.self.inside.lower.rows * t =
    sym (length-map (λ (b : BoundedCost). b.lower) c.self.inside.costs.items) ∙ ap length c.self.invariant.lowers
    ∙ length-flat t c.self.inside.lower.rows even in
    let n = bricks_are _ _ c.self.invariant c.self.view_is in
    let fits : (c.args.brick - 1 + 1) * t ≤ length c.self.inside.lower.rows * t =
    mul-le-mul_right t (omega (arith, n, c.requires.from, c.requires.to)) in
    let product : (c.args.brick - 1 + 1) * t ≡ (c.args.brick - 1) * t + t = omega arith in
    rw (c.cols-cols.ensures.cols, c.deref.ensures.value) (omega (arith, fits, product, many))

pub returns-clause-costs : goal.returns-clause-costs
returns-clause-costs c =
    let t = c.self.inside.link.cols in
    let low = recursion_from_All (λ row. length row ≡ t) c.self.inside.lower.rows c.self.invariant.lower_widths in
    let high = recursion_from_All (λ row. length row ≡ t) c.self.inside.upper.rows c.self.invariant.upper_widths in
    let b = brick_at _ _ (c.args.brick - 1) c.self.invariant c.self.view_is
    (omega (arith, c.requires.from, c.requires.to)) in
    let are = costs_of_row t (c.args.brick - 1) c.self.inside.costs.items c.self.inside.lower.rows
    c.self.inside.upper.rows b.0 low high c.self.invariant.lowers c.self.invariant.uppers b.2.lower_is b.2.upper_is
    b.2.costs_are in
    let width : (c.args.brick - 1) * t + t - (c.args.brick - 1) * t ≡ t = omega arith in
    (b.0, b.1, rw (c.cols-cols.ensures.cols, width, c.deref.ensures.value) are)
