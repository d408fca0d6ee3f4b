use Rattle.std.proofs.Common.{◌≤◌, ◌^◌, max, arith, sym, subst}
use Rattle.fold_theory.specs.Programs.{IsLength}
use Rattle.run_theory.specs.Folds.{FoldValue, HasBrickSums}
use Rattle.run_theory.specs.Starts.{IsStart}
use Rattle.round_workers.proofs.tests.seeks_a_double_step.Goals as goal

pub best_step-requires-clause-sums : goal.best_step-requires-clause-sums
best_step-requires-clause-sums g c = subst HasBrickSums (sym c.in-Some-new.ensures.1) c.in_ok-sums.ensures.sums

pub best_step-requires-clause-start : goal.best_step-requires-clause-start
best_step-requires-clause-start g c =
    let feasible = c.in-None.ensures.none in
    subst (λ (f : FoldValue). IsStart f.program f.phase c.in-Some.point) (sym c.in-Some-new.ensures.1)
    (record { within = feasible.within; brick_rows = feasible.brick_rows; end = feasible.link_rows })

pub best_step-requires-clause-length : goal.best_step-requires-clause-length
best_step-requires-clause-length g c =
    let there = (c.count.ensures.lengths 1).0 (omega (arith, c.if-count-le1.false)) in
    subst (λ (f : FoldValue). IsLength f.program 1) (sym c.in-Some-new.ensures.1)
    (subst (λ w. 2 ^ 1 ≤ max 1 w) c.widest.ensures.widest there)
