use Rattle.std.proofs.Common.{◌≡◌, ◌-ℤ◌, ◌<ℤ◌, ◌∙◌, unsigned_abs, Some, refl, subst, arith, rules, to_z, FitsSigned}
use Rattle.std.specs.Int.{w128}
use Rattle.std.proofs.lemmas.Int.{ints, to_z-of_z}
use Rattle.lattice_theory.specs.SignedSums.{vectors}
use Rattle.fold_theory.specs.Programs.{IsProgram, phase_cost}
use Rattle.run_theory.specs.Steps.{NoneAugments}
use Rattle.run_theory.specs.Bests.{IsRuleStep}
use Rattle.phase_run.proofs.RunLaws.{run_more, run_all, run_few, step_lowers, height_falls}
use Rattle.phase_run.proofs.runs.run.Goals as goal
use Rattle.phase_run.proofs.runs.run.Goals.{After-abs_diff}

pub cost_in_phase-after-requires : goal.cost_in_phase-after-requires
cost_in_phase-after-requires g c =
    let f = c.args.fold.now in
    let x = c.args.point in
    let y = c.loop-steps.point in
    let program : IsProgram f.program = subst IsProgram c.program.ensures c.n.ensures.program in
    let rule : IsRuleStep f y (Some c.in-Some.step) = subst (IsRuleStep f y) c.in-Some.is c.in_ok-step.ensures in
    (run_more f x y c.in_ok-next.next c.loop-steps.steps.items _ c.in-Some.step program c.requires.sums
    c.loop-steps.invariant.so_far rule c.in_ok-next.ensures refl).start

pub loop-steps-smaller : goal.loop-steps-smaller
loop-steps-smaller g c =
    let f = c.args.fold.now in
    let x = c.args.point in
    let y = c.loop-steps.point in
    let program : IsProgram f.program = subst IsProgram c.program.ensures c.n.ensures.program in
    let rule : IsRuleStep f y (Some c.in-Some.step) = subst (IsRuleStep f y) c.in-Some.is c.in_ok-step.ensures in
    let lower = step_lowers f y c.in_ok-next.next c.in-Some.step rule c.in_ok-next.ensures in
    let after : FitsSigned w128 c.cost_in_phase-after.result = search rules in
    let now : FitsSigned w128 (to_z w128 c.loop-steps.after-bits) = search rules in
    let less : c.cost_in_phase-after.result <ℤ to_z w128 c.loop-steps.after-bits =
    omega (arith, ints, lower, c.cost_in_phase-after.ensures, c.loop-steps.invariant.cost) in
    simp to_z-of_z (height_falls c.cost_in_phase-after.result (to_z w128 c.loop-steps.after-bits) after now less)

pub loop-steps-preserved : goal.loop-steps-preserved
loop-steps-preserved g c =
    let f = c.args.fold.now in
    let x = c.args.point in
    let y = c.loop-steps.point in
    let program : IsProgram f.program = subst IsProgram c.program.ensures c.n.ensures.program in
    let rule : IsRuleStep f y (Some c.in-Some.step) = subst (IsRuleStep f y) c.in-Some.is c.in_ok-step.ensures in
    let after : FitsSigned w128 c.cost_in_phase-after.result = search rules in
    record {
      so_far =
          run_more f x y c.in_ok-next.next c.loop-steps.steps.items c.push.new.self.items c.in-Some.step program
          c.requires.sums c.loop-steps.invariant.so_far rule
          c.in_ok-next.ensures c.in_ok-push.ensures.items;
      menus = c.in_ok-follow.ensures;
      cost = simp to_z-of_z c.cost_in_phase-after.ensures;
    }

-- the rule has no more step
no_more : (g : _) (c : After-abs_diff g) →
    NoneAugments c.args.fold.now.program c.args.fold.now.phase (vectors c.args.fold.now.sums) c.loop-steps.point
no_more g c = subst (IsRuleStep c.args.fold.now c.loop-steps.point) c.in_default.is c.in_ok-step.ensures

-- what the steps gain in all
gained : (g : _) (c : After-abs_diff g) →
    c.abs_diff.result ≡ unsigned_abs (phase_cost c.args.fold.now.program c.args.fold.now.phase c.args.point
    -ℤ phase_cost c.args.fold.now.program c.args.fold.now.phase c.loop-steps.point)
gained g c =
    let before : FitsSigned w128 c.cost_in_phase-before.result = search rules in
    let told = simp to_z-of_z at c.abs_diff.ensures in
    told ∙ (λ i. unsigned_abs (c.cost_in_phase-before.ensures i -ℤ c.loop-steps.invariant.cost i))

pub returns-clause-run : goal.returns-clause-run
returns-clause-run g c =
    let f = c.args.fold.now in
    let x = c.args.point in
    let y = c.loop-steps.point in
    let past = goal.at.returns-clause-run g c in
    run_all f x y c.loop-steps.steps.items c.abs_diff.result c.bound_number.result c.loop-steps.invariant.so_far
    (no_more g past.After-abs_diff) (gained g past.After-abs_diff) c.bound_number.ensures

pub returns-clause-few : goal.returns-clause-few
returns-clause-few g c =
    let f = c.args.fold.now in
    let x = c.args.point in
    let y = c.loop-steps.point in
    let past = goal.at.returns-clause-few g c in
    let program : IsProgram f.program = subst IsProgram c.program.ensures c.n.ensures.program in
    run_few f x y c.loop-steps.steps.items c.abs_diff.result c.bound_number.result program c.requires.sums
    c.requires.start c.loop-steps.invariant.so_far (no_more g past.After-abs_diff) (gained g past.After-abs_diff)
    c.bound_number.ensures
