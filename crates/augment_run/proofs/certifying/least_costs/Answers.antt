use Rattle.std.proofs.Common.{◌≡◌, sym, subst, Option}
use Rattle.std.specs.Prelude.{MatchOption}
use Rattle.run_theory.specs.Limits.{FitsTable}
use Rattle.run_theory.specs.Folds.{FoldValue, HasBrickSums}
use Rattle.augment_run.specs.Stages.{bases_of}
use Rattle.augment_run.proofs.CertifyLaws.{plan_bases, wide, images}
use Rattle.augment_run.proofs.certifying.least_costs.Goals as goal

pub new-requires-clause-widths : goal.new-requires-clause-widths
new-requires-clause-widths c =
    wide c.args.program.now c.args.plan.now c.requires.plan.0 c.requires.plan.1 c.args.phase c.args.last.now.sums
    c.requires.ended.1.sums

pub new-requires-clause-images : goal.new-requires-clause-images
new-requires-clause-images c =
    images c.args.program.now c.args.plan.now c.requires.plan.0 c.requires.plan.1 c.args.phase c.args.last.now.sums
    c.requires.ended.1.sums

pub potentials-requires-clause-sums : goal.potentials-requires-clause-sums
potentials-requires-clause-sums c =
    let p = c.args.program.now in
    let plan = c.args.plan.now in
    let sums = c.args.last.now.sums in
    let made = subst (λ (o : Option FoldValue).
    MatchOption o (FitsTable p sums → ⊥)
    (λ f. FitsTable p sums × (f ≡ record { program = p; phase = c.args.phase; sums = sums })))
    c.unwrap-fold.ensures c.new.ensures in
    let bases = plan_bases p plan c.requires.plan.0 c.requires.plan.1 in
    subst HasBrickSums (sym made.1) (bases_of plan, bases, c.requires.ended.1.sums.all)
