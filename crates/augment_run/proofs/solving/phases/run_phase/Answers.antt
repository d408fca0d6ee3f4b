use Rattle.std.proofs.Common.{sym, subst}
use Rattle.lattice_theory.specs.SignedSums.{vectors}
use Rattle.run_theory.specs.Folds.{FoldValue, HasBrickSums}
use Rattle.run_theory.specs.Outcomes.{IsRecorded}
use Rattle.run_theory.specs.Starts.{IsStart}
use Rattle.augment_run.specs.Stages.{bases_of}
use Rattle.augment_run.proofs.CertifyLaws.{plan_bases}
use Rattle.augment_run.proofs.SolveLaws.{run_end_starts}
use Rattle.augment_run.proofs.solving.phases.run_phase.Goals as goal

pub run-requires-clause-sums : goal.run-requires-clause-sums
run-requires-clause-sums g c =
    let plan = c.args.plan.now in
    λ _ _. subst HasBrickSums (sym c.in_ok-fold.ensures.fold) (
      bases_of plan,
      plan_bases c.args.program.now plan c.requires.begun.0 c.requires.begun.1.tables,
      c.in_ok-sums.ensures.sums.all,
    )

pub run-requires-clause-start : goal.run-requires-clause-start
run-requires-clause-start g c =
    λ _ _. subst (λ (f : FoldValue). IsStart f.program f.phase c.args.point)
    (sym c.in_ok-fold.ensures.fold) c.requires.start

pub returns-clause-ended : goal.returns-clause-ended
returns-clause-ended g c =
    let p = c.args.program.now in
    let plan = c.args.plan.now in
    let end = c.in_ok-end.end in
    let sums = c.in_ok-sums.sums in
    let ran = subst (λ (f : FoldValue). IsRecorded f.program f.phase (vectors f.sums) c.args.point end.made end.point)
    c.in_ok-fold.ensures.fold
    c.in_ok-end.ensures.run in
    record {
      sums = c.in_ok-sums.ensures.sums;
      table = c.in_ok-fold.ensures.table;
      bound = c.bound-bound.ensures.bound;
      low = c.bound-bound.ensures.small;
      run = ran;
      start =
          run_end_starts p c.n.ensures.program plan c.args.phase sums c.args.point end.point end.made c.requires.begun.0
          c.requires.begun.1.tables
          c.in_ok-sums.ensures.sums c.requires.start ran;
    }
