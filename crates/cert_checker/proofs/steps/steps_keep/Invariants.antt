use Rattle.cert_checker.proofs.StepLaws.{Kept}
use Rattle.cert_checker.proofs.steps.steps_keep.Given as goal

abbrev pub invariant-loop-row : goal.invariant-loop-row
invariant-loop-row l = Kept l.program l.brick l.x l.basis.rows l.least l.row
