use Rattle.std.proofs.Common.{◌≡◌, drop, nat_eq}
use Rattle.lattice_theory.specs.Lists.{all_zip}
use Rattle.fold_theory.specs.Programs.{brick_residual}
use Rattle.cert_checker.proofs.points.meet_brick_rows.Given as goal

abbrev pub invariant-loop-before : goal.invariant-loop-before
invariant-loop-before l =
    all_zip (λ b v. nat_eq (brick_residual l.program b v) 0) (drop l.before l.program.bricks)
    (drop l.before l.point.rows)
    ≡ all_zip (λ b v. nat_eq (brick_residual l.program b v) 0) l.program.bricks l.point.rows
