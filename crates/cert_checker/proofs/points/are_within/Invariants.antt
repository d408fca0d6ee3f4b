use Rattle.std.proofs.Common.{◌≡◌, drop}
use Rattle.lattice_theory.specs.Lists.{all_zip}
use Rattle.fold_theory.specs.Programs.{is_within}
use Rattle.cert_checker.proofs.points.are_within.Given as goal

abbrev pub invariant-loop-before : goal.invariant-loop-before
invariant-loop-before l =
    all_zip is_within (drop l.before l.program.bricks) (drop l.before l.point.rows)
    ≡ all_zip is_within l.program.bricks l.point.rows
