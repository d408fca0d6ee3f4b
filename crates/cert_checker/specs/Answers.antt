-- What the checker answers.
use Rattle.std.specs.Prelude.{◌+◌, Bool, ◌&&◌, length, None, Some}
use Rattle.lattice_theory.specs.Matrices.{has_shape}
use Rattle.fold_theory.specs.Programs.{Program}
use Rattle.run_theory.specs.Certificates.{Certificate}
use Rattle.run_theory.specs.Checker.{first_broken, claimed_verdict}
use Rattle.fold_theory.specs.Verdicts.{Holds}
use Rattle.cert_checker.specs.declared.answer.Check.{Check}
use Rattle.cert_checker.specs.declared.answer.Check.TheVariants.{Yes, No}

-- yes, with the verdict that is claimed, where no rule is broken, and else no, with the first rule that is
abbrev pub checked : Program → Certificate → Check
checked p c = elim (first_broken p c) [ None ↦ Yes (claimed_verdict p c) | Some rule ↦ No rule ]

-- where the answer is yes, its verdict is true of the program
abbrev pub IsTrueYes : Program → Check → Type 0
IsTrueYes p (Yes verdict) = Holds p verdict
IsTrueYes p (No rule) = Unit {0}

-- the point is one vector with an entry for each column, and each listed element is as long as those of the lattice
abbrev pub parts_fit : Program → Certificate → Bool
parts_fit p c =
    has_shape 1 p.brick.cols c.point && has_shape (length c.bricks.rows) (p.brick.cols + length p.brick.rows) c.bricks
