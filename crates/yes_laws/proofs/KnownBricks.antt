-- The laws at values worked by hand: a program of two bricks with bounds 0 and 4, of which the first cannot reach 9.
use Rattle.std.specs.Prelude.{◌≡◌, pos, refl}
use Rattle.fold_theory.specs.declared.Verdict.TheVariants.{InfeasibleBrick}
use Rattle.fold_theory.specs.Programs.{Program}
use Rattle.run_theory.specs.Certificates.{Certificate}
use Rattle.run_theory.specs.Checker.{Accept, claimed_verdict}
use Rattle.fold_theory.specs.Verdicts.{Holds}
use Rattle.fold_theory.proofs.KnownValues.{program_with}
use Rattle.run_theory.proofs.KnownValues.{brick_certificate}
use Rattle.yes_laws.proofs.BrickMisses.{accepted_holds}
use Rattle.fold_theory.specs.declared.Relation.TheVariants.{Equal}
use Rattle.piece_laws.proofs.KnownPrograms.{is_a_program}

abbrev the_program : Program
the_program = program_with 3 9

abbrev the_certificate : Certificate
the_certificate = brick_certificate (pos 4) (pos 4)

pub it_is_accepted : Accept the_program the_certificate
it_is_accepted = refl

-- 4 + 4 misses 9 by 1
pub its_claim : claimed_verdict the_program the_certificate ≡ InfeasibleBrick 1 1
its_claim = refl

-- ---- the law, at this program

-- all premises of the law are met, and it says that brick 1 misses its row by 1 at least
pub it_holds : Holds the_program (InfeasibleBrick 1 1)
it_holds = accepted_holds the_program the_certificate 1 (is_a_program Equal 3 9) refl it_is_accepted
