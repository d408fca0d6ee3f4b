-- Where the checker says yes, its verdict is true of the program.
use Rattle.std.proofs.Common.{◌≡◌, Option, Some, None, Result, Ok, Err, IfOk, refl, sym, subst}
use Rattle.run_theory.specs.declared.Rule.{Rule}
use Rattle.fold_theory.specs.Programs.{Program, IsProgram}
use Rattle.run_theory.specs.Certificates.{Certificate}
use Rattle.run_theory.specs.Checker.{Accept, first_broken, claimed_verdict}
use Rattle.fold_theory.specs.Verdicts.{Holds}
use Rattle.yes_laws.proofs.Accepted as laws
use Rattle.cert_checker.specs.declared.answer.Check.{Check}
use Rattle.cert_checker.specs.declared.answer.Check.TheVariants.{Yes, No}
use Rattle.cert_checker.specs.Answers.{checked, IsTrueYes}

by_rule : (p : Program) (c : Certificate) (o : Option Rule) → first_broken p c ≡ o →
    (Accept p c → Holds p (claimed_verdict p c))
    → IsTrueYes p (elim o [ None ↦ Yes (claimed_verdict p c) | Some rule ↦ No rule ])
by_rule p c None is holds = holds is
by_rule p c (Some rule) is holds = tt

pub yes_holds : {E : Type 0} (r : Result Check E) (p : Program) (c : Certificate) → IsProgram p
    → IfOk r (λ a. a ≡ checked p c) → IfOk r (IsTrueYes p)
yes_holds (Err e) p c program is = tt
yes_holds (Ok a) p c program is =
    subst (IsTrueYes p) (sym is) (by_rule p c (first_broken p c) refl (laws.yes_holds p c program))
