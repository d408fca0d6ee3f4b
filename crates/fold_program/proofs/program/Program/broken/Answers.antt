use Rattle.std.proofs.Common.{subst}
use Rattle.fold_theory.specs.Programs.{Program, IsProgram}
use Rattle.fold_program.proofs.FeasibleLaws.{judged}
use Rattle.fold_program.proofs.program.Program.broken.Goals as goal

pub returns-clause-none : goal.returns-clause-none
returns-clause-none c =
    let program : IsProgram c.args.self.now =
    subst (λ (p : Program). IsProgram p) c.self.view_is c.self.invariant.program in
    (judged c.args.self.now c.args.p.now c.first_broken.result program c.requires.shape c.first_broken.ensures).0

pub returns-clause-some : goal.returns-clause-some
returns-clause-some c =
    let program : IsProgram c.args.self.now =
    subst (λ (p : Program). IsProgram p) c.self.view_is c.self.invariant.program in
    (judged c.args.self.now c.args.p.now c.first_broken.result program c.requires.shape c.first_broken.ensures).1
