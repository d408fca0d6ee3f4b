use Rattle.std.proofs.Common.{arith, ◌≡◌, ◌≤◌, ◌∙◌, sym, ap, subst, length, None}
use Rattle.fold_theory.specs.Programs.{Program, Bricks, IsFeasible}
use Rattle.fold_program.specs.declared.fault.ProgramFault.TheVariants.{Memory}
use Rattle.fold_program.specs.Parts.{program_of}
use Rattle.fold_program.specs.Refusals.{program_refusal}
use Rattle.fold_gen.specs.Draws.{customers}
use Rattle.fold_gen.specs.Transports.{transport, transport_of}
use Rattle.fold_gen.proofs.DrawLaws.{length-customers}
use Rattle.fold_gen.proofs.PlantedLaws.{feasible}
use Rattle.fold_gen.proofs.AcceptedLaws.{all_small, not_refused, no_fault}
use Rattle.fold_gen.proofs.programs.transport.Goals as goal
use Rattle.fold_gen.proofs.programs.transport.Goals.{In-Ok, in-Memory, in_default}

pub parts-requires-clause-some : goal.parts-requires-clause-some
parts-requires-clause-some c =
    omega (
      arith,
      ap length (c.deref.ensures.value ∙ c.in_ok-customers.ensures),
      length-customers c.args.bricks c.args.number,
    )

pub parts-requires-clause-few : goal.parts-requires-clause-few
parts-requires-clause-few c =
    omega (
      arith,
      ap length (c.deref.ensures.value ∙ c.in_ok-customers.ensures),
      length-customers c.args.bricks c.args.number,
    )

-- the program is that of its customers
made : (c : In-Ok) → c.in-Ok.program ≡ transport c.args.number c.args.bricks
made c =
    c.in-Ok.ensures.made ∙ c.in_ok-parts.ensures.program
    ∙ ap transport_of (c.deref.ensures.value ∙ c.in_ok-customers.ensures)

pub returns-in-Ok-clause-program : goal.returns-in-Ok-clause-program
returns-in-Ok-clause-program c = made c.before

pub returns-in-Ok-clause-feasible : goal.returns-in-Ok-clause-feasible
returns-in-Ok-clause-feasible c =
    subst (λ (p : Program). (x : Bricks) × IsFeasible p x) (sym (made c.before)) (feasible c.args.number c.args.bricks)

pub prove-unreachable-requires : goal.prove-unreachable-requires
prove-unreachable-requires c =
    let drawn = c.deref.ensures.value ∙ c.in_ok-customers.ensures in
    let few : length (customers c.args.bricks c.args.number) ≤ 10000 =
    omega (arith, length-customers c.args.bricks c.args.number) in
    let accepted : program_refusal (program_of c.in_ok-parts.parts) ≡ None =
    ap program_refusal (c.in_ok-parts.ensures.program ∙ ap transport_of drawn)
    ∙ not_refused (customers c.args.bricks c.args.number) (all_small c.args.bricks c.args.number) few in
    let only : c.in-Err.fault ≡ Memory =
    no_fault c.in_ok-parts.parts c.in-Err.fault c.in_ok-parts.ensures.shaped accepted c.in-Err.ensures.refused in
    elim c.match-matches.branch [
      | in-Memory w ↦ cc
      | in_default w ↦ w.in_default.not-Memory only
    ]
