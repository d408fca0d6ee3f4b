use Rattle.std.proofs.Common.{◌∙◌, ap, sym}
use Rattle.fold_theory.specs.Programs.{Brick, is_within}
use Rattle.lattice_laws.proofs.Places.{same_value}
use Rattle.fold_laws.proofs.Bounds.{is_within_true}
use Rattle.fold_program.proofs.program.tests.brick_cost_within.Goals as goal

pub brick_cost-requires-clause-within : goal.brick_cost-requires-clause-within
brick_cost-requires-clause-within c = λ b there.
    is_within_true b c.args.vector.now
    (ap (λ (d : Brick). is_within d c.args.vector.now)
    (same_value _ b c.is_within.ensures.0 there c.is_within.ensures.1) ∙ sym c.is_within.ensures.2
    ∙ c.if-not-is_within.false)
