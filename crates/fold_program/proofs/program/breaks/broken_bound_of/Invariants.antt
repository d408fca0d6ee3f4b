use Rattle.std.proofs.Common.{◌≡◌, ◌+◌, drop}
use Rattle.fold_theory.specs.Breaks.{bound_breaks, first_of}
use Rattle.fold_program.proofs.program.breaks.broken_bound_of.Given as goal

abbrev pub invariant-loop-at : goal.invariant-loop-at
invariant-loop-at l =
    first_of (bound_breaks l.brick (l.at + 1) (drop l.at l.lower) (drop l.at l.upper) (drop l.at l.vector))
    ≡ first_of (bound_breaks l.brick 1 l.lower l.upper l.vector)
