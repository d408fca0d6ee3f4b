use Rattle.std.proofs.Common.{◌≡◌, ◌≤◌, ◌+◌, ◌*◌, ◌^◌, ℕ}
use Rattle.lattice_theory.specs.Vectors.{Vector, norm1, sub}
use Rattle.lattice_theory.specs.Matrices.{Matrix, product}
use Rattle.fold_program.proofs.BreakLaws.{rests_from}
use Rattle.fold_program.proofs.program.bricks.residual_of.Given as goal

-- what was missed so far, and what is left
pub record Missed (right : Vector) (m : Matrix) (vector : Vector) (at residual : ℕ) : Type 0 where
  pub all : residual + norm1 (rests_from at right m.rows vector) ≡ norm1 (sub right (product m vector))
  pub small : residual ≤ at * 2 ^ 100

abbrev pub invariant-loop-at : goal.invariant-loop-at
invariant-loop-at l = Missed l.right l.matrix l.vector l.at l.residual
