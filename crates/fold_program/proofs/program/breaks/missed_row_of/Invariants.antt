use Rattle.std.proofs.Common.{◌≡◌, ◌+◌, drop, map, unsigned_abs}
use Rattle.lattice_theory.specs.Vectors.{sub, dot}
use Rattle.lattice_theory.specs.Matrices.{product}
use Rattle.fold_theory.specs.Breaks.{row_breaks, first_of}
use Rattle.fold_theory.specs.declared.Broken.TheVariants.{BrickRow}
use Rattle.fold_program.proofs.program.breaks.missed_row_of.Given as goal

abbrev pub invariant-loop-at : goal.invariant-loop-at
invariant-loop-at l =
    first_of (row_breaks (BrickRow l.brick) (l.at + 1)
    (map unsigned_abs (sub (drop l.at l.right) (map (λ row. dot row l.vector) (drop l.at l.matrix.rows)))))
    ≡ first_of (row_breaks (BrickRow l.brick) 1 (map unsigned_abs (sub l.right (product l.matrix l.vector))))
