use Rattle.std.proofs.Common.{◌≡◌, drop}
use Rattle.lattice_theory.specs.Vectors as vector
use Rattle.complete_lists.proofs.completeness.is_listed.Given as goal

abbrev pub invariant-loop-row : goal.invariant-loop-row
invariant-loop-row l = vector.is_listed (drop l.row l.basis.rows) l.z ≡ vector.is_listed l.basis.rows l.z
