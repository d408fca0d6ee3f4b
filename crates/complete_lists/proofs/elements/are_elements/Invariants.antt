use Rattle.std.proofs.Common.{◌≡◌, drop}
use Rattle.std.specs.List.{list_all}
use Rattle.lattice_theory.specs.Lattices as lattice
use Rattle.complete_lists.proofs.elements.are_elements.Given as goal

abbrev pub invariant-loop-row : goal.invariant-loop-row
invariant-loop-row l =
    list_all (lattice.is_signed_element l.matrix) (drop l.row l.basis.rows)
    ≡ list_all (lattice.is_signed_element l.matrix) l.basis.rows
