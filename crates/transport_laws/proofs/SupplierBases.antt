-- The bases of a transport program, worked by hand: six elements for its brick matrix, and seven for its link matrix.
use Rattle.std.proofs.Common.{◌≡◌, ℕ, true, refl, List}
use Rattle.fold_theory.specs.declared.Phase.{Phase}
use Rattle.fold_theory.specs.declared.Phase.TheVariants.{Closed, Counted}
use Rattle.lattice_theory.specs.Vectors.{Vector}
use Rattle.lattice_theory.specs.Matrices.{Matrix}
use Rattle.lattice_theory.specs.Lattices.{IsSlackBasis, kernel, is_complete_for}
use Rattle.lattice_laws.proofs.SlackBases.{slack_basis_unique}
use Rattle.run_theory.specs.Links.{Bases, link_matrix, fold_complexity}
use Rattle.run_theory.proofs.KnownValues.{supplier_basis, supplier_link_basis}
use Rattle.fold_gen.specs.Transports.{links, shares, transport}
use Rattle.transport_laws.proofs.ReducedLists.{is_reduced, reduced_is_slack}

-- ---- they pass the tests

bricks_complete : is_complete_for shares supplier_basis ≡ true
bricks_complete = refl

bricks_reduced : is_reduced supplier_basis ≡ true
bricks_reduced = refl

pub bricks_slack : IsSlackBasis shares supplier_basis
bricks_slack = reduced_is_slack shares supplier_basis bricks_complete bricks_reduced

-- the columns of the generators
abbrev pub columns : Matrix
columns = link_matrix links (kernel 3 supplier_basis)

links_complete : is_complete_for columns supplier_link_basis ≡ true
links_complete = refl

links_reduced : is_reduced supplier_link_basis ≡ true
links_reduced = refl

pub links_slack : IsSlackBasis columns supplier_link_basis
links_slack = reduced_is_slack columns supplier_link_basis links_complete links_reduced

abbrev pub supplier_bases : Bases
supplier_bases = record { brick = supplier_basis; links = supplier_link_basis }

-- ---- and are those of each transport program

pub brick_basis_is : (basis : List Vector) → IsSlackBasis shares basis → basis ≡ supplier_basis
brick_basis_is basis slack = slack_basis_unique shares basis supplier_basis slack bricks_slack

pub complexity_is : (number bricks : ℕ) (phase : Phase) → fold_complexity (transport number bricks) phase supplier_bases
    ≡ 3
complexity_is number bricks Closed = refl
complexity_is number bricks Counted = refl
