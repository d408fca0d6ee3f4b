-- The link matrix of a program and its complexity.
use Rattle.std.specs.Prelude.{ℕ, max, Bool, true, List, map, length, take, drop, filter, cond}
use Rattle.std.specs.List.{list_all}
use Rattle.fold_theory.specs.declared.Phase.{Phase}
use Rattle.fold_theory.specs.declared.Phase.TheVariants.{Closed, Counted}
use Rattle.fold_theory.specs.declared.Relation.{Relation}
use Rattle.lattice_theory.specs.Lists.{greatest}
use Rattle.lattice_theory.specs.Vectors.{Vector, dot, norm1, is_zero}
use Rattle.lattice_theory.specs.Matrices.{Matrix}
use Rattle.lattice_theory.specs.Lattices.{IsSlackBasis, kernel}
use Rattle.fold_theory.specs.Programs.{Program, keeps_equations}

-- the matrix with the columns A1·v, for the vectors in order
abbrev pub link_matrix : Matrix → List Vector → Matrix
link_matrix link vectors = record { cols = length vectors; rows = map (λ row. map (dot row) vectors) link.rows }

-- 2 where the matrix has a nonzero entry, and 1 where it has none
abbrev pub least_complexity : Matrix → ℕ
least_complexity m = cond (list_all is_zero m.rows) 1 2

-- the first part w of the listed (w, M·w) counts in this phase: in phase Closed where M·w is 0 in each equation
abbrev pub counts_in : Phase → List Relation → ℕ → Vector → Bool
counts_in Closed relations cols z = keeps_equations relations (drop cols z)
counts_in Counted relations cols z = true

-- the greatest 1-norm of a first part that counts, and at least the least value
abbrev pub complexity : Phase → List Relation → Matrix → List Vector → ℕ
complexity phase relations m basis =
    max (least_complexity m) (greatest (map (λ z. norm1 (take m.cols z))
    (filter (counts_in phase relations m.cols) basis)))

-- the slack basis of the brick matrix, and that of the link matrix
pub record Bases : Type 0 where
  pub brick : List Vector
  pub links : List Vector

-- the generators of brick sums: the vectors v of the (v, 0) in the brick matrix's slack basis
abbrev pub generators : Program → List Vector → List Vector
generators p basis = kernel p.brick.cols basis

abbrev pub links_of : Program → List Vector → Matrix
links_of p basis = link_matrix p.link (generators p basis)

pub record AreBases (p : Program) (b : Bases) : Type 0 where
  pub brick : IsSlackBasis p.brick b.brick
  pub links : IsSlackBasis (links_of p b.brick) b.links

-- the complexity of the program in this phase
abbrev pub fold_complexity : Program → Phase → Bases → ℕ
fold_complexity p phase b = complexity phase p.relations (links_of p b.brick) b.links
