-- What is found of the link matrix of generators.
use Rattle.std.specs.Prelude.{◌≡◌, ◌≤◌, ◌<◌, ◌^◌, ℤ, unsigned_abs, List, map, Option, Some, None, All}
use Rattle.lattice_theory.specs.Vectors.{Vector, dot}
use Rattle.lattice_theory.specs.Matrices.{Matrix}
use Rattle.lattice_theory.specs.BasisLimits.{IsNarrow}
use Rattle.run_theory.specs.Links.{link_matrix}

-- the product where it is at most 2 ^ 31 - 1 in absolute value, and none where it is larger
abbrev pub IsNarrowProduct : Vector → Vector → Option ℤ → Type 0
IsNarrowProduct row v None = 2 ^ 31 ≤ unsigned_abs (dot row v)
IsNarrowProduct row v (Some a) = (a ≡ dot row v) × (unsigned_abs a < 2 ^ 31)

-- the products of a row with the generators where all are narrow, and none where one is not
abbrev pub AreImages : Vector → List Vector → Option Vector → Type 0
AreImages row gens None = IsNarrow (map (dot row) gens) → ⊥
AreImages row gens (Some images) = (images ≡ map (dot row) gens) × IsNarrow images

-- the link matrix where all its entries are narrow, and none where one is not
abbrev pub IsLinkMatrix : Matrix → List Vector → Option Matrix → Type 0
IsLinkMatrix link gens None = All IsNarrow (link_matrix link gens).rows → ⊥
IsLinkMatrix link gens (Some m) = (m ≡ link_matrix link gens) × All IsNarrow m.rows
