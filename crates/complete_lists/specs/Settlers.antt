-- What the parts of the settlers have to do with one another and with the list.
use Rattle.std.specs.Prelude.{◌≡◌, ◌≤◌, length, All}
use Rattle.std.specs.List.Sorted.{IsPermutation}
use Rattle.lattice_theory.specs.Vectors.{Vector}
use Rattle.lattice_theory.specs.BasisLimits.{IsNarrow}
use Rattle.complete_lists.specs.Ranks.{rows_in, signs_in}
use Rattle.complete_lists.specs.declared.clashes.Settlers.TheInside.{Inside}

-- the rows of the list in the order of norms, and the signs of their first places in either order
pub record AreSettlers (s : Inside) : Type 0 where
  pub narrow : All IsNarrow s.basis.now.rows
  pub order : IsPermutation s.basis.now.rows (rows_in s.ranked.items)
  pub widths : All (λ (v : Vector). length v ≡ s.basis.now.cols) (rows_in s.ranked.items)
  pub first : s.places ≤ s.cols
  pub inside : s.places ≤ s.basis.now.cols
  pub ranked_signs : s.signs.items ≡ signs_in s.places (rows_in s.ranked.items)
  pub listed_signs : s.listed.items ≡ signs_in s.places s.basis.now.rows
