-- Narrow rows are within the limit of points.
use Rattle.std.proofs.Common.{ℤ, ◌^◌, ◌<◌, List, unsigned_abs, IsTrue, rules, tests}
use Rattle.std.specs.List.{All}
use Rattle.std.proofs.lemmas.List.Elements.{All-weaker}
use Rattle.lattice_theory.specs.Vectors.{Vector, is_bounded, IsBoundedRow}
use Rattle.lattice_theory.specs.BasisLimits.{IsNarrow}

pub bounded_rows : (rows : List Vector) → All IsNarrow rows → All IsBoundedRow rows
bounded_rows rows narrow = All-weaker IsNarrow IsBoundedRow bounded_row rows narrow
  where
    bounded : (a : ℤ) → unsigned_abs a < 2 ^ 31 → IsTrue (is_bounded a)
    bounded a small = search (rules, tests)

    bounded_row : (row : Vector) → IsNarrow row → IsBoundedRow row
    bounded_row row thin = All-weaker (λ a. unsigned_abs a < 2 ^ 31) (λ a. IsTrue (is_bounded a)) bounded row thin
