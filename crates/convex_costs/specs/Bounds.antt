-- How large the numbers of a cost are, and what is kept of an accepted cost.
use Rattle.std.specs.Prelude.{◌≡◌, ℕ, ◌+◌, ◌*◌, ℤ, unsigned_abs, ◌≤◌, ◌≤ℤ◌, List, length, All, IsTrue, None}
use Rattle.lattice_theory.specs.Vectors.{is_bounded}
use Rattle.fold_theory.specs.declared.Cost.{Cost}
use Rattle.fold_theory.specs.declared.Cost.TheVariants.{Quadratic, Points}
use Rattle.fold_theory.specs.declared.Breakpoint.{Breakpoint}
use Rattle.convex_costs.specs.Faults.{cost_fault}

-- what the terms of a quadratic cost come to in absolute value, at a number of that size
abbrev pub terms : ℤ → ℤ → ℤ → ℕ → ℕ
terms a b c m = unsigned_abs a * (m * m) + unsigned_abs b * m + unsigned_abs c

-- the place and the value are at most 2 ^ 62 in absolute value
abbrev pub IsBoundedPoint : Breakpoint → Type 0
IsBoundedPoint p = IsTrue (is_bounded p.at) × IsTrue (is_bounded p.value)

-- 1 to 1,000 breakpoints, each within 2 ^ 62
pub record AreBoundedPoints (ps : List Breakpoint) : Type 0 where
  pub some : 1 ≤ length ps
  pub few : length ps ≤ 1000
  pub small : All IsBoundedPoint ps

-- 1 to 1,000 breakpoints, and each number at most 2 ^ 62 in absolute value
abbrev pub AreBounded : Cost → Type 0
AreBounded (Quadratic a b c) = IsTrue (is_bounded a) × IsTrue (is_bounded b) × IsTrue (is_bounded c)
AreBounded (Points ps) = AreBoundedPoints ps

-- the cost is accepted from lo to hi, and all numbers are within 2 ^ 62
pub record IsAccepted (c : Cost) (lo hi : ℤ) : Type 0 where
  pub faultless : cost_fault c lo hi ≡ None
  pub order : lo ≤ℤ hi
  pub low : IsTrue (is_bounded lo)
  pub high : IsTrue (is_bounded hi)
  pub numbers : AreBounded c
