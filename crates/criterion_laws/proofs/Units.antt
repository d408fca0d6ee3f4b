-- Unit vectors: their norms and their signs, and the list of them.
use Rattle.std.proofs.Common.{ℕ, zero, suc, ◌<◌, ◌≤◌, pos, arith, Contains, inl, inr, subst}
use Rattle.std.proofs.lemmas.List.Elements.{Contains-push_cases}
use Rattle.lattice_theory.specs.Vectors.{Vector, norm1, zeros}
use Rattle.lattice_theory.specs.Matrices.{unit_vector}
use Rattle.lattice_laws.proofs.Conformal.{norm1-cons, norm_of_zero}
use Rattle.lattice_laws.proofs.Products.{zero-zeros}
use Rattle.lattice_laws.proofs.UnitVectors.{first_units}

-- a unit vector has norm 1
pub unit_norm : (t j : ℕ) → norm1 (unit_vector t j) ≤ 1
unit_norm zero j = omega arith
unit_norm (suc t) zero = omega (arith, norm1-cons (pos 1) (zeros t), norm_of_zero (zeros t) (zero-zeros t))
unit_norm (suc t) (suc j) = omega (arith, norm1-cons (pos 0) (unit_vector t j), unit_norm t j)

-- what each of the first unit vectors has, each of their list has
pub units_have : (P : Vector → Type 0) (t n : ℕ) → ((j : ℕ) → j < n → P (unit_vector t j)) →
    (v : Vector) → Contains (first_units t n) v → P v
units_have P t zero each v (k, low, e) = absurd (omega arith)
units_have P t (suc n) each v c = elim (Contains-push_cases (first_units t n) (unit_vector t n) v c) [
  | inl d ↦ units_have P t n (λ j low. each j (omega arith)) v d
  | inr same ↦ subst P same (each n (omega arith))
]
