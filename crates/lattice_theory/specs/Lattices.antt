-- The lattice of all (v, A·v), its Graver basis, and Pottier's criterion on a list of vectors.
use Rattle.std.specs.Prelude.{◌≡◌, ℕ, zero, suc, ◌+◌, ◌/◌, min, pos, unsigned_abs, Bool, false, ◌&&◌, nat_eq, IsTrue}
use Rattle.std.specs.Prelude.{List, [], ◌∷◌, map, length, take, drop, Option, Some, None, cond, All, Contains, filter}
use Rattle.std.specs.Prelude.{fold}
use Rattle.std.specs.List.{list_all}
use Rattle.lattice_theory.specs.Lists.{numbers_from}
use Rattle.lattice_theory.specs.Vectors.{Vector, ◌⊑◌, conforms, is_zero, leads_positive, is_rising, same, add, sub}
use Rattle.lattice_theory.specs.Vectors.{scale, opposite, norm1}
use Rattle.lattice_theory.specs.Matrices.{Matrix, product, element, unit_vector}

-- z is (v, A·v) for the vector v of its first entries
pub record InLattice (m : Matrix) (z : Vector) : Type 0 where
  pub size : length z ≡ m.cols + length m.rows
  pub image : drop m.cols z ≡ product m (take m.cols z)

-- z is a nonzero element of the lattice, and no other nonzero element is conformally below it
pub record IsMinimal (m : Matrix) (z : Vector) : Type 0 where
  pub member : InLattice m z
  pub nonzero : is_zero z ≡ false
  pub least : (y : Vector) → InLattice m y → is_zero y ≡ false → y ⊑ z → y ≡ z

-- the slack basis: one of each pair of signs of the Graver basis of the lattice, the one whose first
-- nonzero entry is positive, in order
pub record IsSlackBasis (m : Matrix) (basis : List Vector) : Type 0 where
  pub rising : IsTrue (is_rising basis)
  pub sound : All (λ z. IsMinimal m z × IsTrue (leads_positive z)) basis
  pub complete : (z : Vector) → IsMinimal m z → IsTrue (leads_positive z) → Contains basis z

-- the first parts v of the listed (v, 0), where v has this many entries
abbrev pub kernel : ℕ → List Vector → List Vector
kernel cols basis = map (take cols) (filter (λ z. is_zero (drop cols z)) basis)

-- the first parts of the listed elements
abbrev pub first_parts : ℕ → List Vector → List Vector
first_parts cols basis = map (take cols) basis

-- how often |e| fits into |v|, over the entries of e that are not 0
abbrev pub multiples : Vector → Vector → List ℕ
multiples [] v = []
multiples (a ∷ e) [] = []
multiples (pos zero ∷ e) (b ∷ v) = multiples e v
multiples (a ∷ e) (b ∷ v) = unsigned_abs b / unsigned_abs a ∷ multiples e v

-- the least of the numbers, and 0 of none
abbrev pub least_of : List ℕ → ℕ
least_of [] = 0
least_of (a ∷ rest) = fold min a rest

-- the greatest multiple of e that is conformally below v
abbrev pub greatest_multiple : Vector → Vector → ℕ
greatest_multiple e v = least_of (multiples e v)

-- the first member that is conformally below z, as it is or with its signs turned
abbrev pub first_below : List Vector → Vector → Option Vector
first_below [] z = None
first_below (e ∷ es) z =
    cond (conforms e z) (Some e) (cond (conforms (opposite e) z) (Some (opposite e)) (first_below es z))

-- z less the greatest multiple of that member, again and again for at most so many turns
abbrev pub reduced_within : ℕ → List Vector → Vector → Vector
reduced_within zero basis z = z
reduced_within (suc turns) basis z =
    elim (first_below basis z) [
      | None ↦ z
      | Some e ↦ reduced_within turns basis (sub z (scale (pos (greatest_multiple e z)) e))
    ]

-- z reduces to 0: each turn lowers the 1-norm, so as many turns as that are enough
abbrev pub reduces_to_zero : List Vector → Vector → Bool
reduces_to_zero basis z = is_zero (reduced_within (norm1 z) basis z)

-- z has the form (v, A·v), and its first nonzero entry is positive
abbrev pub is_signed_element : Matrix → Vector → Bool
is_signed_element m z =
    leads_positive z && nat_eq (length z) (m.cols + length m.rows) && same (drop m.cols z) (product m (take m.cols z))

-- Pottier's criterion: the list is complete for the lattice of the matrix
abbrev pub is_complete_for : Matrix → List Vector → Bool
is_complete_for m basis =
    list_all (is_signed_element m) basis
    && is_rising basis
    && list_all (λ j. reduces_to_zero basis (element m (unit_vector m.cols j))) (numbers_from 0 m.cols)
    && list_all (λ a. list_all (λ b. reduces_to_zero basis (add a b) && reduces_to_zero basis (sub a b)) basis) basis
