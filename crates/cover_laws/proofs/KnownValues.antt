-- Members of lattices and Graver bases at matrices worked by hand: the rows (1 1) and (1 2).
use Rattle.std.proofs.Common.{inl, arith, []}
use Rattle.cover_laws.specs.ConformalSums.{ConformalSum}
use Rattle.lattice_theory.specs.Vectors.{Vector, conforms, is_zero}
use Rattle.std.specs.Prelude.{List, ◌≡◌, pos, neg_ℤ, ◌∷◌, true, false, refl}
use Rattle.lattice_theory.specs.Matrices.{Matrix, product}
use Rattle.lattice_theory.specs.Lattices.{kernel}
use Rattle.cover_laws.specs.Graver.{IsInKernel}
use Rattle.lattice_theory.proofs.KnownValues.{minus, three}
use Rattle.cover_laws.specs.Elements.{IsNonzeroElement}

-- ---- the Graver basis of the row (1 2)

abbrev one_two : Matrix
one_two = record { cols = 2; rows = (pos 1 ∷ pos 2 ∷ []) ∷ [] }

pub there : IsInKernel one_two (pos 2 ∷ neg_ℤ (pos 1) ∷ [])
there = record { size = refl; quiet = refl }

pub not_there : is_zero (product one_two (pos 1 ∷ neg_ℤ (pos 1) ∷ [])) ≡ false
not_there = refl

-- twice the vector is in the kernel too, and has the vector below it
pub below_its_double : conforms (pos 2 ∷ neg_ℤ (pos 1) ∷ []) (pos 4 ∷ neg_ℤ (pos 2) ∷ []) ≡ true
below_its_double = refl

-- the slack basis of this row has four members, of which one has image 0
abbrev its_slack_basis : List Vector
its_slack_basis =
    three (pos 0) (pos 1) (pos 2) ∷ three (pos 1) (minus 1) (minus 1) ∷ three (pos 1) (pos 0) (pos 1)
    ∷ three (pos 2) (minus 1) (pos 0) ∷ []

pub listed : kernel 2 its_slack_basis ≡ (pos 2 ∷ minus 1 ∷ []) ∷ []
listed = refl

-- ---- members

-- the lattice of the matrix (1 1)
abbrev pair : Matrix
pair = record { cols = 2; rows = (pos 1 ∷ pos 1 ∷ []) ∷ [] }

pub opposite_entries : IsNonzeroElement pair (three (pos 1) (minus 1) (pos 0))
opposite_entries = record { member = record { size = refl; image = refl }; nonzero = refl }

pub zero_is_none : IsNonzeroElement pair (three (pos 0) (pos 0) (pos 0)) → ⊥
zero_is_none element = absurd (cc (element.nonzero))

pub wrong_image_is_none : IsNonzeroElement pair (three (pos 1) (minus 1) (pos 1)) → ⊥
wrong_image_is_none element = absurd (cc (element.member.image))

-- ---- conformal sums

-- (1 2 3) is a sum of the unit elements (1 0 1) and (0 1 1) of the lattice of the row (1 1), each conformally below it
abbrev units : List Vector
units = three (pos 0) (pos 1) (pos 1) ∷ three (pos 1) (pos 0) (pos 1) ∷ []

pub a_conformal_sum : ConformalSum 3 units (three (pos 1) (pos 2) (pos 3))
a_conformal_sum = (
  record {
    terms = three (pos 1) (pos 0) (pos 1) ∷ three (pos 0) (pos 1) (pos 1) ∷ three (pos 0) (pos 1) (pos 1) ∷ [];
    signed = (
      (refl, inl (1, omega arith, refl)),
      ((refl, inl (0, omega arith, refl)), ((refl, inl (0, omega arith, refl)), tt)),
    );
    sum = refl;
  },
  (refl, (refl, (refl, tt))),
)

-- (1 -1 0) is the difference of the two, of which neither is below it
pub a_difference_is_not_conformal : conforms (three (pos 1) (pos 0) (pos 1)) (three (pos 1) (minus 1) (pos 0)) ≡ false
a_difference_is_not_conformal = refl
