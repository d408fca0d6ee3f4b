-- The criterion by prefixes at values worked by hand.
use Rattle.std.proofs.Common.{◌≡◌, ℤ, pos, neg_ℤ, ℕ, true, false, [], ◌∷◌, Some, None, refl}
use Rattle.lattice_theory.specs.Vectors.{Vector}
use Rattle.lattice_theory.specs.Matrices.{Matrix}
use Rattle.criterion_laws.specs.Prefixes.{first_clash, is_below_in, clash_settles, is_complete_by_prefixes}

abbrev minus : ℕ → ℤ
minus n = neg_ℤ (pos n)

abbrev three : ℤ → ℤ → ℤ → Vector
three a b c = a ∷ b ∷ c ∷ []

-- ---- first clashes

pub at_the_last_entry : first_clash (three (pos 1) (pos 0) (pos 1)) (three (pos 1) (minus 1) (minus 3)) ≡ Some 2
at_the_last_entry = refl

pub at_the_first_entry : first_clash (three (minus 1) (pos 0) (pos 1)) (three (pos 1) (minus 1) (minus 3)) ≡ Some 0
at_the_first_entry = refl

pub nowhere : first_clash (three (pos 1) (pos 0) (pos 1)) (three (pos 0) (pos 7) (pos 0)) ≡ None
nowhere = refl

-- ---- prefixes

-- (1, 9, 9) is below (2, 3, 4) in one entry and not in two; (-1, -2, 0) is with its signs turned in all three
pub in_one_entry : is_below_in 1 (three (pos 2) (pos 3) (pos 4)) (three (pos 1) (pos 9) (pos 9)) ≡ true
in_one_entry = refl

pub not_in_two : is_below_in 2 (three (pos 2) (pos 3) (pos 4)) (three (pos 1) (pos 9) (pos 9)) ≡ false
not_in_two = refl

pub turned : is_below_in 3 (three (pos 2) (pos 3) (pos 4)) (three (minus 1) (minus 2) (pos 0)) ≡ true
turned = refl

-- (0, 1, 1) and (1, 0, 1), the second with its signs turned, clash in the last entry: (1, -1, 0) is below what is left
pub settled_by_the_difference : clash_settles 2 (three (pos 1) (minus 1) (pos 0) ∷ []) (three (pos 0) (pos 1) (pos 1))
    (three (minus 1) (pos 0) (minus 1)) ≡ true
settled_by_the_difference = refl

pub not_settled_without_it : clash_settles 2 (three (pos 0) (pos 1) (pos 1) ∷ []) (three (pos 0) (pos 1) (pos 1))
    (three (minus 1) (pos 0) (minus 1)) ≡ false
not_settled_without_it = refl

-- ---- the criterion, at the row (1 1)

abbrev pair : Matrix
pair = record { cols = 2; rows = (pos 1 ∷ pos 1 ∷ []) ∷ [] }

abbrev up : Vector
up = three (pos 0) (pos 1) (pos 1)

abbrev across : Vector
across = three (pos 1) (minus 1) (pos 0)

abbrev right : Vector
right = three (pos 1) (pos 0) (pos 1)

pub the_slack_basis : is_complete_by_prefixes pair (up ∷ across ∷ right ∷ []) ≡ true
the_slack_basis = refl

pub without_the_difference : is_complete_by_prefixes pair (up ∷ right ∷ []) ≡ false
without_the_difference = refl

pub without_a_unit_vector : is_complete_by_prefixes pair (up ∷ across ∷ []) ≡ false
without_a_unit_vector = refl

pub out_of_order : is_complete_by_prefixes pair (across ∷ up ∷ right ∷ []) ≡ false
out_of_order = refl

-- a member more than the slack basis does no harm
pub with_a_sum : is_complete_by_prefixes pair (up ∷ across ∷ right ∷ three (pos 1) (pos 1) (pos 2) ∷ []) ≡ true
with_a_sum = refl

-- no element, or none that leads positive
pub with_a_wrong_image : is_complete_by_prefixes pair (up ∷ across ∷ right ∷ three (pos 1) (pos 1) (pos 1) ∷ []) ≡ false
with_a_wrong_image = refl

pub with_a_negative_lead : is_complete_by_prefixes pair (three (minus 1) (pos 1) (pos 0) ∷ up ∷ across ∷ right ∷ []) ≡
    false
with_a_negative_lead = refl
