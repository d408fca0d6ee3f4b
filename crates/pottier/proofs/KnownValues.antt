-- The words of a completion at values worked by hand, for the row (1 2 1).
use Rattle.std.specs.Prelude.{◌≡◌, ℤ, pos, neg_ℤ, true, false, [], ◌∷◌, refl}
use Rattle.lattice_theory.specs.Vectors.{Vector}
use Rattle.lattice_laws.proofs.Completion.{counts}
use Rattle.lattice_laws.proofs.Elements.{first_rows}
use Rattle.pottier.specs.Partners.{partner, pair_counts}
use Rattle.pottier.specs.Stages.{with_product}

abbrev three : ℤ → ℤ → ℤ → Vector
three a b c = a ∷ b ∷ c ∷ []

abbrev four : ℤ → ℤ → ℤ → ℤ → Vector
four a b c d = a ∷ b ∷ c ∷ d ∷ []

a_new_entry : with_product (three (pos 1) (pos 2) (pos 1)) (three (pos 0) (pos 1) (neg_ℤ (pos 2))) ≡ four (pos 0)
    (pos 1) (neg_ℤ (pos 2)) (pos 0)
a_new_entry = refl

-- (0 0 1) and -(1 0 0) agree, and their products 1 and -1 clash
a_pair : counts 3 (four (pos 0) (pos 0) (pos 1) (pos 1)) (four (neg_ℤ (pos 1)) (pos 0) (pos 0) (neg_ℤ (pos 1))) ≡ true
a_pair = refl

-- with the other sign the products agree
no_clash : counts 3 (four (pos 0) (pos 0) (pos 1) (pos 1)) (four (pos 1) (pos 0) (pos 0) (pos 1)) ≡ false
no_clash = refl

-- (0 1 -1) and (1 -1 0) do not agree in their second entries
no_agreement : counts 3 (four (pos 0) (pos 1) (neg_ℤ (pos 1)) (pos 1))
    (four (pos 1) (neg_ℤ (pos 1)) (pos 0) (neg_ℤ (pos 1))) ≡ false
no_agreement = refl

no_row : first_rows 0 (record { cols = 3; rows = three (pos 1) (pos 2) (pos 1) ∷ [] }) ≡ record { cols = 3; rows = [] }
no_row = refl

-- of (0 0 1) and (1 0 0) with the products 1 and 1 the second is turned, and the pair counts
a_partner : partner 3 (four (pos 0) (pos 0) (pos 1) (pos 1)) (four (pos 1) (pos 0) (pos 0) (pos 1)) ≡ four
    (neg_ℤ (pos 1)) (pos 0) (pos 0) (neg_ℤ (pos 1))
a_partner = refl

a_turned_pair : pair_counts 3 (four (pos 0) (pos 0) (pos 1) (pos 1)) (four (pos 1) (pos 0) (pos 0) (pos 1)) ≡ true
a_turned_pair = refl

no_pair_with_a_product_of_0 : pair_counts 3 (four (pos 0) (pos 0) (pos 1) (pos 1))
    (four (pos 1) (neg_ℤ (pos 1)) (pos 0) (pos 0)) ≡ false
no_pair_with_a_product_of_0 = refl
