-- Laws of the shapes of matrices.
use Rattle.std.proofs.Common.{◌≡◌, ℕ, Bool, true, false, ◌&&◌, nat_eq, List, [], ◌∷◌, length, refl, ap, arith, ◌∙◌, All}
use Rattle.std.specs.List.{AllByRecursion, list_all}
use Rattle.std.proofs.lemmas.Bool.Decides.{nat_tests}
use Rattle.std.proofs.lemmas.List.Elements.{recursion_from_All}
use Rattle.lattice_theory.specs.Vectors.{Vector}
use Rattle.lattice_theory.specs.Matrices.{Matrix, has_shape}
use Rattle.lattice_laws.proofs.Tests.{nat_eq_true}

-- where the rows are as long as the matrix says, two numbers are the shape
pub has_shape-even : (rows cols : ℕ) (m : Matrix) → All (λ row. length row ≡ m.cols) m.rows →
    has_shape rows cols m ≡ (nat_eq (length m.rows) rows && nat_eq m.cols cols)
has_shape-even rows cols m even = by (nat_eq (length m.rows) rows) (nat_eq m.cols cols) refl
  where
    over : m.cols ≡ cols → (vs : List Vector) → AllByRecursion (λ row. length row ≡ m.cols) vs →
        list_all (λ row. nat_eq (length row) cols) vs ≡ true
    over same [] h = refl
    over same (v ∷ vs) h =
        let here : length v ≡ cols = h.0 ∙ same in
        let test : nat_eq (length v) cols ≡ true = grind (arith, nat_tests) in
        ap (λ t. t && list_all (λ row. nat_eq (length row) cols) vs) test ∙ over same vs h.1

    by : (a b : Bool) → nat_eq m.cols cols ≡ b → ((a && b) && list_all (λ row. nat_eq (length row) cols) m.rows)
        ≡ (a && b)
    by true true same = over (nat_eq_true m.cols cols same) m.rows
        (recursion_from_All (λ row. length row ≡ m.cols) m.rows even)
    by true false same = refl
    by false b same = refl
