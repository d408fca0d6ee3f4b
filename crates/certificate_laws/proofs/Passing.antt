-- Tests that pass: each fact and the test that decides it, and a list of rules whose tests all pass.
use Rattle.std.proofs.Common.{◌≡◌, ℕ, nat_eq, Bool, true, ◌&&◌, cond, List, [], ◌∷◌, length, Some, None, refl, ap, ◌∙◌}
use Rattle.std.specs.List.{AllZip, AllByRecursion, list_all}
use Rattle.std.proofs.lemmas.Bool.{and_from}
use Rattle.lattice_theory.specs.Lists.{all_zip}
use Rattle.lattice_theory.specs.Vectors.{Vector}
use Rattle.lattice_theory.specs.Matrices.{has_shape}
use Rattle.run_theory.specs.declared.Rule.{Rule}
use Rattle.run_theory.specs.Checker.{first_failing}
use Rattle.lattice_laws.specs.VectorLists.{AreSized}
use Rattle.lattice_laws.proofs.Tests.{nat_eq_of}

pub all_zip_of : {A B : Type 0} (R : A → B → Type 0) (test : A → B → Bool) →
    ((a : A) (b : B) → R a b → test a b ≡ true) → (xs : List A) (ys : List B) → AllZip R xs ys →
    all_zip test xs ys ≡ true
all_zip_of R test says [] [] h = refl
all_zip_of R test says [] (y ∷ ys) h = absurd h
all_zip_of R test says (x ∷ xs) [] h = absurd h
all_zip_of R test says (x ∷ xs) (y ∷ ys) h =
    ap (λ t. t && all_zip test xs ys) (says x y h.0) ∙ all_zip_of R test says xs ys h.1

-- rows of one length
pub sized_of : {X : Type 0} (n : ℕ) (rows : List (List X)) → AllByRecursion (λ row. length row ≡ n) rows →
    list_all (λ row. nat_eq (length row) n) rows ≡ true
sized_of n [] h = refl
sized_of n (row ∷ rows) h =
    ap (λ t. t && list_all (λ r. nat_eq (length r) n) rows) (nat_eq_of (length row) n h.0) ∙ sized_of n rows h.1

-- a matrix by its rows
pub has_shape_of : (rows cols : ℕ) (vs : List Vector) → length vs ≡ rows → AreSized cols vs →
    has_shape rows cols (record { cols = cols; rows = vs }) ≡ true
has_shape_of rows cols vs height sized =
    and_from (nat_eq (length vs) rows && nat_eq cols cols) (list_all (λ row. nat_eq (length row) cols) vs)
    (and_from (nat_eq (length vs) rows) (nat_eq cols cols) (nat_eq_of (length vs) rows height)
    (nat_eq_of cols cols refl))
    (sized_of cols vs sized)

-- no rule is the first to fail
pub none_failing : (tests : List (Rule × Bool)) → AllByRecursion (λ t. t.1 ≡ true) tests → first_failing tests ≡ None
none_failing [] h = refl
none_failing (test ∷ tests) h =
    ap (λ t. cond t (first_failing tests) (Some test.0)) h.0 ∙ none_failing tests h.1
