-- A bound on a complexity, element by element.
use Rattle.std.proofs.Common.{◌≡◌, ℕ, suc, ◌≤◌, max, nat_le, Bool, true, false, not, ◌&&◌, ◌||◌, cond, List, [], ◌∷◌}
use Rattle.std.proofs.Common.{length, map, take, drop, filter, refl, ap, arith, sym, ◌∙◌, Some, slice_get}
use Rattle.std.specs.List.{list_all}
use Rattle.std.proofs.lemmas.Bool.Decides.{nat_tests}
use Rattle.fold_theory.specs.declared.Phase.{Phase}
use Rattle.fold_theory.specs.declared.Phase.TheVariants.{Closed, Counted}
use Rattle.fold_theory.specs.declared.Relation.{Relation}
use Rattle.lattice_theory.specs.Lists.{greatest}
use Rattle.lattice_theory.specs.Vectors.{Vector, norm1, is_zero}
use Rattle.lattice_theory.specs.Matrices.{Matrix}
use Rattle.fold_theory.specs.Programs.{keeps_equations}
use Rattle.run_theory.specs.Links.{complexity, counts_in, least_complexity}
use Rattle.listed_links.specs.Bounds.{counts, is_bounded_at}

-- what counts is read off the image
pub counts-image : (phase : Phase) (relations : List Relation) (cols : ℕ) (z : Vector) →
    counts_in phase relations cols z ≡ counts phase relations (drop cols z)
counts-image Closed relations cols z = refl
counts-image Counted relations cols z = refl

max_bound : (a b c : ℕ) → nat_le (max a b) c ≡ (nat_le a c && nat_le b c)
max_bound a b c = grind (arith, nat_tests)

none_bound : (c : ℕ) → nat_le 0 c ≡ true
none_bound c = grind (arith, nat_tests)

module _ (phase : Phase) (relations : List Relation) (cols bound : ℕ) where
  greatest_bound : (basis : List Vector) →
      nat_le (greatest (map (λ z. norm1 (take cols z)) (filter (counts_in phase relations cols) basis))) bound
      ≡ list_all (is_bounded_at phase relations cols bound) basis
  greatest_bound [] = none_bound bound
  greatest_bound (z ∷ basis) =
      by (counts_in phase relations cols z)
      ∙ (λ i. (not (counts-image phase relations cols z i) || nat_le (norm1 (take cols z)) bound) && greatest_bound
      basis i)
    where
      by : (t : Bool) →
          nat_le (greatest
          (map (λ v. norm1 (take cols v))
          (cond t (z ∷ filter (counts_in phase relations cols) basis) (filter (counts_in phase relations cols) basis))))
          bound
          ≡ ((not t || nat_le (norm1 (take cols z)) bound) && nat_le
          (greatest (map (λ v. norm1 (take cols v)) (filter (counts_in phase relations cols) basis))) bound)
      by true =
          max_bound (norm1 (take cols z))
          (greatest (map (λ v. norm1 (take cols v)) (filter (counts_in phase relations cols) basis))) bound
      by false = refl

-- the bound of all is that of each
pub complexity-bound : (phase : Phase) (relations : List Relation) (m : Matrix) (basis : List Vector) (bound : ℕ) →
    nat_le (complexity phase relations m basis) bound
    ≡ (nat_le (least_complexity m) bound && list_all (is_bounded_at phase relations m.cols bound) basis)
complexity-bound phase relations m basis bound =
    max_bound (least_complexity m)
    (greatest (map (λ z. norm1 (take m.cols z)) (filter (counts_in phase relations m.cols) basis))) bound
    ∙ ap (λ t. nat_le (least_complexity m) bound && t) (greatest_bound phase relations m.cols bound basis)

pub below_least : (phase : Phase) (relations : List Relation) (m : Matrix) (basis : List Vector) (bound least : ℕ) →
    least ≡ least_complexity m → suc bound ≤ least → false ≡ nat_le (complexity phase relations m basis) bound
below_least phase relations m basis bound least is less =
    let none : nat_le least bound ≡ false = grind (arith, nat_tests) in
    sym (complexity-bound phase relations m basis bound
    ∙ ap (λ n. nat_le n bound && list_all (is_bounded_at phase relations m.cols bound) basis) (sym is)
    ∙ ap (λ t. t && list_all (is_bounded_at phase relations m.cols bound) basis) none)

pub at_least : (phase : Phase) (relations : List Relation) (m : Matrix) (basis : List Vector) (bound least : ℕ)
    (b : Bool) →
    least ≡ least_complexity m → least ≤ bound → list_all (is_bounded_at phase relations m.cols bound) basis ≡ b →
    b ≡ nat_le (complexity phase relations m basis) bound
at_least phase relations m basis bound least b is enough each =
    let all : nat_le least bound ≡ true = grind (arith, nat_tests) in
    sym (complexity-bound phase relations m basis bound
    ∙ ap (λ n. nat_le n bound && list_all (is_bounded_at phase relations m.cols bound) basis) (sym is)
    ∙ ap (λ t. t && list_all (is_bounded_at phase relations m.cols bound) basis) all ∙ each)
