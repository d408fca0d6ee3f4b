-- A list that is complete for a lattice by Pottier's criterion gives each element of the lattice as a conformal sum of
-- signed members, and so covers the lattice. After L. Pottier, "Minimal solutions of linear diophantine systems"
-- (1991), and R. Hemmecke, "On the computation of Hilbert bases and extreme rays of cones" (2002).
use Rattle.std.proofs.Common.{◌≡◌, ℕ, zero, suc, ◌+◌, ◌<◌, ◌≤◌, ℤ, pos, negsuc, ◌+ℤ◌, ◌*ℤ◌, Bool, true, ◌&&◌, nat_eq}
use Rattle.std.proofs.Common.{List, ◌∷◌, ◌++◌, length, take, drop, refl, ap, arith, sym, ◌∙◌, Contains, inl, inr, subst}
use Rattle.std.proofs.Common.{length-append, []}
use Rattle.std.proofs.lemmas.Int.{ints}
use Rattle.std.proofs.lemmas.Bool.{cases_eq}
use Rattle.std.proofs.lemmas.List.{append-nil}
use Rattle.std.proofs.Math.IntN.{zero-*ℤ, *ℤ-zero, suc_ℤ-*ℤ, *ℤ_comm}
use Rattle.std.specs.List.{All, list_all, AllByRecursion}
use Rattle.std.proofs.lemmas.List.Elements.{All-from_recursion}
use Rattle.lattice_theory.specs.Lists.{numbers_from}
use Rattle.lattice_theory.specs.Vectors.{Vector, ◌⊑◌, is_rising, is_zero, leads_positive, same, add, sub, scale, zeros}
use Rattle.lattice_theory.specs.Matrices.{Matrix, product, element, unit_vector}
use Rattle.lattice_theory.specs.Lattices.{InLattice, is_complete_for, is_signed_element, reduces_to_zero}
use Rattle.lattice_laws.proofs.Tests.{not_both, same_true, nat_eq_true, and_true}
use Rattle.lattice_laws.proofs.Members.{contains_head, contains_tail, list_all_at}
use Rattle.lattice_laws.proofs.Conformal.{leads_nonzero}
use Rattle.lattice_laws.proofs.Products.{rows-zeros, length-zeros, zero-zeros, zeros-append}
use Rattle.lattice_laws.proofs.Elements.{element-add, length-element, is_element, first_size, first_nonzero, width}
use Rattle.lattice_laws.proofs.SlackBases.{Covers, IsReducible}
use Rattle.lattice_laws.proofs.UnitVectors.{length-unit}
use Rattle.cover_laws.specs.Elements.{IsNonzeroElement}
use Rattle.lattice_laws.proofs.Sums.{zeros_add}
use Rattle.lattice_laws.proofs.Multiples.{scale_negsuc, scale-zeros, length-scale, scale-append, rows-scale}
use Rattle.lattice_laws.specs.VectorLists.{sum_of}
use Rattle.cover_laws.specs.ConformalSums.{AreTerms, Spanned, ConformalSum}
use Rattle.cover_laws.proofs.Terms.{Lightly, none_spanned, spanned_add, lightly_times, lightly_opposite}
use Rattle.cover_laws.proofs.ConformalSums.{conformal_sum}
use Rattle.cover_laws.proofs.Reductions.{PairsReduce, pairs_light, reduces_lightly}

-- ---- the elements of the unit vectors span the lattice

-- the unit vector in front of whose 1 stand i entries, and k behind it
unit_is : (t i k : ℕ) → t ≡ i + suc k → unit_vector t i ≡ zeros i ++ (pos 1 ∷ zeros k)
unit_is zero i k e = absurd (omega arith)
unit_is (suc t) zero k e = let f : t ≡ k = omega arith in ap (λ n. pos 1 ∷ zeros n) f
unit_is (suc t) (suc i) k e = ap (λ v. pos 0 ∷ v) (unit_is t i k (omega arith))

-- one entry as a multiple of a unit vector
entry_is : (i : ℕ) (a : ℤ) (r : Vector) →
    zeros i ++ (a ∷ r) ≡ add (scale a (zeros i ++ (pos 1 ∷ zeros (length r)))) (zeros (suc i) ++ r)
entry_is zero a r =
    let n = length r in
    let tail : add (scale a (zeros n)) r ≡ r = ap (λ v. add v r) (scale-zeros a n) ∙ zeros_add r n refl in
    λ i. times_one a i ∷ sym tail i
  where
    times_one : (a : ℤ) → a ≡ a *ℤ pos 1 +ℤ pos 0
    times_one a = omega (arith, ints, *ℤ_comm a (pos 1), suc_ℤ-*ℤ (pos 0) a, zero-*ℤ a)
entry_is (suc i) a r =
    let head : pos 0 ≡ a *ℤ pos 0 +ℤ pos 0 = omega (arith, ints, *ℤ-zero a) in
    λ j. head j ∷ entry_is i a r j

module _ (m : Matrix) (basis : List Vector) where
  -- a multiple of what is lightly a sum of signed members is a sum of them
  scaled : (a : ℤ) (z : Vector) → Lightly (width m) basis z → Spanned (width m) basis (scale a z)
  scaled (pos k) z l = (lightly_times (width m) basis k z l).0
  scaled (negsuc k) z l =
      subst (Spanned (width m) basis) (scale_negsuc k z)
      (lightly_opposite (width m) basis (scale (pos (suc k)) z) (lightly_times (width m) basis (suc k) z l)).0

  element-scale : (a : ℤ) (u : Vector) → element m (scale a u) ≡ scale a (element m u)
  element-scale a u = ap (λ t. scale a u ++ t) (rows-scale m.rows a u) ∙ sym (scale-append a u (product m u))

  -- the element of a vector whose first i entries are 0 is a sum of signed members, where those of the unit vectors are
  spans : ((j : ℕ) → j < m.cols → Lightly (width m) basis (element m (unit_vector m.cols j))) →
      (i : ℕ) (r : Vector) → i + length r ≡ m.cols → Spanned (width m) basis (element m (zeros i ++ r))
  spans units i [] size =
      let all : i ≡ m.cols = omega arith in
      let none : element m (zeros i ++ []) ≡ zeros (width m) =
      ap (element m) (append-nil (zeros i) ∙ ap zeros all)
      ∙ ap (λ t. zeros m.cols ++ t) (rows-zeros m.rows m.cols)
      ∙ zeros-append m.cols (length m.rows) in
      subst (Spanned (width m) basis) (sym none) (none_spanned (width m) basis)
  spans units i (a ∷ r) size =
      let n = length r in
      let u : Vector = zeros i ++ (pos 1 ∷ zeros n) in
      let v : Vector = zeros (suc i) ++ r in
      let unit : unit_vector m.cols i ≡ u = unit_is m.cols i n (omega arith) in
      let one : Lightly (width m) basis (element m u) =
      subst (λ w. Lightly (width m) basis (element m w)) unit (units i (omega arith)) in
      let rest : Spanned (width m) basis (element m v) = spans units (suc i) r (omega arith) in
      let lu : length u ≡ m.cols =
      omega (arith, length-append (zeros i) (pos 1 ∷ zeros n), length-zeros i, length-zeros n) in
      let lv : length v ≡ m.cols = omega (arith, length-append (zeros (suc i)) r, length-zeros (suc i)) in
      let split : element m (zeros i ++ (a ∷ r)) ≡ add (scale a (element m u)) (element m v) =
      ap (element m) (entry_is i a r)
      ∙ element-add m (scale a u) v (length-scale a u ∙ lu ∙ sym lv)
      ∙ ap (λ t. add t (element m v)) (element-scale a u) in
      subst (Spanned (width m) basis) (sym split)
      (spanned_add (width m) basis (scale a (element m u)) (element m v) (scaled a (element m u) one) rest)

-- ---- what the criterion says

-- the numbers below are among the numbers
pub numbered : (a n j : ℕ) → a ≤ j → j < a + n → Contains (numbers_from a n) j
numbered a zero j from to = absurd (omega arith)
numbered a (suc n) j from to = elim (cases_eq a j) [
  | inl e ↦ subst (Contains (numbers_from a (suc n))) e (contains_head a (numbers_from (suc a) n))
  | inr other ↦ contains_tail a (numbers_from (suc a) n) j (numbered (suc a) n j (omega arith) (omega arith))
]

-- what the criterion tests of each member
pub signed_element : (m : Matrix) (z : Vector) → is_signed_element m z ≡ true → IsNonzeroElement m z
signed_element m z passes =
    let v = take m.cols z in
    let p = and_true (leads_positive z && nat_eq (length z) (width m)) (same (drop m.cols z) (product m v)) passes in
    let q = and_true (leads_positive z) (nat_eq (length z) (width m)) p.0 in
    let inside : InLattice m z = record {
      size = nat_eq_true (length z) (width m) q.1;
      image = same_true (drop m.cols z) (product m v) p.1;
    } in
    record { member = inside; nonzero = first_nonzero m z inside (leads_nonzero z q.0) }

-- the parts of the criterion
record IsComplete (m : Matrix) (basis : List Vector) : Type 0 where
  elements : AllByRecursion (IsNonzeroElement m) basis
  units : (j : ℕ) → j < m.cols → reduces_to_zero basis (element m (unit_vector m.cols j)) ≡ true
  pairs : PairsReduce basis

-- all but the second of four tests
four_true : (p q r s : Bool) → (p && q && r && s) ≡ true → (p ≡ true) × (r ≡ true) × (s ≡ true)
four_true p q r s passes =
    let last = and_true (p && q && r) s passes in
    let third = and_true (p && q) r last.0 in
    ((and_true p q third.0).0, third.1, last.1)

criterion : (m : Matrix) (basis : List Vector) → is_complete_for m basis ≡ true → IsComplete m basis
criterion m basis complete = record {
  elements = elements_of basis pass.0;
  units = λ j low.
      list_all_at unit_test (numbers_from 0 m.cols) j pass.1 (numbered 0 m.cols j (omega arith) (omega arith));
  pairs = λ a b c d.
      and_true (reduces_to_zero basis (add a b)) (reduces_to_zero basis (sub a b))
      (list_all_at (pair_test a) basis b (list_all_at pairs_test basis a pass.2 c) d);
}
  where
    unit_test : ℕ → Bool
    unit_test j = reduces_to_zero basis (element m (unit_vector m.cols j))

    pair_test : Vector → Vector → Bool
    pair_test a b = reduces_to_zero basis (add a b) && reduces_to_zero basis (sub a b)

    pairs_test : Vector → Bool
    pairs_test a = list_all (pair_test a) basis

    signed : Bool
    signed = list_all (is_signed_element m) basis

    units : Bool
    units = list_all unit_test (numbers_from 0 m.cols)

    pass : (signed ≡ true) × (units ≡ true) × (list_all pairs_test basis ≡ true)
    pass = four_true signed (is_rising basis) units (list_all pairs_test basis) complete

    elements_of : (vs : List Vector) → list_all (is_signed_element m) vs ≡ true →
        AllByRecursion (IsNonzeroElement m) vs
    elements_of [] passes = tt
    elements_of (z ∷ vs) passes =
        let p = and_true (is_signed_element m z) (list_all (is_signed_element m) vs) passes in
        (signed_element m z p.0, elements_of vs p.1)

-- ---- the laws

-- each member of a complete list is an element of the lattice, and its first part is not 0
pub complete_elements : (m : Matrix) (basis : List Vector) → is_complete_for m basis ≡ true →
    All (IsNonzeroElement m) basis
complete_elements m basis complete = All-from_recursion (IsNonzeroElement m) basis (criterion m basis complete).elements

-- each element of the lattice is a conformal sum of signed members of a complete list
pub complete_conformal : (m : Matrix) (basis : List Vector) → is_complete_for m basis ≡ true →
    (z : Vector) → InLattice m z → ConformalSum (width m) basis z
complete_conformal m basis complete z inside =
    conformal_sum (width m) basis (pairs_light (width m) basis c.pairs) z
    (subst (Spanned (width m) basis) (sym (is_element m z inside)) (spans m basis units 0 (take m.cols z) size))
  where
    c : IsComplete m basis
    c = criterion m basis complete

    size : 0 + length (take m.cols z) ≡ m.cols
    size = omega (arith, first_size m z inside)

    units : (j : ℕ) → j < m.cols → Lightly (width m) basis (element m (unit_vector m.cols j))
    units j low =
        let unit = unit_vector m.cols j in
        let long = length-element m unit (length-unit m.cols j) in
        reduces_lightly (width m) basis (element m unit) long (c.units j low)

-- a complete list covers its lattice
pub complete_covers : (m : Matrix) (basis : List Vector) → is_complete_for m basis ≡ true → Covers m basis
complete_covers m basis complete y inside nonzero =
    let c = complete_conformal m basis complete y inside in first c.0.terms c.0.signed c.0.sum c.1
  where
    first : (es : List Vector) → AreTerms (width m) basis es → sum_of (width m) es ≡ y →
        AllByRecursion (λ e. e ⊑ y) es → IsReducible basis y
    first [] signed sum below =
        absurd (not_both (is_zero y) (ap is_zero (sym sum) ∙ zero-zeros (width m)) nonzero)
    first (e ∷ es) signed sum below = (e, signed.0.1, below.0)
