-- Lists of elements that cover a lattice: a reduction by such a list ends only where no member is below, so each
-- element reduces to 0, and the list passes Pottier's criterion.
use Rattle.std.proofs.Common.{◌≡◌, ℕ, zero, suc, ◌*◌, ◌<◌, ◌≤◌, pos, Bool, true, false, cond, List, [], ◌∷◌, Option}
use Rattle.std.proofs.Common.{Some, None, refl, ap, arith, sym, ◌∙◌, Contains, inl, inr, subst, ◌&&◌}
use Rattle.lattice_theory.specs.Vectors.{Vector, ◌⊑◌, conforms, is_zero, norm1, sub, scale, opposite, add, is_rising}
use Rattle.lattice_theory.specs.Matrices.{Matrix, element, unit_vector}
use Rattle.lattice_theory.specs.Lattices.{InLattice, greatest_multiple, first_below, reduced_within, reduces_to_zero}
use Rattle.lattice_theory.specs.Lattices.{is_signed_element, is_complete_for}
use Rattle.lattice_laws.proofs.Tests.{not_both, true_or_false}
use Rattle.lattice_laws.proofs.Members.{contains_cases, list_all_of}
use Rattle.lattice_laws.proofs.Conformal.{norm_none, norm_some, norm_split, nonzero_by_take, opposite-opposite}
use Rattle.lattice_laws.proofs.Conformal.{opposite_nonzero}
use Rattle.lattice_laws.proofs.Elements.{element_in, closed_add, closed_sub, closed_opposite, closed_times}
use Rattle.lattice_laws.proofs.SlackBases.{IsSigned, Covers}
use Rattle.cover_laws.specs.Elements.{IsNonzeroElement}
use Rattle.lattice_laws.proofs.Multiples.{greatest_below, norm-scale, multiple_some}
use Rattle.std.proofs.Math.Nat.{mul-pos}
use Rattle.std.specs.List.{list_all}
use Rattle.lattice_theory.specs.Lists.{numbers_from}
use Rattle.lattice_laws.proofs.UnitVectors.{length-unit}
use Rattle.cover_laws.proofs.Reductions.{found}
use Rattle.std.proofs.lemmas.Bool.{and_from}

-- where none is found, no signed member is below z
none_below : (basis : List Vector) (z e : Vector) → first_below basis z ≡ None → IsSigned basis e → e ⊑ z → ⊥
none_below [] z e none (inl (k, low, q)) below = absurd (omega arith)
none_below [] z e none (inr (k, low, q)) below = absurd (omega arith)
none_below (m ∷ basis) z e none signed below =
    by (conforms m z) (conforms (opposite m) z) refl refl none (λ k s. none_below basis z e k s below) signed
  where
    by : (s t : Bool) → conforms m z ≡ s → conforms (opposite m) z ≡ t →
        cond s (Some m) (cond t (Some (opposite m)) (first_below basis z)) ≡ None →
        (first_below basis z ≡ None → IsSigned basis e → ⊥) → IsSigned (m ∷ basis) e → ⊥
    by true t p q first rest i = absurd (cc)
    by false true p q first rest i = absurd (cc)
    by false false p q first rest (inl c) = elim (contains_cases m basis e c) [
      | inl same ↦ not_both (conforms e z) below (ap (λ v. conforms v z) (sym same) ∙ p)
      | inr d ↦ rest first (inl d)
    ]
    by false false p q first rest (inr c) = elim (contains_cases m basis (opposite e) c) [
      | inl same ↦
          not_both (conforms e z) below
          (ap (λ v. conforms v z) (sym (opposite-opposite e) ∙ ap opposite (sym same)) ∙ q)
      | inr d ↦ rest first (inr d)
    ]

-- elements that are not 0, and the list of them covers the lattice
pub record IsCovering (m : Matrix) (basis : List Vector) : Type 0 where
  pub elements : (z : Vector) → Contains basis z → IsNonzeroElement m z
  pub covers : Covers m basis

-- a signed member is an element
pub signed_in : (m : Matrix) (basis : List Vector) → ((z : Vector) → Contains basis z → IsNonzeroElement m z) →
    (e : Vector) → IsSigned basis e → InLattice m e
signed_in m basis elements e (inl c) = (elements e c).member
signed_in m basis elements e (inr c) =
    subst (InLattice m) (opposite-opposite e) (closed_opposite m (opposite e) (elements (opposite e) c).member)

-- and is not 0
pub signed_some : (m : Matrix) (basis : List Vector) → ((z : Vector) → Contains basis z → IsNonzeroElement m z) →
    (e : Vector) → IsSigned basis e → is_zero e ≡ false
signed_some m basis elements e (inl c) = nonzero_by_take m.cols e (elements e c).nonzero
signed_some m basis elements e (inr c) =
    ap is_zero (sym (opposite-opposite e))
    ∙ opposite_nonzero (opposite e) (nonzero_by_take m.cols (opposite e) (elements (opposite e) c).nonzero)

module _ (m : Matrix) (basis : List Vector) (is : IsCovering m basis) where
  -- where none is found below an element, it is 0
  ended : (z : Vector) → InLattice m z → first_below basis z ≡ None → is_zero z ≡ true
  ended z inside none = elim (true_or_false (is_zero z)) [
    | inl e ↦ e
    | inr e ↦ let r = is.covers z inside e in absurd (none_below basis z r.0 none r.1 r.2)
  ]

  reduces_within : (turns : ℕ) (z : Vector) → norm1 z ≤ turns → InLattice m z →
      is_zero (reduced_within turns basis z) ≡ true
  reduces_within zero z light inside = norm_none z (omega arith)
  reduces_within (suc turns) z light inside = by (first_below basis z) refl (λ y l i. reduces_within turns y l i)
    where
      by : (o : Option Vector) → first_below basis z ≡ o →
          ((y : Vector) → norm1 y ≤ turns → InLattice m y → is_zero (reduced_within turns basis y) ≡ true) →
          is_zero (elim o [
            | None ↦ z
            | Some e ↦ reduced_within turns basis (sub z (scale (pos (greatest_multiple e z)) e))
          ]) ≡ true
      by None p next = ended z inside p
      by (Some e) p next =
          let f = found basis z e p in
          let k = greatest_multiple e z in
          let part : scale (pos k) e ⊑ z = greatest_below e z f.below in
          let nonzero = signed_some m basis is.elements e f.signed in
          let taken : 0 < k * norm1 e =
          mul-pos (multiple_some e z nonzero f.below) (norm_some e nonzero) in
          let lighter : norm1 (sub z (scale (pos k) e)) ≤ turns =
          omega (arith, norm_split (scale (pos k) e) z part, norm-scale k e, taken, light) in
          next (sub z (scale (pos k) e)) lighter
          (closed_sub m (scale (pos k) e) z (closed_times m k e (signed_in m basis is.elements e f.signed)) inside)

  -- each element of the lattice reduces to 0
  pub covering_reduces : (z : Vector) → InLattice m z → reduces_to_zero basis z ≡ true
  covering_reduces z inside = reduces_within (norm1 z) z (omega arith) inside

  abbrev unit_reduces : ℕ → Bool
  unit_reduces j = reduces_to_zero basis (element m (unit_vector m.cols j))

  abbrev pair_reduces : Vector → Vector → Bool
  pair_reduces a b = reduces_to_zero basis (add a b) && reduces_to_zero basis (sub a b)

  units : list_all unit_reduces (numbers_from 0 m.cols) ≡ true
  units =
      list_all_of unit_reduces (numbers_from 0 m.cols) (λ j c.
      covering_reduces (element m (unit_vector m.cols j)) (element_in m (unit_vector m.cols j) (length-unit m.cols j)))

  pairs : list_all (λ a. list_all (pair_reduces a) basis) basis ≡ true
  pairs =
      list_all_of (λ a. list_all (pair_reduces a) basis) basis (λ a c.
      list_all_of (pair_reduces a) basis (λ b d.
      and_from (reduces_to_zero basis (add a b)) (reduces_to_zero basis (sub a b))
      (covering_reduces (add a b) (closed_add m a b (is.elements a c).member (is.elements b d).member))
      (covering_reduces (sub a b) (closed_sub m b a (is.elements b d).member (is.elements a c).member))))

  -- such a list that rises, and whose members lead positive, passes Pottier's criterion
  pub covering_complete : list_all (is_signed_element m) basis ≡ true → is_rising basis ≡ true →
      is_complete_for m basis ≡ true
  covering_complete signed rising =
      let each = list_all (is_signed_element m) basis in
      let upto = list_all unit_reduces (numbers_from 0 m.cols) in
      and_from (each && is_rising basis && upto) (list_all (λ a. list_all (pair_reduces a) basis) basis)
      (and_from (each && is_rising basis) upto (and_from each (is_rising basis) signed rising) units) pairs
