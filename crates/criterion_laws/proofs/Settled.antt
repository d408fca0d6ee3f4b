-- A list that covers its lattice lists the element of each unit vector, and settles its clashes.
use Rattle.std.proofs.Common.{◌≡◌, ℕ, suc, ◌<◌, ◌≤◌, true, false, ◌||◌, nat_lt, List, [], ◌∷◌, take, Option, Some, None}
use Rattle.std.proofs.Common.{refl, ap, arith, sym, ◌∙◌, Contains, inl, inr, subst}
use Rattle.std.specs.List.{list_all, list_any}
use Rattle.std.proofs.lemmas.Bool.{cases_lt, and_from, or_left, or_right}
use Rattle.std.proofs.lemmas.List.{take_at}
use Rattle.lattice_theory.specs.Vectors.{Vector, ◌⊑◌, conforms, is_zero, leads_positive, add, opposite}
use Rattle.lattice_theory.specs.Matrices.{Matrix, element, product, unit_vector}
use Rattle.lattice_laws.proofs.Members.{contains_head, contains_tail, list_any_of, list_all_of}
use Rattle.lattice_laws.proofs.Conformal.{below_same, conforms-take, leads-append, leads_nonzero, leads_not_both}
use Rattle.lattice_laws.proofs.Conformal.{nonzero_by_take, nonzero_of_norm, norm_agree, norm_some, opposite-opposite}
use Rattle.lattice_laws.proofs.Conformal.{take-add}
use Rattle.lattice_laws.proofs.Elements.{element_in, known_by_first, closed_add, first_nonzero}
use Rattle.lattice_laws.proofs.SlackBases.{IsSigned}
use Rattle.lattice_laws.proofs.UnitVectors.{length-unit, unit_leads}
use Rattle.lattice_laws.proofs.Tests.{nat_lt_of}
use Rattle.criterion_laws.specs.Prefixes.{first_clash, is_below_in, clash_settles, pair_settles, clashes_settle}
use Rattle.criterion_laws.proofs.Clashes.{clash_agrees, agree-take}
use Rattle.cover_laws.proofs.Coverings.{IsCovering, signed_in, signed_some}
use Rattle.criterion_laws.proofs.Units.{unit_norm}

module _ (m : Matrix) (basis : List Vector) (is : IsCovering m basis) where
  -- ---- unit vectors

  -- a signed member below the element of a unit vector is that element
  unit_found : (j : ℕ) → j < m.cols → (e : Vector) → IsSigned basis e → e ⊑ element m (unit_vector m.cols j) →
      e ≡ element m (unit_vector m.cols j)
  unit_found j low e signed below =
      let unit = unit_vector m.cols j in
      let inside = signed_in m basis is.elements e signed in
      let first : take m.cols (element m unit) ≡ unit = take_at unit (product m unit) m.cols (length-unit m.cols j) in
      let part : take m.cols e ⊑ unit =
      subst (λ v. take m.cols e ⊑ v) first (conforms-take m.cols e (element m unit) below) in
      let some = norm_some (take m.cols e) (first_nonzero m e inside (signed_some m basis is.elements e signed)) in
      known_by_first m e (element m unit) inside (element_in m unit (length-unit m.cols j))
      (below_same (take m.cols e) unit part (omega (arith, unit_norm m.cols j, some)) ∙ sym first)

  -- the element of a unit vector is a member
  pub unit_member : ((z : Vector) → Contains basis z → leads_positive z ≡ true) → (j : ℕ) → j < m.cols →
      Contains basis (element m (unit_vector m.cols j))
  unit_member leads j low =
      let unit = unit_vector m.cols j in
      let z = element m unit in
      let lead : leads_positive z ≡ true = leads-append unit (product m unit) (unit_leads m.cols j low) in
      let r = is.covers z (element_in m unit (length-unit m.cols j)) (leads_nonzero z lead) in
      by r.0 r.1 (unit_found j low r.0 r.1 r.2) lead
    where
      by : (e : Vector) → IsSigned basis e → e ≡ element m (unit_vector m.cols j) →
          leads_positive (element m (unit_vector m.cols j)) ≡ true → Contains basis (element m (unit_vector m.cols j))
      by e (inl c) same lead = subst (Contains basis) same c
      by e (inr c) same lead =
          absurd (leads_not_both e (ap leads_positive same ∙ lead) (leads (opposite e) c))

  -- ---- clashes

  -- a signed member below z is below it in its first entries
  below_prefix : (entries : ℕ) (z e : Vector) → IsSigned basis e → e ⊑ z → list_any (is_below_in entries z) basis ≡ true
  below_prefix entries z e (inl c) below =
      list_any_of (is_below_in entries z) basis e c
      (or_left (conforms (take entries e) (take entries z)) (conforms (take entries (opposite e)) (take entries z))
      (conforms-take entries e z below))
  below_prefix entries z e (inr c) below =
      list_any_of (is_below_in entries z) basis (opposite e) c
      (or_right (conforms (take entries (opposite e)) (take entries z))
      (conforms (take entries (opposite (opposite e))) (take entries z))
      (ap (λ v. conforms (take entries v) (take entries z)) (opposite-opposite e) ∙ conforms-take entries e z below))

  -- the sum of two signed members that agree in the first parts is not 0
  sum_nonzero : (f g : Vector) (at : ℕ) → IsSigned basis f → first_clash f g ≡ Some at → m.cols ≤ at →
      is_zero (add f g) ≡ false
  sum_nonzero f g at signed first behind =
      let t = m.cols in
      let agreed = agree-take t at f g behind (clash_agrees at f g first) in
      let inside = signed_in m basis is.elements f signed in
      let some = norm_some (take t f) (first_nonzero m f inside (signed_some m basis is.elements f signed)) in
      nonzero_by_take t (add f g)
      (ap is_zero (take-add t f g)
      ∙ nonzero_of_norm (add (take t f) (take t g)) (omega (arith, norm_agree (take t f) (take t g) agreed, some)))

  signed_settles : (f g : Vector) → IsSigned basis f → IsSigned basis g → clash_settles m.cols basis f g ≡ true
  signed_settles f g signed_f signed_g = by (first_clash f g) refl
    where
      by : (o : Option ℕ) → first_clash f g ≡ o →
          elim o [
            | None ↦ true
            | Some at ↦ nat_lt at m.cols || list_any (is_below_in (suc at) (add f g)) basis
          ] ≡ true
      by None first = refl
      by (Some at) first = elim (cases_lt at m.cols) [
        | inl low ↦ or_left (nat_lt at m.cols) (list_any (is_below_in (suc at) (add f g)) basis)
            (nat_lt_of at m.cols low)
        | inr behind ↦
            let inside =
            closed_add m f g (signed_in m basis is.elements f signed_f) (signed_in m basis is.elements g signed_g) in
            let r = is.covers (add f g) inside (sum_nonzero f g at signed_f first behind) in
            or_right (nat_lt at m.cols) (list_any (is_below_in (suc at) (add f g)) basis)
            (below_prefix (suc at) (add f g) r.0 r.1 r.2)
      ]

  clashes_within : (fs : List Vector) → ((z : Vector) → Contains fs z → Contains basis z) →
      clashes_settle m.cols basis fs ≡ true
  clashes_within [] inside = refl
  clashes_within (f ∷ fs) inside =
      let here = inside f (contains_head f fs) in
      and_from (list_all (pair_settles m.cols basis f) fs) (clashes_settle m.cols basis fs)
      (list_all_of (pair_settles m.cols basis f) fs (λ g c.
      let there = inside g (contains_tail f fs g c) in
      and_from (clash_settles m.cols basis f g) (clash_settles m.cols basis f (opposite g))
      (signed_settles f g (inl here) (inl there))
      (signed_settles f (opposite g) (inl here)
      (inr (subst (Contains basis) (sym (opposite-opposite g)) there)))))
      (clashes_within fs (λ z c. inside z (contains_tail f fs z c)))

  -- what two members clash in is settled by a prefix
  pub covering_settles : clashes_settle m.cols basis basis ≡ true
  covering_settles = clashes_within basis (λ z c. c)
