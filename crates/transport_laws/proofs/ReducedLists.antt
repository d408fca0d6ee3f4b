-- A complete list none of whose members stands above another, as it is or with its signs turned, is the slack basis.
use Rattle.std.proofs.Common.{◌≡◌, Bool, true, false, ◌&&◌, ◌||◌, not, List, refl, ap, sym, ◌∙◌, Contains, inl, inr}
use Rattle.std.proofs.Common.{subst}
use Rattle.std.specs.List.{list_all}
use Rattle.std.proofs.lemmas.List.Elements.{All-contains, All-from_recursion}
use Rattle.lattice_theory.specs.Lists.{numbers_from}
use Rattle.lattice_theory.specs.Vectors.{Vector, ◌⊑◌, conforms, is_rising, is_zero, leads_positive, same, add, sub}
use Rattle.lattice_theory.specs.Vectors.{opposite}
use Rattle.lattice_theory.specs.Matrices.{Matrix, element, unit_vector}
use Rattle.lattice_theory.specs.Lattices.{InLattice, IsMinimal, IsSlackBasis, is_signed_element, is_complete_for}
use Rattle.lattice_theory.specs.Lattices.{reduces_to_zero}
use Rattle.lattice_theory.specs.BasisLimits.{IsBasisElement}
use Rattle.lattice_laws.proofs.Tests.{and_true, not_both, same_true}
use Rattle.lattice_laws.proofs.Members.{list_all_at, each_member}
use Rattle.lattice_laws.proofs.Conformal.{conforms_trans, conforms_antisym, nonzero_by_take, leads_not_both}
use Rattle.lattice_laws.proofs.Conformal.{opposite-opposite, opposite_nonzero}
use Rattle.lattice_laws.proofs.Elements.{closed_opposite}
use Rattle.lattice_laws.proofs.SlackBases.{IsSigned}
use Rattle.cover_laws.specs.Elements.{IsNonzeroElement}
use Rattle.cover_laws.proofs.CompleteLists.{complete_elements, complete_covers}

-- e is not conformally below z, unless it is z; and e with its signs turned is not
abbrev pub stands_apart : Vector → Vector → Bool
stands_apart z e = (not (conforms e z) || same e z) && not (conforms (opposite e) z)

-- no member stands above another
abbrev pub is_reduced : List Vector → Bool
is_reduced vs = list_all (λ z. list_all (stands_apart z) vs) vs

below_is : (e z : Vector) → (not (conforms e z) || same e z) ≡ true → e ⊑ z → e ≡ z
below_is e z apart below = by (conforms e z) (same e z) apart below refl
  where
    by : (b s : Bool) → (not b || s) ≡ true → b ≡ true → same e z ≡ s → e ≡ z
    by true true apart below is = same_true e z is
    by true false apart below is = absurd (not_both false apart refl)
    by false s apart below is = absurd (not_both false below refl)

never_below : (e z : Vector) → not (conforms e z) ≡ true → e ⊑ z → ⊥
never_below e z apart below = by (conforms e z) apart below
  where
    by : (b : Bool) → not b ≡ true → b ≡ true → ⊥
    by true apart below = not_both false apart refl
    by false apart below = not_both false below refl

module _ (m : Matrix) (vs : List Vector) (complete : is_complete_for m vs ≡ true) where
  -- each member is an element of the lattice that leads positive
  inside : (z : Vector) → Contains vs z → InLattice m z
  inside z listed = (All-contains (IsNonzeroElement m) vs z (complete_elements m vs complete) listed).member

  some : (z : Vector) → Contains vs z → is_zero z ≡ false
  some z listed =
      nonzero_by_take m.cols z (All-contains (IsNonzeroElement m) vs z (complete_elements m vs complete) listed).nonzero

  -- and so are the signed ones
  signed_inside : (e : Vector) → IsSigned vs e → InLattice m e
  signed_inside e (inl listed) = inside e listed
  signed_inside e (inr listed) =
      subst (InLattice m) (opposite-opposite e) (closed_opposite m (opposite e) (inside (opposite e) listed))

  signed_some : (e : Vector) → IsSigned vs e → is_zero e ≡ false
  signed_some e (inl listed) = some e listed
  signed_some e (inr listed) =
      ap is_zero (sym (opposite-opposite e)) ∙ opposite_nonzero (opposite e) (some (opposite e) listed)

  parts : (list_all (is_signed_element m) vs ≡ true) × (is_rising vs ≡ true)
  parts =
      let signed = list_all (is_signed_element m) vs in
      let units = list_all (λ j. reduces_to_zero vs (element m (unit_vector m.cols j))) (numbers_from 0 m.cols) in
      let pairs = list_all (λ a. list_all (λ b. reduces_to_zero vs (add a b) && reduces_to_zero vs (sub a b)) vs) vs in
      let p = and_true (signed && is_rising vs && units) pairs complete in
      and_true signed (is_rising vs) (and_true (signed && is_rising vs) units p.0).0

  leads : (z : Vector) → Contains vs z → leads_positive z ≡ true
  leads z listed =
      let passes = list_all_at (is_signed_element m) vs z parts.0 listed in
      (and_true _ _ (and_true _ _ passes).0).0

  -- every element that is minimal and leads positive is listed
  all_there : (z : Vector) → IsMinimal m z → leads_positive z ≡ true → Contains vs z
  all_there z minimal lead = by (complete_covers m vs complete z minimal.member minimal.nonzero)
    where
      by : (e : Vector) × IsSigned vs e × (e ⊑ z) → Contains vs z
      by (e, inl listed, below) =
          subst (Contains vs) (minimal.least e (inside e listed) (some e listed) below) listed
      by (e, inr listed, below) =
          let is = minimal.least e (signed_inside e (inr listed)) (signed_some e (inr listed)) below in
          absurd (leads_not_both z lead (ap (λ u. leads_positive (opposite u)) (sym is) ∙ leads (opposite e) listed))

  module _ (reduced : is_reduced vs ≡ true) where
    apart : (z e : Vector) → Contains vs z → Contains vs e → stands_apart z e ≡ true
    apart z e high low =
        list_all_at (stands_apart z) vs e (list_all_at (λ u. list_all (stands_apart u) vs) vs z reduced high) low

    least : (z : Vector) → Contains vs z → (y : Vector) → InLattice m y → is_zero y ≡ false → y ⊑ z → y ≡ z
    least z listed y member nonzero below = by (complete_covers m vs complete y member nonzero)
      where
        by : (e : Vector) × IsSigned vs e × (e ⊑ y) → y ≡ z
        by (e, inl low, under) =
            let tests = and_true (not (conforms e z) || same e z) (not (conforms (opposite e) z))
            (apart z e listed low) in
            let is = below_is e z tests.0 (conforms_trans e y z under below) in
            conforms_antisym y z below (subst (λ u. u ⊑ y) is under)
        by (e, inr low, under) =
            let f = opposite e in
            let tests = and_true (not (conforms f z) || same f z) (not (conforms (opposite f) z))
            (apart z f listed low) in
            absurd (never_below (opposite f) z tests.1
            (subst (λ u. u ⊑ z) (sym (opposite-opposite e)) (conforms_trans e y z under below)))

    is_element : (z : Vector) → Contains vs z → IsBasisElement m z
    is_element z listed = (
      record { member = inside z listed; nonzero = some z listed; least = least z listed },
      leads z listed,
    )

    -- so the list is the slack basis
    pub reduced_is_slack : IsSlackBasis m vs
    reduced_is_slack = record {
      rising = parts.1;
      sound = All-from_recursion (IsBasisElement m) vs (each_member (IsBasisElement m) vs is_element);
      complete = all_there;
    }
