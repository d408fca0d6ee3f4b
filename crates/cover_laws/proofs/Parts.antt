-- Parts of a vector by a list that is complete for a lattice: vectors that are not 0 and whose elements are conformally
-- below that of the vector.
use Rattle.std.proofs.Common.{◌≡◌, ℕ, true, false, List, length, take, drop, ap, sym, ◌∙◌, Contains, ◌⊎◌, inl, inr}
use Rattle.std.proofs.Common.{subst}
use Rattle.std.proofs.lemmas.List.{take_at, drop_at}
use Rattle.std.proofs.lemmas.List.Elements.{All-contains}
use Rattle.lattice_theory.specs.Vectors.{Vector, ◌⊑◌, is_zero, opposite}
use Rattle.lattice_theory.specs.Matrices.{Matrix, product, element}
use Rattle.lattice_theory.specs.Lattices.{InLattice, is_complete_for, first_parts}
use Rattle.lattice_laws.proofs.Conformal.{conforms-take, opposite-opposite, opposite_nonzero, opposite-take}
use Rattle.lattice_laws.proofs.Conformal.{nonzero_by_take, conforms-drop}
use Rattle.lattice_laws.proofs.Elements.{closed_opposite, element_in}
use Rattle.lattice_laws.proofs.SlackBases.{IsSigned}
use Rattle.cover_laws.specs.Elements.{IsNonzeroElement}
use Rattle.cover_laws.proofs.CompleteLists.{complete_covers, complete_elements}
use Rattle.lattice_laws.proofs.Members.{mapped}

-- a vector that is not 0 and whose element is below that of d; it is the first part of a member, as it is or with its
-- signs turned
pub record Part (m : Matrix) (basis : List Vector) (d : Vector) : Type 0 where
  pub vector : Vector
  pub nonzero : is_zero vector ≡ false
  pub below : vector ⊑ d
  pub image : product m vector ⊑ product m d
  pub listed : Contains (first_parts m.cols basis) vector ⊎ Contains (first_parts m.cols basis) (opposite vector)

-- the opposite of such an element is one
pub nonzero_turned : (m : Matrix) (z : Vector) → IsNonzeroElement m (opposite z) → IsNonzeroElement m z
nonzero_turned m z element = record {
  member = subst (InLattice m) (opposite-opposite z) (closed_opposite m (opposite z) element.member);
  nonzero =
      ap is_zero (ap (take m.cols) (sym (opposite-opposite z)) ∙ sym (opposite-take m.cols (opposite z)))
      ∙ opposite_nonzero (take m.cols (opposite z)) element.nonzero;
}

-- the first part of a member is among the first parts
pub first_listed : (n : ℕ) (basis : List Vector) (e : Vector) → Contains basis e →
    Contains (first_parts n basis) (take n e)
first_listed n basis e listed = mapped (take n) basis e listed

-- a complete list has a part of each vector that is not 0
pub part_of_complete : (m : Matrix) (basis : List Vector) → is_complete_for m basis ≡ true →
    (d : Vector) → length d ≡ m.cols → is_zero d ≡ false → Part m basis d
part_of_complete m basis complete d size nonzero =
    let whole : is_zero (element m d) ≡ false = nonzero_by_take m.cols (element m d) (ap is_zero first ∙ nonzero) in
    let r = complete_covers m basis complete (element m d) (element_in m d size) whole in
    by r.0 r.1 r.2
  where
    first : take m.cols (element m d) ≡ d
    first = take_at d (product m d) m.cols size

    parts : List Vector
    parts = first_parts m.cols basis

    member : (e : Vector) → Contains basis e → IsNonzeroElement m e
    member e c = All-contains (IsNonzeroElement m) basis e (complete_elements m basis complete) c

    found : (e : Vector) → IsNonzeroElement m e → e ⊑ element m d →
        Contains parts (take m.cols e) ⊎ Contains parts (opposite (take m.cols e)) → Part m basis d
    found e is below listed = record {
      vector = take m.cols e;
      nonzero = is.nonzero;
      below = subst (λ w. take m.cols e ⊑ w) first (conforms-take m.cols e (element m d) below);
      image =
          subst (λ w. w ⊑ product m d) is.member.image
          (subst (λ w. drop m.cols e ⊑ w) (drop_at d (product m d) m.cols size)
          (conforms-drop m.cols e (element m d) below));
      listed = listed;
    }

    by : (e : Vector) → IsSigned basis e → e ⊑ element m d → Part m basis d
    by e (inl c) below = found e (member e c) below (inl (first_listed m.cols basis e c))
    by e (inr c) below =
        let turned = first_listed m.cols basis (opposite e) c in
        found e (nonzero_turned m e (member (opposite e) c)) below
        (inr (subst (Contains parts) (sym (opposite-take m.cols e)) turned))
