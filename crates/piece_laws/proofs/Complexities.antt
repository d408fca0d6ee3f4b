-- The complexity of a list that is complete for the lattice of the link matrix: below each vector that is not 0, and
-- whose image is as the phase wants it, stands one that is no heavier.
use Rattle.std.proofs.Common.{◌≡◌, ℕ, ◌<◌, ◌≤◌, Bool, true, false, cond, List, length, take, refl, ap, arith, sym, ◌∙◌}
use Rattle.std.proofs.Common.{Contains, ◌⊎◌, inl, inr, subst}
use Rattle.std.specs.List.{list_all, filter}
use Rattle.std.proofs.lemmas.List.Elements.{All-contains}
use Rattle.fold_theory.specs.declared.Phase.{Phase}
use Rattle.fold_theory.specs.declared.Phase.TheVariants.{Closed, Counted}
use Rattle.fold_theory.specs.declared.Relation.{Relation}
use Rattle.lattice_theory.specs.Vectors.{Vector, ◌⊑◌, is_zero, norm1, opposite}
use Rattle.lattice_theory.specs.Matrices.{Matrix, product}
use Rattle.lattice_theory.specs.Lattices.{is_complete_for, first_parts}
use Rattle.lattice_laws.proofs.Conformal.{norm_some, norm-opposite, nonzero_of_norm}
use Rattle.fold_theory.specs.Programs.{keeps_equations}
use Rattle.run_theory.specs.Links.{complexity, counts_in}
use Rattle.cover_laws.specs.Elements.{IsNonzeroElement}
use Rattle.piece_laws.proofs.LinkMisses.{IsTight, tight_below, tight_turned}
use Rattle.cover_laws.proofs.Parts.{part_of_complete}
use Rattle.cover_laws.proofs.CompleteLists.{complete_elements}
use Rattle.piece_laws.proofs.PieceCounts.{LightPart}
use Rattle.lattice_laws.proofs.Members.{at_most_greatest, filtered, mapped_from}

-- the complexity is at least 1
pub complexity_some : (phase : Phase) (relations : List Relation) (m : Matrix) (basis : List Vector) →
    1 ≤ complexity phase relations m basis
complexity_some phase relations m basis = omega (arith, least_some (list_all is_zero m.rows))
  where
    least_some : (b : Bool) → 1 ≤ cond b 1 2
    least_some true = omega arith
    least_some false = omega arith

-- what the phase asks of the image of a first part, the member itself has
pub counts : (phase : Phase) (relations : List Relation) (m : Matrix) (z : Vector) → IsNonzeroElement m z →
    IsTight phase relations (product m (take m.cols z)) → counts_in phase relations m.cols z ≡ true
counts Closed relations m z is tight = ap (keeps_equations relations) is.member.image ∙ tight
counts Counted relations m z is tight = refl

module _ (phase : Phase) (relations : List Relation) (m : Matrix) (basis : List Vector)
    (complete : is_complete_for m basis ≡ true) where
  -- a first part with such an image is no heavier than the complexity
  first_light : (v : Vector) → Contains (first_parts m.cols basis) v → IsTight phase relations (product m v) →
      norm1 v ≤ complexity phase relations m basis
  first_light v c tight =
      let r = mapped_from (take m.cols) basis v c in
      let is = All-contains (IsNonzeroElement m) basis r.0 (complete_elements m basis complete) r.1 in
      let here = subst (λ u. IsTight phase relations (product m u)) (sym r.2) tight in
      let test = counts_in phase relations m.cols in
      let pass : test r.0 ≡ true = counts phase relations m r.0 is here in
      omega (
        arith,
        at_most_greatest (λ z. norm1 (take m.cols z)) (filter test basis) r.0 (filtered test basis r.0 r.1 pass),
        ap norm1 r.2,
      )

  part_light : (v : Vector) → Contains (first_parts m.cols basis) v ⊎ Contains (first_parts m.cols basis) (opposite v) →
      IsTight phase relations (product m v) → norm1 v ≤ complexity phase relations m basis
  part_light v (inl c) tight = first_light v c tight
  part_light v (inr c) tight =
      omega (arith, norm-opposite v, first_light (opposite v) c (tight_turned phase relations m v tight))

  -- a light part of a vector
  pub light_part : (bound : ℕ) → complexity phase relations m basis ≤ bound → (w : Vector) → length w ≡ m.cols →
      0 < norm1 w → IsTight phase relations (product m w) → LightPart bound (λ q. product m q ⊑ product m w) w
  light_part bound low w size some tight =
      let q = part_of_complete m basis complete w size (nonzero_of_norm w some) in
      let here = tight_below phase relations (product m q.vector) (product m w) q.image tight in
      record {
        vector = q.vector;
        below = q.below;
        nonzero = norm_some q.vector q.nonzero;
        light = omega (arith, part_light q.vector q.listed here, low);
        has = q.image;
      }
