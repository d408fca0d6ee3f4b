-- Laws of the stages of a completion: what an added sum keeps, what it shows where a limit is passed, and
-- what pairs that reduce leave covered.
use Rattle.std.proofs.Common.{◌≡◌, ◌≢◌, ℕ, ◌<◌, ◌≤◌, true, false, List, [], ◌∷◌, ◌++◌, length, take, refl, ap, arith}
use Rattle.std.proofs.Common.{sym, ◌∙◌, Contains, ◌⊎◌, inl, inr, subst, append_assoc, length-append, ℤ, ◌+ℤ◌}
use Rattle.std.proofs.Common.{unsigned_abs, ◌^◌, slice_get, Some}
use Rattle.std.specs.List.{All, AllByRecursion}
use Rattle.std.proofs.lemmas.Int.{ints}
use Rattle.std.proofs.lemmas.List.{length_push, append-nil}
use Rattle.std.proofs.lemmas.Option.{get_or_from_slice_get, slice_get_within}
use Rattle.std.proofs.lemmas.List.Elements.{All-from_recursion, recursion_from_All, All-contains, All-get_or, All-push}
use Rattle.std.proofs.lemmas.List.Elements.{Contains-get_or, Contains-append_left, Contains-push}
use Rattle.std.proofs.lemmas.List.Quantifiers.{all_pairs_push}
use Rattle.lattice_theory.specs.Vectors.{Vector, is_zero, leads_positive, norm1, add, opposite}
use Rattle.lattice_theory.specs.Matrices.{Matrix}
use Rattle.lattice_theory.specs.Lattices.{InLattice, IsMinimal}
use Rattle.lattice_theory.specs.BasisLimits.{IsNarrow, IsBasisElement, ExceedsBasis}
use Rattle.lattice_laws.proofs.Conformal.{conforms_refl, length-opposite, opposite_nonzero, opposite-opposite}
use Rattle.lattice_laws.proofs.Conformal.{norm_agree, norm_some, nonzero_of_norm, norm-take, take-add}
use Rattle.lattice_laws.proofs.Elements.{closed_add, closed_opposite, minimal-opposite}
use Rattle.lattice_laws.proofs.Rising.{AreDifferent}
use Rattle.lattice_laws.proofs.SlackBases.{IsSigned, IsReducible, Covers, exceeds_by_many}
use Rattle.lattice_laws.proofs.Completion.{counts, counts_parts, CoversCut, CoversBelow, PairsReduce, completed}
use Rattle.lattice_laws.proofs.Completion.{minimal_sum, cut_nonzero}
use Rattle.pottier.specs.Stages.{AreMembers, AreFitting, Grows, IsStage, IsDue, IsCompleted}

-- ---- growing lists

pub grows_not : (vs : List Vector) → Grows vs vs
grows_not vs = ([], sym (append-nil vs))

pub grows_twice : (us vs ws : List Vector) → Grows us vs → Grows vs ws → Grows us ws
grows_twice us vs ws (xs, e) (ys, f) = (xs ++ ys, f ∙ ap (λ t. t ++ ys) e ∙ append_assoc us xs ys)

pub grows_by_one : (vs : List Vector) (w : Vector) → Grows vs (vs ++ w ∷ [])
grows_by_one vs w = (w ∷ [], refl)

pub grows_length : (us vs : List Vector) → Grows us vs → length us ≤ length vs
grows_length us vs (xs, e) = omega (arith, ap length e, length-append us xs)

signed_grows : (us vs : List Vector) (e : Vector) → Grows us vs → IsSigned us e → IsSigned vs e
signed_grows us vs e (xs, f) (inl c) = inl (subst (λ ws. Contains ws e) (sym f) (Contains-append_left us xs e c))
signed_grows us vs e (xs, f) (inr c) = inr (subst (λ ws. Contains ws (opposite e)) (sym f)
    (Contains-append_left us xs (opposite e) c))

pub reducible_grows : (us vs : List Vector) (z : Vector) → Grows us vs → IsReducible us z → IsReducible vs z
reducible_grows us vs z g (e, s, b) = (e, signed_grows us vs e g s, b)

cut_grows : (m : Matrix) (at : ℕ) (us vs : List Vector) → Grows us vs → CoversCut m at us → CoversCut m at vs
cut_grows m at us vs g h = λ y i n. let c = h y i n in (c.0, signed_grows us vs c.0 g c.1, c.2)

pub below_grows : (m : Matrix) (at bound : ℕ) (us vs : List Vector) → Grows us vs → CoversBelow m at bound us →
    CoversBelow m at bound vs
below_grows m at bound us vs g h = λ y i n low. reducible_grows us vs y g (h y i n low)

-- ---- the members of a stage

module _ (m : Matrix) (at : ℕ) (vs : List Vector) (stage : IsStage m at vs) where
  member_is : (e : Vector) → Contains vs e → InLattice m e × (is_zero e ≡ false)
  member_is e c = let k = All-contains (IsBasisElement m) vs e stage.sound c in (k.0.member, k.0.nonzero)

  pub signed_is : (e : Vector) → IsSigned vs e → InLattice m e × (is_zero e ≡ false)
  signed_is e (inl c) = member_is e c
  signed_is e (inr c) =
      let k = member_is (opposite e) c in (
        subst (InLattice m) (opposite-opposite e) (closed_opposite m (opposite e) k.0),
        subst (λ z. is_zero z ≡ false) (opposite-opposite e) (opposite_nonzero (opposite e) k.1),
      )

  -- the sum of a counting pair is an element that is not 0
  pub sum_is : (p q : Vector) → IsSigned vs p → IsSigned vs q → counts at p q ≡ true → InLattice m (add p q)
      × (is_zero (add p q) ≡ false)
  sum_is p q s t h =
      let i = signed_is p s in
      let j = signed_is q t in
      let some : 0 < norm1 (take at p) = norm_some (take at p) (cut_nonzero m at stage.size stage.first p i.0 i.1) in
      let norm = norm_agree (take at p) (take at q) (counts_parts at p q h).0 in (
        closed_add m p q i.0 j.0,
        nonzero_of_norm (add p q) (omega (
          arith,
          some,
          norm,
          norm-take at (add p q),
          ap norm1 (take-add at p q),
        )),
      )

  -- ---- an added sum

  module _ (z w : Vector) (due : IsDue m at vs z) (none : IsReducible vs z → ⊥)
      (either : (w ≡ z) ⊎ (w ≡ opposite z)) (leads : leads_positive w ≡ true) where
    pub added_element : IsBasisElement m w
    added_element = (turned either, leads)
      where
        minimal : IsMinimal m z
        minimal = minimal_sum m at stage.size stage.first vs (norm1 (take at z)) z due.covers due.inside due.nonzero
            (omega arith) none

        turned : (w ≡ z) ⊎ (w ≡ opposite z) → IsMinimal m w
        turned (inl e) = subst (IsMinimal m) (sym e) minimal
        turned (inr e) = subst (IsMinimal m) (sym e) (minimal-opposite m z minimal)

    added_new : Contains vs w → ⊥
    added_new c = by either
      where
        by : (w ≡ z) ⊎ (w ≡ opposite z) → ⊥
        by (inl e) = none (z, inl (subst (Contains vs) e c), conforms_refl z)
        by (inr e) = none (z, inr (subst (Contains vs) e c), conforms_refl z)

    added_different : AreDifferent (vs ++ w ∷ [])
    added_different =
        all_pairs_push (λ u v. u ≢ v) vs w stage.different (λ k d low e. added_new
        (subst (Contains vs) e (Contains-get_or vs k d low)))

    pub added_stage : IsStage m at (vs ++ w ∷ [])
    added_stage = record {
      size = stage.size;
      first = stage.first;
      sound = All-push (IsBasisElement m) vs w stage.sound added_element;
      different = added_different;
      covers = cut_grows m at vs (vs ++ w ∷ []) (grows_by_one vs w) stage.covers;
    }

    pub exceeds_by_added : (limit : ℕ) → limit ≤ length vs → ExceedsBasis m limit
    exceeds_by_added limit full =
        exceeds_by_many m limit (vs ++ w ∷ []) added_different (omega (arith, length_push vs w))
        (All-push (IsBasisElement m) vs w stage.sound added_element)

    pub exceeds_by_wide : (limit : ℕ) → (IsNarrow w → ⊥) → ExceedsBasis m limit
    exceeds_by_wide limit wide = inr (w, added_element, wide)

  -- ---- what is covered

  pub pairs_cover : (bound : ℕ) → PairsReduce at bound vs → CoversBelow m at bound vs
  pairs_cover bound pairs = completed m at stage.size stage.first vs bound signed_is stage.covers pairs

  pub cuts_some : (e : Vector) → Contains vs e → is_zero (take at e) ≡ false
  cuts_some e c = let k = member_is e c in cut_nonzero m at stage.size stage.first e k.0 k.1

  pub stage_completed : Covers m vs → IsCompleted m vs
  stage_completed covers = record { sound = stage.sound; different = stage.different; covers = covers }

-- ---- the member at a place

pub member_at : (size : ℕ) (vs : List Vector) (i : ℕ) (v : Vector) → AreMembers size vs → slice_get vs i ≡ Some v →
    (length v ≡ size) × IsNarrow v
member_at size vs i v h is =
    subst (λ z. (length z ≡ size) × IsNarrow z) (get_or_from_slice_get vs i v [] is)
    (All-get_or (λ z. (length z ≡ size) × IsNarrow z) vs i [] (slice_get_within vs i v is) h)

-- ---- one vector more

pub fitting_push : (size limit : ℕ) (vs : List Vector) (w : Vector) → AreFitting size limit vs → length w ≡ size →
    IsNarrow w → length vs < limit → AreFitting size limit (vs ++ w ∷ [])
fitting_push size limit vs w h l narrow room = record {
  members = All-push (λ z. (length z ≡ size) × IsNarrow z) vs w h.members (l, narrow);
  short = omega (arith, length_push vs w);
}

pub either_length : (w z : Vector) → (w ≡ z) ⊎ (w ≡ opposite z) → length w ≡ length z
either_length w z (inl e) = ap length e
either_length w z (inr e) = ap length e ∙ length-opposite z

-- what is added makes the sum reducible
pub added_reducible : (vs : List Vector) (w z : Vector) → (w ≡ z) ⊎ (w ≡ opposite z) → IsReducible (vs ++ w ∷ []) z
added_reducible vs w z (inl e) = (z, inl (subst (Contains (vs ++ w ∷ [])) e (Contains-push vs w)), conforms_refl z)
added_reducible vs w z (inr e) = (z, inr (subst (Contains (vs ++ w ∷ [])) e (Contains-push vs w)), conforms_refl z)

pub not_reducible_same : (m : Matrix) (at : ℕ) (vs : List Vector) (y z : Vector) → y ≡ z → IsStage m at vs →
    IsDue m at vs z → ((n : Matrix) → IsStage n at vs → IsDue n at vs y → IsReducible vs y → ⊥) → IsReducible vs z → ⊥
not_reducible_same m at vs y z f stage due h r =
    h m stage (subst (IsDue m at vs) (sym f) due) (subst (IsReducible vs) (sym f) r)

-- the sum of narrow vectors is small
pub sum_small : (p q : Vector) → IsNarrow p → IsNarrow q → All (λ a. unsigned_abs a < 2 ^ 62) (add p q)
sum_small p q h k =
    All-from_recursion (λ a. unsigned_abs a < 2 ^ 62) (add p q)
    (small p q (recursion_from_All (λ a. unsigned_abs a < 2 ^ 31) p h)
    (recursion_from_All (λ a. unsigned_abs a < 2 ^ 31) q k))
  where
    small : (p q : Vector) → AllByRecursion (λ a. unsigned_abs a < 2 ^ 31) p →
        AllByRecursion (λ a. unsigned_abs a < 2 ^ 31) q → AllByRecursion (λ a. unsigned_abs a < 2 ^ 62) (add p q)
    small [] q h k = tt
    small (a ∷ p) [] h k = tt
    small (a ∷ p) (b ∷ q) h k = (entry a b h.0 k.0, small p q h.1 k.1)
      where
        entry : (a b : ℤ) → unsigned_abs a < 2 ^ 31 → unsigned_abs b < 2 ^ 31 → unsigned_abs (a +ℤ b) < 2 ^ 62
        entry a b h k = omega (arith, ints)
