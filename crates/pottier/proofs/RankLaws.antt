-- Laws of the ranks of members: one member more, and that a look-up may end at half the norm.
use Rattle.std.proofs.Common.{◌≡◌, ℕ, ◌+◌, ◌-◌, ◌/◌, ◌<◌, ◌≤◌, true, false, ◌||◌, Bool, MatchBool, leb, ltb, List, []}
use Rattle.std.proofs.Common.{◌∷◌, ◌++◌, length, take, drop, get_or, refl, ap, slice_get, Some, arith, sym, ◌∙◌}
use Rattle.std.proofs.Common.{Contains, ◌⊎◌, inl, inr, subst, leb-true, leb-false, ltb-true}
use Rattle.std.specs.List.{All, AllWithin, insert}
use Rattle.std.specs.List.Sorted.{IsPartitionPoint, IsPermutation}
use Rattle.std.proofs.lemmas.Bool.{cases_lt, cases_eq, or_right}
use Rattle.std.proofs.lemmas.List.{get_or_append_left, get_or_default, length_push, get_or-take, get_or-drop}
use Rattle.std.proofs.lemmas.List.{length-take, length-drop}
use Rattle.std.proofs.lemmas.Option.{get_or_from_slice_get, slice_get_within}
use Rattle.std.proofs.lemmas.List.Elements.{All-nil, All-contains, All-weaker, All-cons, Contains-get_or}
use Rattle.std.proofs.lemmas.List.Sorted.{IsNonDecreasingBy-insert, IsPermutation-insert, All-permutation}
use Rattle.std.proofs.lemmas.List.Sorted.{Contains-permutation}
use Rattle.lattice_theory.specs.Vectors.{Vector, ◌⊑◌, conforms, norm1, sub, opposite}
use Rattle.lattice_theory.specs.Matrices.{Matrix}
use Rattle.lattice_laws.proofs.Tests.{not_both}
use Rattle.lattice_laws.proofs.Conformal.{conforms_trans, conforms-take, rest_below, take-sub, norm_split, norm_some}
use Rattle.lattice_laws.proofs.Conformal.{nonzero_of_norm, norm_below, norm-take, opposite-take, norm-opposite}
use Rattle.lattice_laws.proofs.Conformal.{opposite-opposite}
use Rattle.lattice_laws.proofs.Elements.{closed_sub}
use Rattle.lattice_laws.proofs.Members.{contains_head, contains_tail}
use Rattle.lattice_laws.proofs.SlackBases.{IsSigned, IsReducible}
use Rattle.lattice_laws.proofs.Completion.{cut_nonzero}
use Rattle.int_vectors.specs.Signs.{signs_of}
use Rattle.pottier.specs.declared.ranks.Rank.{Rank}
use Rattle.pottier.specs.Ranks.{lies_below, ranked_in, IsPlaced, IsRankOf, AreRanks}
use Rattle.pottier.specs.Stages.{IsStage, IsDue}
use Rattle.pottier.proofs.StageLaws.{signed_is}

-- what is read where no rank stands
abbrev pub no_rank : Rank
no_rank = record { norm = 0; place = 0; signs = record { up = 0; down = 0 } }

pub no-ranks : (at : ℕ) → AreRanks at [] []
no-ranks at = record {
  sorted = λ i j d up low. absurd (omega (arith, low));
  each = All-nil (IsRankOf at []);
  all = λ i low. absurd (omega (arith, low));
}

-- ---- one member more

rank_grows : (at : ℕ) (vs : List Vector) (v : Vector) (r : Rank) → IsRankOf at vs r → IsRankOf at (vs ++ v ∷ []) r
rank_grows at vs v r h =
    let same : ranked_in (vs ++ v ∷ []) r ≡ ranked_in vs r =
    get_or_append_left vs (v ∷ []) [] r.place h.placed.inside in
    record {
      placed = record {
        inside = omega (arith, h.placed.inside, length_push vs v);
        signs = h.placed.signs
            ∙ ap signs_of (sym same);
      };
      norm = h.norm ∙ ap (λ u. norm1 (take at u)) (sym same);
    }

-- the vector behind the others
last-there : (vs : List Vector) (v d : Vector) → get_or (vs ++ v ∷ []) (length vs) d ≡ v
last-there [] v d = refl
last-there (u ∷ vs) v d = last-there vs v d

pub ranks-more : (at : ℕ) (vs : List Vector) (rs : List Rank) (v : Vector) (i : ℕ) (r : Rank) → AreRanks at vs rs →
    r.norm ≡ norm1 (take at v) →
    r.place ≡ length vs → r.signs ≡ signs_of v → i ≤ length rs →
    IsPartitionPoint (λ y. leb y.norm r.norm ≡ true) (λ y. leb y.norm r.norm ≡ false) rs i →
    AreRanks at (vs ++ v ∷ []) (insert rs i r)
ranks-more at vs rs v i r h norm place signs low point = record {
  sorted = IsNonDecreasingBy-insert (λ y. y.norm) rs i r h.sorted low
      (λ k d under. leb-true (get_or rs k d).norm r.norm (point.0 k d (omega arith) under))
      (λ k d over inside. above (get_or rs k d) (point.1 k d over inside));
  each = All-permutation (IsRankOf at (vs ++ v ∷ [])) (r ∷ rs) (insert rs i r) order
      (All-cons (IsRankOf at (vs ++ v ∷ [])) r rs own
      (All-weaker (IsRankOf at vs) (IsRankOf at (vs ++ v ∷ [])) (λ x k. rank_grows at vs v x k) rs h.each));
  all = λ j inside. elim (cases_eq j (length vs)) [
    | inl e ↦ (r, Contains-permutation (r ∷ rs) (insert rs i r) r order (contains_head r rs), place ∙ sym e)
    | inr other ↦
        let old = h.all j (omega (arith, inside, other, length_push vs v)) in
        (old.0, Contains-permutation (r ∷ rs) (insert rs i r) old.0 order (contains_tail r rs old.0 old.1), old.2)
  ];
}
  where
    order : IsPermutation (r ∷ rs) (insert rs i r)
    order = IsPermutation-insert rs i r

    above : (y : Rank) → leb y.norm r.norm ≡ false → r.norm ≤ y.norm
    above y fails = let no = leb-false y.norm r.norm fails in omega (arith, no)

    there : ranked_in (vs ++ v ∷ []) r ≡ v
    there = ap (λ n. get_or (vs ++ v ∷ []) n []) place ∙ last-there vs v []

    own : IsRankOf at (vs ++ v ∷ []) r
    own = record {
      placed = record { inside = omega (arith, place, length_push vs v); signs = signs ∙ ap signs_of (sym there) };
      norm = norm ∙ ap (λ u. norm1 (take at u)) (sym there);
    }

-- ---- half the norm is enough

-- the first entries of e have at most half the norm of those of z, or the same
abbrev IsEnough : ℕ → Vector → Vector → Type 0
IsEnough at z e = (norm1 (take at e) + norm1 (take at e) ≤ norm1 (take at z)) ⊎ (norm1 (take at e) ≡ norm1 (take at z))

-- a vector that some member is below has one below it of at most half its norm, or of its own
module _ (m : Matrix) (at : ℕ) (vs : List Vector) (z : Vector) (stage : IsStage m at vs) (due : IsDue m at vs z) where
  -- where e is in between, the rest of z is covered by less
  by_rest : (e : Vector) → IsSigned vs e → e ⊑ z → norm1 (take at z) < norm1 (take at e) + norm1 (take at e) →
      norm1 (take at e) < norm1 (take at z) →
      (d : Vector) × IsSigned vs d × (d ⊑ z) × IsEnough at z d
  by_rest e s below more less =
      let k = signed_is m at vs stage e s in
      let split : norm1 (take at z) ≡ norm1 (take at e) + norm1 (take at (sub z e)) =
      norm_split (take at e) (take at z) (conforms-take at e z below)
      ∙ ap (λ u. norm1 (take at e) + norm1 u) (sym (take-sub at z e)) in
      let some : 0 < norm1 (take at e) = norm_some (take at e) (cut_nonzero m at stage.size stage.first e k.0 k.1) in
      let rest = due.covers (sub z e) (closed_sub m e z k.0 due.inside)
      (nonzero_of_norm (sub z e) (omega (arith, split, less, norm-take at (sub z e)))) (omega (arith, split, some)) in
      let small = norm_below (take at rest.0) (take at (sub z e)) (conforms-take at rest.0 (sub z e) rest.2) in (
        rest.0,
        rest.1,
        conforms_trans rest.0 (sub z e) z rest.2 (rest_below e z below),
        inl (omega (arith, small, split, more)),
      )

  pub half_enough : IsReducible vs z → (d : Vector) × IsSigned vs d × (d ⊑ z) × IsEnough at z d
  half_enough (e, s, below) = elim (cases_lt (norm1 (take at e)) (norm1 (take at z))) [
    | inr heavy ↦ (
      e,
      s,
      below,
      inr (omega (
        arith,
        heavy,
        norm_below (take at e) (take at z)
            (conforms-take at e z below),
      )),
    )
    | inl less ↦ elim (cases_lt (norm1 (take at z)) (norm1 (take at e) + norm1 (take at e))) [
      | inr light ↦ (e, s, below, inl light)
      | inl more ↦ by_rest e s below more less
    ]
  ]

  -- where none of at most half the norm and none of the same norm is below, none is
  pub none-below : (rs : List Rank) (norm half from to : ℕ) → AreRanks at vs rs → norm ≡ norm1 (take at z) →
      IsPartitionPoint (λ y. leb y.norm (norm / 2) ≡ true) (λ y. leb y.norm (norm / 2) ≡ false) rs half →
      IsPartitionPoint (λ y. ltb y.norm norm ≡ true) (λ y. ltb y.norm norm ≡ false) rs from →
      IsPartitionPoint (λ y. leb y.norm norm ≡ true) (λ y. leb y.norm norm ≡ false) rs to →
      AllWithin (λ r. lies_below (ranked_in vs r) z ≡ false) rs 0 half →
      AllWithin (λ r. lies_below (ranked_in vs r) z ≡ false) rs from to → IsReducible vs z → ⊥
  none-below rs norm half from to h all light less same few equal r =
      let found = half_enough r in by_sign found.0 found.1 found.2 found.3
    where
      at_rank : (v : Vector) (j : ℕ) (r : Rank) → j < length rs → get_or rs j r ≡ r → r.norm ≡ norm1 (take at v) →
          lies_below (ranked_in vs r) z ≡ true → IsEnough at z v → ⊥
      at_rank v j r within is own below (inl small) = elim (cases_lt j half) [
        | inl under ↦ not_both (lies_below (ranked_in vs r) z) below
            (subst (λ x. lies_below (ranked_in vs x) z ≡ false) is (few j r (omega arith) under))
        | inr over ↦
            let no = leb-false (get_or rs j r).norm (norm / 2) (light.1 j r over within) in
            absurd (omega (arith, no, ap (λ (x : Rank). x.norm) is, own, all, small))
      ]
      at_rank v j r within is own below (inr equal_norm) = elim (cases_lt j from) [
        | inl under ↦
            let low = ltb-true (get_or rs j r).norm norm (less.0 j r (omega arith) under) in
            absurd (omega (arith, low, ap (λ (x : Rank). x.norm) is, own, all, equal_norm))
        | inr over ↦ elim (cases_lt j to) [
          | inl under ↦ not_both (lies_below (ranked_in vs r) z) below
              (subst (λ x. lies_below (ranked_in vs x) z ≡ false) is (equal j r over under))
          | inr past ↦
              let high = leb-false (get_or rs j r).norm norm (same.1 j r past within) in
              absurd (omega (arith, high, ap (λ (x : Rank). x.norm) is, own, all, equal_norm))
        ]
      ]

      at_place : (v : Vector) → Contains vs v → lies_below v z ≡ true → IsEnough at z v → ⊥
      at_place v (k, there, is) below enough = by_rank (h.all k there)
        where
          by_rank : (r : Rank) × Contains rs r × (r.place ≡ k) → ⊥
          by_rank (r, (j, within, same), place) =
              let member : ranked_in vs r ≡ v = ap (λ n. get_or vs n []) place ∙ get_or_default vs k [] v there ∙ is in
              let own = (All-contains (IsRankOf at vs) rs r h.each (j, within, same)).norm
              ∙ ap (λ u. norm1 (take at u)) member in
              at_rank v j r within same own (ap (λ u. lies_below u z) member ∙ below) enough

      by_sign : (e : Vector) → IsSigned vs e → e ⊑ z → IsEnough at z e → ⊥
      by_sign e (inl there) below enough = at_place e there (ap (λ t. t || conforms (opposite e) z) below) enough
      by_sign e (inr there) below enough =
          at_place (opposite e) there (or_right (conforms (opposite e) z) (conforms (opposite (opposite e)) z)
          (ap (λ u. conforms u z) (opposite-opposite e) ∙ below))
          (subst (λ n. (n + n ≤ norm1 (take at z)) ⊎ (n ≡ norm1 (take at z))) (sym norm_turned) enough)
        where
          norm_turned : norm1 (take at (opposite e)) ≡ norm1 (take at e)
          norm_turned = ap norm1 (sym (opposite-take at e)) ∙ norm-opposite (take at e)

-- where all ranks of a part pass, all between its two places do
pub AllWithin-part : (P : Rank → Type 0) (rs : List Rank) (from to : ℕ) → to ≤ length rs →
    All P (take (to - from) (drop from rs)) → AllWithin P rs from to
AllWithin-part P rs from to within h k d above below =
    subst P
    (get_or-take (to - from) (drop from rs) (k - from) d (omega (arith, above, below))
    ∙ get_or-drop from rs (k - from) d ∙ ap (λ n. get_or rs n d) (omega (arith, above)))
    (h (k - from) d (omega (
      arith,
      above,
      below,
      within,
      length-take (to - from) (drop from rs),
      length-drop from rs,
    )))

-- the ranks of a norm begin before they end
pub begins_before : (rs : List Rank) (norm from to : ℕ) →
    IsPartitionPoint (λ y. ltb y.norm norm ≡ true) (λ y. ltb y.norm norm ≡ false) rs from →
    IsPartitionPoint (λ y. leb y.norm norm ≡ true) (λ y. leb y.norm norm ≡ false) rs to → from ≤ length rs → from ≤ to
begins_before rs norm from to less same within = elim (cases_lt to from) [
  | inr over ↦ over
  | inl under ↦
      let low = ltb-true (get_or rs to no_rank).norm norm (less.0 to no_rank (omega arith) under) in
      let high = leb-false (get_or rs to no_rank).norm norm (same.1 to no_rank (omega arith) (omega arith)) in
      absurd (omega (arith, low, high))
]

-- ---- the member of a rank

pub placed_at : (vs : List Vector) (rs : List Rank) (i : ℕ) (d : Rank) → All (IsPlaced vs) rs → i < length rs →
    IsPlaced vs (get_or rs i d)
placed_at vs rs i d h low = All-contains (IsPlaced vs) rs (get_or rs i d) h (Contains-get_or rs i d low)

pub ranked_there : (vs : List Vector) (r : Rank) (v : Vector) → slice_get vs r.place ≡ Some v → Contains vs v
ranked_there vs r v is =
    subst (Contains vs) (get_or_from_slice_get vs r.place v [] is)
    (Contains-get_or vs r.place [] (slice_get_within vs r.place v is))

-- what is said of an answer "no" may be said by what follows from it
pub no_as : (b : Bool) (P Q R : Type 0) → MatchBool b P Q → (Q → R) → MatchBool b P R
no_as true P Q R h f = h
no_as false P Q R h f = f h
