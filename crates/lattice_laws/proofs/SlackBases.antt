-- Slack bases: at most one of a matrix, none past its limits, and what they cover.
use Rattle.std.proofs.Common.{◌≡◌, ℕ, zero, suc, ◌+◌, ◌<◌, true, false, List, [], ◌∷◌, length, ap, arith, sym, ◌∙◌}
use Rattle.std.proofs.Common.{Contains, ◌⊎◌, inl, inr, subst, Some, slice_get}
use Rattle.std.specs.List.{All, AllByRecursion}
use Rattle.std.proofs.lemmas.Bool.{cases_lt}
use Rattle.std.proofs.lemmas.List.Elements.{All-contains, All-from_recursion}
use Rattle.lattice_theory.specs.Vectors.{Vector, ◌⊑◌, conforms, is_zero, leads_positive, norm1, opposite}
use Rattle.lattice_theory.specs.Matrices.{Matrix}
use Rattle.lattice_theory.specs.Lattices.{InLattice, IsMinimal, IsSlackBasis}
use Rattle.lattice_theory.specs.BasisLimits.{IsNarrow, IsBasisElement, ExceedsBasis, IsBasisWithin}
use Rattle.lattice_laws.proofs.Tests.{true_or_false, not_both}
use Rattle.lattice_laws.proofs.Members.{contains_cases, contains_head, contains_tail}
use Rattle.lattice_laws.proofs.Places.{contains_at}
use Rattle.lattice_laws.proofs.Conformal.{conforms_refl, conforms_trans, below_same, leads_either, opposite-opposite}
use Rattle.lattice_laws.proofs.Elements.{minimal-opposite}
use Rattle.lattice_laws.proofs.Rising.{AreDifferent, rising_unique, rising_length, arranged}

-- the slack basis of a matrix is one list
pub slack_basis_unique : (m : Matrix) (xs ys : List Vector) → IsSlackBasis m xs → IsSlackBasis m ys → xs ≡ ys
slack_basis_unique m xs ys h k =
    rising_unique xs ys h.rising k.rising (λ z i. moved xs ys h k z i) (λ z i. moved ys xs k h z i)
  where
    moved : (us vs : List Vector) → IsSlackBasis m us → IsSlackBasis m vs → (z : Vector) → Contains us z → Contains vs z
    moved us vs a b z i =
        let both = All-contains (IsBasisElement m) us z a.sound i in
        b.complete z both.0 both.1

-- an element has an entry for each column and for each row
pub length-basis_element : (m : Matrix) (basis : List Vector) (i : ℕ) (z : Vector) → IsSlackBasis m basis →
    slice_get basis i ≡ Some z → length z ≡ m.cols + length m.rows
length-basis_element m basis i z slack there =
    (All-contains (IsBasisElement m) basis z slack.sound (contains_at basis i z there)).0.member.size

-- a basis within the limit does not exceed it
pub within_or_exceeds : (m : Matrix) (limit : ℕ) (basis : List Vector) → IsBasisWithin m limit basis →
    ExceedsBasis m limit → ⊥
within_or_exceeds m limit basis h (inl (zs, rising, many, sound)) =
    absurd (omega (
      arith,
      many,
      h.short,
      rising_length zs basis rising h.slack.rising
          (λ z c. let e = All-contains (IsBasisElement m) zs z sound c in h.slack.complete z e.0 e.1),
    ))
within_or_exceeds m limit basis h (inr (z, e, wide)) =
    wide (All-contains IsNarrow basis z h.narrow (h.slack.complete z e.0 e.1))

-- ---- signed members

-- e is one of the vectors, as it is or with its signs turned
abbrev pub IsSigned : List Vector → Vector → Type 0
IsSigned vs e = Contains vs e ⊎ Contains vs (opposite e)

-- a signed member is conformally below z
abbrev pub IsReducible : List Vector → Vector → Type 0
IsReducible vs z = (e : Vector) × IsSigned vs e × (e ⊑ z)

-- every nonzero element of the lattice has a signed member below it
abbrev pub Covers : Matrix → List Vector → Type 0
Covers m vs = (y : Vector) → InLattice m y → is_zero y ≡ false → IsReducible vs y

pub signed_opposite : (vs : List Vector) (e : Vector) → IsSigned vs e → IsSigned vs (opposite e)
signed_opposite vs e (inl h) = inr (subst (Contains vs) (sym (opposite-opposite e)) h)
signed_opposite vs e (inr h) = inl h

-- whether a signed member is below z is decided
pub reducible_or_not : (vs : List Vector) (z : Vector) → IsReducible vs z ⊎ (IsReducible vs z → ⊥)
reducible_or_not [] z = inr none
  where
    none : IsReducible [] z → ⊥
    none (e, inl (k, low, f), b) = absurd (omega arith)
    none (e, inr (k, low, f), b) = absurd (omega arith)
reducible_or_not (v ∷ vs) z = elim (true_or_false (conforms v z)) [
  | inl b ↦ inl (v, inl (contains_head v vs), b)
  | inr as_it_is ↦ elim (true_or_false (conforms (opposite v) z)) [
    | inl b ↦ inl (opposite v, inr (subst (Contains (v ∷ vs)) (sym (opposite-opposite v)) (contains_head v vs)), b)
    | inr turned ↦ elim (reducible_or_not vs z) [
      | inl r ↦ inl (further r)
      | inr n ↦ inr (λ r. n (without as_it_is turned r))
    ]
  ]
]
  where
    further : IsReducible vs z → IsReducible (v ∷ vs) z
    further (e, inl c, b) = (e, inl (contains_tail v vs e c), b)
    further (e, inr c, b) = (e, inr (contains_tail v vs (opposite e) c), b)

    without : conforms v z ≡ false → conforms (opposite v) z ≡ false → IsReducible (v ∷ vs) z → IsReducible vs z
    without p q (e, inl c, b) = elim (contains_cases v vs e c) [
      | inl f ↦ absurd (not_both (conforms e z) b (ap (λ u. conforms u z) (sym f) ∙ p))
      | inr d ↦ (e, inl d, b)
    ]
    without p q (e, inr c, b) = elim (contains_cases v vs (opposite e) c) [
      | inl f ↦ absurd (not_both (conforms e z) b (ap (λ u. conforms u z) (sym (opposite-opposite e)
          ∙ ap opposite (sym f)) ∙ q))
      | inr d ↦ (e, inr d, b)
    ]

-- the slack basis covers its lattice
pub slack_basis_covers : (m : Matrix) (basis : List Vector) → IsSlackBasis m basis → Covers m basis
slack_basis_covers m basis h y inside nonzero = reached (suc (norm1 y)) y (omega arith) inside nonzero
  where
    -- where no member is below y, nor is another element, as the lighter ones are covered: y is minimal
    least : (y : Vector) → ((u : Vector) → norm1 u < norm1 y → InLattice m u → is_zero u ≡ false →
        IsReducible basis u) → (IsReducible basis y → ⊥) →
        (u : Vector) → InLattice m u → is_zero u ≡ false → u ⊑ y → u ≡ y
    least y lighter none u i n b = elim (cases_lt (norm1 u) (norm1 y)) [
      | inr heavy ↦ below_same u y b heavy
      | inl light ↦ let r = lighter u light i n in absurd (none (r.0, r.1, conforms_trans r.0 u y r.2 b))
    ]

    listed : (y : Vector) → IsMinimal m y → (leads_positive y ≡ true) ⊎ (leads_positive (opposite y) ≡ true) →
        IsReducible basis y
    listed y minimal (inl lead) = (y, inl (h.complete y minimal lead), conforms_refl y)
    listed y minimal (inr lead) = (
      y,
      inr (h.complete (opposite y) (minimal-opposite m y minimal) lead),
      conforms_refl y,
    )

    reached : (bound : ℕ) (y : Vector) → norm1 y < bound → InLattice m y → is_zero y ≡ false → IsReducible basis y
    reached zero y light i n = absurd (omega arith)
    reached (suc bound) y light i n = elim (reducible_or_not basis y) [
      | inl r ↦ r
      | inr none ↦
          listed y (record {
            member = i;
            nonzero = n;
            least = least y (λ u lt j k. reached bound u (omega arith) j k)
                none;
          }) (leads_either y n)
    ]

-- ---- limits

-- more than limit different elements of the basis exceed it
pub exceeds_by_many : (m : Matrix) (limit : ℕ) (vs : List Vector) → AreDifferent vs → limit < length vs →
    All (IsBasisElement m) vs → ExceedsBasis m limit
exceeds_by_many m limit vs different many sound =
    let a = arranged vs different in
    inl (
      a.all,
      a.rising,
      omega (arith, many, a.size),
      All-from_recursion (IsBasisElement m) a.all (each a.all (λ z c. All-contains (IsBasisElement m) vs z sound
          (a.members z c))),
    )
  where
    each : (zs : List Vector) → ((z : Vector) → Contains zs z → IsBasisElement m z) →
        AllByRecursion (IsBasisElement m) zs
    each [] h = tt
    each (z ∷ zs) h = (h z (contains_head z zs), each zs (λ w c. h w (contains_tail z zs w c)))
