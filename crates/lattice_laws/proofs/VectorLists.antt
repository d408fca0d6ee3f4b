-- Lists of vectors: their sum, their weight, and lists whose vectors agree with each other.
use Rattle.std.proofs.Common.{◌≡◌, ℕ, ◌+◌, ◌≤◌, List, ◌∷◌, ◌++◌, length, map, refl, ap, arith, sym, ◌∙◌, subst, true}
use Rattle.std.proofs.Common.{[], Bool, false, ◌⊎◌, inl, inr, zero, suc, ◌*◌, take, drop, length-append, Contains}
use Rattle.std.specs.List.{AllByRecursion, filter}
use Rattle.std.proofs.lemmas.List.{take-append-le, drop-append-le, take_all, length-drop, length-map, take_at, drop_at}
use Rattle.std.proofs.lemmas.List.Sums.{length-filter, count_by-le-length}
use Rattle.lattice_theory.specs.Vectors.{Vector, ◌⊑◌, norm1, add, opposite, is_zero}
use Rattle.lattice_theory.specs.Matrices.{rows_of}
use Rattle.lattice_theory.specs.Lattices.{kernel}
use Rattle.lattice_theory.specs.SignedSums.{Sum, vectors}
use Rattle.lattice_laws.proofs.Conformal.{length-add, opposite-add, norm-opposite, agree, agree_comm, conforms_trans}
use Rattle.lattice_laws.proofs.Conformal.{below_sum, add_comm_v, agree_parts, norm_agree, norm_sum}
use Rattle.lattice_laws.proofs.Products.{length-zeros}
use Rattle.lattice_laws.proofs.Sums.{add_assoc_v, zeros_add, opposite-zeros, norm-zeros}
use Rattle.lattice_laws.proofs.Agreement.{agree_sum, agree_zeros}
use Rattle.lattice_laws.specs.VectorLists.{sum_of, weight, AreSized, flat}
use Rattle.lattice_laws.proofs.Members.{contains_cases, contains_head, contains_tail}

-- ---- their sum and their weight

pub length-sum : (n : ℕ) (us : List Vector) → AreSized n us → length (sum_of n us) ≡ n
length-sum n [] sized = length-zeros n
length-sum n (u ∷ us) sized = length-add u (sum_of n us) n sized.0 (length-sum n us sized.1)

pub sum_append : (n : ℕ) (es fs : List Vector) → AreSized n fs → sum_of n (es ++ fs) ≡ add (sum_of n es) (sum_of n fs)
sum_append n [] fs sized = sym (zeros_add (sum_of n fs) n (length-sum n fs sized))
sum_append n (e ∷ es) fs sized = ap (add e) (sum_append n es fs sized) ∙ add_assoc_v e (sum_of n es) (sum_of n fs)

pub weight_append : (es fs : List Vector) → weight (es ++ fs) ≡ weight es + weight fs
weight_append [] fs = omega arith
weight_append (e ∷ es) fs = omega (arith, weight_append es fs)

pub turned_sum : (n : ℕ) (es : List Vector) → sum_of n (map opposite es) ≡ opposite (sum_of n es)
turned_sum n [] = sym (opposite-zeros n)
turned_sum n (e ∷ es) = ap (add (opposite e)) (turned_sum n es) ∙ sym (opposite-add e (sum_of n es))

pub turned_weight : (es : List Vector) → weight (map opposite es) ≡ weight es
turned_weight [] = refl
turned_weight (e ∷ es) = omega (arith, norm-opposite e, turned_weight es)

-- the norm of a sum is at most the sum of the norms
pub norm_sum_of : (n : ℕ) (us : List Vector) → norm1 (sum_of n us) ≤ weight us
norm_sum_of n [] = omega (arith, norm-zeros n)
norm_sum_of n (u ∷ us) = omega (arith, norm_sum_of n us, norm_sum u (sum_of n us))

-- ---- vectors that agree with each other

-- e agrees with each of the vectors
abbrev pub AgreesWithAll : Vector → List Vector → Type 0
AgreesWithAll e es = AllByRecursion (λ f. agree e f ≡ true) es

-- every two of the terms agree
abbrev pub AreAgreeing : List Vector → Type 0
AreAgreeing [] = Unit {0}
AreAgreeing (e ∷ es) = AgreesWithAll e es × AreAgreeing es

-- what agrees with each of the vectors agrees with their sum
pub agree_all : (n : ℕ) (e : Vector) (es : List Vector) → length e ≡ n → AgreesWithAll e es →
    agree e (sum_of n es) ≡ true
agree_all n e [] size all = agree_zeros e n size
agree_all n e (f ∷ es) size all = agree_sum e f (sum_of n es) all.0 (agree_all n e es size all.1)

-- what is below u is below v
pub all_below : (u v : Vector) (es : List Vector) → u ⊑ v → AllByRecursion (λ f. f ⊑ u) es →
    AllByRecursion (λ f. f ⊑ v) es
all_below u v [] below all = tt
all_below u v (e ∷ es) below all = (conforms_trans e u v all.0 below, all_below u v es below all.1)

-- vectors that agree are below their sum
pub agreeing_below : (n : ℕ) (es : List Vector) → AreSized n es → AreAgreeing es →
    AllByRecursion (λ f. f ⊑ sum_of n es) es
agreeing_below n [] sized agreeing = tt
agreeing_below n (e ∷ es) sized agreeing =
    let sum = sum_of n es in
    let agrees : agree e sum ≡ true = agree_all n e es sized.0 agreeing.0 in
    let up : sum ⊑ add e sum = subst (λ v. sum ⊑ v) (add_comm_v sum e) (below_sum sum e (agree_comm sum e ∙ agrees)) in
    (below_sum e sum agrees, all_below sum (add e sum) es up (agreeing_below n es sized.1 agreeing.1))

-- vectors below one vector agree with each other
pub below_agree : (es : List Vector) (y : Vector) → AllByRecursion (λ e. e ⊑ y) es → AreAgreeing es
below_agree [] y below = tt
below_agree (e ∷ es) y below = (with_each e es below.0 below.1, below_agree es y below.1)
  where
    with_each : (e : Vector) (es : List Vector) → e ⊑ y → AllByRecursion (λ f. f ⊑ y) es → AgreesWithAll e es
    with_each e [] below all = tt
    with_each e (f ∷ es) below all = (agree_parts e f y below all.0, with_each e es below all.1)

-- the norms of vectors that agree add up
pub agreeing_weight : (n : ℕ) (us : List Vector) → AreSized n us → AreAgreeing us → norm1 (sum_of n us) ≡ weight us
agreeing_weight n [] sized agreeing = norm-zeros n
agreeing_weight n (u ∷ us) sized agreeing =
    omega (
      arith,
      norm_agree u (sum_of n us) (agree_all n u us sized.0 agreeing.0),
      agreeing_weight n us sized.1 agreeing.1,
    )

-- ---- vectors that clash

-- u clashes with one of the vectors
abbrev pub ClashesWithOne : Vector → List Vector → Type 0
ClashesWithOne u [] = ⊥
ClashesWithOne u (v ∷ vs) = (agree u v ≡ false) ⊎ ClashesWithOne u vs

-- two of the vectors clash
abbrev pub ClashingPair : List Vector → Type 0
ClashingPair [] = ⊥
ClashingPair (u ∷ us) = ClashesWithOne u us ⊎ ClashingPair us

-- u agrees with all of the vectors, or clashes with one
with_all : (u : Vector) (vs : List Vector) → AgreesWithAll u vs ⊎ ClashesWithOne u vs
with_all u [] = inl tt
with_all u (v ∷ vs) = by (agree u v) refl (with_all u vs)
  where
    by : (t : Bool) → agree u v ≡ t → AgreesWithAll u vs ⊎ ClashesWithOne u vs →
        AgreesWithAll u (v ∷ vs) ⊎ ClashesWithOne u (v ∷ vs)
    by false p r = inr (inl p)
    by true p (inl all) = inl (p, all)
    by true p (inr one) = inr (inr one)

-- all of the vectors agree with each other, or two of them clash
pub agreeing_or_clashing : (us : List Vector) → AreAgreeing us ⊎ ClashingPair us
agreeing_or_clashing [] = inl tt
agreeing_or_clashing (u ∷ us) = by (with_all u us) (agreeing_or_clashing us)
  where
    by : AgreesWithAll u us ⊎ ClashesWithOne u us → AreAgreeing us ⊎ ClashingPair us →
        AreAgreeing (u ∷ us) ⊎ ClashingPair (u ∷ us)
    by (inr one) r = inr (inl one)
    by (inl all) (inl pairs) = inl (all, pairs)
    by (inl all) (inr pair) = inr (inr pair)

-- ---- rows, one after the other

-- there are as many rows as were asked for
pub length_rows_of : (n cols : ℕ) (entries : Vector) → length (rows_of n cols entries) ≡ n
length_rows_of zero cols entries = refl
length_rows_of (suc n) cols entries = ap suc (length_rows_of n cols (drop cols entries))

-- a row more behind rows
pub rows_of-push : (n cols : ℕ) (entries row : Vector) → length entries ≡ n * cols → length row ≡ cols →
    rows_of (suc n) cols (entries ++ row) ≡ rows_of n cols entries ++ row ∷ []
rows_of-push zero cols [] row all width = ap (λ (r : Vector). r ∷ []) (take_all cols row (omega arith))
rows_of-push zero cols (a ∷ entries) row all width = absurd (omega arith)
rows_of-push (suc n) cols entries row all width =
    let enough : cols ≤ length entries = omega arith in
    let left : length (drop cols entries) ≡ n * cols = omega (arith, length-drop cols entries) in
    rw (
      take-append-le cols entries row enough,
      drop-append-le cols entries row enough,
      rows_of-push n cols (drop cols entries) row left width,
    ) refl

-- all entries of rows of one width
pub length-flat : (cols : ℕ) (rows : List Vector) → AllByRecursion (λ row. length row ≡ cols) rows →
    length (flat rows) ≡ length rows * cols
length-flat cols [] all = omega arith
length-flat cols (row ∷ rows) all = omega (arith, length-append row (flat rows), length-flat cols rows all.1, all.0)

-- which make the rows again
pub rows_of-flat : (cols : ℕ) (rows : List Vector) → AllByRecursion (λ row. length row ≡ cols) rows →
    rows_of (length rows) cols (flat rows) ≡ rows
rows_of-flat cols [] all = refl
rows_of-flat cols (row ∷ rows) all =
    rw (
      take_at row (flat rows) cols all.0,
      drop_at row (flat rows) cols all.0,
      rows_of-flat cols rows all.1,
    ) refl

-- a list has at least as many members as its kernel
pub length-kernel : (cols : ℕ) (basis : List Vector) → length (kernel cols basis) ≤ length basis
length-kernel cols basis =
    let quiet : Vector → Bool = λ z. is_zero (drop cols z) in
    omega (
      arith,
      length-map (filter quiet basis) (take cols),
      length-filter quiet basis,
      count_by-le-length quiet basis,
    )

-- ---- vectors of sums

-- a listed vector is that of a listed sum
pub vectors-sum : (sums : List Sum) (w : Vector) → Contains (vectors sums) w →
    (s : Sum) × Contains sums s × (s.vector ≡ w)
vectors-sum [] w (k, low, e) = absurd (omega arith)
vectors-sum (s ∷ sums) w c = elim (contains_cases s.vector (vectors sums) w c) [
  | inl e ↦ (s, contains_head s sums, e)
  | inr d ↦ let r = vectors-sum sums w d in (r.0, contains_tail s sums r.0 r.1, r.2)
]
