-- Laws of one row more and of the last row: the stage that it begins, the limits that stay passed, and the
-- slack basis that is left.
use Rattle.std.proofs.Common.{◌≡◌, ◌≢◌, ℕ, zero, suc, ◌+◌, ◌<◌, ◌≤◌, ◌^◌, unsigned_abs, true, false, List, [], ◌∷◌}
use Rattle.std.proofs.Common.{◌++◌, length, map, take, drop, get_or, refl, ap, arith, sym, ◌∙◌, IsTrue, Contains, inl}
use Rattle.std.proofs.Common.{inr, subst, length-append, add-one, pos, set, Some, slice_get}
use Rattle.std.specs.List.{All}
use Rattle.std.proofs.lemmas.List.{length-map, get_or-map, take_more, get_or_append_left, length_push, map_push}
use Rattle.std.proofs.lemmas.List.{take_all, length-take-le}
use Rattle.std.proofs.lemmas.List.Elements.{All-contains, All-get_or, All-map, All-nil, All-push, All-take, All-weaker}
use Rattle.std.proofs.lemmas.List.Elements.{Contains-get_or}
use Rattle.std.specs.List.Sorted.{IsSorted, IsPermutation}
use Rattle.std.proofs.lemmas.List.Sorted.{All-permutation, Contains-permutation, length_permutation}
use Rattle.std.proofs.lemmas.List.Kept.{AllPairs-cons}
use Rattle.std.proofs.lemmas.Option.{slice_get-get_or}
use Rattle.lattice_theory.specs.Vectors.{Vector, ◌⊑◌, dot, zeros, is_zero, is_rising, lex_cmp, lex_less, leads_positive}
use Rattle.lattice_theory.specs.Vectors.{opposite}
use Rattle.lattice_theory.specs.Matrices.{Matrix, unit_vector}
use Rattle.lattice_theory.specs.Lattices.{InLattice, IsMinimal, IsSlackBasis}
use Rattle.lattice_theory.specs.BasisLimits.{IsNarrow, IsBasisElement, ExceedsBasis, IsBasisWithin}
use Rattle.lattice_laws.proofs.Conformal.{leads_not_both, opposite-opposite, opposite-take, opposite_nonzero}
use Rattle.lattice_laws.proofs.Elements.{width, with_rows, width-with_rows, lifted, lifted_in, cut-lifted, cut_in}
use Rattle.lattice_laws.proofs.Elements.{cut_nonzero, is_lifted, element-lifted, closed_opposite, first_rows}
use Rattle.lattice_laws.proofs.Elements.{rows_apart}
use Rattle.lattice_laws.proofs.Rising.{AreDifferent, rising_above, rising_tail, lex_less_irrefl, different_permutation}
use Rattle.lattice_laws.proofs.Rising.{rising_from_sorted}
use Rattle.lattice_laws.proofs.SlackBases.{IsSigned, exceeds_by_many}
use Rattle.lattice_laws.proofs.UnitVectors.{first_units, without_rows, length-unit, length-first_units, units_elements}
use Rattle.lattice_laws.proofs.UnitVectors.{units_differ, units_cover}
use Rattle.lattice_laws.proofs.Completion.{CoversCut}
use Rattle.lattice_laws.proofs.Narrow.{narrow-unit}
use Rattle.lattice_laws.proofs.Members.{mapped}
use Rattle.pottier.specs.Stages.{AreMembers, AreFitting, IsStage, IsCompleted, with_product}
use Rattle.pottier.proofs.MemberLaws.{taken_more}
use Rattle.pottier.specs.Faults.{LimitOnly, IsBasisFault}
use Rattle.pottier.specs.declared.fault.BasisFault.{BasisFault}
use Rattle.pottier.specs.declared.fault.BasisFault.TheVariants.{Limit, Memory}

-- ---- lists of lifted elements

-- different elements are different with further entries
lifted_different : (m : Matrix) (more vs : List Vector) → ((e : Vector) → Contains vs e → InLattice m e) →
    AreDifferent vs → AreDifferent (map (lifted m more) vs)
lifted_different m more vs inside h i j d before low e =
    let size : length (map (lifted m more) vs) ≡ length vs = length-map vs (lifted m more) in
    let at_i : i < length vs = omega arith in
    let at_j : j < length vs = omega arith in
    let u = get_or vs i d in
    let v = get_or vs j d in
    let same : lifted m more u ≡ lifted m more v = sym (get_or-map (lifted m more) vs i d d at_i) ∙ e
    ∙ get_or-map (lifted m more) vs j d d at_j in
    h i j d before at_j
    (sym (cut-lifted m more u (inside u (Contains-get_or vs i d at_i))) ∙ ap (take (width m)) same
    ∙ cut-lifted m more v (inside v (Contains-get_or vs j d at_j)))

each_member : (P : Vector → Type 0) (vs : List Vector) → ((v : Vector) → Contains vs v → P v) → All P vs
each_member P vs h = λ k d low. h (get_or vs k d) (Contains-get_or vs k d low)

rising_different : (vs : List Vector) → is_rising vs ≡ true → AreDifferent vs
rising_different [] h = λ i j d before low. absurd (omega arith)
rising_different (v ∷ vs) h =
    AllPairs-cons (λ u w. u ≢ w) v vs
    (each_member (λ w. v ≢ w) vs (λ w c e. lex_less_irrefl w
    (subst (λ u. lex_less u w ≡ true) e (rising_above v vs w h c))))
    (rising_different vs (rising_tail v vs h))

narrow_front : (u v : Vector) → IsNarrow (u ++ v) → IsNarrow u
narrow_front u v h = λ k d low.
    subst (λ a. unsigned_abs a < 2 ^ 31) (get_or_append_left u v d k low) (h k d (omega (arith, length-append u v)))

-- ---- limits

-- a limit that is passed for the first rows is passed for more
pub exceeds_lifted : (m : Matrix) (more : List Vector) (limit : ℕ) → ExceedsBasis m limit →
    ExceedsBasis (with_rows m more) limit
exceeds_lifted m more limit (inl (zs, rising, many, sound)) =
    exceeds_by_many (with_rows m more) limit (map (lifted m more) zs)
    (lifted_different m more zs (λ e c. (All-contains (IsBasisElement m) zs e sound c).0.member)
    (rising_different zs rising))
    (omega (arith, many, length-map zs (lifted m more)))
    (All-map (IsBasisElement (with_rows m more)) (lifted m more) zs
    (All-weaker (IsBasisElement m) (λ z. IsBasisElement (with_rows m more) (lifted m more z))
    (λ z e. element-lifted m more z e) zs sound))
exceeds_lifted m more limit (inr (z, e, wide)) =
    inr (
      lifted m more z,
      element-lifted m more z e,
      λ narrow. wide
          (narrow_front z (map (λ row. dot row (take m.cols z)) more) narrow),
    )

pub exceeds_first : (n limit : ℕ) (m : Matrix) → ExceedsBasis (first_rows n m) limit → ExceedsBasis m limit
exceeds_first n limit m h = subst (λ a. ExceedsBasis a limit) (rows_apart n m)
    (exceeds_lifted (first_rows n m) (drop n m.rows) limit h)

-- ---- the stage that a row begins

module _ (m : Matrix) (row : Vector) (size : m.cols ≡ length row) where
  product_is : (z : Vector) → with_product row z ≡ lifted m (row ∷ []) z
  product_is z = ap (λ n. z ++ dot row (take n z) ∷ []) (sym size)

  -- signs turned before or after the row
  lifted-opposite : (e : Vector) → InLattice m e → opposite (lifted m (row ∷ []) e) ≡ lifted m (row ∷ []) (opposite e)
  lifted-opposite e h =
      let z = lifted m (row ∷ []) e in
      is_lifted m (row ∷ []) (opposite z) (closed_opposite (with_rows m (row ∷ [])) z (lifted_in m (row ∷ []) e h))
      ∙ ap (lifted m (row ∷ [])) (sym (opposite-take (width m) z) ∙ ap opposite (cut-lifted m (row ∷ []) e h))

  pub stage_started : (at : ℕ) (vs : List Vector) → width m ≡ at → IsCompleted m vs →
      IsStage (with_rows m (row ∷ [])) at (map (with_product row) vs)
  stage_started at vs e h =
      subst (λ f. IsStage (with_rows m (row ∷ [])) at (map f vs)) (λ i z. sym (product_is z) i)
      (record {
        size = omega (arith, width-with_rows m (row ∷ []), e);
        first = omega (arith, e);
        sound = All-map (IsBasisElement (with_rows m (row ∷ []))) (lifted m (row ∷ [])) vs
            (All-weaker (IsBasisElement m) (λ z. IsBasisElement (with_rows m (row ∷ [])) (lifted m (row ∷ []) z))
            (λ z k. element-lifted m (row ∷ []) z k) vs h.sound);
        different = lifted_different m (row ∷ []) vs (λ z c. (All-contains (IsBasisElement m) vs z h.sound c).0.member)
            h.different;
        covers = covered;
      })
    where
      inside : (z : Vector) → IsSigned vs z → InLattice m z
      inside z (inl c) = (All-contains (IsBasisElement m) vs z h.sound c).0.member
      inside z (inr c) =
          subst (InLattice m) (opposite-opposite z) (closed_opposite m (opposite z)
          (All-contains (IsBasisElement m) vs (opposite z) h.sound c).0.member)

      signed : (z : Vector) → IsSigned vs z → IsSigned (map (lifted m (row ∷ [])) vs) (lifted m (row ∷ []) z)
      signed z (inl c) = inl (mapped (lifted m (row ∷ [])) vs z c)
      signed z (inr c) =
          inr (subst (Contains (map (lifted m (row ∷ [])) vs)) (sym (lifted-opposite z (inside z (inr c))))
          (mapped (lifted m (row ∷ [])) vs (opposite z) c))

      covered : CoversCut (with_rows m (row ∷ [])) at (map (lifted m (row ∷ [])) vs)
      covered y i n =
          let c = h.covers (take (width m) y) (cut_in m (row ∷ []) y i) (cut_nonzero m (row ∷ []) y i n) in (
            lifted m (row ∷ []) c.0,
            signed c.0 c.1,
            subst (λ k. take k (lifted m (row ∷ []) c.0) ⊑ take k y) e
                (subst (λ z. z ⊑ take (width m) y) (sym (cut-lifted m (row ∷ []) c.0 (inside c.0 c.1))) c.2),
          )

  -- a wide product is a wide entry of the basis
  pub exceeds_by_product : (limit : ℕ) (vs : List Vector) (z : Vector) → IsCompleted m vs → Contains vs z →
      (IsNarrow (with_product row z) → ⊥) → ExceedsBasis (with_rows m (row ∷ [])) limit
  exceeds_by_product limit vs z h c wide =
      inr (
        with_product row z,
        subst (IsBasisElement (with_rows m (row ∷ []))) (sym (product_is z))
            (element-lifted m (row ∷ []) z (All-contains (IsBasisElement m) vs z h.sound c)),
        wide,
      )

-- ---- the rows one after the other

pub next_rows : (n : ℕ) (m : Matrix) (row : Vector) → n < length m.rows → slice_get m.rows n ≡ Some row →
    with_rows (first_rows n m) (row ∷ []) ≡ first_rows (n + 1) m
next_rows n m row low e =
    let same : get_or m.rows n row ≡ row = cc (slice_get-get_or m.rows n row low) in
    ap (λ rows. record { cols = m.cols; rows = rows }) (sym (take_more m.rows n row low
    ∙ ap (λ r. take n m.rows ++ r ∷ []) same))

-- ---- the basis that is left

pub completed_slack : (m : Matrix) (vs : List Vector) → IsCompleted m vs → IsTrue (is_rising vs) → IsSlackBasis m vs
completed_slack m vs h rising = record {
  rising = rising;
  sound = h.sound;
  complete = λ z minimal leads.
      let c = h.covers z minimal.member minimal.nonzero in
      listed z c.0 minimal leads c.1 c.2;
}
  where
    listed : (z e : Vector) → IsMinimal m z → leads_positive z ≡ true → IsSigned vs e → e ⊑ z → Contains vs z
    listed z e minimal leads (inl c) b =
        let k = All-contains (IsBasisElement m) vs e h.sound c in
        subst (Contains vs) (minimal.least e k.0.member k.0.nonzero b) c
    listed z e minimal leads (inr c) b =
        let k = All-contains (IsBasisElement m) vs (opposite e) h.sound c in
        let inside : InLattice m e = subst (InLattice m) (opposite-opposite e)
        (closed_opposite m (opposite e) k.0.member) in
        let nonzero : is_zero e ≡ false = subst (λ u. is_zero u ≡ false) (opposite-opposite e)
        (opposite_nonzero (opposite e) k.0.nonzero) in
        let same : e ≡ z = minimal.least e inside nonzero b in
        absurd (leads_not_both z leads (ap (λ u. leads_positive (opposite u)) (sym same) ∙ k.1))

-- ---- unit vectors

pub unit_set : (t j : ℕ) → j < t → set (zeros t) j (pos 1) ≡ unit_vector t j
unit_set zero j h = absurd (omega arith)
unit_set (suc t) zero h = refl
unit_set (suc t) (suc j) h = ap (λ v. pos 0 ∷ v) (unit_set t j (omega arith))

pub units_push : (t n : ℕ) (units longer : List Vector) (unit : Vector) → units ≡ first_units t n →
    longer ≡ units ++ unit ∷ [] → unit ≡ unit_vector t n → longer ≡ first_units t (n + 1)
units_push t n units longer unit e f g =
    f ∙ (λ i. e i ++ g i ∷ []) ∙ sym (ap (first_units t) (add-one n))

-- ---- refusals

-- what one member refuses is a wide member of the list
pub wide_member : (row : Vector) (vs : List Vector) (z : Vector) → Contains vs z → (fault : BasisFault) →
    LimitOnly (IsNarrow (with_product row z) → ⊥) fault →
    LimitOnly ((v : Vector) × Contains vs v × (IsNarrow (with_product row v) → ⊥)) fault
wide_member row vs z c Limit h = (z, c, h)
wide_member row vs z c Memory h = tt

-- a limit that is passed shows more where it is passed for less
pub limit_only : (P Q : Type 0) → (P → Q) → (fault : BasisFault) → LimitOnly P fault → LimitOnly Q fault
limit_only P Q f Limit h = f h
limit_only P Q f Memory h = tt

-- ---- what fits

product_length : (row z : Vector) → length (with_product row z) ≡ length z + 1
product_length row z = length_push z (dot row (take (length row) z))

pub product_widths : (row member longer : Vector) (vs done : List Vector) (i : ℕ) →
    All (λ v. length v ≡ length member) vs → done ≡ map (with_product row) (take i vs) →
    longer ≡ with_product row member → All (λ v. length v ≡ length longer) done
product_widths row member longer vs done i even e f =
    subst (All (λ v. length v ≡ length longer)) (sym e)
    (All-map (λ v. length v ≡ length longer) (with_product row) (take i vs)
    (All-weaker (λ v. length v ≡ length member) (λ v. length (with_product row v) ≡ length longer)
    (λ v k. omega (arith, k, product_length row v, product_length row member, ap length f)) (take i vs)
    (All-take (λ v. length v ≡ length member) i vs even)))

pub products_more : (row member longer : Vector) (vs done next : List Vector) (i : ℕ) →
    done ≡ map (with_product row) (take i vs) → slice_get vs i ≡ Some member → longer ≡ with_product row member →
    next ≡ done ++ longer ∷ [] → next ≡ map (with_product row) (take (i + 1) vs)
products_more row member longer vs done next i e is f g =
    g ∙ (λ k. e k ++ f k ∷ [])
    ∙ sym (ap (map (with_product row)) (taken_more vs i member is) ∙ map_push (with_product row) (take i vs) member)

pub extended_fits : (at limit : ℕ) (row : Vector) (vs more : List Vector) → AreFitting at limit vs →
    more ≡ map (with_product row) vs → All IsNarrow more → AreFitting (at + 1) limit more
extended_fits at limit row vs more h e narrow = record {
  members = λ k d low. (
    All-get_or (λ z. length z ≡ at + 1) more k d low sizes,
    All-get_or IsNarrow more k d low narrow,
  );
  short = omega (arith, h.short, ap length e, length-map vs (with_product row));
}
  where
    sizes : All (λ z. length z ≡ at + 1) more
    sizes =
        subst (All (λ z. length z ≡ at + 1)) (sym e)
        (All-map (λ z. length z ≡ at + 1) (with_product row) vs
        (All-weaker (λ z. (length z ≡ at) × IsNarrow z) (λ z. length (with_product row z) ≡ at + 1)
        (λ z k. omega (arith, k.0, product_length row z)) vs h.members))

units_members : (t n : ℕ) → AreMembers t (first_units t n)
units_members t zero = All-nil (λ z. (length z ≡ t) × IsNarrow z)
units_members t (suc n) =
    All-push (λ z. (length z ≡ t) × IsNarrow z) (first_units t n) (unit_vector t n) (units_members t n)
    (length-unit t n, narrow-unit t n)

pub units_even : (t n : ℕ) (units : List Vector) (unit : Vector) → units ≡ first_units t n → unit ≡ unit_vector t n →
    All (λ v. length v ≡ length unit) units
units_even t n units unit e f =
    subst (All (λ v. length v ≡ length unit)) (sym e)
    (All-weaker (λ v. (length v ≡ t) × IsNarrow v) (λ v. length v ≡ length unit)
    (λ v k. omega (arith, k.0, ap length f, length-unit t n)) (first_units t n) (units_members t n))

pub units_fit : (t limit : ℕ) → t ≤ limit → AreFitting t limit (first_units t t)
units_fit t limit h = record { members = units_members t t; short = omega (arith, length-first_units t t) }

pub units_completed : (t : ℕ) → IsCompleted (without_rows t) (first_units t t)
units_completed t = record { sound = units_elements t; different = units_differ t; covers = units_cover t }

-- more columns than the limit: the unit vectors are too many
pub exceeds_by_units : (m : Matrix) (limit : ℕ) → limit < m.cols → ExceedsBasis m limit
exceeds_by_units m limit h =
    exceeds_first 0 limit m
    (exceeds_by_many (without_rows m.cols) limit (first_units m.cols m.cols) (units_differ m.cols)
    (omega (arith, h, length-first_units m.cols m.cols)) (units_elements m.cols))

-- ---- the sorted basis

permuted_completed : (m : Matrix) (us vs : List Vector) → IsPermutation us vs → IsCompleted m us → IsCompleted m vs
permuted_completed m us vs p h = record {
  sound = All-permutation (IsBasisElement m) us vs p h.sound;
  different = different_permutation us vs p h.different;
  covers = λ y i n. let r = h.covers y i n in (r.0, signed r.0 r.1, r.2);
}
  where
    signed : (e : Vector) → IsSigned us e → IsSigned vs e
    signed e (inl c) = inl (Contains-permutation us vs e p c)
    signed e (inr c) = inr (Contains-permutation us vs (opposite e) p c)

pub sorted_fits : (size limit : ℕ) (vs sorted : List Vector) → IsPermutation vs sorted → AreFitting size limit vs →
    AreFitting size limit sorted
sorted_fits size limit vs sorted p h = record {
  members = All-permutation (λ z. (length z ≡ size) × IsNarrow z) vs sorted p h.members;
  short = omega (arith, h.short, length_permutation vs sorted p);
}

pub sorted_basis : (m : Matrix) (size limit : ℕ) (vs sorted : List Vector) → IsPermutation vs sorted →
    IsSorted lex_cmp sorted → AreFitting size limit vs → IsCompleted m vs → IsBasisWithin m limit sorted
sorted_basis m size limit vs sorted p s h done =
    let fits = sorted_fits size limit vs sorted p h in
    let all = permuted_completed m vs sorted p done in
    record {
      slack = completed_slack m sorted all (rising_from_sorted sorted s all.different);
      short = fits.short;
      narrow = All-weaker (λ z. (length z ≡ size) × IsNarrow z) IsNarrow (λ z k. k.1) sorted fits.members;
    }

-- ---- the rows so far

pub row_narrow : (rows : List Vector) (n place : ℕ) (row : Vector) → All IsNarrow rows → place ≡ n → n < length rows →
    slice_get rows place ≡ Some row → IsNarrow row
row_narrow rows n place row h e low f =
    let is : slice_get rows n ≡ Some row = ap (slice_get rows) (sym e) ∙ f in
    let same : get_or rows n row ≡ row = cc (slice_get-get_or rows n row low) in
    subst IsNarrow same (All-get_or IsNarrow rows n row low h)

pub width_first : (m : Matrix) (n : ℕ) → n ≤ length m.rows → width (first_rows n m) ≡ m.cols + n
width_first m n h = omega (arith, length-take-le n m.rows h)

pub first_all : (m : Matrix) (n : ℕ) → length m.rows ≤ n → first_rows n m ≡ m
first_all m n h = ap (λ rows. record { cols = m.cols; rows = rows }) (take_all n m.rows h)

-- a fault for one row more is one for all rows
pub first_fault : (m : Matrix) (n limit : ℕ) (row : Vector) (fault : BasisFault) →
    with_rows (first_rows n m) (row ∷ []) ≡ first_rows (n + 1) m →
    IsBasisFault (with_rows (first_rows n m) (row ∷ [])) limit fault → IsBasisFault m limit fault
first_fault m n limit row fault e h =
    limit_only (ExceedsBasis (with_rows (first_rows n m) (row ∷ [])) limit) (ExceedsBasis m limit)
    (λ x. exceeds_first (n + 1) limit m (subst (λ a. ExceedsBasis a limit) e x)) fault h
