-- The members cut after the entries of the first rows: where each unit vector has its element and clashes are settled
-- by
-- prefixes, they cover the lattice of the first rows, by one row after the other.
use Rattle.std.proofs.Common.{◌≡◌, ℕ, zero, suc, ◌+◌, ◌<◌, ◌≤◌, pos, nat_lt, Bool, true, false, not, ◌&&◌, ◌||◌, List}
use Rattle.std.proofs.Common.{[], ◌∷◌, length, map, take, drop, get_or, Option, Some, None, ap, arith, sym, ◌∙◌}
use Rattle.std.proofs.Common.{Contains, inl, inr, subst, length-take}
use Rattle.std.specs.List.{AllPairs, list_all, list_any}
use Rattle.std.proofs.lemmas.List.{get_or-take, take_at, take_all, take_more, take-take}
use Rattle.std.proofs.lemmas.List.Elements.{Contains-get_or}
use Rattle.std.proofs.lemmas.List.Kept.{AllPairs-cons}
use Rattle.std.proofs.lemmas.Bool.{or_cases}
use Rattle.lattice_theory.specs.Vectors.{Vector, ◌⊑◌, conforms, is_zero, norm1, add, opposite}
use Rattle.lattice_theory.specs.Matrices.{Matrix, element, product, unit_vector}
use Rattle.lattice_theory.specs.Lattices.{InLattice}
use Rattle.lattice_laws.proofs.Tests.{and_true, lt_true}
use Rattle.lattice_laws.proofs.Members.{contains_cases, contains_head, contains_tail, list_all_at, mapped}
use Rattle.lattice_laws.proofs.Members.{list_any_gives}
use Rattle.lattice_laws.proofs.Signs.{agrees}
use Rattle.lattice_laws.proofs.Conformal.{agree, nonzero_by_take, opposite-opposite, opposite_nonzero, opposite-take}
use Rattle.lattice_laws.proofs.Conformal.{take-add}
use Rattle.lattice_laws.proofs.Elements.{width, with_rows, width-with_rows, cut_in, cut_nonzero, closed_opposite}
use Rattle.lattice_laws.proofs.Elements.{first_rows, rows_apart}
use Rattle.lattice_laws.proofs.SlackBases.{IsSigned, IsReducible, Covers}
use Rattle.lattice_laws.proofs.UnitVectors.{without_rows, length-unit, first_units, units_cover}
use Rattle.lattice_laws.proofs.Completion.{counts, CoversCut, Settles, pairs_reduce, completed}
use Rattle.cover_laws.specs.Elements.{IsNonzeroElement}
use Rattle.criterion_laws.specs.Prefixes.{is_below_in, clash_settles, pair_settles, clashes_settle}
use Rattle.criterion_laws.proofs.Units.{units_have}
use Rattle.criterion_laws.proofs.Clashes.{counts_clash}

-- ---- lists of cut vectors

-- a member of the list of images is the image of a member
mapped_member : (f : Vector → Vector) (vs : List Vector) (y : Vector) → Contains (map f vs) y →
    (x : Vector) × Contains vs x × (f x ≡ y)
mapped_member f [] y (k, low, e) = absurd (omega arith)
mapped_member f (v ∷ vs) y c = elim (contains_cases (f v) (map f vs) y c) [
  | inl same ↦ (v, contains_head v vs, same)
  | inr d ↦ let r = mapped_member f vs y d in (r.0, contains_tail v vs r.0 r.1, r.2)
]

-- a signed member of the cut list is cut from a signed member
signed_cut : (n : ℕ) (vs : List Vector) (e : Vector) → IsSigned (map (take n) vs) e →
    (x : Vector) × IsSigned vs x × (take n x ≡ e)
signed_cut n vs e (inl c) = let r = mapped_member (take n) vs e c in (r.0, inl r.1, r.2)
signed_cut n vs e (inr c) =
    let r = mapped_member (take n) vs (opposite e) c in (
      opposite r.0,
      inr (subst (Contains vs) (sym (opposite-opposite r.0)) r.1),
      sym (opposite-take n r.0) ∙ ap opposite r.2 ∙ opposite-opposite e,
    )

cut_signed : (n : ℕ) (vs : List Vector) (x : Vector) → IsSigned vs x → IsSigned (map (take n) vs) (take n x)
cut_signed n vs x (inl c) = inl (mapped (take n) vs x c)
cut_signed n vs x (inr c) =
    inr (subst (Contains (map (take n) vs)) (sym (opposite-take n x)) (mapped (take n) vs (opposite x) c))

-- a list with the members of one that covers covers too
covers_wider : (m : Matrix) (us vs : List Vector) → Covers m us → ((v : Vector) → Contains us v → Contains vs v) →
    Covers m vs
covers_wider m us vs covers inside y i n = let r = covers y i n in (r.0, wider r.0 r.1, r.2)
  where
    wider : (e : Vector) → IsSigned us e → IsSigned vs e
    wider e (inl c) = inl (inside e c)
    wider e (inr c) = inr (inside (opposite e) c)

all_members : (P : Vector → Type 0) (vs : List Vector) → ((v : Vector) → Contains vs v → P v) →
    (k : ℕ) (d : Vector) → k < length vs → P (get_or vs k d)
all_members P vs each k d low = each (get_or vs k d) (Contains-get_or vs k d low)

-- ---- one row more

-- whether a pair counts is read off its first entries
counts-take : (at : ℕ) (u v : Vector) → counts at (take (suc at) u) (take (suc at) v) ≡ counts at u v
counts-take at u v =
    (λ i. agree (before u i) (before v i) && not (agrees (here u i) (here v i)))
  where
    before : (w : Vector) → take at (take (suc at) w) ≡ take at w
    before w = take-take at (suc at) w (omega arith)

    here : (w : Vector) → get_or (take (suc at) w) at (pos 0) ≡ get_or w at (pos 0)
    here w = get_or-take (suc at) w at (pos 0) (omega arith)

module _ (m : Matrix) (row : Vector) (at : ℕ) (size : width m ≡ at) (basis : List Vector) where
  abbrev longer : Matrix
  longer = with_rows m (row ∷ [])

  abbrev cuts : List Vector
  cuts = map (take (suc at)) basis

  -- a settled clash there: the sum of the cut vectors is reducible
  settled_cut : (f h : Vector) → clash_settles m.cols basis f h ≡ true → counts at f h ≡ true →
      IsReducible cuts (add (take (suc at) f) (take (suc at) h))
  settled_cut f h settled counted =
      let clash = counts_clash at f h counted in
      let some : (nat_lt at m.cols || list_any (is_below_in (suc at) (add f h)) basis) ≡ true =
      ap (λ o. by o) (sym clash) ∙ settled in
      let low = nat_lt at m.cols in
      let any = list_any (is_below_in (suc at) (add f h)) basis in
      subst (IsReducible cuts) (take-add (suc at) f h) (elim (or_cases low any some) [
        | inl less ↦ absurd (omega (arith, lt_true at m.cols less, size))
        | inr found ↦ let r = list_any_gives (is_below_in (suc at) (add f h)) basis found in below r.0 r.1 r.2
      ])
    where
      by : Option ℕ → Bool
      by None = true
      by (Some k) = nat_lt k m.cols || list_any (is_below_in (suc k) (add f h)) basis

      prefix : Vector → Bool
      prefix e = conforms (take (suc at) e) (take (suc at) (add f h))

      below : (e : Vector) → Contains basis e → is_below_in (suc at) (add f h) e ≡ true →
          IsReducible cuts (take (suc at) (add f h))
      below e c passes = elim (or_cases (prefix e) (prefix (opposite e)) passes) [
        | inl b ↦ (take (suc at) e, inl (mapped (take (suc at)) basis e c), b)
        | inr b ↦ (
          take (suc at) (opposite e),
          cut_signed (suc at) basis (opposite e) (inr (subst (Contains basis) (sym (opposite-opposite e)) c)),
          b,
        )
      ]

  -- so each two places are settled
  two_settle : (bound : ℕ) (f g : Vector) →
      pair_settles m.cols basis f g ≡ true →
      Settles at bound cuts (take (suc at) f) (take (suc at) g)
  two_settle bound f g both q sign counted light =
      let parts = and_true (clash_settles m.cols basis f g) (clash_settles m.cols basis f (opposite g)) both in
      elim sign [
        | inl same ↦ by g (sym same) parts.0
        | inr turned ↦ by (opposite g) (sym (opposite-take (suc at) g) ∙ sym turned) parts.1
      ]
    where
      by : (h : Vector) → take (suc at) h ≡ q → clash_settles m.cols basis f h ≡ true →
          IsReducible cuts (add (take (suc at) f) q)
      by h is settled =
          subst (λ v. IsReducible cuts (add (take (suc at) f) v)) is
          (settled_cut f h settled
          (sym (counts-take at f h) ∙ ap (counts at (take (suc at) f)) is ∙ counted))

  pairs_settle : (bound : ℕ) (fs : List Vector) → clashes_settle m.cols basis fs ≡ true →
      AllPairs (Settles at bound cuts) (map (take (suc at)) fs)
  pairs_settle bound [] settled = λ i j d before low. absurd (omega arith)
  pairs_settle bound (f ∷ fs) settled =
      let parts = and_true (list_all (pair_settles m.cols basis f) fs) (clashes_settle m.cols basis fs) settled in
      AllPairs-cons (Settles at bound cuts) (take (suc at) f) (map (take (suc at)) fs)
      (all_members (Settles at bound cuts (take (suc at) f)) (map (take (suc at)) fs) (λ v c.
      let r = mapped_member (take (suc at)) fs v c in
      subst (Settles at bound cuts (take (suc at) f)) r.2
      (two_settle bound f r.0 (list_all_at (pair_settles m.cols basis f) fs r.0 parts.0 r.1))))
      (pairs_settle bound fs parts.1)

  -- where the members cut before the row's entry cover, and each is an element after it, those with it cover
  pub row_covers : ((z : Vector) → Contains basis z → InLattice longer (take (suc at) z)) →
      ((z : Vector) → Contains basis z → is_zero (take at z) ≡ false) →
      clashes_settle m.cols basis basis ≡ true → Covers m (map (take at) basis) → Covers longer cuts
  row_covers inside nonzero settled before y within some =
      let bound = suc (norm1 (take at y)) in
      completed longer at wide (omega (arith, size)) cuts bound members cut_covers
      (pairs_reduce at bound cuts (λ e c. cut_some e (inl c)) (pairs_settle bound basis settled))
      y within some (omega arith)
    where
      wide : width longer ≡ at + 1
      wide = omega (arith, width-with_rows m (row ∷ []), size)

      signed_inside : (x : Vector) → IsSigned basis x → InLattice longer (take (suc at) x)
      signed_inside x (inl c) = inside x c
      signed_inside x (inr c) =
          subst (InLattice longer)
          (opposite-take (suc at) (opposite x) ∙ ap (take (suc at)) (opposite-opposite x))
          (closed_opposite longer (take (suc at) (opposite x)) (inside (opposite x) c))

      signed_nonzero : (x : Vector) → IsSigned basis x → is_zero (take at x) ≡ false
      signed_nonzero x (inl c) = nonzero x c
      signed_nonzero x (inr c) =
          ap is_zero (sym (ap (take at) (opposite-opposite x)) ∙ sym (opposite-take at (opposite x)))
          ∙ opposite_nonzero (take at (opposite x)) (nonzero (opposite x) c)

      cut_some : (e : Vector) → IsSigned cuts e → is_zero (take at e) ≡ false
      cut_some e signed =
          let r = signed_cut (suc at) basis e signed in
          ap (λ v. is_zero (take at v)) (sym r.2)
          ∙ ap is_zero (take-take at (suc at) r.0 (omega arith)) ∙ signed_nonzero r.0 r.1

      members : (e : Vector) → IsSigned cuts e → InLattice longer e × (is_zero e ≡ false)
      members e signed =
          let r = signed_cut (suc at) basis e signed in
          (subst (InLattice longer) r.2 (signed_inside r.0 r.1), nonzero_by_take at e (cut_some e signed))

      cut_covers : CoversCut longer at cuts
      cut_covers z i n =
          let shorter : take (width m) z ≡ take at z = ap (λ k. take k z) size in
          let c = before (take (width m) z) (cut_in m (row ∷ []) z i) (cut_nonzero m (row ∷ []) z i n) in
          let r = signed_cut at basis c.0 c.1 in
          let is : take at (take (suc at) r.0) ≡ c.0 = take-take at (suc at) r.0 (omega arith) ∙ r.2 in (
            take (suc at) r.0,
            cut_signed (suc at) basis r.0 r.1,
            subst (λ v. v ⊑ take at z) (sym is) (subst (λ v. c.0 ⊑ v) shorter c.2),
          )

-- ---- all rows

next_rows : (n : ℕ) (m : Matrix) → n < length m.rows →
    with_rows (first_rows n m) (get_or m.rows n [] ∷ []) ≡ first_rows (n + 1) m
next_rows n m low = ap (λ rows. record { cols = m.cols; rows = rows }) (sym (take_more m.rows n [] low))

width-first : (n : ℕ) (m : Matrix) → n ≤ length m.rows → width (first_rows n m) ≡ m.cols + n
width-first n m low = simp length-take (omega arith)

module _ (m : Matrix) (basis : List Vector) (elements : (z : Vector) → Contains basis z → IsNonzeroElement m z)
    (units : (j : ℕ) → j < m.cols → Contains basis (element m (unit_vector m.cols j)))
    (settled : clashes_settle m.cols basis basis ≡ true) where
  -- a member cut after the entries of the first rows is an element of their lattice
  cut_element : (n : ℕ) → n ≤ length m.rows → (z : Vector) → Contains basis z →
      InLattice (first_rows n m) (take (m.cols + n) z)
  cut_element n low z c =
      let whole : InLattice (with_rows (first_rows n m) (drop n m.rows)) z =
      subst (λ a. InLattice a z) (sym (rows_apart n m)) (elements z c).member in
      subst (λ k. InLattice (first_rows n m) (take k z)) (width-first n m low)
      (cut_in (first_rows n m) (drop n m.rows) z whole)

  cut_nonzero_at : (n : ℕ) (z : Vector) → Contains basis z → is_zero (take (m.cols + n) z) ≡ false
  cut_nonzero_at n z c =
      nonzero_by_take m.cols (take (m.cols + n) z)
      (ap is_zero (take-take m.cols (m.cols + n) z (omega arith)) ∙ (elements z c).nonzero)

  first_covers : (n : ℕ) → n ≤ length m.rows → Covers (first_rows n m) (map (take (m.cols + n)) basis)
  first_covers zero low =
      covers_wider (without_rows m.cols) (first_units m.cols m.cols) (map (take (m.cols + 0)) basis)
      (units_cover m.cols)
      (units_have (Contains (map (take (m.cols + 0)) basis)) m.cols m.cols (λ j less.
      let unit = unit_vector m.cols j in
      subst (Contains (map (take (m.cols + 0)) basis))
      (take_at unit (product m unit) (m.cols + 0) (omega (arith, length-unit m.cols j)))
      (mapped (take (m.cols + 0)) basis (element m unit) (units j less))))
  first_covers (suc n) low =
      let row = get_or m.rows n [] in
      let shorter = first_rows n m in
      let at = m.cols + n in
      let next : suc at ≡ m.cols + suc n = omega arith in
      let one : n + 1 ≡ suc n = omega arith in
      let rows : with_rows shorter (row ∷ []) ≡ first_rows (suc n) m =
      next_rows n m (omega arith) ∙ ap (λ k. first_rows k m) one in
      subst (λ k. Covers (first_rows (suc n) m) (map (take k) basis)) next
      (subst (λ a. Covers a (map (take (suc at)) basis)) rows
      (row_covers shorter row at (width-first n m (omega arith)) basis
      (λ z c. subst (λ a. InLattice a (take (suc at) z)) (sym rows)
      (subst (λ k. InLattice (first_rows (suc n) m) (take k z)) (sym next) (cut_element (suc n) low z c)))
      (λ z c. cut_nonzero_at n z c) settled (first_covers n (omega arith))))

  -- the members cover the lattice
  pub settled_covers : Covers m basis
  settled_covers =
      let n = length m.rows in
      let all : first_rows n m ≡ m = ap (λ rows. record { cols = m.cols; rows = rows })
      (take_all n m.rows (omega arith)) in
      covers_wider m (map (take (m.cols + n)) basis) basis
      (subst (λ a. Covers a (map (take (m.cols + n)) basis)) all (first_covers n (omega arith)))
      (λ v c.
      let r = mapped_member (take (m.cols + n)) basis v c in
      subst (Contains basis)
      (sym (take_all (m.cols + n) r.0 (omega (arith, (elements r.0 r.1).member.size))) ∙ r.2) r.1)
