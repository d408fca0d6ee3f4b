-- Sums of multiples of generators, by count vectors: they are linear in the counts, and where the terms agree with each
-- other, parts of the counts give parts of the sum.
use Rattle.std.proofs.Common.{◌≡◌, ℕ, zero, suc, ◌<◌, ◌≤◌, ℤ, pos, negsuc, ◌+ℤ◌, unsigned_abs, true, List, [], ◌∷◌}
use Rattle.std.proofs.Common.{length, map, refl, ap, arith, sym, ◌∙◌, ◌⊎◌, inl, inr, subst}
use Rattle.std.proofs.lemmas.Int.{ints}
use Rattle.std.proofs.Math.IntN.{*ℤ_comm}
use Rattle.std.specs.List.{AllZip, AllByRecursion}
use Rattle.lattice_theory.specs.Vectors.{Vector, ◌⊑◌, conforms, is_between, norm1, add, scale, opposite, dot, zeros}
use Rattle.lattice_laws.proofs.Tests.{and_true}
use Rattle.lattice_laws.proofs.Members.{contains_cases}
use Rattle.lattice_laws.proofs.Conformal.{agree, agree_comm, norm1-cons, conforms_refl, conforms_trans, below_sum}
use Rattle.lattice_laws.proofs.Conformal.{add_comm_v, length-add, length_below, opposite-opposite}
use Rattle.lattice_laws.proofs.Products.{dot-add, dot-zeros, rows-zeros, rows-add, length-zeros}
use Rattle.lattice_laws.proofs.SlackBases.{IsSigned}
use Rattle.lattice_laws.proofs.Sums.{add_assoc_v, add_swap, add_zeros, interchange}
use Rattle.lattice_laws.proofs.Multiples.{scale_zero, length-scale, dot-scale, rows-scale, scale-zeros, scale-below}
use Rattle.lattice_laws.proofs.Multiples.{scale_once, norm-scale-abs, scale-sum, scale_back}
use Rattle.lattice_laws.specs.VectorLists.{sum_of, weight, AreSized}
use Rattle.cover_laws.specs.ConformalSums.{AreTerms}
use Rattle.lattice_laws.proofs.VectorLists.{AreAgreeing, agree_all, all_below, agreeing_weight, below_agree, length-sum}
use Rattle.lattice_laws.proofs.Agreement.{parts_sum}
use Rattle.lattice_theory.specs.Lists.{zip_with}
use Rattle.std.proofs.Math.Nat.{le-mul_of_pos_right}

-- the generators, each as often as the count says
abbrev pub terms : List Vector → Vector → List Vector
terms gens c = zip_with (λ g a. scale a g) gens c

-- their sum, where the generators have t entries
abbrev pub combined : ℕ → List Vector → Vector → Vector
combined t gens c = sum_of t (terms gens c)

-- ---- multiples

-- ---- sums by counts are linear in the counts

module _ (t : ℕ) where
  -- a sum by counts has as many entries as the generators
  pub length-combined : (gens : List Vector) (c : Vector) → AreSized t gens → length (combined t gens c) ≡ t
  length-combined [] c sized = length-zeros t
  length-combined (g ∷ gens) [] sized = length-zeros t
  length-combined (g ∷ gens) (a ∷ c) sized =
      length-add (scale a g) (combined t gens c) t (length-scale a g ∙ sized.0) (length-combined gens c sized.1)

  no_zeros : zeros t ≡ add (zeros t) (zeros t)
  no_zeros = sym (add_zeros (zeros t) t (length-zeros t))

  -- counts that add up give sums that add up
  pub combined-add : (gens : List Vector) (c d : Vector) → length c ≡ length d →
      combined t gens (add c d) ≡ add (combined t gens c) (combined t gens d)
  combined-add [] c d size = no_zeros
  combined-add (g ∷ gens) [] [] size = no_zeros
  combined-add (g ∷ gens) [] (b ∷ d) size = absurd (omega arith)
  combined-add (g ∷ gens) (a ∷ c) [] size = absurd (omega arith)
  combined-add (g ∷ gens) (a ∷ c) (b ∷ d) size =
      (λ i. add (scale-sum a b g i) (combined-add gens c d (omega arith) i))
      ∙ interchange (scale a g) (scale b g) (combined t gens c) (combined t gens d)

  -- counts of 0 give 0
  pub combined-zeros : (gens : List Vector) (n : ℕ) → AreSized t gens → combined t gens (zeros n) ≡ zeros t
  combined-zeros [] n sized = refl
  combined-zeros (g ∷ gens) zero sized = refl
  combined-zeros (g ∷ gens) (suc n) sized =
      (λ i. add ((scale_zero g ∙ ap zeros sized.0) i) (combined-zeros gens n sized.1 i)) ∙ sym no_zeros

  -- the sum of sums by counts is the sum by the sum of the counts
  pub combined-sum : (gens : List Vector) (n : ℕ) (counts : List Vector) → AreSized t gens → AreSized n counts →
      combined t gens (sum_of n counts) ≡ sum_of t (map (combined t gens) counts)
  combined-sum gens n [] sized sizes = combined-zeros gens n sized
  combined-sum gens n (c ∷ counts) sized sizes =
      combined-add gens c (sum_of n counts) (sizes.0 ∙ sym (length-sum n counts sizes.1))
      ∙ ap (add (combined t gens c)) (combined-sum gens n counts sized sizes.1)

  -- ---- their products with rows

  dot-combined : (row : Vector) (gens : List Vector) (c : Vector) → AreSized t gens →
      dot (map (dot row) gens) c ≡ dot row (combined t gens c)
  dot-combined row [] c sized = sym (dot-zeros row t)
  dot-combined row (g ∷ gens) [] sized = sym (dot-zeros row t)
  dot-combined row (g ∷ gens) (a ∷ c) sized =
      let long : length (scale a g) ≡ length (combined t gens c) =
      length-scale a g ∙ sized.0 ∙ sym (length-combined gens c sized.1) in
      omega (
        arith,
        ints,
        dot-add row (scale a g) (combined t gens c) long,
        dot-scale a row g,
        *ℤ_comm a (dot row g),
        dot-combined row gens c sized.1,
      )

  -- the link matrix times the counts is the image of the sum
  pub product-combined : (rows gens : List Vector) (c : Vector) → AreSized t gens →
      map (λ row. dot row c) (map (λ row. map (dot row) gens) rows) ≡ map (λ row. dot row (combined t gens c)) rows
  product-combined [] gens c sized = refl
  product-combined (row ∷ rows) gens c sized =
      λ i. dot-combined row gens c sized i ∷ product-combined rows gens c sized i

  -- where no generator has a product with the rows, no sum has one
  pub rows-combined : (rows gens : List Vector) (c : Vector) → AreSized t gens →
      AllByRecursion (λ g. map (λ row. dot row g) rows ≡ zeros (length rows)) gens →
      map (λ row. dot row (combined t gens c)) rows ≡ zeros (length rows)
  rows-combined rows [] c sized none = rows-zeros rows t
  rows-combined rows (g ∷ gens) [] sized none = rows-zeros rows t
  rows-combined rows (g ∷ gens) (a ∷ c) sized none =
      let long : length (scale a g) ≡ length (combined t gens c) =
      length-scale a g ∙ sized.0 ∙ sym (length-combined gens c sized.1) in
      rows-add rows (scale a g) (combined t gens c) long
      ∙ (λ i. add
      ((rows-scale rows a g ∙ ap (scale a) none.0 ∙ scale-zeros a (length rows)) i)
      (rows-combined rows gens c sized.1 none.1 i))
      ∙ add_zeros (zeros (length rows)) (length rows) (length-zeros (length rows))

-- ---- counts that write a vector

-- the terms add up to y, and each of them is below y
pub record IsWritten (t : ℕ) (gens : List Vector) (y count : Vector) : Type 0 where
  pub size : length count ≡ length gens
  pub sum : combined t gens count ≡ y
  pub below : AllByRecursion (λ u. u ⊑ y) (terms gens count)

abbrev pub Written : ℕ → List Vector → Vector → Type 0
Written t gens y = (count : Vector) × IsWritten t gens y count

-- one more e
record More (t : ℕ) (gens : List Vector) (c e s : Vector) : Type 0 where
  count : Vector
  size : length count ≡ length gens
  sum : combined t gens count ≡ add e (combined t gens c)
  below : AllByRecursion (λ u. u ⊑ add e s) (terms gens count)

signed_cases : (g : Vector) (gens : List Vector) (e : Vector) → IsSigned (g ∷ gens) e →
    ((g ≡ e) ⊎ (g ≡ opposite e)) ⊎ IsSigned gens e
signed_cases g gens e (inl c) = elim (contains_cases g gens e c) [ inl f ↦ inl (inl f) | inr d ↦ inr (inl d) ]
signed_cases g gens e (inr c) =
    elim (contains_cases g gens (opposite e) c) [ inl f ↦ inl (inr f) | inr d ↦ inr (inr d) ]

module _ (t : ℕ) (e s : Vector) (agrees : agree e s ≡ true) where
  above : s ⊑ add e s
  above = subst (λ v. s ⊑ v) (add_comm_v s e) (below_sum s e (agree_comm s e ∙ agrees))

  -- a term with e added to it
  joined : (u : Vector) → u ⊑ s → add u e ⊑ add e s
  joined u below =
      subst (λ v. add u e ⊑ v) (add_comm_v s e) (parts_sum u e s e below (conforms_refl e) (agree_comm s e ∙ agrees))

  more_of : (gens : List Vector) (c : Vector) → IsSigned gens e → length c ≡ length gens →
      AllByRecursion (λ u. u ⊑ s) (terms gens c) → More t gens c e s
  more_of [] c (inl (k, low, f)) size below = absurd (omega arith)
  more_of [] c (inr (k, low, f)) size below = absurd (omega arith)
  more_of (g ∷ gens) [] signed size below = absurd (omega arith)
  more_of (g ∷ gens) (a ∷ c) signed size below =
      by (signed_cases g gens e signed) (λ k. more_of gens c k (omega arith) below.1)
    where
      rest : Vector
      rest = combined t gens c

      here : (d : ℤ) → scale d g ≡ e → More t (g ∷ gens) (a ∷ c) e s
      here d f =
          let term : scale (a +ℤ d) g ≡ add (scale a g) e = scale-sum a d g ∙ ap (add (scale a g)) f in
          record {
            count = (a +ℤ d) ∷ c;
            size = size;
            sum =
                ap (λ v. add v rest) (term ∙ add_comm_v (scale a g) e) ∙ sym (add_assoc_v e (scale a g) rest);
            below = (
              subst (λ v. v ⊑ add e s) (sym term) (joined (scale a g) below.0),
              all_below s (add e s) (terms gens c) above below.1,
            );
          }

      by : ((g ≡ e) ⊎ (g ≡ opposite e)) ⊎ IsSigned gens e → (IsSigned gens e → More t gens c e s) →
          More t (g ∷ gens) (a ∷ c) e s
      by (inl (inl f)) further = here (pos 1) (scale_once g ∙ f)
      by (inl (inr f)) further = here (negsuc 0) (scale_back g ∙ ap opposite f ∙ opposite-opposite e)
      by (inr k) further =
          let m = further k in
          record {
            count = a ∷ m.count;
            size = ap suc m.size;
            sum = ap (add (scale a g)) m.sum ∙ add_swap (scale a g) e rest;
            below = (conforms_trans (scale a g) s (add e s) below.0 above, m.below);
          }

-- what signed generators add up to that agree with each other
pub written_by : (t : ℕ) (gens es : List Vector) → AreSized t gens → AreTerms t gens es → AreAgreeing es →
    Written t gens (sum_of t es)
written_by t gens [] sized signed agreeing = (
  zeros (length gens),
  record {
    size = length-zeros (length gens);
    sum = combined-zeros t gens (length gens) sized;
    below = none gens sized;
  },
)
  where
    none : (gs : List Vector) → AreSized t gs → AllByRecursion (λ u. u ⊑ zeros t) (terms gs (zeros (length gs)))
    none [] sized = tt
    none (g ∷ gs) sized = (
      subst (λ v. v ⊑ zeros t) (sym (scale_zero g ∙ ap zeros sized.0)) (conforms_refl (zeros t)),
      none gs sized.1,
    )
written_by t gens (e ∷ es) sized signed agreeing =
    let s = sum_of t es in
    let w = written_by t gens es sized signed.1 agreeing.1 in
    let m =
    more_of t e s (agree_all t e es signed.0.0 agreeing.0) gens w.0 signed.0.1 w.1.size w.1.below in
    (m.count, record { size = m.size; sum = m.sum ∙ ap (add e) w.1.sum; below = m.below })

-- ---- parts of such counts

-- parts of the counts give parts of the terms
terms-below : (gens : List Vector) (a c : Vector) → a ⊑ c → AllZip ◌⊑◌ (terms gens a) (terms gens c)
terms-below [] a c below = tt
terms-below (g ∷ gens) [] [] below = tt
terms-below (g ∷ gens) [] (y ∷ c) below = absurd (cc)
terms-below (g ∷ gens) (x ∷ a) [] below = absurd (cc)
terms-below (g ∷ gens) (x ∷ a) (y ∷ c) below =
    let p = and_true (is_between x y) (conforms a c) below in (scale-below x y g p.0, terms-below gens a c p.1)

-- parts of vectors that agree add up to a part of the sum, and are below y where the vectors are
sum-below : (t : ℕ) (us vs : List Vector) → AllZip ◌⊑◌ us vs → AreSized t vs → AreAgreeing vs →
    sum_of t us ⊑ sum_of t vs
sum-below t [] [] below sized agreeing = conforms_refl (zeros t)
sum-below t [] (v ∷ vs) below sized agreeing = absurd below
sum-below t (u ∷ us) [] below sized agreeing = absurd below
sum-below t (u ∷ us) (v ∷ vs) below sized agreeing =
    parts_sum u (sum_of t us) v (sum_of t vs) below.0 (sum-below t us vs below.1 sized.1 agreeing.1)
    (agree_all t v vs sized.0 agreeing.0)

each-below : (us vs : List Vector) (y : Vector) → AllZip ◌⊑◌ us vs → AllByRecursion (λ v. v ⊑ y) vs →
    AllByRecursion (λ u. u ⊑ y) us
each-below [] [] y parts below = tt
each-below [] (v ∷ vs) y parts below = absurd parts
each-below (u ∷ us) [] y parts below = absurd parts
each-below (u ∷ us) (v ∷ vs) y parts below = (conforms_trans u v y parts.0 below.0, each-below us vs y parts.1 below.1)

-- the terms have as many entries as the generators
terms-sized : (t : ℕ) (gens : List Vector) (c : Vector) → AreSized t gens → AreSized t (terms gens c)
terms-sized t [] c sized = tt
terms-sized t (g ∷ gens) [] sized = tt
terms-sized t (g ∷ gens) (a ∷ c) sized = (length-scale a g ∙ sized.0, terms-sized t gens c sized.1)

module _ (t : ℕ) (gens : List Vector) (sized : AreSized t gens) where
  -- a part of the counts gives a part of what they write
  pub part_below : (y c a : Vector) → IsWritten t gens y c → a ⊑ c → combined t gens a ⊑ y
  part_below y c a w below =
      subst (λ v. combined t gens a ⊑ v) w.sum
      (sum-below t (terms gens a) (terms gens c) (terms-below gens a c below) (terms-sized t gens c sized)
      (below_agree (terms gens c) y w.below))

  -- a part weighs no less than its counts
  pub part_weighs : (y c a : Vector) → AllByRecursion (λ g. 0 < norm1 g) gens → IsWritten t gens y c → a ⊑ c →
      norm1 a ≤ norm1 (combined t gens a)
  part_weighs y c a nonzero w part =
      let below = each-below (terms gens a) (terms gens c) y (terms-below gens a c part) w.below in
      omega (
        arith,
        agreeing_weight t (terms gens a) (terms-sized t gens a sized) (below_agree (terms gens a) y below),
        term_weights gens a nonzero (omega (arith, length_below a c part, w.size)),
      )
    where
      norm-times : (x : ℤ) (g : Vector) → 0 < norm1 g → unsigned_abs x ≤ norm1 (scale x g)
      norm-times x g part = omega (arith, norm-scale-abs x g, le-mul_of_pos_right (unsigned_abs x) part)

      term_weights : (gs : List Vector) (b : Vector) → AllByRecursion (λ g. 0 < norm1 g) gs → length b ≡ length gs →
          norm1 b ≤ weight (terms gs b)
      term_weights [] [] some size = omega arith
      term_weights [] (x ∷ b) some size = absurd (omega arith)
      term_weights (g ∷ gs) [] some size = absurd (omega arith)
      term_weights (g ∷ gs) (x ∷ b) some size =
          omega (arith, norm1-cons x b, norm-times x g some.0, term_weights gs b some.1 (omega arith))
