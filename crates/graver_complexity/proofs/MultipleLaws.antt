-- Laws of the multiples of one generator: they rise, and each is a sum of as many generators as its factor says.
use Rattle.std.proofs.Common.{◌≡◌, ℕ, zero, suc, ◌+◌, ◌*◌, ◌<◌, ◌≤◌, ℤ, pos, negsuc, ◌+ℤ◌, ◌-ℤ◌, ◌*ℤ◌, neg_ℤ}
use Rattle.std.proofs.Common.{unsigned_abs, true, false, ◌&&◌, List, [], ◌∷◌, length, refl, ap, arith, sym, ◌∙◌, subst}
use Rattle.std.proofs.Common.{Contains, ◌⊎◌, inl, inr}
use Rattle.std.specs.List.{All}
use Rattle.std.specs.Ordering.{is_lt, int_cmp, ordering_then}
use Rattle.std.specs.declared.cmp.Ordering.TheVariants.{Less, Equal}
use Rattle.std.proofs.lemmas.Int.{ints}
use Rattle.std.proofs.Math.IntN.{*ℤ_comm}
use Rattle.std.proofs.lemmas.List.{length-map}
use Rattle.std.proofs.lemmas.List.Elements.{All-contains}
use Rattle.lattice_theory.specs.Vectors.{Vector, add, sub, scale, opposite, zeros, is_zero, leads_positive, lex_less}
use Rattle.lattice_theory.specs.Vectors.{lex_cmp, is_rising}
use Rattle.lattice_theory.specs.SignedSums.{Sum, IsSignedSum, AreSums, vectors}
use Rattle.lattice_laws.proofs.Members.{contains_cases, contains_head}
use Rattle.lattice_laws.proofs.Conformal.{sub-opposite, opposite-opposite, length-opposite, length-add, leads_either}
use Rattle.lattice_laws.proofs.Products.{times_sum}
use Rattle.lattice_laws.proofs.Rising.{rising_length}
use Rattle.lattice_laws.proofs.Multiples.{scale_zero}

-- ---- multiples

scale-next : (a : ℤ) (e : Vector) → scale (a +ℤ pos 1) e ≡ add (scale a e) e
scale-next a [] = refl
scale-next a (x ∷ e) =
    let head : (a +ℤ pos 1) *ℤ x ≡ a *ℤ x +ℤ x =
    omega (arith, ints, *ℤ_comm (a +ℤ pos 1) x, times_sum x a (pos 1), *ℤ_comm x a) in
    λ i. head i ∷ scale-next a e i

add_then_sub : (u e : Vector) → length u ≡ length e → sub (add u e) e ≡ u
add_then_sub [] e same = refl
add_then_sub (a ∷ u) [] same = absurd (omega arith)
add_then_sub (a ∷ u) (b ∷ e) same =
    let head : (a +ℤ b) -ℤ b ≡ a = omega (arith, ints) in
    λ i. head i ∷ add_then_sub u e (omega arith) i

scale-before : (a : ℤ) (e : Vector) → scale a e ≡ sub (scale (a +ℤ pos 1) e) e
scale-before a e =
    sym (add_then_sub (scale a e) e (length-map e (λ x. a *ℤ x))) ∙ ap (λ u. sub u e) (sym (scale-next a e))

-- ---- the list of multiples

-- w + e, w + 2·e, and so on, n of them
abbrev above : Vector → Vector → ℕ → List Vector
above e w zero = []
above e w (suc n) = add w e ∷ above e (add w e) n

length-above : (e w : Vector) (n : ℕ) → length (above e w n) ≡ n
length-above e w zero = refl
length-above e w (suc n) = ap suc (length-above e (add w e) n)

-- with a vector that leads positive more is greater
lex_less-add : (w e : Vector) → length w ≡ length e → leads_positive e ≡ true → lex_less w (add w e) ≡ true
lex_less-add [] [] same leads = absurd (cc)
lex_less-add [] (x ∷ e) same leads = absurd (omega arith)
lex_less-add (a ∷ w) [] same leads = absurd (omega arith)
lex_less-add (a ∷ w) (pos zero ∷ e) same leads =
    let here : int_cmp a (a +ℤ pos 0) ≡ Equal = grind (arith, ints) in
    ap (λ o. is_lt (ordering_then o (lex_cmp w (add w e)))) here ∙ lex_less-add w e (omega arith) leads
lex_less-add (a ∷ w) (pos (suc n) ∷ e) same leads =
    let here : int_cmp a (a +ℤ pos (suc n)) ≡ Less = grind (arith, ints) in
    ap (λ o. is_lt (ordering_then o (lex_cmp w (add w e)))) here
lex_less-add (a ∷ w) (negsuc n ∷ e) same leads = absurd (cc)

module _ (e : Vector) (leads : leads_positive e ≡ true) where
  above_rising : (n : ℕ) (w : Vector) → length w ≡ length e → is_rising (w ∷ above e w n) ≡ true
  above_rising zero w same = refl
  above_rising (suc n) w same =
      ap (λ b. b && is_rising (add w e ∷ above e (add w e) n)) (lex_less-add w e same leads)
      ∙ above_rising n (add w e) (length-add w e (length e) same refl)

first_multiple : (e : Vector) (n : ℕ) (a : ℤ) (z : Vector) → scale a e ≡ z →
    (k : ℕ) × (k ≤ n) × (z ≡ scale (a +ℤ pos k) e)
first_multiple e n a z it =
    let none : a ≡ a +ℤ pos 0 = omega (arith, ints) in
    (0, omega arith, sym it ∙ ap (λ b. scale b e) none)

-- each member is a multiple
above_multiples : (e : Vector) (n : ℕ) (a : ℤ) (z : Vector) → Contains (scale a e ∷ above e (scale a e) n) z →
    (k : ℕ) × (k ≤ n) × (z ≡ scale (a +ℤ pos k) e)
above_multiples e zero a z member = elim (contains_cases (scale a e) [] z member) [
  | inl it ↦ first_multiple e zero a z it
  | inr rest ↦ absurd (omega (arith, rest.1))
]
above_multiples e (suc n) a z member = elim (contains_cases (scale a e) (above e (scale a e) (suc n)) z member) [
  | inl it ↦ first_multiple e (suc n) a z it
  | inr rest ↦
      let found = above_multiples e n (a +ℤ pos 1) z
      (subst (λ w. Contains (w ∷ above e w n) z) (sym (scale-next a e)) rest) in
      let more : (a +ℤ pos 1) +ℤ pos found.0 ≡ a +ℤ pos (suc found.0) = omega (arith, ints) in
      (suc found.0, omega (arith, found.1), found.2 ∙ ap (λ b. scale b e) more)
]

-- ---- multiples are signed sums

-- e is one of the vectors, as it is or with its signs turned
abbrev IsSigned : List Vector → Vector → Type 0
IsSigned gens e = Contains gens e ⊎ Contains gens (opposite e)

module _ (t : ℕ) (gens : List Vector) (e : Vector) where
  sum_add : (n : ℕ) (before : Vector) → IsSigned gens e → IsSignedSum t gens n before →
      IsSignedSum t gens (suc n) (add before e)
  sum_add n before (inl listed) sum = (before, e, sum, listed, inl refl)
  sum_add n before (inr listed) sum =
      let turned : add before e ≡ sub before (opposite e) =
      sym (sub-opposite before (opposite e) ∙ ap (add before) (opposite-opposite e)) in
      (before, opposite e, sum, listed, inr turned)

  sum_sub : (n : ℕ) (before : Vector) → IsSigned gens e → IsSignedSum t gens n before →
      IsSignedSum t gens (suc n) (sub before e)
  sum_sub n before (inl listed) sum = (before, e, sum, listed, inr refl)
  sum_sub n before (inr listed) sum = (before, opposite e, sum, listed, inl (sub-opposite before e))

  multiple_up : (n : ℕ) → IsSigned gens e → length e ≡ t → IsSignedSum t gens n (scale (pos n) e)
  multiple_up zero signed size = scale_zero e ∙ ap zeros size
  multiple_up (suc n) signed size =
      let next : pos n +ℤ pos 1 ≡ pos (suc n) = omega (arith, ints) in
      subst (IsSignedSum t gens (suc n)) (sym (scale-next (pos n) e) ∙ ap (λ b. scale b e) next)
      (sum_add n (scale (pos n) e) signed (multiple_up n signed size))

  multiple_down : (n : ℕ) → IsSigned gens e → length e ≡ t → IsSignedSum t gens (suc n) (scale (negsuc n) e)
  multiple_down zero signed size =
      let next : negsuc 0 +ℤ pos 1 ≡ pos 0 = omega (arith, ints) in
      subst (IsSignedSum t gens 1) (sym (scale-before (negsuc 0) e ∙ ap (λ b. sub (scale b e) e) next))
      (sum_sub 0 (scale (pos 0) e) signed (multiple_up 0 signed size))
  multiple_down (suc n) signed size =
      let next : negsuc (suc n) +ℤ pos 1 ≡ negsuc n = omega (arith, ints) in
      subst (IsSignedSum t gens (suc (suc n)))
      (sym (scale-before (negsuc (suc n)) e ∙ ap (λ b. sub (scale b e) e) next))
      (sum_sub (suc n) (scale (negsuc n) e) signed (multiple_down n signed size))

  multiple_sum : (a : ℤ) → IsSigned gens e → length e ≡ t → IsSignedSum t gens (unsigned_abs a) (scale a e)
  multiple_sum (pos n) signed size = multiple_up n signed size
  multiple_sum (negsuc n) signed size = multiple_down n signed size

-- ---- how many sums there are

module _ (t g : ℕ) (gens : List Vector) (sums : List Sum) (are : AreSums t gens g sums) where
  -- with a generator that leads positive, as it is or turned
  many_sums : (e : Vector) → IsSigned gens e → length e ≡ t → leads_positive e ≡ true → 2 * g + 1 ≤ length sums
  many_sums e signed size leads =
      let first = scale (neg_ℤ (pos g)) e in
      let all = first ∷ above e first (2 * g) in
      let fewer : length all ≤ length (vectors sums) =
      rising_length all (vectors sums)
      (above_rising e leads (2 * g) first (length-map e (λ x. neg_ℤ (pos g) *ℤ x))) are.rising
      (λ z member.
      let found = above_multiples e (2 * g) (neg_ℤ (pos g)) z member in
      let a = neg_ℤ (pos g) +ℤ pos found.0 in
      let low : unsigned_abs a ≤ g = omega (arith, ints, found.1) in
      are.complete (unsigned_abs a) z low
      (subst (IsSignedSum t gens (unsigned_abs a)) (sym found.2) (multiple_sum t gens e a signed size))) in
      omega (arith, fewer, length-above e first (2 * g), length-map sums (λ (s : Sum). s.vector))

-- any generator leads positive, or its opposite does
pub AreSums-many : (t g : ℕ) (gens : List Vector) (sums : List Sum) → 0 < length gens →
    All (λ e. (length e ≡ t) × (is_zero e ≡ false)) gens → AreSums t gens g sums → 2 * g + 1 ≤ length sums
AreSums-many t g [] sums some each are = absurd (omega arith)
AreSums-many t g (e ∷ gens) sums some each are =
    let here =
    All-contains (λ (v : Vector). (length v ≡ t) × (is_zero v ≡ false)) (e ∷ gens) e each (contains_head e gens) in
    elim (leads_either e here.1) [
      | inl leads ↦ many_sums t g (e ∷ gens) sums are e (inl (contains_head e gens)) here.0 leads
      | inr leads ↦
          many_sums t g (e ∷ gens) sums are (opposite e)
          (inr (subst (Contains (e ∷ gens)) (sym (opposite-opposite e)) (contains_head e gens)))
          (length-opposite e ∙ here.0) leads
    ]
