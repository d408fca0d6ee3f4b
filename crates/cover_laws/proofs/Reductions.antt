-- Reductions: what reduces to 0 is a sum of signed members that weigh no more, and Pottier's criterion on a list makes
-- the sum of each two signed members such a sum.
use Rattle.std.proofs.Common.{◌≡◌, ℕ, zero, suc, ◌+◌, ◌≤◌, pos, Bool, true, false, cond, Option, Some, None, List, ◌∷◌}
use Rattle.std.proofs.Common.{length, refl, ap, arith, sym, ◌∙◌, Contains, inl, inr, subst, []}
use Rattle.lattice_theory.specs.Vectors.{Vector, ◌⊑◌, conforms, is_zero, norm1, add, sub, scale, opposite, zeros}
use Rattle.lattice_theory.specs.Lattices.{first_below, reduced_within, reduces_to_zero, greatest_multiple}
use Rattle.lattice_laws.proofs.Members.{contains_head, contains_tail}
use Rattle.lattice_laws.proofs.Conformal.{length-add, length_below, rest_below, add_rest, norm_split, length-opposite}
use Rattle.lattice_laws.proofs.Conformal.{opposite-opposite, opposite-add, sub-opposite}
use Rattle.lattice_laws.proofs.Products.{zeros_is}
use Rattle.lattice_laws.proofs.SlackBases.{IsSigned}
use Rattle.lattice_laws.proofs.Sums.{length-sub}
use Rattle.cover_laws.specs.ConformalSums.{IsTerm}
use Rattle.cover_laws.proofs.Terms.{Lightly, none_spanned, lightly_add, lightly_times, lightly_opposite, term_lightly}
use Rattle.lattice_laws.proofs.Multiples.{greatest_below}
use Rattle.cover_laws.proofs.ConformalSums.{PairsAreLight}

-- ---- one turn

-- the vector found below z is a signed member below z
pub record IsFound (basis : List Vector) (z e : Vector) : Type 0 where
  pub signed : IsSigned basis e
  pub below : e ⊑ z

-- what a scan finds is such a vector
pub found : (basis : List Vector) (z e : Vector) → first_below basis z ≡ Some e → IsFound basis z e
found [] z e first = absurd (cc)
found (m ∷ basis) z e first =
    by (conforms m z) (conforms (opposite m) z) refl refl first (λ k. further (found basis z e k))
  where
    further : IsFound basis z e → IsFound (m ∷ basis) z e
    further r = record { signed = wider r.signed; below = r.below }
      where
        wider : IsSigned basis e → IsSigned (m ∷ basis) e
        wider (inl c) = inl (contains_tail m basis e c)
        wider (inr c) = inr (contains_tail m basis (opposite e) c)

    by : (s t : Bool) → conforms m z ≡ s → conforms (opposite m) z ≡ t →
        cond s (Some m) (cond t (Some (opposite m)) (first_below basis z)) ≡ Some e →
        (first_below basis z ≡ Some e → IsFound (m ∷ basis) z e) → IsFound (m ∷ basis) z e
    by true t p q first rest =
        let same : m ≡ e = cc in
        subst (IsFound (m ∷ basis) z) same (record { signed = inl (contains_head m basis); below = p })
    by false true p q first rest =
        let same : opposite m ≡ e = cc in
        subst (IsFound (m ∷ basis) z) same (record {
          signed = inr (subst (Contains (m ∷ basis)) (sym (opposite-opposite m)) (contains_head m basis));
          below = q;
        })
    by false false p q first rest = rest first

-- ---- all turns

module _ (n : ℕ) (basis : List Vector) where
  zero_lightly : (z : Vector) → length z ≡ n → is_zero z ≡ true → Lightly n basis z
  zero_lightly z size none =
      subst (Lightly n basis) (ap zeros (sym size) ∙ sym (zeros_is z none)) (none_spanned n basis, omega arith)

  -- a multiple of a signed member below z, and what is left of z
  turn_lightly : (z e : Vector) (k : ℕ) → IsTerm n basis e → scale (pos k) e ⊑ z →
      Lightly n basis (sub z (scale (pos k) e)) → Lightly n basis z
  turn_lightly z e k term below rest =
      let part = scale (pos k) e in
      let norms : norm1 part + norm1 (sub z part) ≤ norm1 (add part (sub z part)) =
      omega (arith, norm_split part z below, ap norm1 (add_rest part z below)) in
      subst (Lightly n basis) (add_rest part z below)
      (lightly_add n basis part (sub z part) norms (lightly_times n basis k e (term_lightly n basis e term)) rest)

  -- what is 0 after so many turns is such a sum
  reduced_lightly : (turns : ℕ) (z : Vector) → length z ≡ n → is_zero (reduced_within turns basis z) ≡ true →
      Lightly n basis z
  reduced_lightly zero z size none = zero_lightly z size none
  reduced_lightly (suc turns) z size none =
      by (first_below basis z) refl (λ y left k. reduced_lightly turns y left k) none
    where
      turned : Option Vector → Vector
      turned None = z
      turned (Some e) = reduced_within turns basis (sub z (scale (pos (greatest_multiple e z)) e))

      by : (o : Option Vector) → first_below basis z ≡ o →
          ((y : Vector) → length y ≡ n → is_zero (reduced_within turns basis y) ≡ true → Lightly n basis y) →
          is_zero (turned o) ≡ true → Lightly n basis z
      by None p next none = zero_lightly z size none
      by (Some e) p next none =
          let f = found basis z e p in
          let term : IsTerm n basis e = (length_below e z f.below ∙ size, f.signed) in
          let part = scale (pos (greatest_multiple e z)) e in
          let below : part ⊑ z = greatest_below e z f.below in
          let left : length (sub z part) ≡ n = length_below (sub z part) z (rest_below part z below) ∙ size in
          turn_lightly z e (greatest_multiple e z) term below (next (sub z part) left none)

  -- what reduces to 0 is a sum of signed members that weigh no more
  pub reduces_lightly : (z : Vector) → length z ≡ n → reduces_to_zero basis z ≡ true → Lightly n basis z
  reduces_lightly z size reduces = reduced_lightly (norm1 z) z size reduces

-- ---- each two signed members

-- the sum and the difference of each two members reduce to 0
abbrev pub PairsReduce : List Vector → Type 0
PairsReduce basis = (a b : Vector) → Contains basis a → Contains basis b →
    (reduces_to_zero basis (add a b) ≡ true) × (reduces_to_zero basis (sub a b) ≡ true)

-- where sums and differences of members reduce to 0, so do sums of signed members
pub pairs_light : (n : ℕ) (basis : List Vector) → PairsReduce basis → PairsAreLight n basis
pairs_light n basis reduce a b (la, sa) (lb, sb) = by sa sb
  where
    oa : length (opposite a) ≡ n
    oa = length-opposite a ∙ la

    ob : length (opposite b) ≡ n
    ob = length-opposite b ∙ lb

    plus : (p q : Vector) → Contains basis p → Contains basis q → length p ≡ n → length q ≡ n →
        Lightly n basis (add p q)
    plus p q c d lp lq = reduces_lightly n basis (add p q) (length-add p q n lp lq) (reduce p q c d).0

    less : (p q : Vector) → Contains basis p → Contains basis q → length p ≡ n → length q ≡ n →
        Lightly n basis (add p (opposite q))
    less p q c d lp lq =
        subst (Lightly n basis) (sub-opposite p q)
        (reduces_lightly n basis (sub p q) (length-sub p q n lp lq) (reduce p q c d).1)

    turned : Lightly n basis (add (opposite a) (opposite b)) → Lightly n basis (add a b)
    turned l =
        subst (Lightly n basis)
        (opposite-add (opposite a) (opposite b) ∙ (λ i. add (opposite-opposite a i) (opposite-opposite b i)))
        (lightly_opposite n basis (add (opposite a) (opposite b)) l)

    by : IsSigned basis a → IsSigned basis b → Lightly n basis (add a b)
    by (inl c) (inl d) = plus a b c d la lb
    by (inl c) (inr d) = subst (λ v. Lightly n basis (add a v)) (opposite-opposite b) (less a (opposite b) c d la ob)
    by (inr c) (inl d) = turned (less (opposite a) b c d oa lb)
    by (inr c) (inr d) = turned (plus (opposite a) (opposite b) c d oa ob)
