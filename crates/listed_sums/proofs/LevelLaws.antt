-- Whether a vector is a sum of at most some level, by its place.
use Rattle.std.proofs.Common.{◌≡◌, ℕ, zero, suc, nat_le, Bool, true, false, ◌&&◌, ◌||◌, cond, List, [], ◌∷◌, Option}
use Rattle.std.proofs.Common.{Some, None, refl, ap, sym, ◌∙◌, subst, slice_get, Contains, inl, inr, ◌<◌, length, get_or}
use Rattle.std.proofs.Common.{IfSome}
use Rattle.std.proofs.lemmas.Option.{slice_get-get_or}
use Rattle.std.specs.Option.{option_map}
use Rattle.lattice_theory.specs.Vectors.{Vector, is_rising, lex_less, same}
use Rattle.lattice_theory.specs.SignedSums.{Sum, vectors}
use Rattle.lattice_laws.proofs.Tests.{true_or_false, same_true}
use Rattle.lattice_laws.proofs.Members.{contains_head, contains_tail}
use Rattle.lattice_laws.proofs.Rising.{lex_less_irrefl, rising_tail, rising_above}
use Rattle.run_theory.specs.Checker.{is_sum_within}
use Rattle.listed_sums.specs.Places.{place_in}

-- what is no member is no sum of any level
pub within-none : (sums : List Sum) (level : ℕ) (w : Vector) → place_in (vectors sums) w ≡ None →
    is_sum_within sums level w ≡ false
within-none [] level w none = refl
within-none (s ∷ sums) level w none = by (same s.vector w) refl (place_in (vectors sums) w) refl none
    (λ k. within-none sums level w k)
  where
    by : (t : Bool) → same s.vector w ≡ t → (o : Option ℕ) → place_in (vectors sums) w ≡ o →
        cond t (Some 0) (option_map suc o) ≡ None →
        (place_in (vectors sums) w ≡ None → is_sum_within sums level w ≡ false) →
        ((same s.vector w && nat_le s.level level) || is_sum_within sums level w) ≡ false
    by true e o f is rest = absurd (cc)
    by false e None f is rest = (λ i. (e i && nat_le s.level level) || rest f i)
    by false e (Some k) f is rest = absurd (cc)

-- none of them is w
apart : (sums : List Sum) (level : ℕ) (w : Vector) → ((v : Vector) → Contains (vectors sums) v → v ≡ w → ⊥) →
    is_sum_within sums level w ≡ false
apart [] level w others = refl
apart (s ∷ sums) level w others = elim (true_or_false (same s.vector w)) [
  | inl head ↦ absurd (others s.vector (contains_head s.vector (vectors sums)) (same_true s.vector w head))
  | inr other ↦
      (λ i. (other i && nat_le s.level level)
      || apart sums level w (λ v c. others v (contains_tail s.vector (vectors sums) v c)) i)
]

-- the level at its place decides
pub within-some : (sums : List Sum) (level : ℕ) (w : Vector) (at : ℕ) (s : Sum) → is_rising (vectors sums) ≡ true →
    place_in (vectors sums) w ≡ Some at → slice_get sums at ≡ Some s → is_sum_within sums level w ≡ nat_le s.level level
within-some [] level w at s rising place here = absurd (cc)
within-some (z ∷ sums) level w at s rising place here =
    by (same z.vector w) refl (place_in (vectors sums) w) refl at place here
    (λ k f there. within-some sums level w k s (rising_tail z.vector (vectors sums) rising) f there)
  where
    or_false : (b : Bool) → (b || false) ≡ b
    or_false true = refl
    or_false false = refl

    later : z.vector ≡ w → (v : Vector) → Contains (vectors sums) v → v ≡ w → ⊥
    later head v c is =
        lex_less_irrefl w
        (subst (λ x. lex_less x w ≡ true) head
        (subst (λ x. lex_less z.vector x ≡ true) is (rising_above z.vector (vectors sums) v rising c)))

    by : (t : Bool) → same z.vector w ≡ t → (o : Option ℕ) → place_in (vectors sums) w ≡ o →
        (k : ℕ) → cond t (Some 0) (option_map suc o) ≡ Some k → slice_get (z ∷ sums) k ≡ Some s →
        ((k : ℕ) → place_in (vectors sums) w ≡ Some k → slice_get sums k ≡ Some s →
        is_sum_within sums level w ≡ nat_le s.level level) →
        ((same z.vector w && nat_le z.level level) || is_sum_within sums level w) ≡ nat_le s.level level
    by true e o f zero is there rest =
        let first : z ≡ s = cc in
        (λ i. (e i && nat_le z.level level) || apart sums level w (later (same_true z.vector w e)) i)
        ∙ or_false (nat_le z.level level) ∙ ap (λ x. nat_le x.level level) first
    by true e o f (suc k) is there rest = absurd (cc)
    by false e None f k is there rest = absurd (cc)
    by false e (Some j) f zero is there rest = absurd (cc)
    by false e (Some j) f (suc k) is there rest =
        let next : j ≡ k = cc in
        ap (λ t. (t && nat_le z.level level) || is_sum_within sums level w) e
        ∙ rest k (f ∙ ap Some next) there

-- the level that is read at its place decides
pub level-decides : (sums : List Sum) (level : ℕ) (w : Vector) (at found : ℕ) → is_rising (vectors sums) ≡ true →
    Some at ≡ place_in (vectors sums) w → at < length sums → IfSome (slice_get sums at) (λ s. s.level ≡ found) →
    nat_le found level ≡ is_sum_within sums level w
level-decides sums level w at found rising place low read =
    let s = get_or sums at (record { level = 0; vector = [] }) in
    let here : slice_get sums at ≡ Some s = slice_get-get_or sums at (record { level = 0; vector = [] }) low in
    let is : s.level ≡ found = subst (λ o. IfSome o (λ s. s.level ≡ found)) here read in
    ap (λ n. nat_le n level) (sym is) ∙ sym (within-some sums level w at s rising (sym place) here)

-- what is read at a place is a fact of the sum there
pub sum-read : (sums : List Sum) (at : ℕ) (P : Sum → Type 0) → at < length sums → IfSome (slice_get sums at) P →
    (s : Sum) × (slice_get sums at ≡ Some s) × P s
sum-read sums at P low read =
    let s = get_or sums at (record { level = 0; vector = [] }) in
    let here : slice_get sums at ≡ Some s = slice_get-get_or sums at (record { level = 0; vector = [] }) low in
    (s, here, subst (λ o. IfSome o P) here read)
