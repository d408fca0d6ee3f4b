-- Laws of signed sums: their width, their size and their levels.
use Rattle.std.proofs.Common.{◌≡◌, ℕ, zero, suc, ◌+◌, ◌*◌, ◌^◌, ◌<◌, ◌≤◌, pos, unsigned_abs, List, [], ◌∷◌, length, map}
use Rattle.std.proofs.Common.{get_or, refl, ap, arith, sym, subst, ◌∙◌, inl, inr, Some, slice_get, take, option_map}
use Rattle.std.specs.List.{AllByRecursion, All, Contains}
use Rattle.std.proofs.lemmas.Int.{ints}
use Rattle.std.proofs.lemmas.Bool.{cases_lt}
use Rattle.std.proofs.lemmas.List.{length-replicate}
use Rattle.std.proofs.lemmas.Option.{slice_get_within, get_or_from_slice_get, slice_get-map, slice_get_read}
use Rattle.std.proofs.lemmas.List.Elements.{All-more, All-contains, All-from_recursion, recursion_from_All, All-weaker}
use Rattle.lattice_theory.specs.Vectors.{Vector, add, sub, zeros}
use Rattle.lattice_theory.specs.BasisLimits.{IsNarrow}
use Rattle.lattice_theory.specs.SignedSums.{Sum, IsSignedSum, HasLevel, AreSums, vectors}
use Rattle.lattice_laws.proofs.VectorLists.{vectors-sum}
use Rattle.brick_sums.specs.Levels.{IsSumUpTo}

-- ---- lists

module _ {A : Type 0} where
  -- what was read at a place, as a mapped list has it
  pub slice_get-map_read : {B : Type 0} (f : A → B) (xs : List A) (i : ℕ) (x : A) → i < length xs →
      x ≡ get_or xs i x → slice_get (map f xs) i ≡ Some (f x)
  slice_get-map_read f xs i x within read =
      slice_get-map f xs i ∙ ap (option_map f) (slice_get_read xs (length xs) i x refl within read)

  -- what holds of the elements up to a place, and of the one there, holds up to the next
  pub All-take_more : (P : A → Type 0) (xs : List A) (i : ℕ) (x : A) → slice_get xs i ≡ Some x → All P (take i xs) →
      P x → All P (take (i + 1) xs)
  All-take_more P xs i x read all here =
      All-more P xs i x (slice_get_within xs i x read) all (subst P (sym (get_or_from_slice_get xs i x x read)) here)

-- ---- lists of sums

-- the vector of a listed sum is listed
pub sum-vectors : (sums : List Sum) (s : Sum) → Contains sums s → Contains (vectors sums) s.vector
sum-vectors [] s (k, within, read) = absurd (omega arith)
sum-vectors (r ∷ sums) s (zero, within, read) = (0, omega arith, ap (λ (q : Sum). q.vector) read)
sum-vectors (r ∷ sums) s (suc k, within, read) =
    let found : Contains (vectors sums) s.vector = sum-vectors sums s (k, omega arith, read) in
    (suc found.0, omega (arith, found.1), found.2)

-- ---- the width of sums

pub length-add : (t : ℕ) (u v : Vector) → length u ≡ t → length v ≡ t → length (add u v) ≡ t
length-add t [] v left right = left
length-add t (a ∷ u) [] left right = absurd (omega arith)
length-add zero (a ∷ u) (b ∷ v) left right = absurd (omega arith)
length-add (suc t) (a ∷ u) (b ∷ v) left right = omega (arith, length-add t u v (omega arith) (omega arith))

pub length-sub : (t : ℕ) (u v : Vector) → length u ≡ t → length v ≡ t → length (sub u v) ≡ t
length-sub t [] v left right = left
length-sub t (a ∷ u) [] left right = absurd (omega arith)
length-sub zero (a ∷ u) (b ∷ v) left right = absurd (omega arith)
length-sub (suc t) (a ∷ u) (b ∷ v) left right = omega (arith, length-sub t u v (omega arith) (omega arith))

module _ (t : ℕ) (gens : List Vector) (even : All (λ e. length e ≡ t) gens) where
  -- a sum is as wide as the generators
  pub IsSignedSum-width : (n : ℕ) (w : Vector) → IsSignedSum t gens n w → length w ≡ t
  IsSignedSum-width zero w sum = ap length sum ∙ length-replicate t (pos 0)
  IsSignedSum-width (suc n) w (before, e, sum, generator, inl plus) =
      ap length plus
      ∙ length-add t before e (IsSignedSum-width n before sum) (All-contains (λ e. length e ≡ t) gens e even generator)
  IsSignedSum-width (suc n) w (before, e, sum, generator, inr minus) =
      ap length minus
      ∙ length-sub t before e (IsSignedSum-width n before sum) (All-contains (λ e. length e ≡ t) gens e even generator)

-- ---- the size of sums

-- every entry is at most this in absolute value
abbrev pub IsWithin : ℕ → Vector → Type 0
IsWithin most v = AllByRecursion (λ a. unsigned_abs a ≤ most) v

pub IsWithin-zeros : (most t : ℕ) → IsWithin most (zeros t)
IsWithin-zeros most zero = tt
IsWithin-zeros most (suc t) = (omega arith, IsWithin-zeros most t)

IsWithin-add : (m n : ℕ) (u v : Vector) → IsWithin m u → IsWithin n v → IsWithin (m + n) (add u v)
IsWithin-add m n [] v left right = tt
IsWithin-add m n (a ∷ u) [] left right = tt
IsWithin-add m n (a ∷ u) (b ∷ v) left right = (
  omega (arith, ints, left.0, right.0),
  IsWithin-add m n u v left.1 right.1,
)

IsWithin-sub : (m n : ℕ) (u v : Vector) → IsWithin m u → IsWithin n v → IsWithin (m + n) (sub u v)
IsWithin-sub m n [] v left right = tt
IsWithin-sub m n (a ∷ u) [] left right = tt
IsWithin-sub m n (a ∷ u) (b ∷ v) left right = (
  omega (arith, ints, left.0, right.0),
  IsWithin-sub m n u v left.1 right.1,
)

IsNarrow-IsWithin : (e : Vector) → IsNarrow e → IsWithin (2 ^ 31) e
IsNarrow-IsWithin e narrow =
    recursion_from_All (λ a. unsigned_abs a ≤ 2 ^ 31) e
    (All-weaker (λ a. unsigned_abs a < 2 ^ 31) (λ a. unsigned_abs a ≤ 2 ^ 31) (λ a small. omega (arith, small)) e
    narrow)

module _ (t : ℕ) (gens : List Vector) (narrow : All IsNarrow gens) where
  -- an entry of a sum of n generators is at most n times the largest of an entry
  pub IsSignedSum-IsWithin : (n : ℕ) (w : Vector) → IsSignedSum t gens n w → IsWithin (n * 2 ^ 31) w
  IsSignedSum-IsWithin zero w sum = subst (IsWithin (zero * 2 ^ 31)) (sym sum) (IsWithin-zeros (zero * 2 ^ 31) t)
  IsSignedSum-IsWithin (suc n) w (before, e, sum, generator, inl plus) =
      let size : n * 2 ^ 31 + 2 ^ 31 ≡ suc n * 2 ^ 31 = omega arith in
      subst (IsWithin (suc n * 2 ^ 31)) (sym plus) (subst (λ m. IsWithin m (add before e)) size
      (IsWithin-add _ _ before e (IsSignedSum-IsWithin n before sum)
      (IsNarrow-IsWithin e (All-contains IsNarrow gens e narrow generator))))
  IsSignedSum-IsWithin (suc n) w (before, e, sum, generator, inr minus) =
      let size : n * 2 ^ 31 + 2 ^ 31 ≡ suc n * 2 ^ 31 = omega arith in
      subst (IsWithin (suc n * 2 ^ 31)) (sym minus) (subst (λ m. IsWithin m (sub before e)) size
      (IsWithin-sub _ _ before e (IsSignedSum-IsWithin n before sum)
      (IsNarrow-IsWithin e (All-contains IsNarrow gens e narrow generator))))

  -- with few generators the entries stay small
  pub IsSignedSum-small : (n : ℕ) (w : Vector) → n < 20000 → IsSignedSum t gens n w →
      All (λ a. unsigned_abs a < 2 ^ 46) w
  IsSignedSum-small n w low sum =
      All-weaker (λ a. unsigned_abs a ≤ n * 2 ^ 31) (λ a. unsigned_abs a < 2 ^ 46) (λ a small. omega (
        arith,
        low,
        small,
      )) w
      (All-from_recursion (λ a. unsigned_abs a ≤ n * 2 ^ 31) w (IsSignedSum-IsWithin n w sum))

-- ---- the levels of sums

module _ (t : ℕ) (gens : List Vector) where
  -- a sum of so many generators that the list of all sums of fewer lacks has just that level
  pub HasLevel-lacking : (level : ℕ) (sums : List Sum) (w : Vector) →
      ((n : ℕ) (v : Vector) → n ≤ level → IsSignedSum t gens n v → Contains (vectors sums) v) →
      (Contains (vectors sums) w → ⊥) → IsSignedSum t gens (suc level) w →
      HasLevel t gens (record { level = suc level; vector = w })
  HasLevel-lacking level sums w complete lacks sum = record {
    reached = sum;
    least = λ n other. elim (cases_lt n (suc level)) [
      | inl below ↦ absurd (lacks (complete n w (omega (arith, below)) other))
      | inr above ↦ above
    ];
  }

  -- where a list has all sums of at most so many generators, and those of one more, it has all sums
  pub AreSums-all : (level : ℕ) (sums : List Sum) → AreSums t gens level sums → AreSums t gens (suc level) sums →
      (n : ℕ) (w : Vector) → IsSignedSum t gens n w → Contains (vectors sums) w
  AreSums-all level sums these more zero w sum = these.complete zero w (omega arith) sum
  AreSums-all level sums these more (suc n) w (before, e, sum, generator, either) =
      let found : (s : Sum) × Contains sums s × (s.vector ≡ before) =
      vectors-sum sums before (AreSums-all level sums these more n before sum) in
      let known : IsSumUpTo t gens level found.0 = All-contains (IsSumUpTo t gens level) sums found.0 these.sound
      found.1 in
      let reached : IsSignedSum t gens found.0.level before =
      subst (IsSignedSum t gens found.0.level) found.2 known.1.reached in
      more.complete (suc found.0.level) w (omega (arith, known.0)) (before, e, reached, generator, either)

  -- so it is the list for any larger number of generators
  pub AreSums-stop : (level g : ℕ) (sums : List Sum) → level ≤ g → AreSums t gens level sums →
      AreSums t gens (suc level) sums → AreSums t gens g sums
  AreSums-stop level g sums below these more = record {
    rising = these.rising;
    sound =
        All-weaker (IsSumUpTo t gens level) (IsSumUpTo t gens g) (λ s known. (omega (arith, known.0), known.1)) sums
        these.sound;
    complete = λ n w within sum. AreSums-all level sums these more n w sum;
  }
