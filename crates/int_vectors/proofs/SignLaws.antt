-- Laws of the words that hold the signs of a vector: those of a vector that lies below another fit.
use Rattle.std.proofs.Common.{◌≡◌, ℕ, zero, ◌+◌, ◌%◌, ◌^◌, ◌<◌, ◌≤◌, min, ℤ, pos, negsuc, neg_ℤ, suc, Bool, true, false}
use Rattle.std.proofs.Common.{[], ◌∷◌, bit_and, bit_or, length, drop, get_or, refl, ap, arith, sym, ◌∙◌, subst, eq-eqb}
use Rattle.std.specs.Int.{bit_at}
use Rattle.std.proofs.lemmas.Int.{ints}
use Rattle.std.proofs.lemmas.Bool.{and_parts, false_from_ne_true, true≢false, and_from}
use Rattle.std.proofs.lemmas.Bool.Decides.{nat_tests}
use Rattle.std.proofs.Math.Seq.{drop-cons}
use Rattle.std.proofs.lemmas.Nat.{or_comm}
use Rattle.std.proofs.lemmas.Nat.Bits.{bit_at_and, bit_at_or, bit_at-zero, bit_at-pow_same, same_from_bits}
use Rattle.lattice_theory.specs.Vectors.{Vector, ◌⊑◌, conforms, is_between, opposite}
use Rattle.int_vectors.specs.declared.signs.Signs.{Signs}
use Rattle.int_vectors.specs.Signs.{mark, marked, is_positive, is_negative, signs_of, is_within, fits, exchanged}
use Rattle.int_vectors.specs.Signs.{has_places}

-- each bit of the first word is in the second
abbrev IsPartOf : ℕ → ℕ → Type 0
IsPartOf a b = (i : ℕ) → bit_at a i ≤ bit_at b i

within_part : (a b : ℕ) → IsPartOf a b → is_within a b ≡ true
within_part a b h = eq-eqb (bit_and a b) a (same_from_bits (bit_and a b) a
    (λ i. bit_at_and a b i ∙ least (bit_at a i) (bit_at b i) (h i)))
  where
    least : (m n : ℕ) → m ≤ n → min m n ≡ m
    least m n low = omega arith

or_part : (a b c d : ℕ) → IsPartOf a b → IsPartOf c d → IsPartOf (bit_or a c) (bit_or b d)
or_part a b c d h k = λ i. omega (arith, bit_at_or a c i, bit_at_or b d i, h i, k i)

mark_part : (s t : Bool) (at : ℕ) → (s ≡ true → t ≡ true) → IsPartOf (mark s at) (mark t at)
mark_part true t at h = subst (λ u. IsPartOf (2 ^ (at % 64)) (mark u at)) (sym (h refl)) (λ i. omega arith)
mark_part false t at h = λ i. omega (arith, bit_at-zero i)

-- an entry between 0 and another has its sign or is 0
positive_part : (a b : ℤ) → is_between a b ≡ true → is_positive a ≡ true → is_positive b ≡ true
positive_part (pos a) (pos b) part up = grind (arith, nat_tests, ints)
positive_part (pos a) (negsuc b) part up = grind (arith, nat_tests, ints)
positive_part (negsuc a) b part up = grind (arith, nat_tests, ints)

negative_part : (a b : ℤ) → is_between a b ≡ true → is_negative a ≡ true → is_negative b ≡ true
negative_part (pos a) b part down = grind (arith, nat_tests, ints)
negative_part (negsuc a) (pos b) part down = grind (arith, nat_tests, ints)
negative_part (negsuc a) (negsuc b) part down = grind (arith, nat_tests, ints)

module _ (test : ℤ → Bool) (passes : (a b : ℤ) → is_between a b ≡ true → test a ≡ true → test b ≡ true) where
  marked_part : (v z : Vector) (a b at : ℕ) → v ⊑ z → IsPartOf a b → IsPartOf (marked test a at v) (marked test b at z)
  marked_part [] [] a b at low h = h
  marked_part [] (y ∷ z) a b at low h = absurd (cc)
  marked_part (x ∷ v) [] a b at low h = absurd (cc)
  marked_part (x ∷ v) (y ∷ z) a b at low h =
      let p = and_parts (is_between x y) (conforms v z) low in
      marked_part v z (bit_or a (mark (test x) at)) (bit_or b (mark (test y) at)) (at + 1) p.1
      (or_part a b (mark (test x) at) (mark (test y) at) h (mark_part (test x) (test y) at (passes x y p.0)))

-- ---- a vector that lies below

-- what would show that a false test passes is false
pub unless : (b t : Bool) → (b ≡ true → t ≡ true) → t ≡ false → b ≡ false
unless b t shows fails = false_from_ne_true b (λ e. true≢false (sym (shows e) ∙ fails))

below_fits : (v z : Vector) → v ⊑ z → fits (signs_of v) (signs_of z) ≡ true
below_fits v z low =
    let none : IsPartOf 0 0 = λ i. omega arith in
    and_from _ _ (within_part _ _ (marked_part is_positive positive_part v z 0 0 0 low none))
    (within_part _ _ (marked_part is_negative negative_part v z 0 0 0 low none))

-- a vector whose signs do not fit does not lie below
pub apart : (v z : Vector) → fits (signs_of v) (signs_of z) ≡ false → conforms v z ≡ false
apart v z fails = unless (conforms v z) (fits (signs_of v) (signs_of z)) (below_fits v z) fails

-- the opposite has the signs exchanged
module _ (test other : ℤ → Bool) (turns : (a : ℤ) → test (neg_ℤ a) ≡ other a) where
  marked_turned : (word at : ℕ) (v : Vector) → marked test word at (opposite v) ≡ marked other word at v
  marked_turned word at [] = refl
  marked_turned word at (x ∷ v) =
      ap (λ b. marked test (bit_or word (mark b at)) (at + 1) (opposite v)) (turns x)
      ∙ marked_turned (bit_or word (mark (other x) at)) (at + 1) v

positive_turned : (a : ℤ) → is_positive (neg_ℤ a) ≡ is_negative a
positive_turned (pos zero) = refl
positive_turned (pos (suc a)) = grind (arith, nat_tests, ints)
positive_turned (negsuc a) = grind (arith, nat_tests, ints)

negative_turned : (a : ℤ) → is_negative (neg_ℤ a) ≡ is_positive a
negative_turned (pos zero) = refl
negative_turned (pos (suc a)) = grind (arith, nat_tests, ints)
negative_turned (negsuc a) = grind (arith, nat_tests, ints)

signs_turned : (v : Vector) → signs_of (opposite v) ≡ exchanged (signs_of v)
signs_turned v = λ i. record {
  up = marked_turned is_positive is_negative positive_turned 0 0 v i;
  down = marked_turned is_negative is_positive negative_turned 0 0 v i;
}

fits_exchanged : (a b : Signs) → fits (exchanged a) b ≡ true → fits a (exchanged b) ≡ true
fits_exchanged a b h = let p = and_parts (is_within a.down b.up) (is_within a.up b.down) h in and_from _ _ p.1 p.0

-- a vector whose signs do not fit those of the opposite does not lie below with the other sign
pub turned_apart : (v z : Vector) → fits (signs_of v) (exchanged (signs_of z)) ≡ false → conforms (opposite v) z ≡ false
turned_apart v z fails =
    unless (conforms (opposite v) z) (fits (signs_of v) (exchanged (signs_of z)))
    (λ low. fits_exchanged (signs_of v) (signs_of z) (turned low)) fails
  where
    turned : opposite v ⊑ z → fits (exchanged (signs_of v)) (signs_of z) ≡ true
    turned low = sym (ap (λ s. fits s (signs_of z)) (signs_turned v)) ∙ below_fits (opposite v) z low

-- all places of a vector that lies below are there
below_places : (v z : Vector) → v ⊑ z → has_places (signs_of v) (signs_of z) ≡ true
below_places v z low =
    let none : IsPartOf 0 0 = λ i. omega arith in
    within_part _ _
    (or_part _ _ _ _ (marked_part is_positive positive_part v z 0 0 0 low none)
    (marked_part is_negative negative_part v z 0 0 0 low none))

places_exchanged : (a b : Signs) → has_places (exchanged a) b ≡ has_places a b
places_exchanged a b = ap (λ n. is_within n (bit_or b.up b.down)) (or_comm a.down a.up)

-- a vector of which a place is missing lies below with neither sign
pub places_apart : (v z : Vector) → has_places (signs_of v) (signs_of z) ≡ false →
    (conforms v z ≡ false) × (conforms (opposite v) z ≡ false)
places_apart v z fails = (
  unless (conforms v z) (has_places (signs_of v) (signs_of z)) (below_places v z) fails,
  unless (conforms (opposite v) z) (has_places (signs_of v) (signs_of z)) turned fails,
)
  where
    turned : opposite v ⊑ z → has_places (signs_of v) (signs_of z) ≡ true
    turned low =
        sym (ap (λ s. has_places s (signs_of z)) (signs_turned v) ∙ places_exchanged (signs_of v) (signs_of z))
        ∙ below_places (opposite v) z low

-- ---- the bits of single entries

-- a word only grows
marked_grows : (test : ℤ → Bool) (word at : ℕ) (v : Vector) → IsPartOf word (marked test word at v)
marked_grows test word at [] = λ i. omega arith
marked_grows test word at (x ∷ v) =
    λ i.
    omega (arith, bit_at_or word (mark (test x) at) i, marked_grows test (bit_or word (mark (test x) at)) (at + 1) v i)

-- an entry that passes the test sets its bit
pub marked_sets : (test : ℤ → Bool) (word at : ℕ) (x : ℤ) (v : Vector) → test x ≡ true →
    1 ≤ bit_at (marked test word at (x ∷ v)) (at % 64)
marked_sets test word at x v passes =
    let set : bit_at (mark (test x) at) (at % 64) ≡ 1 =
    ap (λ b. bit_at (mark b at) (at % 64)) passes ∙ bit_at-pow_same (at % 64) in
    omega (
      arith,
      set,
      bit_at_or word (mark (test x) at) (at % 64),
      marked_grows test (bit_or word (mark (test x) at)) (at + 1) v (at % 64),
    )

-- words without a common bit
pub no_common_bit : (a b i : ℕ) → bit_and a b ≡ 0 → 1 ≤ bit_at a i → 1 ≤ bit_at b i → ⊥
no_common_bit a b i none one other =
    absurd (omega (arith, bit_at_and a b i, ap (λ n. bit_at n i) none, bit_at-zero i, one, other))

-- one entry more is marked
pub marked_more : (test : ℤ → Bool) (word at : ℕ) (z : Vector) → at < length z →
    marked test (bit_or word (mark (test (get_or z at (pos 0))) at)) (at + 1) (drop (at + 1) z)
    ≡ marked test word at (drop at z)
marked_more test word at z low =
    let next : at + 1 ≡ suc at = omega arith in
    ap (λ n. marked test (bit_or word (mark (test (get_or z at (pos 0))) at)) (at + 1) (drop n z)) next
    ∙ ap (marked test word at) (sym (drop-cons z at (pos 0) low))
