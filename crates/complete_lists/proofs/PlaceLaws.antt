-- Laws of the signs of the first places of rows: a row without a place of another vector is not below it, however far
-- the two are compared, and rows whose signs are apart agree.
use Rattle.std.proofs.Common.{◌≡◌, ℕ, zero, suc, ◌+◌, ◌%◌, ◌<◌, ◌≤◌, ◌==◌, ℤ, pos, negsuc, ◌||◌, ◌&&◌, true, false}
use Rattle.std.proofs.Common.{List, [], ◌∷◌, ◌++◌, length, map, take, get_or, bit_and, bit_or, refl, ap, arith, sym}
use Rattle.std.proofs.Common.{◌∙◌, Some, slice_get, length-take, eqb-true}
use Rattle.std.proofs.lemmas.Int.{ints}
use Rattle.std.proofs.lemmas.Bool.{and_parts}
use Rattle.std.proofs.lemmas.Bool.Decides.{nat_tests}
use Rattle.std.proofs.lemmas.List.{take-take, get_or-map, map_more}
use Rattle.std.proofs.lemmas.Option.{slice_get_within, get_or_from_slice_get}
use Rattle.lattice_theory.specs.Vectors.{Vector, conforms, opposite}
use Rattle.lattice_laws.proofs.Signs.{agrees}
use Rattle.lattice_laws.proofs.Conformal.{agree, conforms-take, opposite-take}
use Rattle.criterion_laws.specs.Prefixes.{is_below_in}
use Rattle.int_vectors.specs.declared.signs.Signs.{Signs}
use Rattle.int_vectors.specs.Signs.{mark, marked, is_positive, is_negative, has_places, are_apart}
use Rattle.int_vectors.proofs.SignLaws.{places_apart, unless, marked_sets, no_common_bit}
use Rattle.complete_lists.specs.Ranks.{first_signs}
use Rattle.complete_lists.proofs.ClashLaws.{prefix-test}

-- the signs at a place of the list
pub signs-there : (places : ℕ) (rows : List Vector) (signs : List Signs) (i : ℕ) (v : Vector) (d : Signs) →
    signs ≡ map (first_signs places) rows → slice_get rows i ≡ Some v → get_or signs i d ≡ first_signs places v
signs-there places rows signs i v d all there =
    ap (λ ss. get_or ss i d) all
    ∙ get_or-map (first_signs places) rows i v d (slice_get_within rows i v there)
    ∙ ap (first_signs places) (get_or_from_slice_get rows i v v there)

-- those of one row more
pub signs-more : (places : ℕ) (rows : List Vector) (signs more : List Signs) (i : ℕ) (v : Vector) (s : Signs) →
    signs ≡ map (first_signs places) (take i rows) → slice_get rows i ≡ Some v → s ≡ first_signs places v →
    more ≡ signs ++ s ∷ [] → more ≡ map (first_signs places) (take (i + 1) rows)
signs-more places rows signs more i v s so_far there is pushed =
    let low : i < length rows = slice_get_within rows i v there in
    pushed ∙ (λ k. so_far k ++ is k ∷ [])
    ∙ ap (λ u. map (first_signs places) (take i rows) ++ first_signs places u ∷ [])
    (sym (get_or_from_slice_get rows i v v there))
    ∙ sym (map_more (first_signs places) rows i v low)

-- where a first place is missing, the row is not below
pub missing-place : (places : ℕ) (z v : Vector) → places ≤ length z →
    has_places (first_signs places v) (first_signs places z) ≡ false → is_below_in (length z) z v ≡ false
missing-place places z v low missing =
    prefix-test z v ∙ (λ k. plain k || conforms (opposite e) z) ∙ other
  where
    e : Vector
    e = take (length z) v

    cut : take places e ≡ take places v
    cut = take-take places (length z) v low

    apart : (conforms (take places v) (take places z) ≡ false)
        × (conforms (opposite (take places v)) (take places z) ≡ false)
    apart = places_apart (take places v) (take places z) missing

    plain : conforms e z ≡ false
    plain =
        unless (conforms e z) (conforms (take places e) (take places z)) (conforms-take places e z)
        (ap (λ u. conforms u (take places z)) cut ∙ apart.0)

    other : conforms (opposite e) z ≡ false
    other =
        unless (conforms (opposite e) z) (conforms (take places (opposite e)) (take places z))
        (conforms-take places (opposite e) z)
        (ap (λ u. conforms u (take places z)) (sym (opposite-take places e) ∙ ap opposite cut) ∙ apart.1)

-- ---- rows whose signs are apart

agrees-unless : (x y : ℤ) → (is_positive x ≡ true → is_negative y ≡ true → ⊥) →
    (is_negative x ≡ true → is_positive y ≡ true → ⊥) → agrees x y ≡ true
agrees-unless (pos zero) (pos m) up down = grind (arith, nat_tests, ints)
agrees-unless (pos zero) (negsuc m) up down = grind (arith, nat_tests, ints)
agrees-unless (pos (suc n)) (pos m) up down = grind (arith, nat_tests, ints)
agrees-unless (pos (suc n)) (negsuc m) up down = absurd (up (grind (arith, nat_tests, ints))
    (grind (arith, nat_tests, ints)))
agrees-unless (negsuc n) (pos zero) up down = grind (arith, nat_tests, ints)
agrees-unless (negsuc n) (pos (suc m)) up down = absurd (down (grind (arith, nat_tests, ints))
    (grind (arith, nat_tests, ints)))
agrees-unless (negsuc n) (negsuc m) up down = grind (arith, nat_tests, ints)

agree-marked : (u v : Vector) (a b c d at : ℕ) → length u ≡ length v →
    bit_and (marked is_positive a at u) (marked is_negative d at v) ≡ 0 →
    bit_and (marked is_negative b at u) (marked is_positive c at v) ≡ 0 → agree u v ≡ true
agree-marked [] [] a b c d at same up down = refl
agree-marked [] (y ∷ v) a b c d at same up down = absurd (omega (arith, same))
agree-marked (x ∷ u) [] a b c d at same up down = absurd (omega (arith, same))
agree-marked (x ∷ u) (y ∷ v) a b c d at same up down =
    ap (λ t. t && agree u v) here
    ∙ agree-marked u v (bit_or a (mark (is_positive x) at)) (bit_or b (mark (is_negative x) at))
    (bit_or c (mark (is_positive y) at)) (bit_or d (mark (is_negative y) at)) (at + 1) (omega (arith, same)) up down
  where
    here : agrees x y ≡ true
    here =
        agrees-unless x y
        (λ p q. no_common_bit (marked is_positive a at (x ∷ u)) (marked is_negative d at (y ∷ v)) (at % 64) up
        (marked_sets is_positive a at x u p) (marked_sets is_negative d at y v q))
        (λ p q. no_common_bit (marked is_negative b at (x ∷ u)) (marked is_positive c at (y ∷ v)) (at % 64) down
        (marked_sets is_negative b at x u p) (marked_sets is_positive c at y v q))

pub agree-apart : (places : ℕ) (f g : Vector) → length f ≡ length g →
    are_apart (first_signs places f) (first_signs places g) ≡ true → agree (take places f) (take places g) ≡ true
agree-apart places f g same apart =
    let p = and_parts (bit_and (up f) (down g) == 0) (bit_and (down f) (up g) == 0) apart in
    agree-marked (take places f) (take places g) 0 0 0 0 0 (omega
    (arith, length-take places f, length-take places g, same))
    (eqb-true (bit_and (up f) (down g)) 0 p.0) (eqb-true (bit_and (down f) (up g)) 0 p.1)
  where
    up : Vector → ℕ
    up v = marked is_positive 0 0 (take places v)

    down : Vector → ℕ
    down v = marked is_negative 0 0 (take places v)
