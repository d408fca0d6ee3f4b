-- Parts of the way between two vectors within the bounds of a brick.
use Rattle.std.proofs.Common.{◌≡◌, ℤ, ◌+ℤ◌, ◌-ℤ◌, ◌≤ℤ◌, true, [], ◌∷◌, arith}
use Rattle.std.proofs.lemmas.Int.{ints}
use Rattle.std.specs.List.{AllZip}
use Rattle.lattice_theory.specs.Vectors.{Vector, ◌⊑◌, conforms, is_between, add, sub}
use Rattle.lattice_laws.proofs.Tests.{and_true}
use Rattle.lattice_laws.proofs.Signs.{part_of, one_zero}
use Rattle.fold_theory.specs.Programs.{Brick, IsWithin}

-- ---- with a part v of the way from x to y, x + v and y - v are within the bounds of x and y

above_parts : (l x y v : ℤ) → l ≤ℤ x → l ≤ℤ y → is_between v (y -ℤ x) ≡ true → (l ≤ℤ (x +ℤ v)) × (l ≤ℤ (y -ℤ v))
above_parts l x y v hx hy part =
    let p = part_of v (y -ℤ x) part in (
      omega (arith, ints, hx, hy, p.ups, p.downs, one_zero v, one_zero (y -ℤ x)),
      omega (arith, ints, hx, hy, p.ups, p.downs, one_zero v, one_zero (y -ℤ x)),
    )

below_parts : (u x y v : ℤ) → x ≤ℤ u → y ≤ℤ u → is_between v (y -ℤ x) ≡ true → ((x +ℤ v) ≤ℤ u) × ((y -ℤ v) ≤ℤ u)
below_parts u x y v hx hy part =
    let p = part_of v (y -ℤ x) part in (
      omega (arith, ints, hx, hy, p.ups, p.downs, one_zero v, one_zero (y -ℤ x)),
      omega (arith, ints, hx, hy, p.ups, p.downs, one_zero v, one_zero (y -ℤ x)),
    )

-- what holds of both ends of a way holds of both ends of a part of it, if it is so for numbers
module _ (R : ℤ → ℤ → Type 0)
    (numbers : (c x y v : ℤ) → R c x → R c y → is_between v (y -ℤ x) ≡ true → R c (x +ℤ v) × R c (y -ℤ v)) where
  all_parts : (cs x y v : Vector) → AllZip R cs x → AllZip R cs y → v ⊑ sub y x →
      AllZip R cs (add x v) × AllZip R cs (sub y v)
  all_parts [] [] [] v hx hy part = (tt, tt)
  all_parts [] [] (b ∷ y) v hx hy part = absurd hy
  all_parts [] (a ∷ x) y v hx hy part = absurd hx
  all_parts (c ∷ cs) [] y v hx hy part = absurd hx
  all_parts (c ∷ cs) (a ∷ x) [] v hx hy part = absurd hy
  all_parts (c ∷ cs) (a ∷ x) (b ∷ y) [] hx hy part = absurd (cc)
  all_parts (c ∷ cs) (a ∷ x) (b ∷ y) (d ∷ v) hx hy part =
      let p = and_true (is_between d (b -ℤ a)) (conforms v (sub y x)) part in
      let here = numbers c a b d hx.0 hy.0 p.0 in
      let rest = all_parts cs x y v hx.1 hy.1 p.1 in
      ((here.0, rest.0), (here.1, rest.1))

-- the two vectors of a relation, in the other order
flipped : (R : ℤ → ℤ → Type 0) (u v : Vector) → AllZip R u v → AllZip (λ b a. R a b) v u
flipped R [] [] all = tt
flipped R [] (b ∷ v) all = absurd all
flipped R (a ∷ u) [] all = absurd all
flipped R (a ∷ u) (b ∷ v) all = (all.0, flipped R u v all.1)

-- both ends of a part of the way between two vectors within the bounds are within them
pub within_parts : (b : Brick) (x y v : Vector) → IsWithin b x → IsWithin b y → v ⊑ sub y x →
    IsWithin b (add x v) × IsWithin b (sub y v)
within_parts b x y v hx hy part =
    let turned = λ (w : Vector) (below : AllZip ◌≤ℤ◌ w b.upper). flipped ◌≤ℤ◌ w b.upper below in
    let above = all_parts ◌≤ℤ◌ above_parts b.lower x y v hx.0 hy.0 part in
    let below = all_parts (λ u w. w ≤ℤ u) below_parts b.upper x y v (turned x hx.1) (turned y hy.1) part in (
      (above.0, flipped (λ u w. w ≤ℤ u) b.upper (add x v) below.0),
      (above.1, flipped (λ u w. w ≤ℤ u) b.upper (sub y v) below.1),
    )
