-- Laws of the running product of two vectors.
use Rattle.std.proofs.Common.{◌≡◌, ℤ, ◌+ℤ◌, ◌*ℤ◌, [], ◌∷◌, length, arith, ◌⊎◌, inl, inr}
use Rattle.std.proofs.lemmas.Int.{ints}
use Rattle.lattice_theory.specs.Vectors.{Vector, dot}

-- one place on, the product at that place goes from what is left into the sum
pub dot-step : (sum x y whole : ℤ) (u v u' v' : Vector) → u ≡ x ∷ u' → v ≡ y ∷ v' → sum +ℤ dot u v ≡ whole →
    (sum +ℤ x *ℤ y) +ℤ dot u' v' ≡ whole
dot-step sum x y whole u v u' v' left right so_far =
    let opened : sum +ℤ (x *ℤ y +ℤ dot u' v') ≡ whole = rw (left, right) at so_far in
    omega (arith, ints, opened)

-- where nothing is left of one of the two, the sum so far is the product
pub dot-done : (sum whole : ℤ) (u v : Vector) → (length u ≡ 0) ⊎ (length v ≡ 0) → sum +ℤ dot u v ≡ whole → sum ≡ whole
dot-done sum whole [] v ended so_far = omega (arith, ints, so_far)
dot-done sum whole (x ∷ u) [] ended so_far = omega (arith, ints, so_far)
dot-done sum whole (x ∷ u) (y ∷ v) (inl e) so_far = absurd (omega arith)
dot-done sum whole (x ∷ u) (y ∷ v) (inr e) so_far = absurd (omega arith)
