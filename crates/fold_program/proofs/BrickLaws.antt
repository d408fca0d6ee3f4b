-- The bricks that rows of bounds, right sides and costs make.
use Rattle.std.proofs.Common.{◌≡◌, ℕ, zero, suc, ◌+◌, ◌*◌, ◌<◌, List, [], ◌∷◌, length, take, drop, refl, ap, arith, ◌∙◌}
use Rattle.std.proofs.Common.{Some, slice_get, All}
use Rattle.std.proofs.lemmas.List.{drop-drop}
use Rattle.std.proofs.lemmas.List.Elements.{All-nil, All-cons, All-head, All-tail}
use Rattle.lattice_theory.specs.Vectors.{Vector, IsBoundedRow}
use Rattle.fold_theory.specs.declared.Cost.{Cost}
use Rattle.fold_theory.specs.Programs.{Brick}
use Rattle.fold_program.specs.Parts.{bricks_from}
use Rattle.fold_program.specs.Places.{HasBoundedSides}

-- there are as many as rows of lower bounds, if the upper bounds are as many
pub length_bricks_from : (t s : ℕ) (lower upper : List Vector) (right : Vector) (costs : List Cost) →
    length upper ≡ length lower →
    length (bricks_from t s lower upper right costs) ≡ length lower
length_bricks_from t s [] upper right costs same = refl
length_bricks_from t s (l ∷ lower) [] right costs same = absurd (omega arith)
length_bricks_from t s (l ∷ lower) (u ∷ upper) right costs same =
    ap suc (length_bricks_from t s lower upper _ _ (omega arith))

-- the brick at place i has row i of the bounds, and its part of the right sides and of the costs
pub record IsBrickOf (t s : ℕ) (lower upper : List Vector) (right : Vector) (costs : List Cost) (i : ℕ)
    (b : Brick) : Type 0 where
  pub lower_is : slice_get lower i ≡ Some b.lower
  pub upper_is : slice_get upper i ≡ Some b.upper
  pub right_is : b.right ≡ take s (drop (i * s) right)
  pub costs_are : b.costs ≡ take t (drop (i * t) costs)

further : {A : Type 0} → (n k i : ℕ) (xs : List A) → take n (drop (i * k) (drop k xs)) ≡ take n (drop (suc i * k) xs)
further n k i xs =
    let e : k + i * k ≡ suc i * k = omega arith in ap (take n) (drop-drop (i * k) k xs ∙ ap (λ m. drop m xs) e)

pub brick_from_at : (t s : ℕ) (lower upper : List Vector) (right : Vector) (costs : List Cost) (i : ℕ) →
    length upper ≡ length lower → i < length lower →
    (b : Brick) × (slice_get (bricks_from t s lower upper right costs) i ≡ Some b) × IsBrickOf t s lower upper right
    costs i b
brick_from_at t s [] upper right costs i same inside = absurd (omega arith)
brick_from_at t s (l ∷ lower) [] right costs i same inside = absurd (omega arith)
brick_from_at t s (l ∷ lower) (u ∷ upper) right costs zero same inside =
    let none_s : 0 ≡ 0 * s = omega arith in
    let none_t : 0 ≡ 0 * t = omega arith in (
      record { lower = l; upper = u; right = take s right; costs = take t costs },
      refl,
      record {
        lower_is = refl;
        upper_is = refl;
        right_is = ap (λ m. take s (drop m right)) none_s;
        costs_are = ap (λ m. take t (drop m costs)) none_t;
      },
    )
brick_from_at t s (l ∷ lower) (u ∷ upper) right costs (suc i) same inside =
    let rest = brick_from_at t s lower upper (drop s right) (drop t costs) i (omega arith) (omega arith) in (
      rest.0,
      rest.1,
      record {
        lower_is = rest.2.lower_is;
        upper_is = rest.2.upper_is;
        right_is = rest.2.right_is ∙ further s s i right;
        costs_are = rest.2.costs_are ∙ further t t i costs;
      },
    )

-- their bounds are those of the rows
pub bricks_bounded : (t s : ℕ) (lower upper : List Vector) (right : Vector) (costs : List Cost) →
    All IsBoundedRow lower → All IsBoundedRow upper →
    All HasBoundedSides (bricks_from t s lower upper right costs)
bricks_bounded t s [] upper right costs low high = All-nil HasBoundedSides
bricks_bounded t s (l ∷ lower) [] right costs low high = All-nil HasBoundedSides
bricks_bounded t s (l ∷ lower) (u ∷ upper) right costs low high =
    All-cons HasBoundedSides (record { lower = l; upper = u; right = take s right; costs = take t costs })
    (bricks_from t s lower upper (drop s right) (drop t costs))
    (All-head IsBoundedRow l lower low, All-head IsBoundedRow u upper high)
    (bricks_bounded t s lower upper (drop s right) (drop t costs) (All-tail IsBoundedRow l lower low)
    (All-tail IsBoundedRow u upper high))
