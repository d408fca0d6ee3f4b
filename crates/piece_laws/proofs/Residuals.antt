-- Two parts of a distance: with a part v of the way from x to y, the two points x + v and y - v together miss their
-- aim by no more than x and y do. So for numbers, for vectors, and for the rows of a brick.
use Rattle.std.proofs.Common.{◌≡◌, ◌+◌, ◌≤◌, ℤ, ◌+ℤ◌, ◌-ℤ◌, unsigned_abs, true, [], ◌∷◌, length, ap, arith, sym, ◌∙◌}
use Rattle.std.proofs.Common.{subst}
use Rattle.std.proofs.lemmas.Int.{ints}
use Rattle.lattice_theory.specs.Vectors.{Vector, ◌⊑◌, conforms, is_between, norm1, add, sub}
use Rattle.lattice_theory.specs.Matrices.{product}
use Rattle.lattice_laws.proofs.Tests.{and_true}
use Rattle.lattice_laws.proofs.Signs.{part_of, one_zero, abs_parts}
use Rattle.lattice_laws.proofs.Conformal.{norm1-cons}
use Rattle.lattice_laws.proofs.Products.{rows-add, length-rows, rows-sub}
use Rattle.fold_theory.specs.Programs.{Program, Brick, brick_residual}

-- two parts of the distance of two numbers
distance_parts : (r x y v : ℤ) → is_between v (y -ℤ x) ≡ true →
    unsigned_abs (r -ℤ (x +ℤ v)) + unsigned_abs (r -ℤ (y -ℤ v)) ≤ unsigned_abs (r -ℤ x) + unsigned_abs (r -ℤ y)
distance_parts r x y v part =
    let p = part_of v (y -ℤ x) part in
    omega (
      arith,
      ints,
      p.ups,
      p.downs,
      one_zero v,
      one_zero (y -ℤ x),
      one_zero (r -ℤ (x +ℤ v)),
      one_zero (r -ℤ (y -ℤ v)),
      abs_parts (r -ℤ (x +ℤ v)),
      abs_parts (r -ℤ (y -ℤ v)),
      abs_parts (r -ℤ x),
      abs_parts (r -ℤ y),
    )

-- two parts of the distance of two vectors
pub norm_parts : (r x y v : Vector) → v ⊑ sub y x → length x ≡ length r → length y ≡ length r →
    norm1 (sub r (add x v)) + norm1 (sub r (sub y v)) ≤ norm1 (sub r x) + norm1 (sub r y)
norm_parts [] x y v below ex ey = omega arith
norm_parts (r ∷ rs) [] y v below ex ey = absurd (omega arith)
norm_parts (r ∷ rs) (x ∷ xs) [] v below ex ey = absurd (omega arith)
norm_parts (r ∷ rs) (x ∷ xs) (y ∷ ys) [] below ex ey = absurd (cc)
norm_parts (r ∷ rs) (x ∷ xs) (y ∷ ys) (v ∷ vs) below ex ey =
    let p = and_true (is_between v (y -ℤ x)) (conforms vs (sub ys xs)) below in
    omega (
      arith,
      norm1-cons (r -ℤ (x +ℤ v)) (sub rs (add xs vs)),
      norm1-cons (r -ℤ (y -ℤ v)) (sub rs (sub ys vs)),
      norm1-cons (r -ℤ x) (sub rs xs),
      norm1-cons (r -ℤ y) (sub rs ys),
      distance_parts r x y v p.0,
      norm_parts rs xs ys vs p.1 (omega arith) (omega arith),
    )

-- two parts of a brick's residual
pub brick_residual_parts : (p : Program) (b : Brick) (x y v : Vector) → length b.right ≡ length p.brick.rows →
    length y ≡ length x → length v ≡ length x → product p.brick v ⊑ product p.brick (sub y x) →
    brick_residual p b (add x v) + brick_residual p b (sub y v) ≤ brick_residual p b x + brick_residual p b y
brick_residual_parts p b x y v right ey ev below =
    let rows = p.brick.rows in
    let image = product p.brick in
    let part : image v ⊑ sub (image y) (image x) = subst (λ w. image v ⊑ w) (rows-sub rows y x ey) below in
    let forward : brick_residual p b (add x v) ≡ norm1 (sub b.right (add (image x) (image v))) =
    ap (λ w. norm1 (sub b.right w)) (rows-add rows x v (sym ev)) in
    let back : brick_residual p b (sub y v) ≡ norm1 (sub b.right (sub (image y) (image v))) =
    ap (λ w. norm1 (sub b.right w)) (rows-sub rows y v (ey ∙ sym ev)) in
    omega (
      arith,
      forward,
      back,
      norm_parts b.right (image x) (image y) (image v) part (as_long x) (as_long y),
    )
  where
    as_long : (u : Vector) → length (product p.brick u) ≡ length b.right
    as_long u = length-rows p.brick.rows u ∙ sym right
