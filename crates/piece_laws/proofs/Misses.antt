-- Where each vector within the bounds of a brick misses its rows, no point of the program is feasible.
use Rattle.std.proofs.Common.{◌≡◌, ℕ, zero, suc, ◌+◌, ◌<◌, ◌≤◌, List, [], ◌∷◌, Some, slice_get, refl, ap, arith, ◌∙◌}
use Rattle.std.proofs.Common.{subst}
use Rattle.std.specs.List.{AllZip}
use Rattle.fold_theory.specs.declared.Verdict.TheVariants.{InfeasibleBrick}
use Rattle.lattice_theory.specs.Vectors.{Vector, norm1, sub}
use Rattle.lattice_theory.specs.Matrices.{product}
use Rattle.fold_theory.specs.Programs.{Program, Brick, Bricks, IsWithin, brick_residual}
use Rattle.fold_theory.specs.Verdicts.{IsInfeasible, Holds}
use Rattle.lattice_laws.proofs.Sums.{no_rest}

-- ---- no point is feasible

-- what a feasible point has at this brick
record Met (p : Program) (b : Brick) : Type 0 where
  vector : Vector
  within : IsWithin b vector
  meets : product p.brick vector ≡ b.right

-- by the place of the brick
met_at : (p : Program) (bs : List Brick) (x : Bricks) (place : ℕ) (b : Brick) → slice_get bs place ≡ Some b →
    AllZip IsWithin bs x → AllZip (λ b v. product p.brick v ≡ b.right) bs x → Met p b
met_at p [] x place b there within meets = absurd (cc)
met_at p (a ∷ bs) [] place b there within meets = absurd within
met_at p (a ∷ bs) (v ∷ x) zero b there within meets =
    let same : a ≡ b = cc in subst (Met p) same (record { vector = v; within = within.0; meets = meets.0 })
met_at p (a ∷ bs) (v ∷ x) (suc place) b there within meets = met_at p bs x place b there within.1 meets.1

-- where each vector within the brick's bounds misses its rows, no point is feasible
pub infeasible : (p : Program) (place : ℕ) (b : Brick) (residual : ℕ) → slice_get p.bricks place ≡ Some b →
    0 < residual → ((v : Vector) → IsWithin b v → residual ≤ brick_residual p b v) → IsInfeasible p
infeasible p place b residual there above least x feasible =
    let m = met_at p p.bricks x place b there feasible.within feasible.brick_rows in
    let none : brick_residual p b m.vector ≡ 0 = ap (λ w. norm1 (sub b.right w)) m.meets ∙ no_rest b.right in
    omega (arith, none, above, least m.vector m.within)

-- ---- the verdict

-- the vector of a brick that misses its rows by the least that the bounds allow, and by more than 0
pub brick_miss_holds : (p : Program) (number place : ℕ) (b : Brick) (x : Vector) → number ≡ place + 1 →
    slice_get p.bricks place ≡ Some b → IsWithin b x → 0 < brick_residual p b x →
    ((v : Vector) → IsWithin b v → brick_residual p b x ≤ brick_residual p b v) →
    Holds p (InfeasibleBrick number (brick_residual p b x))
brick_miss_holds p number place b x numbered there within above least = (
  record {
    above = above;
    brick = b;
    place = place;
    numbered = numbered;
    there = there;
    reached = (x, within, refl);
    least = least;
  },
  infeasible p place b (brick_residual p b x) there above least,
)
