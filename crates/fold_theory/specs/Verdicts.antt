-- What each verdict says of a program, in terms of points alone.
use Rattle.std.specs.Prelude.{◌≡◌, ℕ, ◌+◌, ◌<◌, ◌≤◌, ℤ, ◌≤ℤ◌, slice_get, Some}
use Rattle.fold_theory.specs.declared.Verdict.{Verdict}
use Rattle.fold_theory.specs.declared.Verdict.TheVariants.{Optimal, InfeasibleBrick, InfeasibleLink}
use Rattle.lattice_theory.specs.Vectors.{Vector}
use Rattle.fold_theory.specs.Programs.{Program, Brick, Bricks, IsFeasible, IsWithin, AreWithin, MeetsBrickRows}
use Rattle.fold_theory.specs.Programs.{brick_residual, link_miss, link_rests, cost}

-- a feasible point has this cost, and no feasible point has a lower one
pub record IsOptimum (p : Program) (c : ℤ) : Type 0 where
  pub reached : (x : Bricks) × IsFeasible p x × (cost p x ≡ c)
  pub least : (y : Bricks) → IsFeasible p y → c ≤ℤ cost p y

-- no vector within the brick's bounds misses its rows by less, and that is more than 0
pub record IsBrickMiss (p : Program) (number residual : ℕ) : Type 0 where
  pub above : 0 < residual
  pub brick : Brick
  pub place : ℕ
  pub numbered : number ≡ place + 1
  pub there : slice_get p.bricks place ≡ Some brick
  pub reached : (v : Vector) × IsWithin brick v × (brick_residual p brick v ≡ residual)
  pub least : (v : Vector) → IsWithin brick v → residual ≤ brick_residual p brick v

-- no point within the bounds that meets the brick rows misses the linking rows by less
pub record IsLinkMiss (p : Program) (residual : ℕ) : Type 0 where
  pub above : 0 < residual
  pub reached : (y : Bricks) × AreWithin p.bricks y × MeetsBrickRows p y × (link_miss p (link_rests p y) ≡ residual)
  pub least : (y : Bricks) → AreWithin p.bricks y → MeetsBrickRows p y → residual ≤ link_miss p (link_rests p y)

abbrev pub IsInfeasible : Program → Type 0
IsInfeasible p = (x : Bricks) → IsFeasible p x → ⊥

-- the verdict is true of the program
abbrev pub Holds : Program → Verdict → Type 0
Holds p (Optimal c) = IsOptimum p c
Holds p (InfeasibleBrick number residual) = IsBrickMiss p number residual × IsInfeasible p
Holds p (InfeasibleLink residual) = IsLinkMiss p residual × IsInfeasible p
