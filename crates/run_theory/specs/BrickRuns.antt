-- The brick rule, which brings one brick to meet its rows.
use Rattle.std.specs.Prelude.{◌≡◌, ℕ, ◌^◌, ◌<◌, ◌⊎◌, ℤ, pos, int_lt, List, [], ◌∷◌, map, Contains, IsTrue, cond}
use Rattle.std.specs.Ordering.{nat_cmp, ordering_then, is_le}
use Rattle.std.specs.declared.cmp.Ordering.{Ordering}
use Rattle.lattice_theory.specs.Lists.{zip_with}
use Rattle.lattice_theory.specs.Vectors.{Vector, lex_cmp, add, scale, opposite}
use Rattle.lattice_theory.specs.Lattices.{first_parts}
use Rattle.fold_theory.specs.Programs.{Program, Brick, IsWithin, IsLength, brick_residual}

-- the number from lo to hi that is nearest to 0
abbrev pub nearest : ℤ → ℤ → ℤ
nearest lo hi = cond (int_lt (pos 0) lo) lo (cond (int_lt hi (pos 0)) hi (pos 0))

-- the point of the brick's bounds that is nearest to 0 in every coordinate
abbrev pub nearest_point : Brick → Vector
nearest_point b = zip_with nearest b.lower b.upper

-- one step of the brick rule: its length and its vector
pub record BrickMove : Type 0 where
  pub k : ℕ
  pub vector : Vector

abbrev pub stepped : Vector → BrickMove → Vector
stepped v m = add v (scale (pos (2 ^ m.k)) m.vector)

-- v or its opposite is the first part of a listed element
abbrev pub IsSignedPart : Program → List Vector → Vector → Type 0
IsSignedPart p basis v = Contains (first_parts p.brick.cols basis) v
    ⊎ Contains (map opposite (first_parts p.brick.cols basis)) v

-- a step of the brick that lowers its residual
pub record Improves (p : Program) (basis : List Vector) (b : Brick) (v : Vector) (m : BrickMove) : Type 0 where
  pub part : IsSignedPart p basis m.vector
  pub length : IsLength p m.k
  pub within : IsWithin b (stepped v m)
  pub lowers : brick_residual p b (stepped v m) < brick_residual p b v

-- by the residual after the step, then the length, then the vector
abbrev pub brick_cmp : Program → Brick → Vector → BrickMove → BrickMove → Ordering
brick_cmp p b v m n =
    ordering_then (nat_cmp (brick_residual p b (stepped v m)) (brick_residual p b (stepped v n)))
    (ordering_then (nat_cmp m.k n.k) (lex_cmp m.vector n.vector))

pub record IsBestBrickMove (p : Program) (basis : List Vector) (b : Brick) (v : Vector) (m : BrickMove) : Type 0 where
  pub improves : Improves p basis b v m
  pub first : (n : BrickMove) → Improves p basis b v n → IsTrue (is_le (brick_cmp p b v m n))

-- the steps of the brick rule from v until none lowers the residual, and the last point
abbrev pub IsBrickRunFrom : Program → List Vector → Brick → Vector → List BrickMove → Vector → Type 0
IsBrickRunFrom p basis b v [] last = ((m : BrickMove) → Improves p basis b v m → ⊥) × (last ≡ v)
IsBrickRunFrom p basis b v (m ∷ ms) last =
    IsBestBrickMove p basis b v m × IsBrickRunFrom p basis b (stepped v m) ms last

-- the brick's run
abbrev pub IsBrickRun : Program → List Vector → Brick → List BrickMove → Vector → Type 0
IsBrickRun p basis b ms last = IsBrickRunFrom p basis b (nearest_point b) ms last
