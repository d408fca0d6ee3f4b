-- Least costs of walks through the layers, from a sum to the end.
use Rattle.std.specs.Prelude.{◌≡◌, ℕ, ◌^◌, ℤ, pos, ◌+ℤ◌, ◌-ℤ◌, ◌≤ℤ◌, nat_eq, List, [], ◌∷◌, drop, Option, Some, None}
use Rattle.std.specs.Prelude.{cond}
use Rattle.fold_theory.specs.declared.Phase.{Phase}
use Rattle.fold_theory.specs.declared.Phase.TheVariants.{Closed, Counted}
use Rattle.lattice_theory.specs.Vectors.{Vector, add, sub, scale}
use Rattle.lattice_theory.specs.Matrices.{product}
use Rattle.fold_theory.specs.Programs.{Program, Brick, Bricks, link_rests, link_miss, brick_cost}
use Rattle.run_theory.specs.Steps.{IsWalk}

-- what the phase cost of a brick changes by, from v to u
abbrev pub brick_change : Phase → Brick → Vector → Vector → ℤ
brick_change Closed b v u = brick_cost b u -ℤ brick_cost b v
brick_change Counted b v u = pos 0

-- what the end of a step costs where the linking rows miss so much before it and after it: none where the phase does
-- not allow it
abbrev pub end_at : Phase → ℕ → ℕ → Option ℤ
end_at Closed before after = cond (nat_eq after 0) (Some (pos 0)) None
end_at Counted before after = Some (pos after -ℤ pos before)

-- what the end of a step costs that changes the linking rows, now with these rests, by this much
abbrev pub end_cost : Program → Phase → Vector → Vector → Option ℤ
end_cost p phase rests image = end_at phase (link_miss p rests) (link_miss p (sub rests image))

-- the changes of cost along a walk
abbrev pub walk_change : Phase → ℕ → List Brick → Bricks → Bricks → ℤ
walk_change phase k [] x h = pos 0
walk_change phase k (b ∷ bs) [] h = pos 0
walk_change phase k (b ∷ bs) (v ∷ x) [] = pos 0
walk_change phase k (b ∷ bs) (v ∷ x) (d ∷ h) =
    brick_change phase b v (add v (scale (pos (2 ^ k)) d)) +ℤ walk_change phase k bs x h

-- the sum at which a walk from w ends
abbrev pub walk_end : Vector → Bricks → Vector
walk_end w [] = w
walk_end w (d ∷ h) = walk_end (add w d) h

-- a walk from w through these bricks to the end costs this much
pub record WalkCosts (p : Program) (phase : Phase) (zs : List Vector) (k : ℕ) (rests : Vector) (bricks : List Brick)
    (x : Bricks) (w : Vector) (h : Bricks) (c : ℤ) : Type 0 where
  pub walk : IsWalk zs k bricks x w h
  pub last : ℤ
  pub ends : end_cost p phase rests (scale (pos (2 ^ k)) (product p.link (walk_end w h))) ≡ Some last
  pub is : c ≡ (walk_change phase k bricks x h +ℤ last)

-- the least cost of a walk from w at layer i to the end; none where there is no walk of finite cost
abbrev pub IsPotential : Program → Phase → List Vector → Bricks → ℕ → ℕ → Vector → Option ℤ → Type 0
IsPotential p phase zs x k i w None =
    (h : Bricks) (c : ℤ) → WalkCosts p phase zs k (link_rests p x) (drop i p.bricks) (drop i x) w h c → ⊥
IsPotential p phase zs x k i w (Some least) =
    ((h : Bricks) × WalkCosts p phase zs k (link_rests p x) (drop i p.bricks) (drop i x) w h least)
    × ((h : Bricks) (c : ℤ) → WalkCosts p phase zs k (link_rests p x) (drop i p.bricks) (drop i x) w h c → least ≤ℤ c)
