-- The definitions at values worked by hand.
use Rattle.std.proofs.Common.{◌≡◌, pos, negsuc, [], ◌∷◌, refl, arith}
use Rattle.fold_theory.specs.declared.Cost.TheVariants.{Quadratic}
use Rattle.fold_theory.specs.Programs.{Program, Brick}
use Rattle.brick_phase.specs.Moves.{with_opposites}
use Rattle.brick_phase.specs.Settled.{IsBrickEnd}

-- each vector is followed by its opposite
both_signs : with_opposites ((pos 0 ∷ pos 1 ∷ []) ∷ (pos 1 ∷ negsuc 0 ∷ []) ∷ [])
    ≡ (pos 0 ∷ pos 1 ∷ []) ∷ (pos 0 ∷ negsuc 0 ∷ []) ∷ (pos 1 ∷ negsuc 0 ∷ []) ∷ (negsuc 0 ∷ pos 1 ∷ []) ∷ []
both_signs = refl

-- ---- a brick of one column and no row, with bounds 2 and 5

abbrev brick : Brick
brick = record { lower = pos 2 ∷ []; upper = pos 5 ∷ []; right = []; costs = Quadratic (pos 0) (pos 0) (pos 0) ∷ [] }

abbrev program : Program
program = record {
  link = record { cols = 1; rows = [] };
  link_right = [];
  relations = [];
  brick = record { cols = 1; rows = [] };
  bricks = brick ∷ [];
}

-- it starts at 2, which is within the bounds, has no row to miss, and takes no step
settles_at_once : IsBrickEnd program ((pos 1 ∷ []) ∷ []) 1 [] (pos 2 ∷ []) 0
settles_at_once = (
  brick,
  refl,
  (λ m step. absurd (omega (arith, step.lowers)), refl),
  refl,
  ((record { le = tt }, tt), (record { le = tt }, tt)),
)
