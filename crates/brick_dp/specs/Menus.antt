-- The menus of the bricks of a fold: their moves within the bounds, each with what it changes the cost by.
use Rattle.std.specs.Prelude.{◌≡◌, ◌≢◌, ℕ, ◌*◌, ◌-◌, ◌<◌, ◌≤◌, Bool, false, unsigned_abs, List, length, All, Some}
use Rattle.std.specs.Prelude.{slice_get}
use Rattle.lattice_theory.specs.Vectors.{Vector}
use Rattle.lattice_theory.specs.SignedSums.{vectors}
use Rattle.fold_theory.specs.Programs.{Brick, Bricks}
use Rattle.fold_program.specs.Refusals.{brick_magnitude}
use Rattle.fold_program.specs.Places.{ForBrick}
use Rattle.run_theory.specs.Folds.{FoldValue}
use Rattle.sieve_laws.specs.Sieve.{Menu, IsMenu}

-- the menu of a brick at the vector v, whose changes are at most twice the brick's magnitude
pub record IsBrickMenu (f : FoldValue) (k : ℕ) (b : Brick) (v : Vector) (menu : Menu) : Type 0 where
  pub moves : IsMenu f.phase (vectors f.sums) k b v menu
  pub low : All (λ m. m.place < length f.sums) menu
  pub small : All (λ m. unsigned_abs m.change ≤ 2 * brick_magnitude b) menu

-- the menus of all bricks at a point
pub record AreMenus (f : FoldValue) (x : Bricks) (k : ℕ) (menus : List Menu) : Type 0 where
  pub size : length menus ≡ length f.program.bricks
  pub each : (i : ℕ) (b : Brick) (v : Vector) (menu : Menu) → slice_get f.program.bricks i ≡ Some b →
      slice_get x i ≡ Some v →
      slice_get menus i ≡ Some menu → IsBrickMenu f k b v menu

-- each move of the menus stands in the list of sums
abbrev pub AreListed : ℕ → List Menu → Type 0
AreListed sums menus = (i : ℕ) (menu : Menu) → slice_get menus i ≡ Some menu → All (λ m. m.place < sums) menu

-- the same menus, but for this brick, which has that at the vector v
pub record IsRenewed (f : FoldValue) (k brick : ℕ) (v : Vector) (menus more : List Menu) : Type 0 where
  pub size : length more ≡ length menus
  pub others : (i : ℕ) (menu : Menu) → i ≢ brick - 1 → slice_get more i ≡ Some menu → slice_get menus i ≡ Some menu
  pub new : (menu : Menu) → slice_get more (brick - 1) ≡ Some menu →
      ForBrick f.program brick (λ b. IsBrickMenu f k b v menu)

-- a brick that is not marked has the same vector at both points
pub record AreChanged (x y : Bricks) (changed : List Bool) : Type 0 where
  pub size : length changed ≡ length y
  pub same : (i : ℕ) → slice_get changed i ≡ Some false → slice_get x i ≡ slice_get y i
