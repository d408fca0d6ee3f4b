-- What a round stands on.
use Rattle.std.specs.Prelude.{ℕ, List, Option}
use Rattle.lattice_theory.specs.SignedSums.{vectors}
use Rattle.fold_theory.specs.Programs.{Bricks}
use Rattle.run_theory.specs.Starts.{IsStart}
use Rattle.run_theory.specs.Folds.{FoldValue, HasBrickSums}
use Rattle.run_theory.specs.Bests.{AreGains}
use Rattle.round_workers.specs.declared.menus.RunMenus.{RunMenus}
use Rattle.round_workers.specs.Menus.{AreRunMenus}

-- the fold has the brick sums of its program and phase, a step may start at the point, and the menus are those of it
pub record IsTask (f : FoldValue) (x : Bricks) (kept : RunMenus) : Type 0 where
  pub sums : HasBrickSums f
  pub start : IsStart f.program f.phase x
  pub menus : AreRunMenus f x kept

-- for each length of the fold its greatest gain at the point, where it has one
abbrev pub HasGains : FoldValue → Bricks → List (Option ℕ) → Type 0
HasGains f x gains = AreGains f.program f.phase (vectors f.sums) x gains
