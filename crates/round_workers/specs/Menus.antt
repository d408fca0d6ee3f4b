-- What a run keeps from one step to the next.
use Rattle.std.specs.Prelude.{◌≡◌, ℕ, ◌≤◌, length, Some, slice_get, List}
use Rattle.fold_theory.specs.Programs.{Bricks}
use Rattle.run_theory.specs.Folds.{FoldValue}
use Rattle.sieve_laws.specs.Sieve.{Menu}
use Rattle.brick_dp.specs.Menus.{AreMenus}
use Rattle.round_workers.specs.declared.menus.RunMenus.{RunMenus}

-- the targets of the sums, and the menus at a point of the first step lengths
pub record AreRunMenus (f : FoldValue) (x : Bricks) (kept : RunMenus) : Type 0 where
  pub targets : kept.targets ≡ f.sums
  pub few : length kept.menus.items ≤ 64
  pub each : (k : ℕ) (menus : List Menu) → slice_get kept.menus.items k ≡ Some menus → AreMenus f x k menus
