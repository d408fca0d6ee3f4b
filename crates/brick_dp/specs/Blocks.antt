-- Blocks of bricks: of each move the least that it changes the cost by in one of them.
use Rattle.std.specs.Prelude.{◌≡◌, ℕ, ◌*◌, ◌+◌, ◌<◌, ◌≤◌, List, length, Option, Some, slice_get}
use Rattle.lattice_theory.specs.Vectors.{Vector}
use Rattle.sieve_laws.specs.declared.PricedMove.{PricedMove}
use Rattle.sieve_laws.specs.Sieve.{Layer, Menu, IsAtMost, AreIdle}

-- what stands at the place of each move of the menu is at most what the move changes the cost by
abbrev pub IsBelow : Layer → Menu → Type 0
IsBelow changes menu = (i : ℕ) (m : PricedMove) → slice_get menu i ≡ Some m → IsAtMost changes m.place m.change

-- the same for the menus of the bricks with these indexes
abbrev pub IsBelowAll : List Menu → ℕ → ℕ → Layer → Type 0
IsBelowAll menus from to changes =
    (i : ℕ) (menu : Menu) → from ≤ i → i < to → slice_get menus i ≡ Some menu → IsBelow changes menu

-- sixteen bricks make a block; what is kept of one is below the menus of its bricks
pub record AreInBlocks (menus : List Menu) (blocks : List (Option Layer)) : Type 0 where
  pub count : length menus ≤ 16 * length blocks
  pub each : (block : ℕ) (changes : Layer) → slice_get blocks block ≡ Some (Some changes) →
      IsBelowAll menus (16 * block) (16 * block + 16) changes

-- no move of the bricks with these indexes lowers a cell
abbrev pub AreIdleFrom : List Vector → Layer → Layer → List Menu → ℕ → ℕ → Type 0
AreIdleFrom zs live layer menus from to =
    (i : ℕ) (menu : Menu) → from ≤ i → i < to → slice_get menus i ≡ Some menu → AreIdle zs live layer menu
