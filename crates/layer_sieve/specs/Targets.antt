-- Where moves lead from sums.
use Rattle.std.specs.Prelude.{◌≡◌, ◌≤◌, ◌⊎◌, ℕ, ℤ, pos, neg_ℤ, ◌^◌, ◌≤ℤ◌, ◌<ℤ◌, List, length, All, Option, Some, Vec}
use Rattle.std.specs.Prelude.{slice_get}
use Rattle.std.specs.declared.alloc.Global.{Global}
use Rattle.lattice_theory.specs.Vectors.{Vector}
use Rattle.lattice_theory.specs.SignedSums.{Sum, vectors}
use Rattle.sieve_laws.specs.Sieve.{IsTarget}
use Rattle.brick_sums.specs.Places.{width}

-- the place to which the move at place h leads from each sum
pub record IsTargetRow (zs : List Vector) (h : ℕ) (row : List (Option ℕ)) : Type 0 where
  pub size : length row ≡ length zs
  pub each : (w : ℕ) (to : Option ℕ) → slice_get row w ≡ Some to → IsTarget zs h w to

-- an entry that a word holds
abbrev pub IsWord : ℤ → Type 0
IsWord a = (neg_ℤ (pos (2 ^ 63)) ≤ℤ a) × (a <ℤ pos (2 ^ 63))

-- the same for each move that has a row
abbrev pub AreTargets : List Vector → List (Vec (Option ℕ) Global) → Type 0
AreTargets zs rows =
    (h : ℕ) (row : Vec (Option ℕ) Global) → slice_get rows h ≡ Some row → IsTargetRow zs h row.items

-- the same for sums of words, all of one width, of which each has a row unless they are narrow
pub record AreTargetsOf (sums : List Sum) (rows : List (Vec (Option ℕ) Global)) : Type 0 where
  pub targets : AreTargets (vectors sums) rows
  pub words : All (All IsWord) (vectors sums)
  pub widths : All (λ v. length v ≡ width sums) (vectors sums)
  pub all : (length rows ≡ length sums) ⊎ (width sums ≤ 32)
