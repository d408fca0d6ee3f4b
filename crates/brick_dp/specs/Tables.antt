-- All layers of a fold, from the last one to the first.
use Rattle.std.specs.Prelude.{◌≡◌, ℕ, ◌+◌, ◌-◌, ◌*◌, ◌^◌, ◌≤◌, ℤ, pos, ◌-ℤ◌, unsigned_abs, List, length, reverse, drop}
use Rattle.std.specs.Prelude.{sum_by, Contains, Option, Some, slice_get}
use Rattle.lattice_theory.specs.SignedSums.{vectors}
use Rattle.lattice_theory.specs.Vectors.{Vector, zeros}
use Rattle.fold_theory.specs.Programs.{Program, Bricks, link_rests}
use Rattle.fold_program.specs.Refusals.{brick_magnitude}
use Rattle.run_theory.specs.Certificates.{Table}
use Rattle.run_theory.specs.Folds.{FoldValue}
use Rattle.run_theory.specs.Live.{least_before}
use Rattle.run_theory.specs.Walks.{WalkCosts}
use Rattle.sieve_laws.specs.Sieve.{Layer, IsLayerUnder}

-- no walk from layer i to the end costs more than this in absolute value
abbrev pub most_from : Program → ℕ → ℕ
most_from p i = 2 * sum_by brick_magnitude (drop i p.bricks) + 2 ^ 118

-- a walk from a sum in layer i to the end by these moves costs this much
abbrev pub CostsFrom : FoldValue → Bricks → ℕ → ℕ → Vector → Bricks → ℤ → Type 0
CostsFrom f x k i w h c =
    WalkCosts f.program f.phase (vectors f.sums) k (link_rests f.program x) (drop i f.program.bricks) (drop i x) w h c

-- and by whatever moves, at most so much in absolute value
abbrev pub AreWalksSmall : FoldValue → Bricks → ℕ → ℕ → Type 0
AreWalksSmall f x k i =
    (w : Vector) (h : Bricks) (c : ℤ) → Contains (vectors f.sums) w → CostsFrom f x k i w h c →
    unsigned_abs c ≤ most_from f.program i

-- the most that a walk from layer i costs that ends a step which gains so much
abbrev pub limit_at : FoldValue → Bricks → ℕ → ℤ → ℕ → ℤ
limit_at f x k need i = (pos 0 -ℤ need) -ℤ least_before f.program f.phase (vectors f.sums) x k i

-- costs of walks from the sums in layer i to the end, the least ones where they end a step that gains so much
pub record IsLayer (f : FoldValue) (x : Bricks) (k i : ℕ) (need : ℤ) (layer : Layer) : Type 0 where
  pub under : IsLayerUnder f.program f.phase (vectors f.sums) k (link_rests f.program x) (drop i f.program.bricks)
      (drop i x) (limit_at f x k need i) layer
  pub small : AreWalksSmall f x k i

-- so many layers, from the last one back
pub record AreLayers (f : FoldValue) (x : Bricks) (k n : ℕ) (need : ℤ) (layers : List Layer) : Type 0 where
  pub size : length layers ≡ n
  pub each : (m : ℕ) (layer : Layer) → slice_get layers m ≡ Some layer →
      IsLayer f x k (length f.program.bricks - m) need layer

-- so many layers of least costs, whatever a step is to gain
abbrev pub AreLeastLayers : FoldValue → Bricks → ℕ → ℕ → List Layer → Type 0
AreLeastLayers f x k n layers = (need : ℤ) → AreLayers f x k n need layers

-- walks from zero in the first layer cost this much
pub record IsFirstCost (f : FoldValue) (layers : List Layer) (cost : ℤ) : Type 0 where
  pub at : ℕ
  pub zero : slice_get (vectors f.sums) at ≡ Some (zeros f.program.brick.cols)
  pub layer : Layer
  pub there : slice_get layers (length f.program.bricks) ≡ Some layer
  pub cell : slice_get layer at ≡ Some (Some cost)

-- the costs of all layers, from the first one to the last
abbrev pub table_of : ℕ → List Layer → Table
table_of cols layers = record { cols = cols; rows = reverse layers }

-- the cell of this layer and place
abbrev pub IsCell : Table → ℕ → ℕ → Option ℤ → Type 0
IsCell t layer i cell = (row : List (Option ℤ)) × (slice_get t.rows layer ≡ Some row) × (slice_get row i ≡ Some cell)
