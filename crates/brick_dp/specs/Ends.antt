-- What walks cost at their ends.
use Rattle.std.specs.Prelude.{◌≡◌, ℕ, ◌^◌, ℤ, pos, length, Option, Some, slice_get}
use Rattle.lattice_theory.specs.Vectors.{Vector, scale}
use Rattle.lattice_theory.specs.Matrices.{product}
use Rattle.lattice_theory.specs.SignedSums.{vectors}
use Rattle.run_theory.specs.Folds.{FoldValue}
use Rattle.run_theory.specs.Walks.{end_cost}
use Rattle.sieve_laws.specs.Sieve.{Layer}
use Rattle.layer_sieve.specs.Reaching.{AreAtMost}

-- what walks cost that end at this sum, where the rows miss their right sides by these rests
abbrev pub ending : FoldValue → ℕ → Vector → Vector → Option ℤ
ending f k rests w = end_cost f.program f.phase rests (scale (pos (2 ^ k)) (product f.program.link w))

-- the last layer
pub record IsLastLayer (f : FoldValue) (k : ℕ) (rests : Vector) (layer : Layer) : Type 0 where
  pub size : length layer ≡ length (vectors f.sums)
  pub cells : (i : ℕ) (w : Vector) (cell : Option ℤ) → slice_get (vectors f.sums) i ≡ Some w →
      slice_get layer i ≡ Some cell → cell ≡ ending f k rests w
  pub small : AreAtMost (2 ^ 118) layer
