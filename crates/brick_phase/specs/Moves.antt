-- What steps of a program's bricks are made of.
use Rattle.std.specs.Prelude.{◌≡◌, ◌<◌, ◌≤◌, ◌↔◌, ℕ, ℤ, List, [], ◌∷◌, map, length, All, Vec}
use Rattle.std.specs.declared.alloc.Global.{Global}
use Rattle.lattice_theory.specs.Vectors.{Vector, opposite}
use Rattle.lattice_theory.specs.Lattices.{first_parts}
use Rattle.lattice_theory.specs.BasisLimits.{IsNarrow}
use Rattle.fold_theory.specs.Programs.{Program, IsLength}
use Rattle.brick_phase.specs.declared.moves.Moves.{Moves}

-- the vectors that are kept, in order
abbrev pub vectors : List (Vec ℤ Global) → List Vector
vectors kept = map (λ v. v.items) kept

-- each vector, and its opposite after it
abbrev pub with_opposites : List Vector → List Vector
with_opposites [] = []
with_opposites (v ∷ vs) = v ∷ opposite v ∷ with_opposites vs

-- the vectors are the first parts of the elements and their opposites, and there are as many lengths as the program has
pub record AreMoves (p : Program) (basis : List Vector) (m : Moves) : Type 0 where
  pub parts : vectors m.vectors.items ≡ with_opposites (first_parts p.brick.cols basis)
  pub sizes : All (λ v. (length v ≡ p.link.cols) × IsNarrow v) (vectors m.vectors.items)
  pub lengths : (k : ℕ) → (k < m.lengths) ↔ IsLength p k
  pub few : m.lengths ≤ 64
