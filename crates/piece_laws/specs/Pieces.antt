-- Pieces of the way between two points, and steps of length 1.
use Rattle.std.specs.Prelude.{◌≡◌, ◌<◌, List, length, Contains}
use Rattle.std.specs.List.{AllZip, AllByRecursion}
use Rattle.lattice_theory.specs.Vectors.{Vector, ◌⊑◌, zeros}
use Rattle.lattice_theory.specs.Matrices.{product}
use Rattle.lattice_laws.specs.VectorLists.{AreSized, weight}
use Rattle.fold_theory.specs.declared.Phase.{Phase}
use Rattle.fold_theory.specs.Programs.{Program, Bricks, AreWithin}
use Rattle.run_theory.specs.Steps.{partial_sums, AllowsEnd}
use Rattle.piece_laws.specs.Points.{forth, image}

-- no brick row changes
abbrev pub IsStill : Program → Bricks → Type 0
IsStill p h = AllByRecursion (λ v. product p.brick v ≡ zeros (length p.brick.rows)) h

-- a piece of a way: a move that is not 0, of listed vectors and listed first sums, which is below the way in each
-- brick, changes no brick row, and changes the linking rows by a part of what the way does
pub record Piece (p : Program) (zs : List Vector) (ds : Bricks) : Type 0 where
  pub move : Bricks
  pub nonzero : 0 < weight move
  pub below : AllZip ◌⊑◌ move ds
  pub moves : AllByRecursion (Contains zs) move
  pub sums : AllByRecursion (Contains zs) (partial_sums (zeros p.brick.cols) move)
  pub still : IsStill p move
  pub links : image p move ⊑ image p ds

-- a step of length 1 from x by listed vectors and listed first sums, which the bounds and the phase allow
pub record IsUnitStep (p : Program) (phase : Phase) (zs : List Vector) (x h : Bricks) : Type 0 where
  pub size : length h ≡ length x
  pub sized : AreSized p.brick.cols h
  pub moves : AllByRecursion (Contains zs) h
  pub sums : AllByRecursion (Contains zs) (partial_sums (zeros p.brick.cols) h)
  pub within : AreWithin p.bricks (forth x h)
  pub end : AllowsEnd p phase (forth x h)
