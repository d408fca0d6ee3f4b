-- Points of several bricks: the way from one to another, and parts of it.
use Rattle.std.specs.List.{AllZip}
use Rattle.lattice_theory.specs.Lists.{zip_with}
use Rattle.lattice_theory.specs.Vectors.{Vector, ◌⊑◌, add, sub}
use Rattle.lattice_theory.specs.Matrices.{product}
use Rattle.lattice_laws.specs.VectorLists.{sum_of}
use Rattle.fold_theory.specs.Programs.{Program, Bricks}

-- the points x + h and y - h
abbrev pub forth : Bricks → Bricks → Bricks
forth x h = zip_with add x h

abbrev pub back : Bricks → Bricks → Bricks
back y h = zip_with sub y h

-- the way from x to y in each brick
abbrev pub way : Bricks → Bricks → Bricks
way x y = back y x

-- each brick of h is conformally below the brick of the way
abbrev pub ArePartsOf : Bricks → Bricks → Bricks → Type 0
ArePartsOf h x y = AllZip ◌⊑◌ h (way x y)

-- what a move changes the linking rows by
abbrev pub image : Program → Bricks → Vector
image p h = product p.link (sum_of p.brick.cols h)

-- h is a part of the way, by its bricks and by what it changes the linking rows by
pub record IsPartOfWay (p : Program) (x y h : Bricks) : Type 0 where
  pub bricks : ArePartsOf h x y
  pub links : image p h ⊑ image p (way x y)
