-- Facts of one brick or one linking row of a program, by its number.
use Rattle.std.specs.Prelude.{◌≡◌, ℕ, ◌-◌, ℤ, Some, slice_get}
use Rattle.fold_theory.specs.declared.Cost.{Cost}
use Rattle.fold_theory.specs.declared.Relation.{Relation}
use Rattle.fold_theory.specs.Programs.{Program, Brick}
use Rattle.lattice_theory.specs.Vectors.{IsBoundedRow}

-- there is a brick of this number, from 1, and this holds of it
abbrev pub OfBrick : Program → ℕ → (Brick → Type 0) → Type 0
OfBrick p i P = (b : Brick) × (slice_get p.bricks (i - 1) ≡ Some b) × P b

-- this holds of the brick of this number, from 1, if there is one
abbrev pub ForBrick : Program → ℕ → (Brick → Type 0) → Type 0
ForBrick p i P = (b : Brick) → slice_get p.bricks (i - 1) ≡ Some b → P b

-- each bound of the brick is at most 2 ^ 62 in absolute value
abbrev pub HasBoundedSides : Brick → Type 0
HasBoundedSides b = IsBoundedRow b.lower × IsBoundedRow b.upper

-- there is a column of this number in that brick, and this holds of its lower bound, its upper bound and its cost
abbrev pub OfColumn : Program → ℕ → ℕ → (ℤ → ℤ → Cost → Type 0) → Type 0
OfColumn p i j P =
    (b : Brick) × (lower : ℤ) × (upper : ℤ) × (cost : Cost) × (slice_get p.bricks (i - 1) ≡ Some b)
    × (slice_get b.lower (j - 1) ≡ Some lower) × (slice_get b.upper (j - 1) ≡ Some upper) × (slice_get b.costs (j - 1)
    ≡ Some cost)
    × P lower upper cost

-- there is a linking row of this number, and this holds of its relation
abbrev pub OfRow : Program → ℕ → (Relation → Type 0) → Type 0
OfRow p i P = (relation : Relation) × (slice_get p.relations (i - 1) ≡ Some relation) × P relation
