-- What a point breaks, in order: the bounds, the rows of the bricks, the linking rows.
use Rattle.std.specs.Prelude.{ℕ, suc, int_lt, unsigned_abs, nat_eq, List, [], ◌∷◌, ◌++◌, map, cond, Option, Some, None}
use Rattle.fold_theory.specs.declared.Broken.{Broken}
use Rattle.fold_theory.specs.declared.Broken.TheVariants.{Below, Above, BrickRow, LinkRow}
use Rattle.lattice_theory.specs.Vectors.{Vector}
use Rattle.fold_theory.specs.Programs.{Program, Brick, Bricks, brick_rests, link_rests, link_misses}

-- the bounds that brick i breaks, from column j on
abbrev pub bound_breaks : ℕ → ℕ → Vector → Vector → Vector → List Broken
bound_breaks i j [] upper v = []
bound_breaks i j (l ∷ lower) [] v = []
bound_breaks i j (l ∷ lower) (u ∷ upper) [] = []
bound_breaks i j (l ∷ lower) (u ∷ upper) (a ∷ v) =
    cond (int_lt a l) (Below i j ∷ []) [] ++ cond (int_lt u a) (Above i j ∷ []) []
    ++ bound_breaks i (suc j) lower upper v

-- the rows, from number j on, that are this far from being met and not 0
abbrev pub row_breaks : (ℕ → Broken) → ℕ → List ℕ → List Broken
row_breaks name j [] = []
row_breaks name j (miss ∷ misses) = cond (nat_eq miss 0) [] (name j ∷ []) ++ row_breaks name (suc j) misses

-- f of each brick, its vector and its number, from number i on
abbrev pub over_bricks : (ℕ → Brick → Vector → List Broken) → ℕ → List Brick → Bricks → List Broken
over_bricks f i [] x = []
over_bricks f i (b ∷ bs) [] = []
over_bricks f i (b ∷ bs) (v ∷ x) = f i b v ++ over_bricks f (suc i) bs x

-- all that the point breaks, in order
abbrev pub breaks : Program → Bricks → List Broken
breaks p x =
    over_bricks (λ i b v. bound_breaks i 1 b.lower b.upper v) 1 p.bricks x
    ++ over_bricks (λ i b v. row_breaks (BrickRow i) 1 (map unsigned_abs (brick_rests p b v))) 1 p.bricks x
    ++ row_breaks LinkRow 1 (link_misses p (link_rests p x))

abbrev pub first_of : {A : Type 0} → List A → Option A
first_of [] = None
first_of (a ∷ rest) = Some a

-- the first thing that the point breaks
abbrev pub first_break : Program → Bricks → Option Broken
first_break p x = first_of (breaks p x)
