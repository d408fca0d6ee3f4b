-- One brick of a program, by its number, and its columns, by their bounds.
use Rattle.std.proofs.Common.{◌≡◌, ℕ, ◌-◌, ◌^◌, ◌<◌, ◌≤◌, ℤ, pos, unsigned_abs, List, [], ◌∷◌, length, sum_by, get_or}
use Rattle.std.proofs.Common.{◌∙◌, ap, arith, sym, subst, All, Some, slice_get}
use Rattle.std.proofs.lemmas.List.Sums.{sum_by_more_le}
use Rattle.std.proofs.lemmas.Option.{slice_get_within, slice_get-get_or, get_or_from_slice_get}
use Rattle.fold_theory.specs.declared.Cost.{Cost}
use Rattle.fold_theory.specs.declared.Cost.TheVariants.{Quadratic}
use Rattle.fold_theory.specs.Programs.{Program, Brick, IsBrick, IsProgram}
use Rattle.lattice_laws.proofs.Places.{same_value}
use Rattle.fold_laws.proofs.Points.{brick_at}
use Rattle.fold_program.specs.Refusals.{brick_magnitude, total_magnitude}
use Rattle.fold_program.specs.Places.{OfBrick, ForBrick, OfColumn}
use Rattle.fold_program.proofs.ViewLaws.{same_some}

-- what holds of a brick of this number holds of the one that stands there
pub for_brick : (p : Program) (i : ℕ) (P : Brick → Type 0) → OfBrick p i P → ForBrick p i P
for_brick p i P found b there = subst P (same_value _ found.0 b found.1 there) found.2

-- there is a brick of each number, and it fits
pub brick_there : (p : Program) (i : ℕ) → IsProgram p → 1 ≤ i → i ≤ length p.bricks →
    (b : Brick) × (slice_get p.bricks (i - 1) ≡ Some b) × IsBrick p.link.cols (length p.brick.rows) b
brick_there p i program from to = by p.bricks (i - 1) (omega arith) program.each_brick
  where
    by : (bs : List Brick) (k : ℕ) → k < length bs → All (IsBrick p.link.cols (length p.brick.rows)) bs →
        (b : Brick) × (slice_get bs k ≡ Some b) × IsBrick p.link.cols (length p.brick.rows) b
    by [] k low fit = absurd (omega arith)
    by (b ∷ bs) k low fit = (get_or (b ∷ bs) k b, slice_get-get_or (b ∷ bs) k b low, fit k b low)

-- the magnitude of one brick is at most that of all
pub brick_in_total : (bs : List Brick) (k : ℕ) (b : Brick) → slice_get bs k ≡ Some b →
    brick_magnitude b ≤ sum_by brick_magnitude bs
brick_in_total bs k b there =
    let whole = sum_by_more_le brick_magnitude bs k b (slice_get_within bs k b there) in
    omega (arith, whole, ap brick_magnitude (get_or_from_slice_get bs k b b there))

-- what is at most the magnitude of a brick is at most 2 ^ 120
pub small_in_total : (p : Program) (i : ℕ) (a : ℤ) → total_magnitude p ≤ 2 ^ 120 →
    OfBrick p i (λ b. unsigned_abs a ≤ brick_magnitude b) → unsigned_abs a ≤ 2 ^ 120
small_in_total p i a most found = omega (arith, most, found.2, brick_in_total p.bricks (i - 1) found.0 found.1)

-- a column with these bounds has a cost
pub column_of_bounds : (p : Program) (i j : ℕ) (l u : ℤ) (P : ℤ → ℤ → Cost → Type 0) → IsProgram p →
    OfBrick p i (λ b. slice_get b.lower (j - 1) ≡ Some l) → OfBrick p i (λ b. slice_get b.upper (j - 1) ≡ Some u) →
    ((c : Cost) → P l u c) → OfColumn p i j P
column_of_bounds p i j l u P program (b, there, low) (d, here, high) holds =
    let same : d ≡ b = same_some d b (sym here ∙ there) in
    let fits = brick_at p (i - 1) b program there in
    let within : j - 1 < length b.lower = slice_get_within b.lower (j - 1) l low in
    let none = Quadratic (pos 0) (pos 0) (pos 0) in
    let cost = get_or b.costs (j - 1) none in
    let is : slice_get b.costs (j - 1) ≡ Some cost =
    slice_get-get_or b.costs (j - 1) none (omega (arith, fits.costs_size, fits.lower_size)) in
    (b, l, u, cost, there, low, subst (λ (a : Brick). slice_get a.upper (j - 1) ≡ Some u) same high, is, holds cost)
