-- What contracts see of what a program keeps.
use Rattle.std.proofs.Common.{◌≡◌, ℕ, ℤ, ◌+◌, ◌-◌, ◌*◌, ◌<◌, ◌≤◌, length, take, drop, ap, arith, sym, ◌∙◌, Option, Some}
use Rattle.std.proofs.Common.{None, IfSome, slice_get, map, subst, List, [], ◌∷◌, zero, suc, refl, flat_map, All}
use Rattle.std.proofs.lemmas.List.{append-nil, drop-drop}
use Rattle.std.proofs.Math.Nat.{mul-le-mul_right}
use Rattle.lattice_theory.specs.Vectors.{Vector}
use Rattle.fold_theory.specs.Programs.{Program, Brick}
use Rattle.fold_program.specs.Parts.{all_entries}
use Rattle.fold_program.specs.Places.{HasBoundedSides}
use Rattle.fold_program.specs.declared.program.Program.TheInside.{Inside}
use Rattle.fold_program.specs.Kept.{IsKept, kept_program}
use Rattle.fold_program.proofs.BrickLaws.{length_bricks_from, bricks_bounded, brick_from_at, IsBrickOf}

pub bricks_are : (p : Inside) (q : Program) → IsKept p → kept_program p ≡ q → length q.bricks ≡ length p.lower.rows
bricks_are p q kept view =
    sym (ap (λ (v : Program). length v.bricks) view)
    ∙ length_bricks_from _ _ p.lower.rows p.upper.rows _ _ kept.upper_rows

pub sides_are_bounded : (p : Inside) (q : Program) → IsKept p → kept_program p ≡ q → All HasBoundedSides q.bricks
sides_are_bounded p q kept view =
    subst (λ (v : Program). All HasBoundedSides v.bricks) view
    (bricks_bounded _ _ p.lower.rows p.upper.rows _ _ kept.lower_bounded kept.upper_bounded)

pub links_are : (p : Inside) (q : Program) → IsKept p → kept_program p ≡ q → q.link ≡ p.link
links_are p q kept view = sym (ap (λ (v : Program). v.link) view)

pub brick_rows_are : (p : Inside) (q : Program) → IsKept p → kept_program p ≡ q → q.brick ≡ p.brick
brick_rows_are p q kept view = sym (ap (λ (v : Program). v.brick) view)

-- what is true of the brick at place i
abbrev pub IsKeptBrick : Inside → ℕ → Brick → Type 0
IsKeptBrick p i b =
    IsBrickOf p.link.cols (length p.brick.rows) p.lower.rows p.upper.rows
    (drop (length p.link.rows) (all_entries p.right)) (map (λ c. c.cost) p.costs.items) i b

pub brick_at : (p : Inside) (q : Program) (i : ℕ) → IsKept p → kept_program p ≡ q → i < length q.bricks →
    (b : Brick) × (slice_get q.bricks i ≡ Some b) × IsKeptBrick p i b
brick_at p q i kept view inside =
    subst (λ (v : Program). (b : Brick) × (slice_get v.bricks i ≡ Some b) × IsKeptBrick p i b) view
    (brick_from_at _ _ _ _ _ _ i kept.upper_rows (omega (arith, bricks_are p q kept view)))

pub same_some : {A : Type 0} → (a b : A) → Some a ≡ Some b → a ≡ b
same_some a b e = cc

-- an entry of a row that is there
pub entry_of : (o : Option Vector) (row : Vector) (j : ℕ) (a : ℤ) → o ≡ Some row →
    IfSome o (λ entries. slice_get entries j ≡ Some a) → slice_get row j ≡ Some a
entry_of None row j a e h = absurd (cc)
entry_of (Some r) row j a e h = let s : r ≡ row = same_some r row e in ap (λ (v : Vector). slice_get v j) (sym s) ∙ h

pub slice_get-take : {A : Type 0} → (n : ℕ) (xs : List A) (i : ℕ) → i < n → slice_get (take n xs) i ≡ slice_get xs i
slice_get-take zero xs i inside = absurd (omega arith)
slice_get-take (suc n) [] i inside = refl
slice_get-take (suc n) (x ∷ xs) zero inside = refl
slice_get-take (suc n) (x ∷ xs) (suc i) inside = slice_get-take n xs i (omega arith)

-- the entries of a matrix of one row are that row
pub one_row : (rows : List Vector) (row : Vector) → length rows ≡ 1 → slice_get rows 0 ≡ Some row →
    flat_map (λ r. r) rows ≡ row
one_row [] row one there = absurd (cc)
one_row (x ∷ []) row one there = append-nil x ∙ same_some x row there
one_row (x ∷ y ∷ rows) row one there = absurd (omega arith)

-- the right sides of the brick at place i, among all right sides
pub right_part : (rows : List Vector) (row now : Vector) (r s i : ℕ) → length rows ≡ 1 → slice_get rows 0 ≡ Some row →
    now ≡ row →
    take (r + i * s + s - (r + i * s)) (drop (r + i * s) now) ≡ take s (drop (i * s) (drop r (flat_map (λ x. x) rows)))
right_part rows row now r s i one there same =
    let width : r + i * s + s - (r + i * s) ≡ s = omega arith in
    rw (width, same, one_row rows row one there, drop-drop (i * s) r row) refl

-- they end within all right sides
pub right_fits : (r s i n : ℕ) → i < n → r + i * s + s ≤ r + n * s
right_fits r s i n inside =
    let m : suc i * s ≤ n * s = mul-le-mul_right s inside in omega (arith, m)
