-- The bricks of a program and of a point within its bounds, place by place.
use Rattle.std.proofs.Common.{◌≡◌, ℕ, zero, suc, ◌≤ℤ◌, List, [], ◌∷◌, length, refl, ap, sym, ◌∙◌, All, Some, slice_get}
use Rattle.std.proofs.lemmas.Option.{same_Some}
use Rattle.std.proofs.lemmas.List.Elements.{All-nil, All-cons, All-head, All-tail, All-contains, length_all_zip}
use Rattle.lattice_theory.specs.Vectors.{Vector}
use Rattle.fold_theory.specs.Programs.{Program, Brick, Bricks, IsProgram, IsBrick, IsWithin, AreWithin}
use Rattle.lattice_laws.proofs.Places.{contains_at}

-- a brick of a program is a brick
pub brick_at : (p : Program) (place : ℕ) (b : Brick) → IsProgram p → slice_get p.bricks place ≡ Some b →
    IsBrick p.link.cols (length p.brick.rows) b
brick_at p place b program there =
    All-contains (IsBrick p.link.cols (length p.brick.rows)) p.bricks b program.each_brick
    (contains_at p.bricks place b there)

-- a point within the bounds has a vector for each brick
pub point-length : (bs : List Brick) (x : Bricks) → AreWithin bs x → length x ≡ length bs
point-length [] [] within = refl
point-length [] (v ∷ x) within = absurd within
point-length (b ∷ bs) [] within = absurd within
point-length (b ∷ bs) (v ∷ x) within = ap suc (point-length bs x within.1)

-- each vector of a point within the bounds has an entry for each column
pub widths_within : (t s : ℕ) (bs : List Brick) (x : Bricks) → All (IsBrick t s) bs → AreWithin bs x →
    All (λ v. length v ≡ t) x
widths_within t s [] [] fit within = All-nil (λ v. length v ≡ t)
widths_within t s [] (v ∷ x) fit within = absurd within
widths_within t s (b ∷ bs) [] fit within = absurd within
widths_within t s (b ∷ bs) (v ∷ x) fit within =
    let here : length v ≡ t = sym (length_all_zip ◌≤ℤ◌ b.lower v within.0.0)
    ∙ (All-head (IsBrick t s) b bs fit).lower_size in
    All-cons (λ v. length v ≡ t) v x here (widths_within t s bs x (All-tail (IsBrick t s) b bs fit) within.1)

-- a brick of a point within the bounds is within its own
pub within_at : (bs : List Brick) (x : Bricks) (i : ℕ) (b : Brick) (v : Vector) → AreWithin bs x →
    slice_get bs i ≡ Some b → slice_get x i ≡ Some v → IsWithin b v
within_at [] x i b v within brick vector = absurd (cc)
within_at (d ∷ bs) [] i b v within brick vector = absurd within
within_at (d ∷ bs) (w ∷ x) zero b v within brick vector =
    let same : d ≡ b = same_Some d b brick in
    let here : w ≡ v = same_Some w v vector in
    rw (sym same, sym here) within.0
within_at (d ∷ bs) (w ∷ x) (suc i) b v within brick vector = within_at bs x i b v within.1 brick vector
