-- What the linking rows miss after a step along a sum, row by row.
use Rattle.std.proofs.Common.{◌≡◌, ℕ, zero, suc, ◌+◌, ◌-◌, ◌^◌, ◌<◌, ◌≤◌, ℤ, pos, ◌-ℤ◌, ◌*ℤ◌, unsigned_abs, List, []}
use Rattle.std.proofs.Common.{◌∷◌, ◌++◌, length, map, take, get_or, sum, refl, arith, Option, Some, slice_get, ap, ◌∙◌}
use Rattle.std.proofs.Common.{sym, option_map}
use Rattle.std.proofs.lemmas.List.{take_all}
use Rattle.std.proofs.lemmas.List.Sums.{sum_by_more}
use Rattle.std.proofs.lemmas.Option.{slice_get-map}
use Rattle.lattice_theory.specs.Vectors.{Vector, dot, sub, scale}
use Rattle.lattice_theory.specs.Matrices.{Matrix, product}
use Rattle.fold_theory.specs.Programs.{Program, dist, link_miss, link_misses}
use Rattle.lattice_laws.proofs.Places.{slice_get-All}
use Rattle.fold_laws.proofs.Rests.{misses-at, few_misses}
use Rattle.fold_program.specs.Places.{OfRow}
use Rattle.walk_ends.specs.Steps.{IsSmallStep}

-- what one row misses after a step
pub left-at : (l : ℤ) (rests : Vector) (rows : List Vector) (w row : Vector) (at : ℕ) → at < length rests →
    slice_get rows at ≡ Some row →
    get_or (sub rests (scale l (map (λ r. dot r w) rows))) at (pos 0) ≡ get_or rests at (pos 0) -ℤ l *ℤ dot row w
left-at l [] rows w row at low there = absurd (omega arith)
left-at l (r ∷ rests) [] w row at low there = absurd (cc)
left-at l (r ∷ rests) (u ∷ rows) w row zero low there = let same : u ≡ row = cc in ap (λ v. r -ℤ l *ℤ dot v w) same
left-at l (r ∷ rests) (u ∷ rows) w row (suc at) low there = left-at l rests rows w row at (omega arith) there

pub length-lefts : (l : ℤ) (rests : Vector) (rows : List Vector) (w : Vector) → length rests ≡ length rows →
    length (sub rests (scale l (map (λ r. dot r w) rows))) ≡ length rests
length-lefts l [] rows w same = refl
length-lefts l (r ∷ rests) [] w same = absurd (omega arith)
length-lefts l (r ∷ rests) (u ∷ rows) w same = ap suc (length-lefts l rests rows w (omega arith))

-- ---- what the rows miss

-- what the rows miss after a step along the sum
abbrev pub lefts : ℕ → Vector → Matrix → Vector → Vector
lefts k rests m w = sub rests (scale (pos (2 ^ k)) (product m w))

-- one more row
pub missed-more : (p : Program) (k : ℕ) (rests w row : Vector) (at : ℕ) (missed next miss : ℕ) (left : ℤ) →
    at < length rests → length rests ≡ length p.link.rows →
    slice_get p.link.rows at ≡ Some row → left ≡ get_or rests at (pos 0) -ℤ pos (2 ^ k) *ℤ dot row w →
    OfRow p (at + 1) (λ relation. miss ≡ dist relation left) →
    next ≡ missed + miss → missed ≡ sum (take at (link_misses p (lefts k rests p.link w))) →
    next ≡ sum (take (at + 1) (link_misses p (lefts k rests p.link w)))
missed-more p k rests w row at missed next miss left low same there is relation added so_far =
    let whole : Vector = lefts k rests p.link w in
    let entry : get_or whole at (pos 0) ≡ left = left-at (pos (2 ^ k)) rests p.link.rows w row at low there ∙ sym is in
    let inside : at < length whole = omega (arith, low, length-lefts (pos (2 ^ k)) rests p.link.rows w same) in
    let place : at + 1 - 1 ≡ at = omega arith in
    let found = misses-at p.relations whole at relation.0 (ap (slice_get p.relations) (sym place) ∙ relation.1) inside
    in
    let here : get_or (link_misses p whole) at 0 ≡ miss = found.1 ∙ ap (dist relation.0) entry ∙ sym relation.2 in
    omega (arith, added, so_far, here, sum_by_more (λ m. m) (link_misses p whole) at 0 found.0)

-- all rows
pub missed-all : (p : Program) (k : ℕ) (rests w : Vector) (at missed : ℕ) → length rests ≡ length p.link.rows →
    length rests ≤ at →
    missed ≡ sum (take at (link_misses p (lefts k rests p.link w))) → missed ≡ link_miss p (lefts k rests p.link w)
missed-all p k rests w at missed same all so_far =
    let whole : Vector = lefts k rests p.link w in
    let few : length (link_misses p whole) ≤ at =
    omega (arith, all, few_misses p.relations whole, length-lefts (pos (2 ^ k)) rests p.link.rows w same) in
    so_far ∙ ap (λ xs. sum xs) (take_all at (link_misses p whole) few)

-- what a small step changes a row by is small
pub step-at : (p : Program) (k : ℕ) (w row : Vector) (at : ℕ) → IsSmallStep p k w →
    slice_get p.link.rows at ≡ Some row → unsigned_abs (pos (2 ^ k) *ℤ dot row w) ≤ 2 ^ 113
step-at p k w row at small there =
    slice_get-All (λ a. unsigned_abs a ≤ 2 ^ 113) (scale (pos (2 ^ k)) (product p.link w)) at
    (pos (2 ^ k) *ℤ dot row w) entry small
  where
    entry : slice_get (scale (pos (2 ^ k)) (product p.link w)) at ≡ Some (pos (2 ^ k) *ℤ dot row w)
    entry =
        slice_get-map (λ a. pos (2 ^ k) *ℤ a) (product p.link w) at
        ∙ ap (option_map (λ a. pos (2 ^ k) *ℤ a)) (slice_get-map (λ r. dot r w) p.link.rows at
        ∙ ap (option_map (λ r. dot r w)) there)
