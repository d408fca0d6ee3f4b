-- What a point misses of the linking rows, row by row.
use Rattle.std.proofs.Common.{◌≡◌, ℕ, ◌+◌, ◌-◌, ◌≤◌, ℤ, pos, negsuc, ◌-ℤ◌, ◌<ℤ◌, ◌≤ℤ◌, unsigned_abs, List, [], ◌∷◌}
use Rattle.std.proofs.Common.{length, drop, map, sum, refl, ap, arith, sym, ◌∙◌, Some, slice_get}
use Rattle.std.proofs.lemmas.Int.{ints}
use Rattle.std.proofs.lemmas.List.{drop_all}
use Rattle.std.proofs.lemmas.List.Sums.{sum_by-cons}
use Rattle.lattice_theory.specs.Lists.{zip_with, total}
use Rattle.lattice_theory.specs.Vectors.{Vector, dot}
use Rattle.fold_theory.specs.declared.Relation.TheVariants.{Less, Greater}
use Rattle.fold_theory.specs.Programs.{Program, Bricks, dist, link_rests, link_misses}
use Rattle.lattice_laws.proofs.Places.{drop-at}
use Rattle.fold_program.specs.Places.{OfRow}
use Rattle.fold_program.proofs.BreakLaws.{length-zip_with}
use Rattle.fold_program.proofs.SumLaws.{zip_with-at}

-- what a row that is to be at most its right side misses
pub dist_below : (rest : ℤ) → rest <ℤ pos 0 → dist Less rest ≡ unsigned_abs rest
dist_below (pos n) below = absurd (omega (arith, ints, below))
dist_below (negsuc n) below = refl

pub dist_not_below : (rest : ℤ) → pos 0 ≤ℤ rest → dist Less rest ≡ 0
dist_not_below (pos n) above = refl
dist_not_below (negsuc n) above = absurd (omega (arith, ints, above))

-- what a row that is to be at least its right side misses
pub dist_above : (rest : ℤ) → pos 0 <ℤ rest → dist Greater rest ≡ unsigned_abs rest
dist_above (pos n) above = refl
dist_above (negsuc n) above = absurd (omega (arith, ints, above))

pub dist_not_above : (rest : ℤ) → rest ≤ℤ pos 0 → dist Greater rest ≡ 0
dist_not_above (pos n) below = omega (arith, ints, below)
dist_not_above (negsuc n) below = refl

-- what row i misses stands at its place among what all rows miss
pub miss_there : (p : Program) (rests : Vector) (i : ℕ) (rest : ℤ) (miss : ℕ) →
    OfRow p i (λ relation. miss ≡ dist relation rest) → slice_get rests (i - 1) ≡ Some rest →
    slice_get (link_misses p rests) (i - 1) ≡ Some miss
miss_there p rests i rest miss row there =
    zip_with-at dist p.relations rests (i - 1) row.0 rest row.1 there ∙ ap Some (sym row.2)

length-zip_with-right : {A B C : Type 0} → (f : A → B → C) (xs : List A) (ys : List B) →
    length (zip_with f xs ys) ≤ length ys
length-zip_with-right f [] ys = omega arith
length-zip_with-right f (x ∷ xs) [] = omega arith
length-zip_with-right f (x ∷ xs) (y ∷ ys) = omega (arith, length-zip_with-right f xs ys)

-- there are no more of them than linking rows
pub few_misses : (p : Program) (x : Bricks) → length (link_misses p (link_rests p x)) ≤ length p.link.rows
few_misses p x =
    let rests = length-zip_with (λ row right. right -ℤ total (map (dot row) x)) p.link.rows p.link_right in
    omega (arith, rests, length-zip_with-right dist p.relations (link_rests p x))

-- what row i and those after it miss
pub misses_step : (misses : List ℕ) (i : ℕ) (miss : ℕ) → 1 ≤ i → slice_get misses (i - 1) ≡ Some miss →
    sum (drop (i - 1) misses) ≡ miss + sum (drop (i + 1 - 1) misses)
misses_step misses i miss from there =
    let next : i + 1 - 1 ≡ i - 1 + 1 = omega arith in
    rw next (ap (λ xs. sum xs) (drop-at misses (i - 1) miss there)
    ∙ sum_by-cons (λ m. m) miss (drop (i - 1 + 1) misses))

pub misses_none : (misses : List ℕ) (i : ℕ) → length misses ≤ i - 1 → sum (drop (i - 1) misses) ≡ 0
misses_none misses i all = ap (λ xs. sum xs) (drop_all (i - 1) misses all)

pub misses_end : (misses : List ℕ) (i : ℕ) → length misses ≤ i → sum (drop (i + 1 - 1) misses) ≡ 0
misses_end misses i all = ap (λ xs. sum xs) (drop_all (i + 1 - 1) misses (omega arith))
