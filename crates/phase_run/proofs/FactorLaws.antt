-- The greatest absolute entry, one after the other.
use Rattle.std.proofs.Common.{◌≡◌, ℕ, ◌+◌, ◌^◌, ◌≤◌, max, ℤ, pos, unsigned_abs, List, [], ◌∷◌, ◌++◌, length, map, drop}
use Rattle.std.proofs.Common.{refl, ap, arith, ◌∙◌, Some, slice_get, option_map}
use Rattle.std.proofs.lemmas.Option.{slice_get_within, get_or_from_slice_get, slice_get-map}
use Rattle.std.proofs.lemmas.List.{drop_all, length-map}
use Rattle.lattice_theory.specs.Lists.{greatest}
use Rattle.lattice_theory.specs.Vectors.{Vector, dot}
use Rattle.lattice_theory.specs.Matrices.{product}
use Rattle.fold_theory.specs.Programs.{Program}
use Rattle.run_theory.specs.Folds.{IsSmallImage}
use Rattle.lattice_laws.proofs.Places.{drop-at}

module _ {A : Type 0} (f : A → ℕ) where
  -- the greatest so far, and that of the numbers that are left, are those of all
  abbrev pub GreatestUpTo : List A → ℕ → ℕ → Type 0
  GreatestUpTo xs i most = max most (greatest (map f (drop i xs))) ≡ greatest (map f xs)

  pub greatest_none : (xs : List A) → GreatestUpTo xs 0 0
  greatest_none xs = omega arith

  pub greatest_more : (xs : List A) (i most next : ℕ) (x : A) → slice_get xs i ≡ Some x → next ≡ max (f x) most →
      GreatestUpTo xs i most → GreatestUpTo xs (i + 1) next
  greatest_more xs i most next x there is so_far =
      let split : greatest (map f (drop i xs)) ≡ max (f x) (greatest (map f (drop (i + 1) xs))) =
      ap (λ ys. greatest (map f ys)) (drop-at xs i x there) in
      omega (arith, split, is, so_far)

  pub greatest_all : (xs : List A) (i most : ℕ) → length xs ≤ i → GreatestUpTo xs i most → most ≡ greatest (map f xs)
  greatest_all xs i most all so_far =
      let none : greatest (map f (drop i xs)) ≡ 0 = ap (λ ys. greatest (map f ys)) (drop_all i xs all) in
      omega (arith, none, so_far)

  -- the same, where the whole is the greatest of more
  pub greatest_rest : (xs : List A) (i most next : ℕ) (x : A) (whole : ℕ) → slice_get xs i ≡ Some x →
      next ≡ max (f x) most →
      max most (greatest (map f (drop i xs))) ≡ whole → max next (greatest (map f (drop (i + 1) xs))) ≡ whole
  greatest_rest xs i most next x whole there is so_far =
      let split : greatest (map f (drop i xs)) ≡ max (f x) (greatest (map f (drop (i + 1) xs))) =
      ap (λ ys. greatest (map f ys)) (drop-at xs i x there) in
      omega (arith, split, is, so_far)

  pub greatest_last : (xs : List A) (i most whole : ℕ) → length xs ≤ i →
      max most (greatest (map f (drop i xs))) ≡ whole → most ≡ whole
  greatest_last xs i most whole all so_far =
      let none : greatest (map f (drop i xs)) ≡ 0 = ap (λ ys. greatest (map f ys)) (drop_all i xs all) in
      omega (arith, none, so_far)

-- the greatest of two lists is that of the first, or of the second
pub greatest_both : (u v : Vector) (most next : ℕ) → most ≡ greatest (map unsigned_abs u) →
    max most (greatest (map unsigned_abs v)) ≡ next → next ≡ greatest (map unsigned_abs (u ++ v))
greatest_both [] v most next is both = omega (arith, is, both)
greatest_both (a ∷ u) v most next is both =
    let rest = greatest_both u v (greatest (map unsigned_abs u))
    (max (greatest (map unsigned_abs u)) (greatest (map unsigned_abs v))) refl refl in
    omega (arith, is, both, rest)

-- what the sum changes a linking row by is small
pub image_there : (p : Program) (w row : Vector) (i : ℕ) → slice_get p.link.rows i ≡ Some row →
    slice_get (product p.link w) i ≡ Some (dot row w)
image_there p w row i there = slice_get-map (λ r. dot r w) p.link.rows i ∙ ap (option_map (λ r. dot r w)) there

pub image_small : (p : Program) (w : Vector) (i : ℕ) (a : ℤ) → IsSmallImage p w →
    slice_get (product p.link w) i ≡ Some a → unsigned_abs a ≤ 2 ^ 50
image_small p w i a small there =
    let entry = get_or_from_slice_get (product p.link w) i a (pos 0) there in
    let low = small i (pos 0) (slice_get_within (product p.link w) i a there) in
    omega (arith, low, ap unsigned_abs entry)

pub length-product : (p : Program) (w : Vector) → length (product p.link w) ≡ length p.link.rows
length-product p w = length-map p.link.rows (λ r. dot r w)
