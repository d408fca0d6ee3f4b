-- Laws of the steps from a point of a brick by the first parts of listed elements.
use Rattle.std.proofs.Common.{◌≡◌, ℕ, ◌+◌, ◌-◌, ◌<◌, ◌≤◌, ◌^◌, unsigned_abs, Bool, true, false, ◌&&◌, ◌||◌, not, nat_le}
use Rattle.std.proofs.Common.{nat_lt, List, length, take, drop, refl, ap, arith, sym, ◌∙◌, subst, All, Some, slice_get}
use Rattle.std.proofs.Common.{option_map}
use Rattle.std.specs.List.{list_all}
use Rattle.std.proofs.lemmas.Bool.Decides.{nat_tests}
use Rattle.std.proofs.lemmas.List.{length-map}
use Rattle.std.proofs.lemmas.List.Elements.{All-take}
use Rattle.std.proofs.lemmas.Option.{slice_get-map}
use Rattle.lattice_theory.specs.Vectors.{Vector, add, sub}
use Rattle.lattice_theory.specs.Lattices.{first_parts}
use Rattle.lattice_theory.specs.BasisLimits.{IsNarrow}
use Rattle.fold_theory.specs.Programs.{Program, Brick, is_within, brick_residual}
use Rattle.lattice_laws.proofs.Places.{slice_get-All}
use Rattle.fold_program.specs.Places.{OfBrick}
use Rattle.cert_checker.specs.Steps.{is_better, is_best}
use Rattle.complete_lists.proofs.ScanLaws.{same_row, list_all-at, list_all-end}

-- ---- a step from a point

-- the first part of a listed element
pub narrow-part : (rows : List Vector) (i n : ℕ) (z : Vector) → slice_get rows i ≡ Some z → All IsNarrow rows →
    IsNarrow (take n z)
narrow-part rows i n z there narrow = All-take (λ a. unsigned_abs a < 2 ^ 31) n z
    (slice_get-All IsNarrow rows i z there narrow)

-- ---- one member after the other

-- neither step by v is better
abbrev pub is_kept : Program → Brick → Vector → Vector → Bool
is_kept p b x v =
    (not (is_within b (add x v)) || nat_le (brick_residual p b x) (brick_residual p b (add x v)))
    && (not (is_within b (sub x v)) || nat_le (brick_residual p b x) (brick_residual p b (sub x v)))

-- what is known after the first members: the brick, the residual there, and that none of them helps
pub record Kept (p : Program) (i : ℕ) (x : Vector) (basis : List Vector) (least row : ℕ) : Type 0 where
  pub brick : Brick
  pub there : slice_get p.bricks (i - 1) ≡ Some brick
  pub is : least ≡ brick_residual p brick x
  pub rest : list_all (is_kept p brick x) (drop row (first_parts p.brick.cols basis)) ≡ is_best p brick basis x

pub Kept-none : (p : Program) (i : ℕ) (x : Vector) (basis : List Vector) (least : ℕ) →
    OfBrick p i (λ b. least ≡ brick_residual p b x) → Kept p i x basis least 0
Kept-none p i x basis least (b, there, is) = record { brick = b; there = there; is = is; rest = refl }

-- the fact of the brick of this number, at the brick that is known
at_brick : (p : Program) (i : ℕ) (P : Brick → Type 0) (b : Brick) → slice_get p.bricks (i - 1) ≡ Some b →
    OfBrick p i P → P b
at_brick p i P b there (d, here, holds) = subst P (same_row p.bricks (i - 1) d b here there) holds

not_better : (w : Bool) (m n : ℕ) → (not w || nat_le n m) ≡ not (w && nat_lt m n)
not_better true m n = grind (arith, nat_tests)
not_better false m n = refl

module _ (p : Program) (i : ℕ) (x : Vector) (basis : List Vector) (least row : ℕ) (k : Kept p i x basis least row)
    (z : Vector) (here : slice_get basis row ≡ Some z) where
  abbrev v : Vector
  v = take p.brick.cols z

  listed : slice_get (first_parts p.brick.cols basis) row ≡ Some v
  listed = slice_get-map (take p.brick.cols) basis row ∙ ap (option_map (take p.brick.cols)) here

  -- whether the step to y is kept
  step : (y : Vector) (b : Bool) → OfBrick p i (λ d. b ≡ is_better p d least y) →
      (not (is_within k.brick y) || nat_le (brick_residual p k.brick x) (brick_residual p k.brick y)) ≡ not b
  step y b h =
      let better : b ≡ is_better p k.brick least y = at_brick p i (λ d. b ≡ is_better p d least y) k.brick k.there h in
      not_better (is_within k.brick y) (brick_residual p k.brick y) (brick_residual p k.brick x)
      ∙ ap (λ n. not (is_within k.brick y && nat_lt (brick_residual p k.brick y) n)) (sym k.is) ∙ ap not (sym better)

  -- the step forward is better
  pub Kept-forward : OfBrick p i (λ d. true ≡ is_better p d least (add x v)) →
      OfBrick p i (λ b. false ≡ is_best p b basis x)
  Kept-forward up =
      let none : is_kept p k.brick x v ≡ false =
      ap (λ t. t && (not (is_within k.brick (sub x v)) || nat_le (brick_residual p k.brick x)
      (brick_residual p k.brick (sub x v)))) (step (add x v) true up) in (
        k.brick,
        k.there,
        sym (list_all-at (is_kept p k.brick x) (first_parts p.brick.cols basis) row v false listed
            none) ∙ k.rest,
      )

  -- the step back is better
  pub Kept-back : OfBrick p i (λ d. false ≡ is_better p d least (add x v)) →
      OfBrick p i (λ d. true ≡ is_better p d least (sub x v)) →
      OfBrick p i (λ b. false ≡ is_best p b basis x)
  Kept-back up down =
      let none : is_kept p k.brick x v ≡ false = λ j. step (add x v) false up j && step (sub x v) true down j in (
        k.brick,
        k.there,
        sym (list_all-at (is_kept p k.brick x) (first_parts p.brick.cols basis) row v false listed
            none) ∙ k.rest,
      )

  -- neither is
  pub Kept-more : OfBrick p i (λ d. false ≡ is_better p d least (add x v)) →
      OfBrick p i (λ d. false ≡ is_better p d least (sub x v)) → Kept p i x basis least (row + 1)
  Kept-more up down =
      let both : is_kept p k.brick x v ≡ true = λ j. step (add x v) false up j && step (sub x v) false down j in
      record {
        brick = k.brick;
        there = k.there;
        is = k.is;
        rest = sym (list_all-at (is_kept p k.brick x) (first_parts p.brick.cols basis) row v true listed both) ∙ k.rest;
      }

pub Kept-all : (p : Program) (i : ℕ) (x : Vector) (basis : List Vector) (least row : ℕ) → Kept p i x basis least row →
    length basis ≤ row →
    OfBrick p i (λ b. true ≡ is_best p b basis x)
Kept-all p i x basis least row k past =
    let over : length (first_parts p.brick.cols basis) ≤ row = omega (arith, length-map basis (take p.brick.cols)) in
    (k.brick, k.there, sym (list_all-end (is_kept p k.brick x) (first_parts p.brick.cols basis) row over) ∙ k.rest)
