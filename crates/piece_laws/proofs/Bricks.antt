-- One brick and a list that is complete for the lattice of the brick matrix: where no step by a signed first part helps
-- at a vector within the bounds, no other vector within the bounds misses the brick's rows by less.
use Rattle.std.proofs.Common.{◌≡◌, ℕ, zero, suc, ◌<◌, ◌≤◌, true, false, List, length, ap, arith, sym, ◌∙◌, inl, inr}
use Rattle.lattice_theory.specs.Vectors.{Vector, ◌⊑◌, is_zero, norm1, add, sub}
use Rattle.lattice_theory.specs.Lattices.{is_complete_for, first_parts}
use Rattle.lattice_laws.proofs.Tests.{true_or_false}
use Rattle.lattice_laws.proofs.Conformal.{length_below, norm_split, norm_some}
use Rattle.lattice_laws.proofs.Sums.{length-sub, sub_swap, same_vector}
use Rattle.lattice_laws.proofs.SlackBases.{IsSigned}
use Rattle.cover_laws.proofs.Parts.{Part, part_of_complete}
use Rattle.fold_theory.specs.Programs.{Program, Brick, IsWithin, brick_residual}
use Rattle.fold_laws.proofs.Bounds.{length-within}
use Rattle.piece_laws.proofs.Residuals.{brick_residual_parts}
use Rattle.piece_laws.proofs.Bounds.{within_parts}

-- where y is within the bounds it misses the rows by no less than x
abbrev pub IsNoHelp : Program → Brick → Vector → Vector → Type 0
IsNoHelp p b x y = IsWithin b y → brick_residual p b x ≤ brick_residual p b y

-- x is within the bounds, and no step by a signed first part of a complete list helps
pub record IsHeldBrick (p : Program) (b : Brick) (basis : List Vector) (x : Vector) : Type 0 where
  pub columns : length b.lower ≡ p.brick.cols
  pub right : length b.right ≡ length p.brick.rows
  pub complete : is_complete_for p.brick basis ≡ true
  pub within : IsWithin b x
  pub no_help : (v : Vector) → IsSigned (first_parts p.brick.cols basis) v → IsNoHelp p b x (add x v)

module _ (p : Program) (b : Brick) (basis : List Vector) (x : Vector) (held : IsHeldBrick p b basis x) where
  -- y - v is nearer to x than y
  part_nearer : (y v : Vector) → is_zero v ≡ false → v ⊑ sub y x → norm1 (sub (sub y v) x) < norm1 (sub y x)
  part_nearer y v nonzero below =
      omega (arith, ap norm1 (sub_swap y v x), norm_split v (sub y x) below, norm_some v nonzero)

  size : (y : Vector) → IsWithin b y → length y ≡ p.brick.cols
  size y inside = length-within b y inside ∙ held.columns

  wide : (y : Vector) → IsWithin b y → length (sub y x) ≡ p.brick.cols
  wide y inside = length-sub y x p.brick.cols (size y inside) (size x held.within)

  -- y goes to y - v, which misses the rows by no more
  step_back : (y : Vector) (inside : IsWithin b y) (q : Part p.brick basis (sub y x)) →
      IsWithin b (sub y q.vector) × (brick_residual p b (sub y q.vector) ≤ brick_residual p b y)
  step_back y inside q =
      let ends = within_parts b x y q.vector held.within inside q.below in
      let same : length y ≡ length x = size y inside ∙ sym (size x held.within) in
      let long : length q.vector ≡ length x =
      length_below q.vector (sub y x) q.below ∙ wide y inside ∙ sym (size x held.within) in
      let both = brick_residual_parts p b x y q.vector held.right same long q.image in
      (ends.1, omega (arith, both, held.no_help q.vector q.listed ends.0))

  -- by the distance from x
  reached : (bound : ℕ) (y : Vector) → norm1 (sub y x) < bound → IsWithin b y →
      brick_residual p b x ≤ brick_residual p b y
  reached zero y near inside = absurd (omega arith)
  reached (suc bound) y near inside = elim (true_or_false (is_zero (sub y x))) [
    | inl e ↦
        let same : x ≡ y = same_vector x y (size x held.within ∙ sym (size y inside)) e in
        omega (arith, ap (brick_residual p b) same)
    | inr e ↦
        let q = part_of_complete p.brick basis held.complete (sub y x) (wide y inside) e in
        let back = step_back y inside q in
        let nearer = part_nearer y q.vector q.nonzero q.below in
        omega (arith, back.1, reached bound (sub y q.vector) (omega (arith, nearer, near)) back.0)
  ]

  -- no vector within the bounds misses the rows by less than x
  pub least_residual : (y : Vector) → IsWithin b y → brick_residual p b x ≤ brick_residual p b y
  least_residual y inside = reached (suc (norm1 (sub y x))) y (omega arith) inside
