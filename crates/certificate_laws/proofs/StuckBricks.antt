-- The certificate on the first brick that is stuck breaks no rule.
use Rattle.std.proofs.Common.{◌≡◌, ℕ, zero, suc, ◌+◌, ◌-◌, ◌<◌, nat_eq, false, ◌&&◌, cond, List, [], ◌∷◌, length}
use Rattle.std.proofs.Common.{Option, Some, None, slice_get, refl, ap, arith, sym, ◌∙◌, subst}
use Rattle.std.proofs.lemmas.Bool.Decides.{nat_tests}
use Rattle.std.proofs.lemmas.List.Elements.{recursion_from_All}
use Rattle.std.specs.List.{AllByRecursion}
use Rattle.std.proofs.lemmas.Bool.{and_from}
use Rattle.run_theory.specs.declared.Rule.{Rule}
use Rattle.run_theory.specs.declared.Rule.TheVariants.{B1}
use Rattle.run_theory.specs.declared.Claim.TheVariants as claim
use Rattle.lattice_theory.specs.Vectors.{Vector}
use Rattle.lattice_theory.specs.Matrices.{Matrix, has_shape}
use Rattle.lattice_theory.specs.Lattices.{IsSlackBasis}
use Rattle.lattice_theory.specs.BasisLimits.{IsBasisElement}
use Rattle.fold_theory.specs.Programs.{Program, Brick, IsBrick, IsProgram, is_within, brick_residual}
use Rattle.run_theory.specs.Certificates.{Certificate}
use Rattle.run_theory.specs.Outcomes.{FirstStuck, matrix_of_bricks, point_matrix}
use Rattle.run_theory.specs.BrickRuns.{BrickMove}
use Rattle.run_theory.specs.Checker.{brick_rules, first_failing, Accept}
use Rattle.lattice_laws.specs.VectorLists.{AreSized}
use Rattle.lattice_laws.proofs.Tests.{nat_lt_of}
use Rattle.piece_laws.proofs.Starts.{bricks_of}
use Rattle.piece_laws.proofs.BrickEnds.{IsEnd, brick_run_end}
use Rattle.certificate_laws.proofs.Passing.{has_shape_of, none_failing}
use Rattle.certificate_laws.proofs.BrickRuns.{none_helps}
use Rattle.cover_laws.proofs.SlackBases.{slack_basis_complete}
use Rattle.fold_laws.proofs.Bounds.{is_within_of, length-within}

-- the members of a slack basis have one length
pub basis_sized : (m : Matrix) (basis : List Vector) → IsSlackBasis m basis →
    AreSized (m.cols + length m.rows) basis
basis_sized m basis slack = by basis (recursion_from_All (IsBasisElement m) basis slack.sound)
  where
    by : (zs : List Vector) → AllByRecursion (IsBasisElement m) zs → AreSized (m.cols + length m.rows) zs
    by [] all = tt
    by (z ∷ zs) all = (all.0.0.member.size, by zs all.1)

brick_at : (t s : ℕ) (bs : List Brick) (place : ℕ) (b : Brick) → AllByRecursion (IsBrick t s) bs →
    slice_get bs place ≡ Some b → IsBrick t s b
brick_at t s [] place b all there = absurd (cc)
brick_at t s (a ∷ bs) zero b all there = let same : a ≡ b = cc in subst (IsBrick t s) same all.0
brick_at t s (a ∷ bs) (suc place) b all there = brick_at t s bs place b all.1 there

-- the certificate on the brick of this number, with its vector
abbrev pub stuck_certificate : Program → ℕ → List Vector → Vector → Certificate
stuck_certificate p number basis v = record {
  claim = claim.InfeasibleBrick number;
  point = point_matrix p (v ∷ []);
  bricks = matrix_of_bricks p basis;
  fold = None;
}

module _ (p : Program) (basis : List Vector) (number : ℕ) (v : Vector) (program : IsProgram p)
    (slack : IsSlackBasis p.brick basis) where
  abbrev c : Certificate
  c = stuck_certificate p number basis v

  -- each rule's test passes
  rules_hold : (b : Brick) → IsBrick p.brick.cols (length p.brick.rows) b → IsEnd p basis b v →
      0 < brick_residual p b v → first_failing (brick_rules p c b v) ≡ None
  rules_hold b is end stuck =
      let width = p.brick.cols + length p.brick.rows in
      let long = length-within b v end.within ∙ is.lower_size in
      let point = has_shape_of 1 p.brick.cols (v ∷ []) refl (long, tt) in
      let members = has_shape_of (length basis) width basis refl (basis_sized p.brick basis slack) in
      let shapes =
      and_from (has_shape 1 p.brick.cols c.point) (has_shape (length basis) width c.bricks) point members in
      let fits =
      and_from (has_shape 1 p.brick.cols c.point && has_shape (length basis) width c.bricks) (is_within b v) shapes
      (is_within_of b v end.within) in
      none_failing (brick_rules p c b v) (
        fits,
        (
          slack_basis_complete p.brick basis slack,
          (none_helps p basis b v end, (nat_lt_of 0 (brick_residual p b v) stuck, tt)),
        ),
      )

  -- by the number of the brick
  stuck_accepted : (place : ℕ) (b : Brick) → number ≡ place + 1 → slice_get p.bricks place ≡ Some b →
      IsEnd p basis b v → 0 < brick_residual p b v → Accept p c
  stuck_accepted place b numbered there end stuck =
      ap broken found
      ∙ rules_hold b (brick_at p.brick.cols (length p.brick.rows) p.bricks place b (bricks_of p program) there)
      end stuck
    where
      broken : Option Brick → Option Rule
      broken None = Some B1
      broken (Some a) = first_failing (brick_rules p c a v)

      counted : (n m : ℕ) → n ≡ m + 1 → nat_eq n 0 ≡ false
      counted n m e = grind (arith, nat_tests)

      behind : number - 1 ≡ place
      behind = omega (arith, numbered)

      found : cond (nat_eq number 0) None (slice_get p.bricks (number - 1)) ≡ Some b
      found =
          (λ i. cond (counted number place numbered i) None (slice_get p.bricks (behind i))) ∙ there

  -- the first brick that is stuck
  pub first_stuck_accepted : (residual : ℕ) (traces : List (List BrickMove)) →
      FirstStuck p basis number residual v traces → Accept p c
  first_stuck_accepted residual traces first =
      let bricks = bricks_of p program in
      let is = brick_at p.brick.cols (length p.brick.rows) p.bricks first.place first.brick bricks first.there in
      stuck_accepted first.place first.brick first.numbered first.there
      (brick_run_end p basis first.brick first.last v is.uncrossed first.run)
      (subst (λ n. 0 < n) (sym first.left) first.stuck)
