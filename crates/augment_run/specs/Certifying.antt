-- The certificates that a solve writes.
use Rattle.std.specs.Prelude.{◌≡◌, ℕ, ◌+◌, List, [], ◌∷◌, Some, None, map}
use Rattle.lattice_theory.specs.Vectors.{Vector}
use Rattle.lattice_theory.specs.Matrices.{Matrix}
use Rattle.lattice_theory.specs.SignedSums.{Sum}
use Rattle.fold_theory.specs.declared.Phase.{Phase}
use Rattle.fold_theory.specs.Programs.{Program, Bricks}
use Rattle.run_theory.specs.declared.Claim.{Claim}
use Rattle.run_theory.specs.declared.Claim.TheVariants as claim
use Rattle.run_theory.specs.Links.{Bases}
use Rattle.run_theory.specs.Certificates.{Certificate, FoldPart}
use Rattle.run_theory.specs.Outcomes.{IsFoldPart, row_of_sum, matrix_of_bricks, point_matrix}

-- the certificate that the brick of this number is stuck at v
abbrev pub stuck_certificate : Program → List Vector → ℕ → Vector → Certificate
stuck_certificate p basis number v = record {
  claim = claim.InfeasibleBrick number;
  point = point_matrix p (v ∷ []);
  bricks = matrix_of_bricks p basis;
  fold = None;
}

-- the sums, each with its level before it
abbrev pub matrix_of_sums : Program → List Sum → Matrix
matrix_of_sums p sums = record { cols = 1 + p.brick.cols; rows = map row_of_sum sums }

-- the certificate of this claim on all bricks, at the point x where the phase has ended
pub record IsOnAll (p : Program) (phase : Phase) (b : Bases) (said : Claim) (x : Bricks)
    (c : Certificate) : Type 0 where
  pub claim_is : c.claim ≡ said
  pub point_is : c.point ≡ point_matrix p x
  pub bricks_are : c.bricks ≡ matrix_of_bricks p b.brick
  pub part : FoldPart
  pub there : c.fold ≡ Some part
  pub fold_part : IsFoldPart p phase b x part
