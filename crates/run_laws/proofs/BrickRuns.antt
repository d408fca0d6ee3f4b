-- Where a brick's run ends, no step by a signed first part helps.
use Rattle.std.proofs.Common.{◌≡◌, ◌<◌, List, map, ap, arith, sym, Contains, inl, inr, subst}
use Rattle.std.proofs.lemmas.Bool.{cases_lt}
use Rattle.lattice_theory.specs.Vectors.{Vector, add, opposite}
use Rattle.lattice_theory.specs.Lattices.{first_parts}
use Rattle.lattice_laws.proofs.Conformal.{opposite-opposite}
use Rattle.lattice_laws.proofs.SlackBases.{IsSigned}
use Rattle.fold_theory.specs.Programs.{Program, Brick, IsWithin, brick_residual}
use Rattle.run_theory.specs.BrickRuns.{stepped, IsSignedPart}
use Rattle.lattice_laws.proofs.Multiples.{scale_once}
use Rattle.lattice_laws.proofs.Members.{mapped}
use Rattle.piece_laws.proofs.Bricks.{IsNoHelp}
use Rattle.piece_laws.proofs.BrickEnds.{IsEnd}

-- where the opposite is listed, v is among the opposites
turned_member : (parts : List Vector) (v : Vector) → Contains parts (opposite v) → Contains (map opposite parts) v
turned_member parts v listed =
    subst (Contains (map opposite parts)) (opposite-opposite v) (mapped opposite parts (opposite v) listed)

-- where no step lowers the residual, none by a signed first part helps
pub run_no_help : (p : Program) (b : Brick) (basis : List Vector) (x : Vector) → IsEnd p basis b x → (v : Vector) →
    IsSigned (first_parts p.brick.cols basis) v → IsNoHelp p b x (add x v)
run_no_help p b basis x end v signed inside =
    elim (cases_lt (brick_residual p b (add x v)) (brick_residual p b x)) [
      | inr more ↦ more
      | inl less ↦
          let once : add x v ≡ stepped x (record { k = 0; vector = v }) = sym (ap (add x) (scale_once v)) in
          absurd (end.none (record { k = 0; vector = v }) (record {
            part = by signed;
            length = omega arith;
            within = subst (IsWithin b) once inside;
            lowers = subst (λ y. brick_residual p b y < brick_residual p b x) once less;
          }))
    ]
  where
    by : IsSigned (first_parts p.brick.cols basis) v → IsSignedPart p basis v
    by (inl c) = inl c
    by (inr c) = inr (turned_member (first_parts p.brick.cols basis) v c)
