-- Where the run of a brick ends, no step of length 1 helps.
use Rattle.std.proofs.Common.{◌≡◌, ◌^◌, ◌<◌, nat_le, pos, Bool, true, false, ◌&&◌, ◌||◌, not, List, refl, ap, arith}
use Rattle.std.proofs.Common.{sym, ◌∙◌, inl, inr, subst}
use Rattle.std.proofs.lemmas.Bool.{cases_lt, and_from}
use Rattle.lattice_theory.specs.Vectors.{Vector, add, sub, scale, opposite}
use Rattle.lattice_theory.specs.Lattices.{first_parts}
use Rattle.lattice_laws.proofs.Members.{list_all_of, mapped}
use Rattle.lattice_laws.proofs.Conformal.{sub-opposite}
use Rattle.fold_theory.specs.Programs.{Program, Brick, IsWithin, is_within, IsLength, brick_residual}
use Rattle.run_theory.specs.BrickRuns.{BrickMove, stepped, IsSignedPart}
use Rattle.run_theory.specs.Checker.{no_step_helps}
use Rattle.lattice_laws.proofs.Multiples.{scale_once}
use Rattle.lattice_laws.proofs.Tests.{nat_le_of}
use Rattle.fold_laws.proofs.Bounds.{is_within_true}
use Rattle.piece_laws.proofs.BrickEnds.{IsEnd}

-- ---- steps of length 1

pub one_step : (v d : Vector) → add v (scale (pos (2 ^ 0)) d) ≡ add v d
one_step v d = ap (add v) (scale_once d)

-- length 1 is a length of each program
pub one_length : (p : Program) → IsLength p 0
one_length p = omega arith

-- ---- the rule on steps of length 1

module _ (p : Program) (basis : List Vector) (b : Brick) where
  module _ (v : Vector) (end : IsEnd p basis b v) where
    abbrev is_no_help : Vector → Bool
    is_no_help y = not (is_within b y) || nat_le (brick_residual p b v) (brick_residual p b y)

    -- no step along a signed part helps
    part_no_help : (d : Vector) → IsSignedPart p basis d → is_no_help (add v d) ≡ true
    part_no_help d part = by (is_within b (add v d)) refl
      where
        y : Vector
        y = add v d

        step : BrickMove
        step = record { k = 0; vector = d }

        there : stepped v step ≡ y
        there = one_step v d

        lower : IsWithin b y → brick_residual p b y < brick_residual p b v → ⊥
        lower within less =
            end.none step
            (record {
              part = part;
              length = one_length p;
              within = subst (IsWithin b) (sym there) within;
              lowers = subst (λ z. brick_residual p b z < brick_residual p b v) (sym there) less;
            })

        by : (t : Bool) → is_within b y ≡ t → (not t || nat_le (brick_residual p b v) (brick_residual p b y)) ≡ true
        by false e = refl
        by true e = elim (cases_lt (brick_residual p b y) (brick_residual p b v)) [
          | inl less ↦ absurd (lower (is_within_true b y e) less)
          | inr more ↦ nat_le_of (brick_residual p b v) (brick_residual p b y) more
        ]

    abbrev parts : List Vector
    parts = first_parts p.brick.cols basis

    pub none_helps : no_step_helps p b parts v ≡ true
    none_helps =
        list_all_of (λ d. is_no_help (add v d) && is_no_help (sub v d)) parts
        (λ d c.
        and_from (is_no_help (add v d)) (is_no_help (sub v d)) (part_no_help d (inl c))
        (ap is_no_help (sub-opposite v d) ∙ part_no_help (opposite d) (inr (mapped opposite parts d c))))
