-- A unit step that moves something is a candidate step of length 1, so where no such one lowers the phase cost no unit
-- step does.
use Rattle.std.proofs.Common.{◌≡◌, pos, negsuc, ℤ, ◌-ℤ◌, ◌≤ℤ◌, ◌<ℤ◌, false, List, length, refl, ap, arith, sym}
use Rattle.std.proofs.Common.{Contains, inl, inr, subst}
use Rattle.std.proofs.lemmas.Int.{ints}
use Rattle.std.proofs.lemmas.List.Elements.{All-from_recursion}
use Rattle.std.specs.List.{list_all}
use Rattle.fold_theory.specs.declared.Phase.{Phase}
use Rattle.lattice_theory.specs.Vectors.{Vector, is_zero, zeros}
use Rattle.lattice_laws.specs.VectorLists.{AreSized}
use Rattle.lattice_laws.proofs.Tests.{true_or_false}
use Rattle.fold_theory.specs.Programs.{Program, Bricks, AreWithin, phase_cost}
use Rattle.run_theory.specs.Steps.{partial_sums, AllowsEnd, IsCandidate, Augments}
use Rattle.piece_laws.specs.Points.{forth}
use Rattle.piece_laws.specs.Pieces.{IsUnitStep}
use Rattle.piece_laws.proofs.Points.{moved_once, forth_none}

module _ (p : Program) (phase : Phase) (zs : List Vector) (x : Bricks) where
  -- a unit step that is not 0 is a candidate
  candidate : (h : Bricks) → IsUnitStep p phase zs x h → list_all is_zero h ≡ false → IsCandidate p phase zs x 0 h
  candidate h step some =
      let once = sym (moved_once x h) in
      record {
        nonzero = some;
        walk = record {
          size = step.size;
          moves = All-from_recursion (Contains zs) h step.moves;
          sums = All-from_recursion (Contains zs) (partial_sums (zeros p.brick.cols) h) step.sums;
          within = subst (AreWithin p.bricks) once step.within;
        };
        length = omega arith;
        end = subst (AllowsEnd p phase) once step.end;
      }

  -- where no candidate of length 1 lowers the phase cost, no unit step leads to a lower one
  pub no_gain : AreSized p.brick.cols x → ((h : Bricks) → Augments p phase zs x 0 h → ⊥) → (h : Bricks) →
      IsUnitStep p phase zs x h → phase_cost p phase x ≤ℤ phase_cost p phase (forth x h)
  no_gain sx none h step = elim (true_or_false (list_all is_zero h)) [
    | inl zero_move ↦
        let same = forth_none p.brick.cols x h sx step.sized step.size zero_move in
        omega (arith, ints, ap (phase_cost p phase) same)
    | inr some ↦
        not_lower (phase_cost p phase (forth x h) -ℤ phase_cost p phase x) refl (λ lower. none h (record {
          candidate = candidate h step some;
          lowers = omega (arith, ints, ap (phase_cost p phase) (moved_once x h), lower);
        }))
  ]
    where
      not_lower : (a : ℤ) → a ≡ phase_cost p phase (forth x h) -ℤ phase_cost p phase x →
          (phase_cost p phase (forth x h) <ℤ phase_cost p phase x → ⊥) →
          phase_cost p phase x ≤ℤ phase_cost p phase (forth x h)
      not_lower (pos n) is contrary = omega (arith, ints, is)
      not_lower (negsuc n) is contrary = absurd (contrary (omega (arith, ints, is)))
