-- Listed potentials that hold layer by layer, where that of zero at the beginning is not negative, exclude a unit step
-- to a lower phase cost.
use Rattle.std.proofs.Common.{◌≡◌, ℤ, pos, ◌≤ℤ◌, Bool, true, false, List, [], ◌∷◌, Option, Some, None, refl, arith}
use Rattle.std.proofs.Common.{◌-ℤ◌, subst, sym, ap, length, Contains}
use Rattle.std.proofs.lemmas.Int.{ints}
use Rattle.fold_theory.specs.declared.Phase.{Phase}
use Rattle.lattice_theory.specs.Vectors.{Vector, zeros}
use Rattle.lattice_laws.proofs.Tests.{int_le_true}
use Rattle.fold_theory.specs.Programs.{Program, Bricks, IsProgram, AreWithin, link_rests, phase_cost}
use Rattle.run_theory.specs.Checker.{at_most, potential_of, layers_hold, starts_at_zero}
use Rattle.yes_laws.proofs.Layers.{walk_bound}
use Rattle.piece_laws.specs.Points.{forth}
use Rattle.piece_laws.specs.Pieces.{IsUnitStep}
use Rattle.run_theory.specs.Walks.{WalkCosts}
use Rattle.run_theory.specs.Steps.{moved, partial_sums, IsWalk, AllowsEnd}
use Rattle.std.proofs.lemmas.List.Elements.{All-from_recursion}
use Rattle.walk_laws.proofs.Candidates.{sized_step_walks}
use Rattle.piece_laws.proofs.Points.{moved_once}
use Rattle.piece_laws.proofs.Starts.{sized}

-- where the potential of zero is not negative, no walk from zero costs less than 0
module _ (p : Program) (phase : Phase) (zs : List Vector) (rests : Vector) (x : Bricks) where
  not_negative : (first : Option ℤ) (c : ℤ) → at_most (Some (pos 0)) first ≡ true → at_most first (Some c) ≡ true →
      pos 0 ≤ℤ c
  not_negative None c starts bound = absurd (cc)
  not_negative (Some a) c starts bound = omega (arith, ints, int_le_true (pos 0) a starts, int_le_true a c bound)

  walk_no_gain : (rows : List (List (Option ℤ))) → layers_hold p phase zs rests p.bricks x rows ≡ true →
      starts_at_zero p zs rows ≡ true → (h : Bricks) (c : ℤ) →
      WalkCosts p phase zs 0 rests p.bricks x (zeros p.brick.cols) h c → pos 0 ≤ℤ c
  walk_no_gain [] layers starts h c walk = absurd (cc)
  walk_no_gain (row ∷ rows) layers starts h c walk =
      by (potential_of zs row (zeros p.brick.cols)) refl starts
    where
      test : Option (Option ℤ) → Bool
      test o = elim o [ None ↦ false | Some first ↦ at_most (Some (pos 0)) first ]

      by : (o : Option (Option ℤ)) → potential_of zs row (zeros p.brick.cols) ≡ o → test o ≡ true → pos 0 ≤ℤ c
      by None e passes = absurd (cc)
      by (Some first) e passes =
          not_negative first c passes
          (walk_bound p phase zs rests p.bricks x row rows (zeros p.brick.cols) first h c layers e walk)

-- so no unit step leads to a lower phase cost
pub no_unit_step_gains : (p : Program) (phase : Phase) (zs : List Vector) (x : Bricks) (rows : List (List (Option ℤ))) →
    IsProgram p → AreWithin p.bricks x → layers_hold p phase zs (link_rests p x) p.bricks x rows ≡ true →
    starts_at_zero p zs rows ≡ true → (h : Bricks) → IsUnitStep p phase zs x h →
    phase_cost p phase x ≤ℤ phase_cost p phase (forth x h)
no_unit_step_gains p phase zs x rows program within layers starts h step =
    let t = p.brick.cols in
    let once = moved_once x h in
    let cost = phase_cost p phase (moved x 0 h) -ℤ phase_cost p phase x in
    let walk : IsWalk zs 0 p.bricks x (zeros t) h =
    record {
      size = step.size;
      moves = All-from_recursion (Contains zs) h step.moves;
      sums = All-from_recursion (Contains zs) (partial_sums (zeros t) h) step.sums;
      within = subst (AreWithin p.bricks) (sym once) step.within;
    } in
    let costs =
    sized_step_walks p zs t 0 x (All-from_recursion (λ v. length v ≡ t) x (sized p program x within)) phase h
    (All-from_recursion (λ v. length v ≡ t) h step.sized) walk (subst (AllowsEnd p phase) (sym once) step.end) in
    omega (
      arith,
      ints,
      walk_no_gain p phase zs (link_rests p x) x rows layers starts h cost costs,
      ap (phase_cost p phase) once,
    )
