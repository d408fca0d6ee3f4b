-- Runs of a brick: they begin with the numbers nearest to 0 between the bounds, stay there, and end where no step
-- helps.
use Rattle.std.proofs.Common.{◌≡◌, ℤ, pos, ◌≤ℤ◌, int_lt, Bool, true, false, cond, [], ◌∷◌, refl, arith, List, sym}
use Rattle.std.proofs.Common.{subst}
use Rattle.std.proofs.lemmas.Int.{ints}
use Rattle.std.specs.List.{AllZip}
use Rattle.lattice_theory.specs.Lists.{zip_with}
use Rattle.lattice_theory.specs.Vectors.{Vector}
use Rattle.fold_theory.specs.Programs.{Program, Brick, IsWithin}
use Rattle.lattice_laws.proofs.Tests.{int_lt_false}
use Rattle.run_theory.specs.BrickRuns.{nearest, nearest_point, BrickMove, stepped, Improves, IsBrickRunFrom, IsBrickRun}

-- the number that is nearest to 0 is between the two
pub nearest_between : (lo hi : ℤ) → lo ≤ℤ hi → (lo ≤ℤ nearest lo hi) × (nearest lo hi ≤ℤ hi)
nearest_between lo hi uncrossed = by (int_lt (pos 0) lo) refl (int_lt hi (pos 0)) refl
  where
    by : (s : Bool) → int_lt (pos 0) lo ≡ s → (t : Bool) → int_lt hi (pos 0) ≡ t →
        (lo ≤ℤ cond s lo (cond t hi (pos 0))) × (cond s lo (cond t hi (pos 0)) ≤ℤ hi)
    by true e t f = (omega (arith, ints), uncrossed)
    by false e true f = (uncrossed, omega (arith, ints))
    by false e false f = (int_lt_false (pos 0) lo e, int_lt_false hi (pos 0) f)

-- and so for each entry of a brick
pub nearest_all : (lower upper : Vector) → AllZip ◌≤ℤ◌ lower upper →
    AllZip ◌≤ℤ◌ lower (zip_with nearest lower upper) × AllZip ◌≤ℤ◌ (zip_with nearest lower upper) upper
nearest_all [] [] uncrossed = (tt, tt)
nearest_all [] (u ∷ upper) uncrossed = absurd uncrossed
nearest_all (l ∷ lower) [] uncrossed = absurd uncrossed
nearest_all (l ∷ lower) (u ∷ upper) uncrossed =
    let here = nearest_between l u uncrossed.0 in
    let rest = nearest_all lower upper uncrossed.1 in
    ((here.0, rest.0), (here.1, rest.1))

-- within the bounds, and no step lowers the residual
pub record IsEnd (p : Program) (basis : List Vector) (b : Brick) (v : Vector) : Type 0 where
  pub within : IsWithin b v
  pub none : (m : BrickMove) → Improves p basis b v m → ⊥

run_end : (p : Program) (basis : List Vector) (b : Brick) (v : Vector) (ms : List BrickMove) (last : Vector) →
    IsWithin b v → IsBrickRunFrom p basis b v ms last → IsEnd p basis b last
run_end p basis b v [] last within run =
    subst (IsEnd p basis b) (sym run.1) (record { within = within; none = run.0 })
run_end p basis b v (m ∷ ms) last within run =
    run_end p basis b (stepped v m) ms last run.0.improves.within run.1

-- where a brick's run ends
pub brick_run_end : (p : Program) (basis : List Vector) (b : Brick) (ms : List BrickMove) (last : Vector) →
    AllZip ◌≤ℤ◌ b.lower b.upper → IsBrickRun p basis b ms last → IsEnd p basis b last
brick_run_end p basis b ms last uncrossed run =
    run_end p basis b (nearest_point b) ms last (nearest_all b.lower b.upper uncrossed) run
