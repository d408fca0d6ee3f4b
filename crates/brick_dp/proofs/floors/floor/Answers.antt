use Rattle.std.proofs.Common.{◌≡◌, ◌∙◌, ◌+◌, ◌-◌, ◌*◌, ◌≤◌, ◌^◌, ◌+ℤ◌, ap, arith, rules, subst, slice_get, length, Some}
use Rattle.std.proofs.Common.{FitsSigned, to_z, ◌<◌, unsigned_abs, sum_by, drop}
use Rattle.std.specs.Int.{w128}
use Rattle.std.proofs.lemmas.Int.{to_z-of_z, fits_signed_from_abs}
use Rattle.fold_theory.specs.Programs.{Program, IsProgram}
use Rattle.lattice_laws.proofs.Places.{there_at}
use Rattle.fold_program.specs.Refusals.{brick_magnitude, total_magnitude}
use Rattle.sieve_laws.specs.Sieve.{Menu}
use Rattle.brick_dp.specs.Needs.{IsLeastOf}
use Rattle.brick_dp.proofs.FillLaws.{at_brick, AtBrick}
use Rattle.brick_dp.proofs.FloorLaws.{floor_more, floor_small}
use Rattle.brick_dp.proofs.floors.floor.Goals as goal
use Rattle.brick_dp.proofs.floors.floor.Goals.{After-n-done-end, After-least-floor}

-- the bricks are counted
bricks_are : (c : After-n-done-end) → c.n-done-end.result ≡ length c.args.fold.now.program.bricks
bricks_are c = c.n-done-end.ensures.bricks ∙ ap (λ (p : Program). length p.bricks) c.program.ensures

-- one more is left
low : (c : After-least-floor) → c.loop-done.done < length c.args.fold.now.program.bricks
low c = omega (arith, bricks_are (goal.at.After-least-floor c).After-n-done-end, c.loop-done-test.true)

-- its menu
menu : (c : After-least-floor) → (m : Menu) × (slice_get c.args.menus.now c.loop-done.done ≡ Some m)
menu c = there_at c.args.menus.now c.loop-done.done (omega (arith, low c, c.requires.menus.size))

-- and its vector
here : (c : After-least-floor) → AtBrick c.args.fold.now c.args._point.now c.args._k c.loop-done.done (menu c).0
here c =
    at_brick c.args.fold.now c.args._point.now c.args._k c.loop-done.done c.args.menus.now (menu c).0
    (subst IsProgram c.program.ensures c.n-done-end.ensures.program) c.requires.within c.requires.menus (low c)
    (menu c).1

-- the least change is that of this menu
lowest : (c : After-least-floor) → IsLeastOf (menu c).0 c.least-floor.result
lowest c =
    let place : c.loop-done.done + 1 - 1 ≡ c.loop-done.done = omega arith in
    c.least-floor.ensures (menu c).0 (ap (slice_get c.args.menus.now) place ∙ (menu c).1)

-- the floor and the changes that are left stay small
small : (c : After-least-floor) → unsigned_abs (to_z w128 c.loop-done.floor-bits +ℤ c.least-floor.result)
    + 2 * sum_by brick_magnitude (drop (c.loop-done.done + 1) c.args.fold.now.program.bricks)
    ≤ 2 * total_magnitude c.args.fold.now.program
small c =
    floor_small c.args.fold.now c.args._point.now c.args._k c.loop-done.done (menu c).0
    (to_z w128 c.loop-done.floor-bits) c.least-floor.result (2 * total_magnitude c.args.fold.now.program) (here c)
    (lowest c) c.loop-done.invariant.small

-- so the next floor fits
fits : (c : After-least-floor) → FitsSigned w128 (to_z w128 c.loop-done.floor-bits +ℤ c.least-floor.result)
fits c =
    let most : total_magnitude c.args.fold.now.program ≤ 2 ^ 120 =
    subst (λ p. total_magnitude p ≤ 2 ^ 120) c.program.ensures c.n-done-end.ensures.magnitude in
    fits_signed_from_abs w128 (to_z w128 c.loop-done.floor-bits +ℤ c.least-floor.result) (omega (arith, small c, most))

pub overflow_add-floor : goal.overflow_add-floor
overflow_add-floor c =
    let found : FitsSigned w128 c.least-floor.result = search rules in
    simp to_z-of_z (fits (goal.at.overflow_add-floor c).After-least-floor)

pub loop-done-preserved : goal.loop-done-preserved
loop-done-preserved c =
    let past = (goal.at.loop-done-preserved c).After-least-floor in
    let found : FitsSigned w128 c.least-floor.result = search rules in
    let sum : FitsSigned w128 (to_z w128 c.loop-done.floor-bits +ℤ c.least-floor.result) = fits past in
    simp to_z-of_z (record {
      is =
          floor_more c.args.fold.now c.args._point.now c.args._k c.loop-done.done (menu past).0
          (to_z w128 c.loop-done.floor-bits) c.least-floor.result (here past) c.requires.zero (lowest past)
          c.loop-done.invariant.is;
      small = small past;
    })
