use Rattle.std.proofs.Common.{◌≡◌, ◌∙◌, ◌+◌, ◌-◌, ◌^◌, ◌≤◌, ◌<◌, ◌-ℤ◌, ap, subst, arith, rules, length, Some}
use Rattle.std.proofs.Common.{FitsSigned, ℕ, ◌++◌, ◌∷◌, [], refl}
use Rattle.std.specs.Prelude.{slice_get}
use Rattle.std.specs.Int.{w128}
use Rattle.std.proofs.lemmas.Int.{ints, to_z-of_z, fits_signed_from_abs}
use Rattle.fold_theory.specs.Programs.{Program, IsProgram}
use Rattle.lattice_laws.proofs.Places.{there_at}
use Rattle.fold_laws.proofs.Points.{point-length}
use Rattle.fold_program.specs.Refusals.{total_magnitude}
use Rattle.sieve_laws.specs.Sieve.{Menu}
use Rattle.brick_dp.specs.Needs.{IsLeastOf, IsSwept}
use Rattle.brick_dp.proofs.FillLaws.{AtBrick, at_brick}
use Rattle.brick_dp.proofs.FloorLaws.{floor_fits}
use Rattle.brick_dp.proofs.PassLaws.{swept_idle, last_of}
use Rattle.brick_dp.proofs.filling.pass_block.Goals as goal
use Rattle.brick_dp.proofs.filling.pass_block.Goals.{After-n-bricks, After-least}

pub loop-passed-init : goal.loop-passed-init
loop-passed-init g c =
    let none : c.args.done ≡ c.args.done + 0 = omega arith in
    record {
      swept =
          subst (λ m. IsSwept c.args.fold.now c.args._point.now c.args._k m (g.B.Bound.last c.args._bound.now)
          c.args.layers.now c.args._layer.now c.args.floor.now) none
          c.requires.swept;
      rises = omega (arith, ints);
    }

-- ---- a brick that is passed

-- how many layers lie behind it
abbrev passed : (g : _) → After-least g → ℕ
passed g c = c.args.done + c.loop-passed.passed

-- the bricks are counted
bricks_are : (g : _) (c : After-n-bricks g) → c.n-bricks.result ≡ length c.args.fold.now.program.bricks
bricks_are g c = c.n-bricks.ensures.bricks ∙ ap (λ (p : Program). length p.bricks) c.program.ensures

-- one more is left
low : (g : _) (c : After-least g) → passed g c < length c.args.fold.now.program.bricks
low g c = omega (arith, c.requires.whole, c.loop-passed-test.true)

-- its menu
menu : (g : _) (c : After-least g) → (e : Menu) ×
    (slice_get c.args.menus.now (length c.args.fold.now.program.bricks - passed g c - 1) ≡ Some e)
menu g c =
    there_at c.args.menus.now (length c.args.fold.now.program.bricks - passed g c - 1)
    (omega (arith, low g c, c.requires.menus.size))

-- and its vector
here : (g : _) (c : After-least g) → AtBrick c.args.fold.now c.args._point.now c.args._k
    (length c.args.fold.now.program.bricks - passed g c - 1) (menu g c).0
here g c =
    at_brick c.args.fold.now c.args._point.now c.args._k (length c.args.fold.now.program.bricks - passed g c - 1)
    c.args.menus.now (menu g c).0 (subst IsProgram c.program.ensures c.n-bricks.ensures.program) c.requires.within
    c.requires.menus (omega (arith, low g c)) (menu g c).1

-- the least change is that of this menu
lowest : (g : _) (c : After-least g) → IsLeastOf (menu g c).0 c.least.result
lowest g c =
    let bricks = bricks_are g (goal.at.After-least g c).After-n-bricks in
    let index : c.n-bricks.result - c.args.done - c.loop-passed.passed - 1 ≡
    length c.args.fold.now.program.bricks - passed g c - 1 = omega (arith, bricks) in
    c.least.ensures (menu g c).0 (ap (slice_get c.args.menus.now) index ∙ (menu g c).1)

-- what the sweep is before it
swept_next : (g : _) (c : After-least g) → IsSwept c.args.fold.now c.args._point.now c.args._k (passed g c + 1)
    (g.B.Bound.last c.args._bound.now) c.repeat.new.self c.args._layer.now (c.loop-passed.floor -ℤ c.least.result)
swept_next g c =
    let f = c.args.fold.now in
    let x = c.args._point.now in
    let m = passed g c in
    let bound = g.B.Bound.last c.args._bound.now in
    let same = point-length f.program.bricks x c.requires.within in
    let idle = c.requires.idle (length f.program.bricks - m - 1) (menu g c).0
    (omega (arith, c.loop-passed-test.true)) (omega (arith, low g c)) (menu g c).1 in
    let last = last_of f x c.args._k same c.sums.ensures.fold.widths c.requires.zero m bound c.loop-passed.layers
    (c.loop-passed.layers ++ c.args._layer.now ∷ []) c.args._layer.now (menu g c).0 c.loop-passed.floor
    c.args.floor.now c.least.result c.args._limit (low g c) (here g c) (lowest g c) c.loop-passed.invariant.swept
    c.loop-passed.invariant.rises c.requires.hope idle refl in
    swept_idle f x c.args._k same c.sums.ensures.fold.widths c.requires.zero m bound c.loop-passed.layers
    c.repeat.new.self c.args._layer.now (menu g c).0 c.loop-passed.floor c.args.floor.now c.least.result c.args._limit
    (low g c) (here g c) (lowest g c) c.loop-passed.invariant.swept c.loop-passed.invariant.rises c.requires.hope idle
    (c.in_ok-repeat.ensures.again c.args._layer.now last)

-- its floor fits
next_fits : (g : _) (c : After-least g) → FitsSigned w128 (c.loop-passed.floor -ℤ c.least.result)
next_fits g c =
    let f = c.args.fold.now in
    let most : total_magnitude f.program ≤ 2 ^ 120 =
    subst (λ p. total_magnitude p ≤ 2 ^ 120) c.program.ensures c.n-bricks.ensures.magnitude in
    fits_signed_from_abs w128 (c.loop-passed.floor -ℤ c.least.result)
    (omega (
      arith,
      floor_fits f (length f.program.bricks - (passed g c + 1)) (c.loop-passed.floor -ℤ c.least.result) most
          (swept_next g c).floor.small,
    ))

pub overflow_sub-floor : goal.overflow_sub-floor
overflow_sub-floor g c =
    let past = (goal.at.overflow_sub-floor g c).After-least in
    let before : FitsSigned w128 c.loop-passed.floor = search rules in
    let found : FitsSigned w128 c.least.result = search rules in
    let fits : FitsSigned w128 (c.loop-passed.floor -ℤ c.least.result) = next_fits g past in
    simp to_z-of_z fits

pub loop-passed-preserved : goal.loop-passed-preserved
loop-passed-preserved g c =
    let past = c.before in
    let before : FitsSigned w128 c.loop-passed.floor = search rules in
    let found : FitsSigned w128 c.least.result = search rules in
    let fits : FitsSigned w128 (c.loop-passed.floor -ℤ c.least.result) = next_fits g past in
    let place : passed g past + 1 ≡ c.args.done + (c.loop-passed.passed + 1) = omega arith in
    simp to_z-of_z (record {
      swept =
          subst (λ m. IsSwept c.args.fold.now c.args._point.now c.args._k m (g.B.Bound.last c.args._bound.now)
          c.repeat.new.self c.args._layer.now (c.loop-passed.floor -ℤ c.least.result)) place (swept_next g past);
      rises = omega (arith, ints, c.loop-passed.invariant.rises, (lowest g past).below_zero);
    })

pub returns-clause-swept : goal.returns-clause-swept
returns-clause-swept g c =
    let all : c.args.done + c.loop-passed.passed ≡ c.args.done + 16 =
    omega (arith, c.loop-passed-test.false, c.loop-passed.auto.passed-end) in
    subst (λ m. IsSwept c.args.fold.now c.args._point.now c.args._k m (g.B.Bound.last c.args._bound.now)
    c.loop-passed.layers c.args._layer.now c.loop-passed.floor) all c.loop-passed.invariant.swept
