use Rattle.std.proofs.Common.{◌≡◌, ◌<◌, ◌-◌, ◌∙◌, ◌+◌, ◌≤◌, ◌^◌, ap, sym, subst, arith, rules, length, slice_get}
use Rattle.std.proofs.Common.{Some, List, pos, ◌-ℤ◌, FitsSigned, ℕ, All, to_z}
use Rattle.std.specs.Int.{w128}
use Rattle.std.proofs.lemmas.Int.{to_z-of_z}
use Rattle.std.proofs.lemmas.List.{length-map}
use Rattle.std.proofs.lemmas.Option.{slice_get_within}
use Rattle.lattice_theory.specs.SignedSums.{Sum, vectors}
use Rattle.lattice_theory.specs.Vectors.{Vector}
use Rattle.fold_theory.specs.Programs.{Program, IsProgram}
use Rattle.fold_laws.proofs.Points.{point-length}
use Rattle.fold_program.specs.Refusals.{total_magnitude}
use Rattle.sieve_laws.specs.Sieve.{Goes}
use Rattle.layer_sieve.specs.Reaching.{IsFair, IsChoice}
use Rattle.brick_dp.proofs.FillLaws.{at_brick, AtBrick, fair_menu, most_small, cells_small}
use Rattle.brick_dp.proofs.ReadLaws.{Reading, reading_none, reading_more, reading_found, choice_there}
use Rattle.brick_dp.proofs.BestLaws.{zero_of}
use Rattle.brick_dp.proofs.reading.step_from.Goals as goal
use Rattle.brick_dp.proofs.reading.step_from.Goals.{After-n-bricks, After-of-menu, After-get-next}

-- the bricks are counted
bricks_are : (c : After-n-bricks) → c.n-bricks.result ≡ length c.args.fold.now.program.bricks
bricks_are c = c.n-bricks.ensures.bricks ∙ ap (λ (p : Program). length p.bricks) c.program.ensures

-- and small
most : (c : After-n-bricks) → total_magnitude c.args.fold.now.program ≤ 2 ^ 120
most c = subst (λ p. total_magnitude p ≤ 2 ^ 120) c.program.ensures c.n-bricks.ensures.magnitude

-- one more is left
low : (c : After-of-menu) → c.loop-done.done < length c.args.fold.now.program.bricks
low c = omega (arith, bricks_are (goal.at.After-of-menu c).After-n-bricks, c.loop-done-test.true)

-- its vector and its menu
here : (c : After-of-menu) →
    AtBrick c.args.fold.now c.args._point.now c.args.k c.loop-done.done c.of-menu.result.now
here c =
    let place : c.loop-done.done + 1 - 1 ≡ c.loop-done.done = omega arith in
    at_brick c.args.fold.now c.args._point.now c.args.k c.loop-done.done c.args.menus.now c.of-menu.result.now
    (subst IsProgram c.program.ensures c.n-bricks.ensures.program) c.requires.within c.requires.menus (low c)
    (ap (slice_get c.args.menus.now) (sym place) ∙ c.of-menu.ensures)

-- the layer behind it
layer_is : (c : After-get-next) → slice_get c.args.layers.now
    (length c.args.fold.now.program.bricks - (c.loop-done.done + 1)) ≡ Some c.get-next.result.now
layer_is c =
    let bricks = bricks_are (goal.at.After-get-next c).After-n-bricks in
    let index : c.n-bricks.result - c.loop-done.done - 1 ≡ length c.args.fold.now.program.bricks
    - (c.loop-done.done + 1) = omega (arith, bricks) in
    ap (slice_get c.args.layers.now) (sym index) ∙ c.get-next.ensures

-- what was read so far
read : (c : After-get-next) → Reading c.args.fold.now c.args._point.now c.args.k c.args.layers.now c.args.total
    c.loop-done.done c.loop-done.sum (to_z w128 c.loop-done.cost-bits) c.loop-done.moved.items c.loop-done.entries.items
read c =
    let total : FitsSigned w128 c.args.total = search rules in
    simp to_z-of_z at c.loop-done.invariant

pub loop-done-init : goal.loop-done-init
loop-done-init c =
    let f = c.args.fold.now in
    let zero = zero_of f.sums _ f.program.brick.cols c.zero-sum.result c.sums.ensures.fold.widths c.sums.ensures.sums
    c.zero-sum.ensures in
    let total : FitsSigned w128 c.args.total = search rules in
    simp to_z-of_z (
    reading_none f c.args._point.now c.args.k c.args.layers.now c.args.total c.zero-sum.result c.new-moved.result.items
    c.new-entries.result.items c.requires.rising zero
    c.new-moved.ensures.items c.new-entries.ensures.items c.requires.first
    )

pub first_choice-requires-clause-fair : goal.first_choice-requires-clause-fair
first_choice-requires-clause-fair c =
    let past = goal.at.first_choice-requires-clause-fair c in
    let f = c.args.fold.now in
    let here = here past.After-of-menu in
    subst (λ (s : List Sum). All (IsFair (length s)) c.of-menu.result.now) (sym c.requires.targets) (
    fair_menu f c.args.k c.loop-done.done here.brick here.vector c.of-menu.result.now (most past.After-n-bricks)
    here.brick_there here.menu_is
    )

pub first_choice-requires-clause-small : goal.first_choice-requires-clause-small
first_choice-requires-clause-small c =
    let f = c.args.fold.now in
    let m : ℕ = c.n-bricks.result - c.loop-done.done - 1 in
    let layer = c.requires.layers.each m c.get-next.result.now c.get-next.ensures in
    most_small f.program (length f.program.bricks - m) c.get-next.result.now
    (most (goal.at.first_choice-requires-clause-small c).After-n-bricks)
    (cells_small f c.args._point.now c.args.k (length f.program.bricks - m) (pos 0 -ℤ c.args.total)
    c.get-next.result.now layer)

pub first_choice-requires-clause-from : goal.first_choice-requires-clause-from
first_choice-requires-clause-from c =
    let fs = c.args.fold.now.sums in
    let r = c.loop-done.invariant in
    let low = slice_get_within (vectors fs) c.loop-done.sum r.sum r.listed in
    omega (arith, low, length-map {A = Sum} {B = Vector} fs (λ s. s.vector), ap length c.requires.targets)

pub unreachable-requires : goal.unreachable-requires
unreachable-requires c =
    let past = goal.at.unreachable-requires c in
    choice_there c.args.fold.now c.args._point.now c.args.k c.args.layers.now c.args.total c.requires.layers
    c.loop-done.done c.loop-done.sum (to_z w128 c.loop-done.cost-bits) c.loop-done.moved.items c.loop-done.entries.items
    c.of-menu.result.now c.get-next.result.now (low past.After-of-menu) (read past.After-get-next)
    (here past.After-of-menu) (layer_is past.After-get-next)
    (λ i goes. c.in_default.ensures i (
    subst (λ (s : List Sum). Goes (vectors s) c.of-menu.result.now c.get-next.result.now c.loop-done.sum i
    (to_z w128 c.loop-done.cost-bits)) (sym c.requires.targets) goes
    ))

pub sum-requires : goal.sum-requires
sum-requires c =
    let fs = c.args.fold.now.sums in
    let chosen = c.in-Some.ensures in
    let low = slice_get_within (vectors c.args.targets.now) (chosen.first.goes.move).place _
    (chosen.first.goes.reach.leads.move) in
    omega (
      arith,
      low,
      chosen.place,
      length-map {A = Sum} {B = Vector} c.args.targets.now (λ s. s.vector),
      ap length c.requires.targets,
    )

pub loop-done-preserved : goal.loop-done-preserved
loop-done-preserved c =
    let past = goal.at.loop-done-preserved c in
    let f = c.args.fold.now in
    let rest : FitsSigned w128 c.in-Some.choice.rest = search rules in
    let total : FitsSigned w128 c.args.total = search rules in
    let chosen : IsChoice (vectors f.sums) c.of-menu.result.now c.get-next.result.now c.loop-done.sum
    (to_z w128 c.loop-done.cost-bits) c.in-Some.choice =
    subst (λ (s : List Sum). IsChoice (vectors s) c.of-menu.result.now c.get-next.result.now c.loop-done.sum
    (to_z w128 c.loop-done.cost-bits) c.in-Some.choice)
    c.requires.targets c.in-Some.ensures in
    simp to_z-of_z (
    reading_more f c.args._point.now c.args.k c.args.layers.now c.args.total c.requires.layers c.loop-done.done
    c.loop-done.sum (to_z w128 c.loop-done.cost-bits)
    c.loop-done.moved.items c.note.new.bricks.items c.loop-done.entries.items c.note.new.entries.items
    c.of-menu.result.now
    c.get-next.result.now c.in-Some.choice c.sum.result.now c.requires.rising
    (low past.After-of-menu) (read past.After-get-next) (here past.After-of-menu) (layer_is past.After-get-next)
    chosen c.sum.ensures.vector c.in_ok-note.ensures.bricks c.in_ok-note.ensures.entries
    )

pub returns : goal.returns
returns c =
    let f = c.args.fold.now in
    let program : IsProgram f.program = subst IsProgram c.program.ensures c.n-bricks.ensures.program in
    let bricks = bricks_are (goal.at.returns c).After-n-bricks in
    let all : c.loop-done.done ≡ length f.program.bricks =
    omega (arith, bricks, c.loop-done-test.false, c.loop-done.auto.done-end) in
    let total : FitsSigned w128 c.args.total = search rules in
    let value = simp to_z-of_z at c.unsigned_abs.ensures.value in
    let r : Reading f c.args._point.now c.args.k c.args.layers.now c.args.total c.loop-done.done c.loop-done.sum
    (to_z w128 c.loop-done.cost-bits)
    c.loop-done.moved.items c.loop-done.entries.items = simp to_z-of_z at c.loop-done.invariant in
    reading_found f c.args._point.now c.args.k c.args.layers.now c.args.total c.requires.layers
    (point-length f.program.bricks c.args._point.now c.requires.within)
    c.sums.ensures.fold.widths c.loop-done.sum (to_z w128 c.loop-done.cost-bits) c.loop-done.moved.items
    c.loop-done.entries.items c.unsigned_abs.result program
    c.requires.within program.brick_shape.width c.requires.length c.requires.lowers value
    (subst (λ n. Reading f c.args._point.now c.args.k c.args.layers.now c.args.total n c.loop-done.sum
    (to_z w128 c.loop-done.cost-bits) c.loop-done.moved.items
    c.loop-done.entries.items) all r)
