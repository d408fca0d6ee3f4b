use Rattle.std.proofs.Common.{arith, ◌≡◌, ◌≤◌, ◌+◌, ◌-◌, ◌^◌, ◌∙◌, sym, ap, length, Some, slice_get, Option, ℤ, Vec}
use Rattle.std.proofs.Common.{Global}
use Rattle.std.proofs.lemmas.List.{take_all}
use Rattle.listed_sums.specs.Places.{vectors_of}
use Rattle.listed_potentials.specs.Sizes.{AreSmall}
use Rattle.listed_potentials.specs.Moves.{all_changes}
use Rattle.listed_potentials.proofs.RowLaws.{within-at, change-at, length-changes, next-list, all-next}
use Rattle.listed_potentials.proofs.layers.all_changes.Goals as goal

pub changes-requires-clause-within : goal.changes-requires-clause-within
changes-requires-clause-within c =
    λ b here.
    within-at c.args.program.now.bricks c.args.point.now (c.loop-before.before + 1 - 1) b c.brick-at.result.now
    c.requires.within here c.brick-at.ensures.vector

pub loop-before-preserved : goal.loop-before-preserved
loop-before-preserved c =
    let items = λ (v : Vec (Option ℤ) Global). v.items in
    let zs = vectors_of c.args.sums.now.rows in
    let bricks = c.args.program.now.bricks in
    let x = c.args.point.now in
    let at = c.brick-at.result.now in
    let place : c.loop-before.before + 1 - 1 ≡ c.loop-before.before = omega arith in
    let found = c.in_ok-changes.ensures.changes in
    let here : slice_get bricks c.loop-before.before ≡ Some found.0 = ap (slice_get bricks) (sym place) ∙ found.1 in
    let there : slice_get x c.loop-before.before ≡ Some at = ap (slice_get x) (sym place) ∙ c.brick-at.ensures.vector in
    let whole = all_changes c.args.phase zs bricks x in
    let listed : slice_get whole c.loop-before.before ≡ Some c.in_ok-changes.field-0.items =
    change-at c.args.phase zs bricks x c.loop-before.before found.0 at here there ∙ ap Some (sym found.2) in
    record {
      are = next-list items whole c.loop-before.before c.loop-before.all.items c.push.new.self.items
          c.in_ok-changes.field-0 listed c.loop-before.invariant.are c.in_ok-push.ensures.items;
      small = all-next (λ (cs : Vec (Option ℤ) Global). AreSmall (2 ^ 121) cs.items) c.loop-before.all.items
          c.push.new.self.items c.in_ok-changes.field-0 c.in_ok-push.ensures.items c.loop-before.invariant.small
          c.in_ok-changes.ensures.small;
    }

pub returns-clause-changes : goal.returns-clause-changes
returns-clause-changes c =
    let whole = all_changes c.args.phase (vectors_of c.args.sums.now.rows) c.args.program.now.bricks c.args.point.now in
    let past : length whole ≤ c.loop-before.before =
    omega (
      arith,
      length-changes c.args.phase (vectors_of c.args.sums.now.rows) c.args.program.now.bricks c.args.point.now
          c.requires.shape.bricks,
      c.n-before-end.ensures.bricks,
      c.loop-before-test.false,
    ) in
    c.loop-before.invariant.are ∙ take_all c.loop-before.before whole past
