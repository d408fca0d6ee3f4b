use Rattle.std.proofs.Common.{◌≡◌, ◌+◌, ◌-◌, ◌*◌, ◌^◌, ℤ, pos, ap, sym, subst, arith, rules, length, take, drop}
use Rattle.std.proofs.Common.{slice_get, Some, ◌∙◌, length-take}
use Rattle.std.specs.Prelude.{Vec, IsSome}
use Rattle.std.specs.declared.alloc.Global.{Global}
use Rattle.lattice_theory.specs.Vectors.{add, scale}
use Rattle.lattice_theory.specs.Matrices.{rows_of}
use Rattle.fold_theory.specs.Programs.{Program, IsProgram, Bricks, AreWithin}
use Rattle.fold_program.specs.Places.{OfBrick}
use Rattle.fold_program.specs.Points.{IsPoint}
use Rattle.fold_program.proofs.PointLaws.{shape_of}
use Rattle.run_theory.specs.Steps.{moved}
use Rattle.run_theory.specs.Outcomes.{Step}
use Rattle.lattice_laws.proofs.Places.{if_some}
use Rattle.step_targets.specs.Targets.{after, AreBetween}
use Rattle.phase_run.proofs.PointLaws.{step_sizes, part_within, leads_somewhere, leads_there, rows_of_point}
use Rattle.phase_run.proofs.PointLaws.{length-entries, width_at}
use Rattle.phase_run.proofs.StepLaws.{rest_of, named_part, moved_there, stepped_moved, stepped_still, stepped_all}
use Rattle.phase_run.proofs.points.stepped.Goals as goal
use Rattle.phase_run.proofs.points.stepped.Goals.{then-is_first+in_ok-end+in-Some+in_ok-extend_from_slice}
use Rattle.phase_run.proofs.points.stepped.Goals.{else-is_first+in_ok-extend_from_slice-2}

pub brick-at-requires-clause-to : goal.brick-at-requires-clause-to
brick-at-requires-clause-to c =
    let f = c.args.fold.now in
    let x = c.args.point.now in
    let program : IsProgram f.program = subst IsProgram c.program-program.ensures c.n-i-end.ensures.program in
    let shape = shape_of f.program x program c.requires.start.within in
    let bricks : c.n-i-end.result ≡ length f.program.bricks =
    c.n-i-end.ensures.bricks ∙ ap (λ (p : Program). length p.bricks) c.program-program.ensures in
    omega (arith, shape.bricks, bricks)

pub slice_bounds-target-end : goal.slice_bounds-target-end
slice_bounds-target-end c =
    let m = c.requires.step.0 in
    let best = c.requires.step.1 in
    let part =
    named_part c.args.fold.now c.args.point.now m _ _ _ _ _ _ _ c.program-program.ensures c.n-i-end.ensures.program
    c.n-i-end.ensures.bricks c.t-cols.ensures.cols c.requires.start.within c.sums.ensures.fold.widths best
    c.loop-i-test.true c.if-is_first.ensures (c.loop-i.invariant m best c.requires.step.2) in
    omega (arith, length-take c.t-cols.result c.loop-i.parts.now, part.room)

pub target-requires-clause-lowers : goal.target-requires-clause-lowers
target-requires-clause-lowers c =
    let width = width_at c.args.fold.now.program _ c.args.point.now _ _ c.program-program.ensures
    c.n-i-end.ensures.program c.requires.start.within c.brick-at.ensures.vector in
    omega (arith, width, c.lower_row-lower.ensures.width)

pub target-requires-clause-uppers : goal.target-requires-clause-uppers
target-requires-clause-uppers c =
    let width = width_at c.args.fold.now.program _ c.args.point.now _ _ c.program-program.ensures
    c.n-i-end.ensures.program c.requires.start.within c.brick-at.ensures.vector in
    omega (arith, width, c.upper_row-upper.ensures.width)

pub target-requires-clause-width : goal.target-requires-clause-width
target-requires-clause-width c =
    let m = c.requires.step.0 in
    let best = c.requires.step.1 in
    let part =
    named_part c.args.fold.now c.args.point.now m _ _ _ _ _ _ _ c.program-program.ensures c.n-i-end.ensures.program
    c.n-i-end.ensures.bricks c.t-cols.ensures.cols c.requires.start.within c.sums.ensures.fold.widths best
    c.loop-i-test.true c.if-is_first.ensures (c.loop-i.invariant m best c.requires.step.2) in
    let width = width_at c.args.fold.now.program _ c.args.point.now _ _ c.program-program.ensures
    c.n-i-end.ensures.program c.requires.start.within c.brick-at.ensures.vector in
    omega (arith, length-take c.t-cols.result c.loop-i.parts.now, part.room, width, c.t-cols.ensures.cols)

pub unreachable-requires : goal.unreachable-requires
unreachable-requires c =
    let f = c.args.fold.now in
    let x = c.args.point.now in
    let m = c.requires.step.0 in
    let best = c.requires.step.1 in
    let part =
    named_part c.args.fold.now c.args.point.now m _ _ _ _ _ _ _ c.program-program.ensures c.n-i-end.ensures.program
    c.n-i-end.ensures.bricks c.t-cols.ensures.cols c.requires.start.within c.sums.ensures.fold.widths best
    c.loop-i-test.true c.if-is_first.ensures (c.loop-i.invariant m best c.requires.step.2) in
    let program : IsProgram f.program = subst IsProgram c.program-program.ensures c.n-i-end.ensures.program in
    let sizes = step_sizes f x m program c.requires.start.within c.sums.ensures.fold.widths best in
    let index : c.loop-i.i + 1 - 1 ≡ c.loop-i.i = omega arith in
    let at : slice_get x c.loop-i.i ≡ Some c.brick-at.result.now =
    ap (slice_get x) (sym index) ∙ c.brick-at.ensures.vector in
    let number : c.step.inside.k ≡ m.k = ap (λ (s : Step). s.k) (c.step.view_is ∙ c.requires.step.2) in
    let there = moved_there f.program.link.cols m.k x m.bricks sizes.same sizes.point sizes.parts c.loop-i.i
    c.brick-at.result.now part.part at part.there in
    let lowers =
    subst (λ p. OfBrick p (c.loop-i.i + 1) (λ b. c.lower_row-lower.result.now ≡ b.lower)) c.program-program.ensures
    c.lower_row-lower.ensures.bounds in
    let uppers =
    subst (λ p. OfBrick p (c.loop-i.i + 1) (λ b. c.upper_row-upper.result.now ≡ b.upper)) c.program-program.ensures
    c.upper_row-upper.ensures.bounds in
    let between =
    part_within f x m c.loop-i.i c.step.inside.k c.brick-at.result.now part.part c.lower_row-lower.result.now
    c.upper_row-upper.result.now best number there
    lowers uppers in
    leads_somewhere c.lower_row-lower.result.now c.upper_row-upper.result.now _ c.in_ok-end.field-0 c.in_ok-end.ensures
    c.in_default.is
    (subst (λ d. AreBetween c.lower_row-lower.result.now c.upper_row-upper.result.now
    (after c.step.inside.k c.brick-at.result.now d)) (sym part.is) between)

pub slice_bounds-parts-count : goal.slice_bounds-parts-count
slice_bounds-parts-count c =
    let m = c.requires.step.0 in
    let best = c.requires.step.1 in
    let part =
    named_part c.args.fold.now c.args.point.now m _ _ _ _ _ _ _ c.program-program.ensures c.n-i-end.ensures.program
    c.n-i-end.ensures.bricks c.t-cols.ensures.cols c.requires.start.within c.sums.ensures.fold.widths best
    c.loop-i-test.true c.if-is_first.ensures (c.loop-i.invariant m best c.requires.step.2) in
    omega (arith, part.room)

pub slice_bounds-parts-start : goal.slice_bounds-parts-start
slice_bounds-parts-start c = let room = slice_bounds-parts-count c in search rules

pub loop-i-preserved : goal.loop-i-preserved
loop-i-preserved c = λ m best is.
    let f = c.args.fold.now in
    let x = c.args.point.now in
    let program : IsProgram f.program = subst IsProgram c.program-program.ensures c.n-i-end.ensures.program in
    let shape = shape_of f.program x program c.requires.start.within in
    let bricks : c.n-i-end.result ≡ length f.program.bricks =
    c.n-i-end.ensures.bricks ∙ ap (λ (p : Program). length p.bricks) c.program-program.ensures in
    let sizes = step_sizes f x m program c.requires.start.within c.sums.ensures.fold.widths best in
    let index : c.loop-i.i + 1 - 1 ≡ c.loop-i.i = omega arith in
    let at : slice_get x c.loop-i.i ≡ Some c.brick-at.result.now =
    ap (slice_get x) (sym index) ∙ c.brick-at.ensures.vector in
    let cols : c.t-cols.result ≡ f.program.link.cols =
    c.t-cols.ensures.cols ∙ ap (λ (p : Program). p.link.cols) c.program-program.ensures in
    let number : c.step.inside.k ≡ m.k = ap (λ (s : Step). s.k) (c.step.view_is ∙ is) in
    elim c.if-is_first.branch [
      | then-is_first+in_ok-end+in-Some+in_ok-extend_from_slice w ↦
          let end : w.deref.result.now ≡ add c.brick-at.result.now
          (scale (pos (2 ^ m.k)) (take f.program.link.cols c.loop-i.parts.now)) =
          w.deref.ensures.value
          ∙ leads_there w.lower_row-lower.result.now w.upper_row-upper.result.now _ w.in_ok-end.field-0 w.in-Some.end
          w.in_ok-end.ensures w.in-Some.is
          ∙ (λ j. after (number j) c.brick-at.result.now (take (cols j) c.loop-i.parts.now)) in
          stepped_moved f.program.link.cols m.k x m.bricks sizes.same sizes.point sizes.parts c.loop-i.i
          c.brick-at.result.now w.deref.result.now
          c.loop-i.entries.items c.if-is_first.entries.items c.loop-i.names.now c.if-is_first.names.now
          c.loop-i.parts.now c.if-is_first.parts.now at
          w.if-is_first.ensures end (ap (λ (v : Vec ℤ Global). v.items) w.entries-is
          ∙ w.in_ok-extend_from_slice.ensures.items)
          (rest_of 1 c.loop-i.names.now c.if-is_first.names.now (ap (λ r. r.now) w.names-is))
          (rest_of c.t-cols.result c.loop-i.parts.now c.if-is_first.parts.now (ap (λ r. r.now) w.parts-is)
          ∙ ap (λ n. drop n c.loop-i.parts.now) cols)
          (c.loop-i.invariant m best is)
      | else-is_first+in_ok-extend_from_slice-2 w ↦
          stepped_still f.program.link.cols m.k x m.bricks sizes.same sizes.point sizes.parts c.loop-i.i
          c.brick-at.result.now
          c.loop-i.entries.items c.if-is_first.entries.items c.loop-i.names.now c.if-is_first.names.now
          c.loop-i.parts.now c.if-is_first.parts.now at
          w.if-is_first.ensures (ap (λ (v : Vec ℤ Global). v.items) w.entries-is
          ∙ w.in_ok-extend_from_slice-2.ensures.items)
          (ap (λ r. r.now) w.names-is) (ap (λ r. r.now) w.parts-is) (c.loop-i.invariant m best is)
    ]

pub unwrap-requires : goal.unwrap-requires
unwrap-requires c =
    let f = c.args.fold.now in
    let x = c.args.point.now in
    let program : IsProgram f.program = subst IsProgram c.program-program.ensures c.n-i-end.ensures.program in
    let shape = shape_of f.program x program c.requires.start.within in
    let bricks : c.n-i-end.result ≡ length f.program.bricks =
    c.n-i-end.ensures.bricks ∙ ap (λ (p : Program). length p.bricks) c.program-program.ensures in
    let m = c.requires.step.0 in
    let best = c.requires.step.1 in
    let sizes = step_sizes f x m program c.requires.start.within c.sums.ensures.fold.widths best in
    let y : Bricks = moved x m.k m.bricks in
    let within : AreWithin f.program.bricks y = best.augments.candidate.walk.within in
    let whole = stepped_all f.program.link.cols m.k x m.bricks sizes.same sizes.point sizes.parts c.loop-i.i
    c.loop-i.names.now c.loop-i.parts.now c.loop-i.entries.items
    (omega (arith, shape.bricks, bricks, c.loop-i-test.false)) (c.loop-i.invariant m best c.requires.step.2) in
    subst (λ (p : Program). length c.loop-i.entries.items ≡ length p.bricks * p.link.cols →
    AreWithin p.bricks (rows_of (length p.bricks) p.link.cols c.loop-i.entries.items) →
    IsSome c.new.result) c.program-program.ensures c.new.ensures.within
    (length-entries f.program y c.loop-i.entries.items program within whole)
    (subst (AreWithin f.program.bricks) (sym (rows_of_point f.program y c.loop-i.entries.items program within whole))
    within)

pub returns : goal.returns
returns c = λ m best is.
    let f = c.args.fold.now in
    let x = c.args.point.now in
    let program : IsProgram f.program = subst IsProgram c.program-program.ensures c.n-i-end.ensures.program in
    let shape = shape_of f.program x program c.requires.start.within in
    let bricks : c.n-i-end.result ≡ length f.program.bricks =
    c.n-i-end.ensures.bricks ∙ ap (λ (p : Program). length p.bricks) c.program-program.ensures in
    let sizes = step_sizes f x m program c.requires.start.within c.sums.ensures.fold.widths best in
    let y : Bricks = moved x m.k m.bricks in
    let within : AreWithin f.program.bricks y = best.augments.candidate.walk.within in
    let whole = stepped_all f.program.link.cols m.k x m.bricks sizes.same sizes.point sizes.parts c.loop-i.i
    c.loop-i.names.now c.loop-i.parts.now c.loop-i.entries.items
    (omega (arith, shape.bricks, bricks, c.loop-i-test.false)) (c.loop-i.invariant m best is) in
    let made = if_some (IsPoint c.program-program.result.now c.loop-i.entries.items) c.new.result c.unwrap.result
    c.unwrap.ensures c.new.ensures.made in
    made.value ∙ ap (λ (p : Program). rows_of (length p.bricks) p.link.cols c.loop-i.entries.items)
    c.program-program.ensures
    ∙ rows_of_point f.program y c.loop-i.entries.items program within whole
