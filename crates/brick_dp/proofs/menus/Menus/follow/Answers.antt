use Rattle.std.proofs.Common.{◌≡◌, ◌∙◌, ◌+◌, ◌-◌, ap, sym, arith, length, subst, Some, List, false}
use Rattle.std.specs.Prelude.{slice_get}
use Rattle.std.proofs.lemmas.Option.{slice_get-get_or}
use Rattle.fold_theory.specs.Programs.{Program, IsProgram}
use Rattle.fold_laws.proofs.Points.{point-length, within_at}
use Rattle.sieve_laws.specs.Sieve.{Menu}
use Rattle.fold_program.proofs.PointLaws.{shape_of}
use Rattle.brick_dp.proofs.ChangeLaws.{sized_at}
use Rattle.brick_dp.proofs.MenuLaws.{AreFollowing, following_none, following_same, following_new, following_all}
use Rattle.brick_dp.proofs.MenuLaws.{following_listed}
use Rattle.brick_dp.proofs.menus.Menus.follow.Goals as goal
use Rattle.brick_dp.proofs.menus.Menus.follow.Goals.{then-changed-done+in_ok-renew, else-changed-done}

pub loop-done-init : goal.loop-done-init
loop-done-init c =
    following_none c.args.fold.now c.args._before.now c.args.after.now c.args.k c.args.self.now c.requires.menus

pub bounds-changed-done : goal.bounds-changed-done
bounds-changed-done c =
    omega (
      arith,
      point-length c.args.fold.now.program.bricks c.args.after.now c.requires.within,
      c.loop-done-test.true,
      c.requires.changed.size,
      c.n-done-end.ensures.bricks,
      ap (λ (p : Program). length p.bricks) c.program.ensures,
    )

pub renew-requires-clause-within : goal.renew-requires-clause-within
renew-requires-clause-within c = λ b there.
    within_at c.args.fold.now.program.bricks c.args.after.now (c.loop-done.done + 1 - 1) b c.brick.result.now
    c.requires.within there c.brick.ensures.vector

pub renew-requires-clause-size : goal.renew-requires-clause-size
renew-requires-clause-size c =
    let program : IsProgram c.args.fold.now.program = subst IsProgram c.program.ensures c.n-done-end.ensures.program in
    let shape = shape_of c.args.fold.now.program c.args.after.now program c.requires.within in
    sized_at c.args.after.now c.args.fold.now.program.link.cols (c.loop-done.done + 1 - 1) c.brick.result.now
    shape.widths c.brick.ensures.vector

pub renew-requires-clause-listed : goal.renew-requires-clause-listed
renew-requires-clause-listed c =
    let f = c.args.fold.now in
    following_listed f c.args._before.now c.args.after.now c.args.k c.loop-done.self c.loop-done.done
    (point-length f.program.bricks c.args._before.now c.requires.before)
    (point-length f.program.bricks c.args.after.now c.requires.within) c.loop-done.invariant

pub loop-done-preserved : goal.loop-done-preserved
loop-done-preserved c =
    let f = c.args.fold.now in
    let place : c.loop-done.done + 1 - 1 ≡ c.loop-done.done = omega arith in
    elim c.if-changed-done.branch [
      | then-changed-done+in_ok-renew w ↦
          subst (λ (ms : List Menu). AreFollowing f c.args._before.now c.args.after.now c.args.k ms
          (c.loop-done.done + 1)) (sym w.self-is) (
          following_new f c.args._before.now c.args.after.now c.args.k c.loop-done.self _ c.loop-done.done
          w.brick.result.now (ap (slice_get c.args.after.now) (sym place) ∙ w.brick.ensures.vector)
          w.in_ok-renew.ensures c.loop-done.invariant
          )
      | else-changed-done w ↦
          subst (λ (ms : List Menu). AreFollowing f c.args._before.now c.args.after.now c.args.k ms
          (c.loop-done.done + 1)) (sym w.self-is) (
          following_same f c.args._before.now c.args.after.now c.args.k c.loop-done.self c.loop-done.done
          (c.requires.changed.same c.loop-done.done
          (slice_get-get_or c.args.changed.now c.loop-done.done false
          (omega (
            arith,
            point-length f.program.bricks c.args.after.now c.requires.within,
            c.loop-done-test.true,
            c.requires.changed.size,
            c.n-done-end.ensures.bricks,
            ap (λ (p : Program). length p.bricks) c.program.ensures,
          ))
          ∙ ap Some w.if-changed-done.false)) c.loop-done.invariant
          )
    ]

pub returns : goal.returns
returns c =
    following_all c.args.fold.now c.args._before.now c.args.after.now c.args.k c.loop-done.self c.loop-done.done
    (omega (
      arith,
      c.n-done-end.ensures.bricks,
      ap (λ (p : Program). length p.bricks) c.program.ensures,
      c.loop-done-test.false,
    )) c.loop-done.invariant
