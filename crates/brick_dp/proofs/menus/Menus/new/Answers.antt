use Rattle.std.proofs.Common.{◌≡◌, ◌∙◌, ◌+◌, ◌-◌, ap, sym, arith, length, subst, slice_get, List}
use Rattle.fold_theory.specs.Programs.{Program, IsProgram}
use Rattle.fold_laws.proofs.Points.{point-length, within_at}
use Rattle.sieve_laws.specs.Sieve.{Menu}
use Rattle.fold_program.proofs.PointLaws.{shape_of}
use Rattle.brick_dp.specs.Menus.{AreListed}
use Rattle.brick_dp.proofs.ChangeLaws.{sized_at}
use Rattle.brick_dp.proofs.MenuLaws.{MenusUpTo, menus_more, menus_all, up_to_listed}
use Rattle.brick_dp.proofs.menus.Menus.new.Goals as goal

pub brick-requires-clause-to : goal.brick-requires-clause-to
brick-requires-clause-to c =
    let shape = shape_of c.args.fold.now.program c.args.point.now
    (subst IsProgram c.program.ensures c.n-bricks.ensures.program) c.requires.within in
    omega (arith, shape.bricks, c.n-bricks.ensures.bricks, ap (λ (p : Program). length p.bricks) c.program.ensures)

pub menu-requires-clause-within : goal.menu-requires-clause-within
menu-requires-clause-within c = λ b there.
    within_at c.args.fold.now.program.bricks c.args.point.now (c.loop-done.done + 1 - 1) b c.brick.result.now
    c.requires.within there c.brick.ensures.vector

pub menu-requires-clause-size : goal.menu-requires-clause-size
menu-requires-clause-size c =
    let shape = shape_of c.args.fold.now.program c.args.point.now
    (subst IsProgram c.program.ensures c.n-bricks.ensures.program) c.requires.within in
    sized_at c.args.point.now c.args.fold.now.program.link.cols (c.loop-done.done + 1 - 1) c.brick.result.now
    shape.widths c.brick.ensures.vector

pub loop-done-preserved : goal.loop-done-preserved
loop-done-preserved c =
    let place : c.loop-done.done + 1 - 1 ≡ c.loop-done.done = omega arith in
    menus_more c.args.fold.now c.args.point.now c.args.k c.loop-done.menus.items c.push.new.self.items c.loop-done.done
    c.brick.result.now c.in_ok-menu.field-0
    (ap (slice_get c.args.point.now) (sym place) ∙ c.brick.ensures.vector)
    (λ b there. c.in_ok-menu.ensures b (ap (slice_get c.args.fold.now.program.bricks) place ∙ there))
    c.in_ok-push.ensures.items c.loop-done.invariant

pub returns : goal.returns
returns c =
    menus_all c.args.fold.now c.args.point.now c.args.k c.loop-done.menus.items c.loop-done.done
    (omega (
      arith,
      c.loop-done-test.false,
      c.loop-done.auto.done-end,
      c.n-bricks.ensures.bricks,
      ap (λ (p : Program). length p.bricks) c.program.ensures,
    )) c.loop-done.invariant

pub blocks-requires : goal.blocks-requires
blocks-requires c =
    let f = c.args.fold.now in
    let bricks : c.n-bricks.result ≡ length f.program.bricks =
    c.n-bricks.ensures.bricks ∙ ap (λ (p : Program). length p.bricks) c.program.ensures in
    let all : c.loop-done.done ≡ length f.program.bricks =
    omega (arith, bricks, c.loop-done-test.false, c.loop-done.auto.done-end) in
    let sums : c.len.result ≡ length f.sums = c.len.ensures ∙ ap length c.sums.ensures.sums in
    record {
      low =
          subst (λ (ms : List Menu). AreListed c.len.result ms) (sym c.deref.ensures.value) (
          subst (λ n. AreListed n c.loop-done.menus.items) (sym sums) (
          up_to_listed f c.args.point.now c.args.k c.loop-done.menus.items
          (point-length f.program.bricks c.args.point.now c.requires.within)
          (subst (MenusUpTo f c.args.point.now c.args.k c.loop-done.menus.items) all c.loop-done.invariant)
          )
          );
    }
