use Rattle.std.proofs.Common.{◌≡◌, ◌∙◌, ◌+◌, ◌-◌, ap, arith, sym, length, Some, ◌∷◌, []}
use Rattle.std.specs.Prelude.{slice_get}
use Rattle.std.specs.Cmp.Rules.{signed_items}
use Rattle.std.proofs.lemmas.List.{length-append}
use Rattle.fold_theory.specs.Programs.{Program}
use Rattle.fold_laws.proofs.Points.{point-length}
use Rattle.brick_dp.proofs.MenuLaws.{marked_more, not_false}
use Rattle.brick_dp.proofs.menus.changed_bricks.Goals as goal

pub brick-requires-clause-to : goal.brick-requires-clause-to
brick-requires-clause-to c =
    omega (
      arith,
      point-length c.args.fold.now.program.bricks c.args.before.now c.requires.before,
      c.loop-done-test.true,
      c.n-bricks.ensures.bricks,
      ap (λ (p : Program). length p.bricks) c.program.ensures,
    )

pub brick-requires-in-loop-done-clause-to : goal.brick-requires-in-loop-done-clause-to
brick-requires-in-loop-done-clause-to c =
    omega (
      arith,
      point-length c.args.fold.now.program.bricks c.args.after.now c.requires.after,
      c.loop-done-test.true,
      c.n-bricks.ensures.bricks,
      ap (λ (p : Program). length p.bricks) c.program.ensures,
    )

pub loop-done-preserved : goal.loop-done-preserved
loop-done-preserved c =
    let place : c.loop-done.done + 1 - 1 ≡ c.loop-done.done = omega arith in
    record {
      size = ap length c.in_ok-push.ensures.items ∙ length-append c.loop-done.changed.items (c.ne.result ∷ [])
          ∙ ap (λ n. n + 1) c.loop-done.invariant.size;
      same = marked_more c.args.before.now c.args.after.now c.loop-done.changed.items c.push.new.self.items
          c.loop-done.done
          c.ne.result c.loop-done.invariant.size c.in_ok-push.ensures.items (λ e.
          let same : c.brick.result.now ≡ c.brick-in-loop-done.result.now =
          (signed_items c.brick.result.now c.brick-in-loop-done.result.now).0 (not_false _ (sym e ∙ c.ne.ensures)) in
          ap (slice_get c.args.before.now) (sym place) ∙ c.brick.ensures.vector ∙ ap Some same
          ∙ sym (ap (slice_get c.args.after.now) (sym place) ∙ c.brick-in-loop-done.ensures.vector))
          c.loop-done.invariant.same;
    }

pub returns : goal.returns
returns c = record {
  size = omega (
    arith,
    point-length c.args.fold.now.program.bricks c.args.after.now c.requires.after,
    c.loop-done.invariant.size,
    c.loop-done-test.false,
    c.loop-done.auto.done-end,
    c.n-bricks.ensures.bricks,
    ap (λ (p : Program). length p.bricks) c.program.ensures,
  );
  same = c.loop-done.invariant.same;
}
