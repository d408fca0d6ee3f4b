use Rattle.std.proofs.Common.{◌∙◌, ◌<◌, refl, ap, sym, arith, length, subst, Some}
use Rattle.std.proofs.lemmas.List.{length-set}
use Rattle.std.proofs.lemmas.Option.{slice_get-get_or}
use Rattle.brick_dp.specs.Menus.{AreChanged}
use Rattle.round_workers.proofs.MenuLaws.{following_none, following_more, following_all}
use Rattle.round_workers.proofs.menus.RunMenus.follow.Goals as goal

pub loop-at-init : goal.loop-at-init
loop-at-init c = record {
  targets = c.requires.menus.targets;
  few = c.requires.menus.few;
  size = cc (c.len-at-end.ensures, c.args.self.now.menus.ok.0);
  menus = following_none c.args.fold.now c.args.before.now c.args.after.now c.args.self.now.menus.items
      c.requires.menus.each;
}

pub follow-requires-clause-menus : goal.follow-requires-clause-menus
follow-requires-clause-menus c =
    let menus = c.loop-at.self.menus.items in
    let low : c.loop-at.at < length menus = omega (arith, c.loop-at-test.true, c.loop-at.invariant.size) in
    c.loop-at.invariant.menus.rest c.loop-at.at c.index_mut.result.now (omega arith)
    (slice_get-get_or menus c.loop-at.at c.index_mut.result.now low ∙ ap Some (sym c.index_mut.ensures.value))

pub follow-requires-clause-changed : goal.follow-requires-clause-changed
follow-requires-clause-changed c =
    subst (AreChanged c.args.before.now c.args.after.now) (sym c.deref.ensures.value) c.in_ok-changed.ensures

pub loop-at-preserved : goal.loop-at-preserved
loop-at-preserved c =
    let menus = c.loop-at.self.menus.items in
    let low : c.loop-at.at < length menus = omega (arith, c.loop-at-test.true, c.loop-at.invariant.size) in
    let size = length-set menus c.loop-at.at c.follow.new.self in
    record {
      targets = c.loop-at.invariant.targets;
      few = omega (arith, size, c.loop-at.invariant.few);
      size = size ∙ c.loop-at.invariant.size;
      menus =
          following_more c.args.fold.now c.args.before.now c.args.after.now menus _ c.loop-at.at c.follow.new.self
          c.in_ok-follow.ensures refl low
          c.loop-at.invariant.menus;
    }

pub returns : goal.returns
returns c = record {
  targets = c.loop-at.invariant.targets;
  few = c.loop-at.invariant.few;
  each =
      following_all c.args.fold.now c.args.before.now c.args.after.now c.loop-at.self.menus.items c.loop-at.at
      (omega (arith, c.loop-at-test.false, c.loop-at.invariant.size)) c.loop-at.invariant.menus;
}
