use Rattle.std.proofs.Common.{◌+◌, Vec, Global, ap, sym, arith, rules, length, FitsSigned, subst}
use Rattle.std.specs.Int.{w128}
use Rattle.std.proofs.lemmas.Int.{to_z-of_z}
use Rattle.sieve_laws.specs.declared.PricedMove.{PricedMove}
use Rattle.sieve_laws.specs.Sieve.{Menu}
use Rattle.brick_dp.specs.Menus.{IsBrickMenu}
use Rattle.brick_dp.specs.Changes.{IsChange}
use Rattle.fold_program.proofs.PlaceLaws.{for_brick}
use Rattle.brick_dp.proofs.MenuLaws.{MenuUpTo, menu_outside, menu_more, menu_all}
use Rattle.brick_dp.proofs.menus.menu.Goals as goal
use Rattle.brick_dp.proofs.menus.menu.Goals.{in-Some+in_ok-push, in_default}

pub loop-place-preserved : goal.loop-place-preserved
loop-place-preserved c = λ b there.
    let f = c.args.fold.now in
    let change = for_brick f.program c.args.brick (λ b. IsChange f.phase c.args.k b c.args.at.now c.sum.result.now
    c.in_ok-change.field-0) c.in_ok-change.ensures b there in
    elim c.match-branch-2.branch [
      | in-Some+in_ok-push w ↦
          let cost : FitsSigned w128 w.in-Some.change = search rules in
          let pushed = simp to_z-of_z at w.in_ok-push.ensures.items in
          let new = subst (IsChange f.phase c.args.k b c.args.at.now c.sum.result.now) w.in-Some.is change in
          subst (λ (m : Menu). MenuUpTo f c.args.k b c.args.at.now m (c.loop-place.place + 1))
          (ap (λ (m : Vec PricedMove Global). m.items) (sym w.menu-is)) (
          menu_more f c.args.k b c.args.at.now c.loop-place.menu.items w.push.new.self.items c.loop-place.place
          c.sum.result.now w.in-Some.change c.sum.ensures.vector new
          pushed (c.loop-place.invariant b there)
          )
      | in_default w ↦
          let none = subst (IsChange f.phase c.args.k b c.args.at.now c.sum.result.now) w.in_default.is change in
          subst (λ (m : Menu). MenuUpTo f c.args.k b c.args.at.now m (c.loop-place.place + 1))
          (ap (λ (m : Vec PricedMove Global). m.items) (sym w.menu-is)) (
          menu_outside f c.args.k b c.args.at.now c.loop-place.menu.items c.loop-place.place c.sum.result.now
          c.sum.ensures.vector none (c.loop-place.invariant b there)
          )
    ]

pub returns : goal.returns
returns c = λ b there.
    subst (IsBrickMenu c.args.fold.now c.args.k b c.args.at.now) (sym c.new.ensures)
    (menu_all c.args.fold.now c.args.k b c.args.at.now c.loop-place.menu.items c.loop-place.place
    (omega (
      arith,
      c.loop-place-test.false,
      c.loop-place.auto.place-end,
      c.len-place-end.ensures,
      ap length c.sums.ensures.sums,
    )) (c.loop-place.invariant b there))
