use Rattle.std.proofs.Common.{◌≡◌, ◌+◌, ◌<ℤ◌, ◌≤ℤ◌, pos, arith, rules, sym, subst, get_or, slice_get, Some, FitsSigned}
use Rattle.std.proofs.Common.{to_z}
use Rattle.std.specs.Int.{w128}
use Rattle.std.proofs.lemmas.Int.{ints, to_z-of_z}
use Rattle.std.proofs.lemmas.Option.{slice_get-get_or}
use Rattle.sieve_laws.specs.declared.PricedMove.{PricedMove}
use Rattle.brick_dp.proofs.FloorLaws.{IsLeastUpTo, least_kept, least_new, least_all}
use Rattle.brick_dp.proofs.menus.least_change.Goals as goal
use Rattle.brick_dp.proofs.menus.least_change.Goals.{then-m-least, else-m-least}

pub loop-m-preserved : goal.loop-m-preserved
loop-m-preserved c =
    let m : PricedMove = get_or c.args.menu.now c.loop-m.m-index (record { place = 0; change = pos 0 }) in
    let change : FitsSigned w128 m.change = search rules in
    let here : slice_get c.args.menu.now c.loop-m.m-index ≡ Some m =
    slice_get-get_or c.args.menu.now c.loop-m.m-index _ c.loop-m-test.true in
    elim c.if-m-least.branch [
      | then-m-least w ↦
          let is = simp to_z-of_z at w.least-is in
          let told = simp to_z-of_z at w.if-m-least.true in
          let low : m.change <ℤ to_z w128 c.loop-m.least-bits = grind (arith, ints) in
          subst (λ l. IsLeastUpTo c.args.menu.now l (c.loop-m.m-index + 1)) (sym is)
          (least_new c.args.menu.now (to_z w128 c.loop-m.least-bits) c.loop-m.m-index m here low c.loop-m.invariant)
      | else-m-least w ↦
          let told = simp to_z-of_z at w.if-m-least.false in
          let low : to_z w128 c.loop-m.least-bits ≤ℤ m.change = grind (arith, ints) in
          subst (λ l. IsLeastUpTo c.args.menu.now l (c.loop-m.m-index + 1)) (sym w.least-is)
          (least_kept c.args.menu.now (to_z w128 c.loop-m.least-bits) c.loop-m.m-index m here low c.loop-m.invariant)
    ]

pub returns : goal.returns
returns c = least_all c.args.menu.now (to_z w128 c.loop-m.least-bits) c.loop-m.m-index c.loop-m-test.false
    c.loop-m.invariant
