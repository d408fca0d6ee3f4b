use Rattle.std.proofs.Common.{◌≡◌, ◌-ℤ◌, ◌+◌, ◌<◌, ◌≤ℤ◌, arith, rules, None, Some, length, get_or, FitsSigned, to_z}
use Rattle.std.proofs.Common.{subst, sym}
use Rattle.std.specs.Int.{w128}
use Rattle.std.proofs.lemmas.Int.{to_z-of_z, ints}
use Rattle.sieve_laws.specs.Sieve.{under}
use Rattle.sieve_laws.proofs.Tops.{FallsMost, most_none, most_more, most_dead}
use Rattle.layer_sieve.proofs.WiderLaws.{live_cell, some_iff, most_all}
use Rattle.layer_sieve.proofs.tops.most_fall.Goals as goal
use Rattle.layer_sieve.proofs.tops.most_fall.Goals.{in-Some+in_ok-before+in_ok-fall, in_default}

pub loop-at-init : goal.loop-at-init
loop-at-init c = most_none c.args.next.now c.args.layer.now _ _

pub loop-at-preserved : goal.loop-at-preserved
loop-at-preserved c =
    let limit : FitsSigned w128 c.args.limit = search rules in
    let under_layer : c.loop-at.at < length c.args.layer.now = omega (arith, c.loop-at-test.true) in
    let low : c.loop-at.at < length c.args.next.now = omega (arith, c.loop-at-test.true, c.requires.size) in
    let so_far : FallsMost c.args.next.now c.args.layer.now c.args.limit (to_z w128 c.loop-at.most-bits) c.loop-at.at =
    simp to_z-of_z at c.loop-at.invariant in
    elim c.match-cost_under.branch [
      | in-Some+in_ok-before+in_ok-fall w ↦
          let after : FitsSigned w128 w.in-Some.after = search rules in
          let before : FitsSigned w128 w.in_ok-before.before = search rules in
          let fall : FitsSigned w128 w.in_ok-fall.fall = search rules in
          let most : FitsSigned w128 w.max-most.result = search rules in
          let here : Some w.in-Some.after ≡ under c.args.limit (get_or c.args.layer.now c.loop-at.at None) =
          simp to_z-of_z at w.in-Some.ensures in
          let was : Some w.in_ok-before.before ≡ under c.args.limit (get_or c.args.next.now c.loop-at.at None) =
          simp to_z-of_z at w.in_ok-before.ensures in
          let told = simp to_z-of_z at w.checked_sub.ensures in
          let is : w.in_ok-fall.fall ≡ w.in_ok-before.before -ℤ w.in-Some.after =
          some_iff w.checked_sub.result _ _ w.in_ok-fall.fall told w.in_ok-fall.was in
          let more = simp to_z-of_z at w.most-is in
          let up = w.max-most.ensures.self_bound in
          let most_fall : w.in_ok-fall.fall ≤ℤ w.max-most.result = simp to_z-of_z at w.max-most.ensures.other_bound in
          let whole : FallsMost c.args.next.now c.args.layer.now c.args.limit w.max-most.result (c.loop-at.at + 1) =
          most_more c.args.next.now c.args.layer.now c.args.limit (to_z w128 c.loop-at.most-bits) w.max-most.result
          c.loop-at.at w.in_ok-before.before w.in-Some.after
          (live_cell c.args.limit c.args.next.now c.loop-at.at _ low was)
          (live_cell c.args.limit c.args.layer.now c.loop-at.at _ under_layer here) up
          (omega (arith, ints, most_fall, is)) so_far in
          simp to_z-of_z
          (subst (λ m. FallsMost c.args.next.now c.args.layer.now c.args.limit m (c.loop-at.at + 1)) (sym more) whole)
      | in_default w ↦
          let none : None ≡ under c.args.limit (get_or c.args.layer.now c.loop-at.at None) =
          simp to_z-of_z at w.in_default.ensures in
          let whole : FallsMost c.args.next.now c.args.layer.now c.args.limit (to_z w128 c.loop-at.most-bits)
          (c.loop-at.at + 1) =
          most_dead c.args.next.now c.args.layer.now c.args.limit (to_z w128 c.loop-at.most-bits) c.loop-at.at
          (live_cell c.args.limit c.args.layer.now c.loop-at.at None under_layer none) so_far in
          simp to_z-of_z
          (subst (λ m. FallsMost c.args.next.now c.args.layer.now c.args.limit m (c.loop-at.at + 1)) (sym w.most-is)
          whole)
    ]

pub returns : goal.returns
returns c =
    let limit : FitsSigned w128 c.args.limit = search rules in
    let falls : FallsMost c.args.next.now c.args.layer.now c.args.limit (to_z w128 c.loop-at.most-bits) c.loop-at.at =
    simp to_z-of_z at c.loop-at.invariant in
    most_all c.args.next.now c.args.limit c.args.layer.now (to_z w128 c.loop-at.most-bits) c.loop-at.at
    (omega (arith, c.loop-at-test.false)) falls
