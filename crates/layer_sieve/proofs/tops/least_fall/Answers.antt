use Rattle.std.proofs.Common.{◌≡◌, ◌-ℤ◌, ◌+◌, ◌<◌, ◌≤ℤ◌, arith, rules, None, Some, length, FitsSigned, to_z, subst, sym}
use Rattle.std.specs.Int.{w128}
use Rattle.std.proofs.lemmas.Int.{to_z-of_z, ints}
use Rattle.sieve_laws.proofs.Tops.{FallsLeast, least_more, least_new, least_empty}
use Rattle.layer_sieve.proofs.ReachLaws.{read_at}
use Rattle.layer_sieve.proofs.WiderLaws.{some_iff, least_all}
use Rattle.layer_sieve.proofs.tops.least_fall.Goals as goal
use Rattle.layer_sieve.proofs.tops.least_fall.Goals.{in-Some+in-Some-layer+in_ok-fall, in-Some+in_default-layer}
use Rattle.layer_sieve.proofs.tops.least_fall.Goals.{in_default}

pub loop-at-preserved : goal.loop-at-preserved
loop-at-preserved c =
    let under : c.loop-at.at < length c.args.layer.now = omega (arith, c.loop-at-test.true) in
    let low : c.loop-at.at < length c.args.next.now = omega (arith, c.loop-at-test.true, c.requires.size) in
    elim c.match-next-at.branch [
      | in-Some+in-Some-layer+in_ok-fall w ↦
          let after : FitsSigned w128 w.in-Some-layer.after = search rules in
          let before : FitsSigned w128 w.in-Some.before = search rules in
          let fall : FitsSigned w128 w.in_ok-fall.fall = search rules in
          let least : FitsSigned w128 w.min-least.result = search rules in
          let told = simp to_z-of_z at w.checked_sub.ensures in
          let is : w.in_ok-fall.fall ≡ w.in-Some.before -ℤ w.in-Some-layer.after =
          some_iff w.checked_sub.result _ _ w.in_ok-fall.fall told w.in_ok-fall.was in
          let less = simp to_z-of_z at w.least-is in
          let down = w.min-least.ensures.self_bound in
          let low_fall : w.min-least.result ≤ℤ w.in_ok-fall.fall =
          simp to_z-of_z at w.min-least.ensures.other_bound in
          subst (λ m. FallsLeast c.args.next.now c.args.layer.now m (c.loop-at.at + 1)) (sym less)
          (
          least_more c.args.next.now c.args.layer.now (to_z w128 c.loop-at.least-bits) w.min-least.result c.loop-at.at
          w.in-Some.before w.in-Some-layer.after
          (read_at c.args.next.now c.loop-at.at None (Some w.in-Some.before) low w.in-Some.is)
          (read_at c.args.layer.now c.loop-at.at None (Some w.in-Some-layer.after) under w.in-Some-layer.is) down
          (omega (arith, ints, low_fall, is)) c.loop-at.invariant
          )
      | in-Some+in_default-layer w ↦
          subst (λ m. FallsLeast c.args.next.now c.args.layer.now m (c.loop-at.at + 1)) (sym w.least-is)
          (
          least_empty c.args.next.now c.args.layer.now (to_z w128 c.loop-at.least-bits) c.loop-at.at
          (read_at c.args.layer.now c.loop-at.at None None under w.in_default-layer.is) c.loop-at.invariant
          )
      | in_default w ↦
          subst (λ m. FallsLeast c.args.next.now c.args.layer.now m (c.loop-at.at + 1)) (sym w.least-is)
          (
          least_new c.args.next.now c.args.layer.now (to_z w128 c.loop-at.least-bits) c.loop-at.at
          (read_at c.args.next.now c.loop-at.at None None low w.in_default.is) c.loop-at.invariant
          )
    ]

pub returns : goal.returns
returns c =
    least_all c.args.next.now c.args.layer.now (to_z w128 c.loop-at.least-bits) c.loop-at.at
    (omega (arith, c.loop-at-test.false)) c.loop-at.invariant
