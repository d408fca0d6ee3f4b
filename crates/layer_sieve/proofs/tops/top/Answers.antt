use Rattle.std.proofs.Common.{◌<◌, ◌-ℤ◌, ◌+◌, arith, rules, sym, None, Some, length, FitsSigned, subst, to_z}
use Rattle.std.specs.Int.{w128}
use Rattle.std.proofs.lemmas.Int.{to_z-of_z}
use Rattle.lattice_theory.specs.SignedSums.{vectors}
use Rattle.sieve_laws.specs.Sieve.{live}
use Rattle.sieve_laws.proofs.Tops.{IsTopUpTo, top_more, top_unreached, top_all}
use Rattle.layer_sieve.specs.Reaching.{IsReach}
use Rattle.layer_sieve.proofs.ReachLaws.{read_at, difference_fits, size_vectors, whole_cell}
use Rattle.layer_sieve.proofs.tops.top.Goals as goal
use Rattle.layer_sieve.proofs.tops.top.Goals.{in-Some+in_ok-cost, in_default}

pub overflow_sub-cost : goal.overflow_sub-cost
overflow_sub-cost c =
    let limit : FitsSigned w128 c.args.limit = search rules in
    let cost : FitsSigned w128 c.in_ok-cost.cost = search rules in
    let rest : FitsSigned w128 c.in-Some.reached.rest = search rules in
    let reach : IsReach (vectors c.args.targets.now) (live c.args.limit c.args.next.now) c.args.h c.loop-from.from
    (Some c.in-Some.reached) = simp to_z-of_z at c.in-Some.ensures in
    let here = read_at c.args.next.now c.loop-from.from None _
    (omega (arith, c.loop-from-test.true, c.len-from-end.ensures.count, c.requires.size)) c.in_ok-cost.was in
    let there = whole_cell (vectors c.args.targets.now) c.args.next.now c.args.h c.loop-from.from c.args.limit
    c.in-Some.reached reach in
    simp to_z-of_z (
    difference_fits c.in_ok-cost.cost c.in-Some.reached.rest (c.requires.small c.loop-from.from c.in_ok-cost.cost here)
    (c.requires.small c.in-Some.reached.to c.in-Some.reached.rest there)
    )

pub loop-from-preserved : goal.loop-from-preserved
loop-from-preserved c =
    let limit : FitsSigned w128 c.args.limit = search rules in
    let so_far : IsTopUpTo (vectors c.args.targets.now) (live c.args.limit c.args.next.now) c.args.next.now c.args.h
    (to_z w128 c.loop-from.top-bits) c.loop-from.from = simp to_z-of_z at c.loop-from.invariant in
    elim c.match-live_from.branch [
      | in-Some+in_ok-cost w ↦
          let low : c.loop-from.from < length c.args.next.now =
          omega (arith, c.loop-from-test.true, c.len-from-end.ensures.count, c.requires.size) in
          let here = read_at c.args.next.now c.loop-from.from None (Some w.in_ok-cost.cost) low w.in_ok-cost.was in
          let cost : FitsSigned w128 w.in_ok-cost.cost = search rules in
          let rest : FitsSigned w128 w.in-Some.reached.rest = search rules in
          let reach : IsReach (vectors c.args.targets.now) (live c.args.limit c.args.next.now) c.args.h
          c.loop-from.from (Some w.in-Some.reached) = simp to_z-of_z at w.in-Some.ensures in
          let there = whole_cell (vectors c.args.targets.now) c.args.next.now c.args.h c.loop-from.from c.args.limit
          w.in-Some.reached reach in
          let fall : FitsSigned w128 (w.in_ok-cost.cost -ℤ w.in-Some.reached.rest) =
          difference_fits w.in_ok-cost.cost w.in-Some.reached.rest
          (c.requires.small c.loop-from.from w.in_ok-cost.cost here)
          (c.requires.small w.in-Some.reached.to w.in-Some.reached.rest there) in
          let max : FitsSigned w128 w.max-top.result = search rules in
          let is = simp to_z-of_z at w.top-is in
          let above = w.max-top.ensures.self_bound in
          let most = simp to_z-of_z at w.max-top.ensures.other_bound in
          let whole : IsTopUpTo (vectors c.args.targets.now) (live c.args.limit c.args.next.now) c.args.next.now
          c.args.h w.max-top.result (c.loop-from.from + 1) =
          top_more (vectors c.args.targets.now) (live c.args.limit c.args.next.now) c.args.next.now c.args.h
          (to_z w128 c.loop-from.top-bits) w.max-top.result c.loop-from.from w.in-Some.reached.rest w.in_ok-cost.cost
          c.requires.rising (record { to = w.in-Some.reached.to; leads = reach.0; cell = reach.1 }) here above most
          so_far in
          simp to_z-of_z
          (subst (λ t. IsTopUpTo (vectors c.args.targets.now) (live c.args.limit c.args.next.now) c.args.next.now
          c.args.h t (c.loop-from.from + 1)) (sym is) whole)
      | in_default w ↦
          let none : IsReach (vectors c.args.targets.now) (live c.args.limit c.args.next.now) c.args.h
          c.loop-from.from None = simp to_z-of_z at w.in_default.ensures in
          let whole : IsTopUpTo (vectors c.args.targets.now) (live c.args.limit c.args.next.now) c.args.next.now
          c.args.h (to_z w128 c.loop-from.top-bits) (c.loop-from.from + 1) =
          top_unreached (vectors c.args.targets.now) (live c.args.limit c.args.next.now) c.args.next.now c.args.h
          (to_z w128 c.loop-from.top-bits) c.loop-from.from none so_far in
          simp to_z-of_z
          (subst (λ t. IsTopUpTo (vectors c.args.targets.now) (live c.args.limit c.args.next.now) c.args.next.now
          c.args.h t (c.loop-from.from + 1)) (sym w.top-is) whole)
    ]

pub returns : goal.returns
returns c =
    let limit : FitsSigned w128 c.args.limit = search rules in
    let so_far : IsTopUpTo (vectors c.args.targets.now) (live c.args.limit c.args.next.now) c.args.next.now c.args.h
    (to_z w128 c.loop-from.top-bits) c.loop-from.from = simp to_z-of_z at c.loop-from.invariant in
    top_all (vectors c.args.targets.now) (live c.args.limit c.args.next.now) c.args.next.now c.args.h
    (to_z w128 c.loop-from.top-bits) c.loop-from.from
    (omega (arith, size_vectors c.args.targets.now, c.loop-from-test.false, c.len-from-end.ensures.count)) so_far
