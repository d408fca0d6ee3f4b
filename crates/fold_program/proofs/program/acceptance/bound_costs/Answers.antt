use Rattle.std.proofs.Common.{rules, arith, refl, ◌≡◌, ◌<◌, sym, length, get_or, pos, ◌≤ℤ◌, ◌++◌, ◌∷◌, [], true}
use Rattle.std.proofs.Common.{FitsSigned, w64, subst, List}
use Rattle.std.specs.Vec.Iter.{into_iter_items}
use Rattle.std.specs.Result.{is_ok}
use Rattle.std.proofs.lemmas.Int.{to_z-of_z}
use Rattle.std.proofs.lemmas.List.Elements.{AllZip-get_or}
use Rattle.fold_theory.specs.Costs.{BoundedCost}
use Rattle.fold_program.specs.Bounds.{IsGood}
use Rattle.fold_program.proofs.BoundLaws.{IsBoundSoFar, bound_inside, bound_more, refused_here}
use Rattle.fold_program.proofs.program.acceptance.bound_costs.Goals as goal

pub new-requires-clause-order : goal.new-requires-clause-order
new-requires-clause-order c =
    let low : FitsSigned w64 (get_or c.args.lower.now c.len-at.result (pos 0)) = search rules in
    let high : FitsSigned w64 (get_or c.args.upper.now c.len-at.result (pos 0)) = search rules in
    let bound = bound_inside c.args.costs.items _ (into_iter_items c.next.new.self) c.in-Some.cost c.args.lower.now
    c.args.upper.now c.loop-cost.bound.items c.in-Some.ensures.steps.0 c.loop-cost.invariant.so_far in
    let at : c.len-at.result < length c.args.lower.now = search rules in
    simp to_z-of_z
    (AllZip-get_or ◌≤ℤ◌ c.args.lower.now c.args.upper.now c.len-at.result (pos 0) (pos 0) c.requires.order at)

pub loop-cost-preserved : goal.loop-cost-preserved
loop-cost-preserved c =
    let low : FitsSigned w64 (get_or c.args.lower.now c.len-at.result (pos 0)) = search rules in
    let high : FitsSigned w64 (get_or c.args.upper.now c.len-at.result (pos 0)) = search rules in
    let len : c.len-at.result ≡ length c.loop-cost.bound.items = search rules in
    let bound = bound_inside c.args.costs.items _ (into_iter_items c.next.new.self) c.in-Some.cost c.args.lower.now
    c.args.upper.now c.loop-cost.bound.items c.in-Some.ensures.steps.0 c.loop-cost.invariant.so_far in
    let made = rw len at (simp to_z-of_z at c.in-Ok.ensures.made) in
    let pushed : is_ok c.push.result ≡ true = search rules in
    let items : c.push.new.self.items ≡ c.loop-cost.bound.items ++ c.in-Ok.cost ∷ [] =
    rw pushed at c.push.ensures.items in
    let low_at : length c.loop-cost.bound.items < length c.args.lower.now = omega (arith, c.requires.lowers, bound) in
    let high_at : length c.loop-cost.bound.items < length c.args.upper.now = omega (arith, c.requires.uppers, bound) in
    let good : IsGood
    (record {
      cost = c.in-Some.cost;
      lower = get_or c.args.lower.now (length c.loop-cost.bound.items) (pos 0);
      upper = get_or c.args.upper.now (length c.loop-cost.bound.items) (pos 0);
    }) =
    record {
      faultless = rw len at (simp to_z-of_z at c.in-Ok.ensures.accepted);
      uncrossed =
          AllZip-get_or ◌≤ℤ◌ c.args.lower.now c.args.upper.now (length c.loop-cost.bound.items) (pos 0)
          (pos 0) c.requires.order low_at;
      convex = rw len at (simp to_z-of_z at c.in-Ok.ensures.convex);
    } in
    let more = bound_more c.args.costs.items _ (into_iter_items c.next.new.self) c.in-Some.cost c.args.lower.now
    c.args.upper.now c.loop-cost.bound.items c.in-Some.ensures.steps.0 c.loop-cost.invariant.so_far
    c.in-Ok.cost low_at high_at made (subst IsGood (sym made) good) in
    record {
      goes = (tt, tt);
      so_far =
          subst (λ (cs : List BoundedCost). IsBoundSoFar c.args.costs.items
          (into_iter_items c.next.new.self) c.args.lower.now c.args.upper.now cs) (sym items) more;
    }

pub returns-in-Err-clause-refused : goal.returns-in-Err-clause-refused
returns-in-Err-clause-refused c =
    let low : FitsSigned w64 (get_or c.args.lower.now c.len-at.result (pos 0)) = search rules in
    let high : FitsSigned w64 (get_or c.args.upper.now c.len-at.result (pos 0)) = search rules in
    let len : c.len-at.result ≡ length c.loop-cost.bound.items = search rules in
    let refused = rw len at (simp to_z-of_z at c.in-Err.ensures.refused) in
    let here = refused_here c.args.costs.items _ (into_iter_items c.next.new.self) c.in-Some.cost c.args.lower.now
    c.args.upper.now c.loop-cost.bound.items c.in-Some.ensures.steps.0 c.loop-cost.invariant.so_far
    c.in-Err.fault refused in
    rw (c.of-brick.ensures.brick, c.of-brick.ensures.col, len) (length c.loop-cost.bound.items, refl, refl, here)
