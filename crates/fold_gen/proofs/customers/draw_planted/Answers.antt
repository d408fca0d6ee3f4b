use Rattle.std.proofs.Common.{arith, ◌∙◌, ◌+◌, ◌-◌, sym, ap}
use Rattle.fold_gen.specs.Draws.{after}
use Rattle.fold_gen.proofs.DrawLaws.{share_more, after_step}
use Rattle.fold_gen.proofs.customers.draw_planted.Goals as goal

pub loop-unit-preserved : goal.loop-unit-preserved
loop-unit-preserved c =
    let low = c.loop-unit-test.true in
    let drawn = c.draw-supplier.ensures.drawn in
    let turned = c.draw-supplier.ensures.turned in
    record {
      first =
          share_more 0 c.args.units c.loop-unit._unit c.loop-unit.draws.z c.draw-supplier.new.self.z
          c.draw-supplier.result c.one_if_same-first.result _ _ low drawn turned c.one_if_same-first.ensures.one
          c.loop-unit.invariant.first;
      second =
          share_more 1 c.args.units c.loop-unit._unit c.loop-unit.draws.z c.draw-supplier.new.self.z
          c.draw-supplier.result c.one_if_same-second.result _ _ low drawn turned c.one_if_same-second.ensures.one
          c.loop-unit.invariant.second;
      third =
          share_more 2 c.args.units c.loop-unit._unit c.loop-unit.draws.z c.draw-supplier.new.self.z
          c.draw-supplier.result c.one_if_same-third.result _ _ low drawn turned c.one_if_same-third.ensures.one
          c.loop-unit.invariant.third;
      turned =
          ap (after (c.args.units - (c.loop-unit._unit + 1))) turned
          ∙ sym (after_step c.args.units c.loop-unit._unit c.loop-unit.draws.z low) ∙ c.loop-unit.invariant.turned;
      small = c.draw-supplier.ensures.small;
      few_first = omega (arith, c.one_if_same-first.ensures.small, c.loop-unit.invariant.few_first);
      few_second = omega (arith, c.one_if_same-second.ensures.small, c.loop-unit.invariant.few_second);
      few_third = omega (arith, c.one_if_same-third.ensures.small, c.loop-unit.invariant.few_third);
    }
