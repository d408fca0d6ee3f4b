use Rattle.std.proofs.Common.{◌≡◌, ◌<◌, ◌≤◌, ◌+◌, ◌-◌}
use Rattle.fold_gen.specs.Draws.{after, share, suppliers}
use Rattle.fold_gen.proofs.customers.draw_planted.Given as goal

-- the units so far, and those that are still to be drawn
abbrev pub invariant-loop-unit : goal.invariant-loop-unit
invariant-loop-unit l = record {
  first : l.first + share 0 (suppliers (l.units - l._unit) l.draws.z) ≡ share 0 (suppliers l.units l.initial.draws.z);
  second : l.second + share 1 (suppliers (l.units - l._unit) l.draws.z) ≡ share 1 (suppliers l.units l.initial.draws.z);
  third : l.third + share 2 (suppliers (l.units - l._unit) l.draws.z) ≡ share 2 (suppliers l.units l.initial.draws.z);
  turned : after (l.units - l._unit) l.draws.z ≡ after l.units l.initial.draws.z;
  small : l.draws.z < 65537;
  few_first : l.first ≤ l._unit;
  few_second : l.second ≤ l._unit;
  few_third : l.third ≤ l._unit;
}
