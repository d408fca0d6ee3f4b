use Rattle.brick_dp.proofs.FloorLaws.{IsLeastUpTo}
use Rattle.brick_dp.proofs.menus.least_change.Given as goal

abbrev pub invariant-loop-m : goal.invariant-loop-m
invariant-loop-m l = IsLeastUpTo l.menu l.least l.m-index
