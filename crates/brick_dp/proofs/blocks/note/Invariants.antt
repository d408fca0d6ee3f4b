use Rattle.layer_sieve.specs.Falls.{AreKept}
use Rattle.brick_dp.proofs.BlockLaws.{IsBelowUpTo}
use Rattle.brick_dp.proofs.blocks.note.Given as goal

abbrev pub invariant-loop-m : goal.invariant-loop-m
invariant-loop-m l = record {
  below : IsBelowUpTo l.changes l.menu l.m-index;
  kept : AreKept l.initial.changes l.changes;
}
