use Rattle.layer_sieve.proofs.WiderLaws.{AreWider}
use Rattle.layer_sieve.proofs.tops.widen.Given as goal

abbrev pub invariant-loop-h : goal.invariant-loop-h
invariant-loop-h l = AreWider l.initial.tops l.spread l.tops l.h
