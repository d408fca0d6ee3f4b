use Rattle.graver_complexity.proofs.NormLaws.{IsGreatest}
use Rattle.graver_complexity.proofs.norms.complexity.Given as goal

-- the complexity as the elements so far have it
abbrev pub invariant-loop-i : goal.invariant-loop-i
invariant-loop-i l = IsGreatest l.phase l.relations l.m l.b.elements l.i l.greatest
