use Rattle.phase_one.proofs.StartLaws.{AreJoined}
use Rattle.phase_one.proofs.starting.start.Given as goal

-- the bricks so far settle
abbrev pub invariant-loop-at : goal.invariant-loop-at
invariant-loop-at l = AreJoined l.program l.basis.elements l.at l.traces.items l.entries.items
