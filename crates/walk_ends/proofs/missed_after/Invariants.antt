use Rattle.std.proofs.Common.{◌≡◌, ◌≤◌, ◌*◌, ◌^◌, take, sum}
use Rattle.fold_theory.specs.Programs.{link_misses}
use Rattle.walk_ends.proofs.EndLaws.{lefts}
use Rattle.walk_ends.proofs.missed_after.Given as goal

abbrev pub invariant-loop-at : goal.invariant-loop-at
invariant-loop-at l = record {
  so_far : l.missed ≡ sum (take l.at (link_misses l.program (lefts l.k l.rests l.program.link l.sum)));
  small : l.missed ≤ 2 ^ 114 * l.at;
}
