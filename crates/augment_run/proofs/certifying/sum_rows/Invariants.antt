use Rattle.std.proofs.Common.{◌≡◌, take, map, flat_map}
use Rattle.run_theory.specs.Outcomes.{row_of_sum}
use Rattle.augment_run.proofs.certifying.sum_rows.Given as goal

-- the sums so far, each with its level before it
abbrev pub invariant-loop-i : goal.invariant-loop-i
invariant-loop-i l = l.entries.items ≡ flat_map (λ r. r) (take l.i (map row_of_sum l.sums))
