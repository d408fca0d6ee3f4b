use Rattle.std.proofs.Common.{◌≡◌, ◌≤◌, ◌+◌, ◌-◌}
use Rattle.std.specs.Bool.{OnFalse}
use Rattle.lattice_theory.specs.SignedSums.{vectors}
use Rattle.sieve_laws.specs.Sieve.{live}
use Rattle.sieve_laws.proofs.Lowering.{IsLoweredUpTo}
use Rattle.layer_sieve.proofs.TriedLaws.{IsTriedUpTo}
use Rattle.layer_sieve.proofs.lowering.lower.Given as goal

abbrev pub invariant-loop-from : goal.invariant-loop-from
invariant-loop-from l = record {
  lowered : IsLoweredUpTo (vectors l.targets) (live l.limit l.next) l.m l.initial.layer l.layer l.from;
  same : OnFalse l.is_lower (l.layer ≡ l.initial.layer);
  rising : l.initial.moves ≤ l.moves;
  counted : l.moves ≤ l.initial.moves + l.from;
  tried : IsTriedUpTo (vectors l.targets) l.m.place l.next l.limit l.from (l.moves - l.initial.moves);
}
