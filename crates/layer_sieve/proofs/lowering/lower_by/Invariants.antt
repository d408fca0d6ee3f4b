use Rattle.std.proofs.Common.{◌≡◌, ◌≤◌, ◌+◌, ◌-◌, ◌*◌, length}
use Rattle.std.specs.Bool.{OnFalse}
use Rattle.lattice_theory.specs.SignedSums.{vectors}
use Rattle.sieve_laws.specs.Sieve.{AreTops, live}
use Rattle.sieve_laws.proofs.Lowering.{IsLowered}
use Rattle.layer_sieve.specs.Tried.{IsTried}
use Rattle.layer_sieve.proofs.lowering.lower_by.Given as goal

abbrev pub invariant-loop-m : goal.invariant-loop-m
invariant-loop-m l = record {
  lowered : IsLowered (vectors l.targets) l.menu l.limit l.next l.m-index l.layer;
  same : OnFalse l.differs (l.layer ≡ l.next);
  tops : AreTops (vectors l.targets) (live l.limit l.next) l.next l.tops;
  rising : l.initial.moves ≤ l.moves;
  tried : IsTried l.m-index l.next l.limit (l.moves - l.initial.moves);
  counted : l.moves ≤ l.initial.moves + l.m-index * length l.targets;
}
