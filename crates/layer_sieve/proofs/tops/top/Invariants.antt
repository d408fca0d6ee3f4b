use Rattle.lattice_theory.specs.SignedSums.{vectors}
use Rattle.sieve_laws.specs.Sieve.{live}
use Rattle.sieve_laws.proofs.Tops.{IsTopUpTo}
use Rattle.layer_sieve.proofs.tops.top.Given as goal

abbrev pub invariant-loop-from : goal.invariant-loop-from
invariant-loop-from l = IsTopUpTo (vectors l.targets) (live l.limit l.next) l.next l.h l.top l.from
