use Rattle.std.proofs.Common.{ℕ, ◌<◌}
use Rattle.lattice_theory.specs.SignedSums.{vectors}
use Rattle.sieve_laws.specs.Sieve.{Goes}
use Rattle.layer_sieve.proofs.choices.first_choice.Given as goal

abbrev pub invariant-loop-m : goal.invariant-loop-m
invariant-loop-m l = (i : ℕ) → i < l.m-index → Goes (vectors l.targets) l.menu l.next l.from i l.cost → ⊥
