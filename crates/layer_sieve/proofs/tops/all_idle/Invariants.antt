use Rattle.std.proofs.Common.{◌≡◌, ℕ, ◌<◌, ℤ, Some}
use Rattle.std.specs.Prelude.{slice_get}
use Rattle.lattice_theory.specs.SignedSums.{vectors}
use Rattle.sieve_laws.specs.Sieve.{AreTops, IsIdle, live}
use Rattle.layer_sieve.proofs.tops.all_idle.Given as goal

abbrev pub invariant-loop-place : goal.invariant-loop-place
invariant-loop-place l = record {
  idle : (h : ℕ) (change : ℤ) → h < l.place → slice_get l.changes h ≡ Some (Some change) →
      IsIdle (vectors l.targets) (live l.limit l.next) l.next (record { place = h; change = change });
  tops : AreTops (vectors l.targets) (live l.limit l.next) l.next l.tops;
}
