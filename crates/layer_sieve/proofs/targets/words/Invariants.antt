use Rattle.std.proofs.Common.{ℕ, ◌<◌, get_or, pos}
use Rattle.layer_sieve.specs.Targets.{IsWord}
use Rattle.layer_sieve.proofs.targets.words.Given as goal

abbrev pub invariant-loop-entry : goal.invariant-loop-entry
invariant-loop-entry l = (k : ℕ) → k < l.entry-index → IsWord (get_or l.vector k (pos 0))
