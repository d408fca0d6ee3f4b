-- The best step of the first lengths, as a search over the lengths in order keeps it.
use Rattle.std.specs.Prelude.{◌≡◌, ℕ, ◌<◌, Option, Some, None, IsTrue}
use Rattle.std.specs.Ordering.{is_le}
use Rattle.run_theory.specs.declared.Key.{Key}
use Rattle.lattice_theory.specs.SignedSums.{vectors}
use Rattle.fold_theory.specs.Programs.{Bricks}
use Rattle.run_theory.specs.Steps.{Move, Augments, rule_cmp}
use Rattle.run_theory.specs.Outcomes.{Step, step_at}
use Rattle.run_theory.specs.Folds.{FoldValue}
use Rattle.run_theory.specs.Bests.{NoneOfLength}

-- the step augments, its length is below n, and no other of such a length comes before it
pub record IsBestBelow (f : FoldValue) (x : Bricks) (n : ℕ) (m : Move) : Type 0 where
  pub augments : Augments f.program f.phase (vectors f.sums) x m.k m.bricks
  pub short : m.k < n
  pub first : (k : ℕ) (h : Bricks) → k < n → Augments f.program f.phase (vectors f.sums) x k h →
      IsTrue (is_le (rule_cmp f.program f.phase x m (record { k = k; bricks = h })))

-- the best step of a length below n; none where no step of such a length gains
abbrev pub IsBestUpTo : FoldValue → Bricks → ℕ → Option Step → Type 0
IsBestUpTo f x n None = (k : ℕ) → k < n → NoneOfLength f x k
IsBestUpTo f x n (Some s) = (m : Move) × IsBestBelow f x n m × (s ≡ step_at f.program f.phase x m)

-- what a step gains, and its length
abbrev pub key_of : Step → Key
key_of s = record { gain = s.gain; k = s.k }

-- the key of the step that is kept
abbrev pub kept_key : Option Step → Option Key
kept_key None = None
kept_key (Some s) = Some (key_of s)
