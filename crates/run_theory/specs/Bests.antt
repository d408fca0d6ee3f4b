-- The best step of one length, the gains of all lengths, and the rule's step as it is recorded.
use Rattle.std.specs.Prelude.{◌≡◌, ◌≢◌, ◌<◌, ◌⊎◌, ◌↔◌, ℕ, List, length, Option, Some, None, IsTrue, slice_get}
use Rattle.std.specs.Ordering.{is_le}
use Rattle.fold_theory.specs.declared.Phase.{Phase}
use Rattle.run_theory.specs.declared.Key.{Key}
use Rattle.lattice_theory.specs.Vectors.{Vector}
use Rattle.lattice_theory.specs.SignedSums.{vectors}
use Rattle.fold_theory.specs.Programs.{Program, Bricks, IsLength}
use Rattle.run_theory.specs.Steps.{Move, Augments, NoneAugments, IsBest, IsGain, rule_cmp}
use Rattle.run_theory.specs.Outcomes.{Step, step_at}
use Rattle.run_theory.specs.Keys.{beats, beaten}
use Rattle.run_theory.specs.Folds.{FoldValue}

-- the best step of its length: no other of that length comes before it
pub record IsBestOfLength (f : FoldValue) (x : Bricks) (k : ℕ) (h : Bricks) : Type 0 where
  pub augments : Augments f.program f.phase (vectors f.sums) x k h
  pub first : (g : Bricks) → Augments f.program f.phase (vectors f.sums) x k g →
      IsTrue (is_le (rule_cmp f.program f.phase x (record { k = k; bricks = h }) (record { k = k; bricks = g })))

-- the step is the best one of its length
abbrev pub IsFound : FoldValue → Bricks → ℕ → Step → Type 0
IsFound f x k s = (h : Bricks) × IsBestOfLength f x k h
    × (s ≡ step_at f.program f.phase x (record { k = k; bricks = h }))

-- no step of that length gains
abbrev pub NoneOfLength : FoldValue → Bricks → ℕ → Type 0
NoneOfLength f x k = (h : Bricks) → Augments f.program f.phase (vectors f.sums) x k h → ⊥

-- no step of that length gains, or the bound beats the best one
abbrev pub IsBeaten : FoldValue → Bricks → ℕ → Option Key → Type 0
IsBeaten f x k bound =
    NoneOfLength f x k ⊎ ((s : Step) × IsFound f x k s × IsTrue (beaten (record { gain = s.gain; k = k }) bound))

-- the rule's step; none where no candidate lowers the phase cost
abbrev pub IsRuleStep : FoldValue → Bricks → Option Step → Type 0
IsRuleStep f x None = NoneAugments f.program f.phase (vectors f.sums) x
IsRuleStep f x (Some s) =
    (m : Move) × IsBest f.program f.phase (vectors f.sums) x m × (s ≡ step_at f.program f.phase x m)

-- for each step length the greatest gain of a candidate, where one has a gain above 0
pub record AreGains (p : Program) (phase : Phase) (zs : List Vector) (x : Bricks) (gains : List (Option ℕ)) : Type 0
  where
    pub lengths : (k : ℕ) → (k < length gains) ↔ IsLength p k
    pub each : (k : ℕ) (g : Option ℕ) → slice_get gains k ≡ Some g → IsGain p phase zs x k g

-- the length whose key beats that of every other length that gains; none where no length gains
abbrev pub IsBestByGains : List (Option ℕ) → Option ℕ → Type 0
IsBestByGains gains None = (k g : ℕ) → slice_get gains k ≡ Some (Some g) → ⊥
IsBestByGains gains (Some k) =
    (g : ℕ) × (slice_get gains k ≡ Some (Some g))
    × ((j h : ℕ) → j ≢ k → slice_get gains j ≡ Some (Some h) →
    IsTrue (beats (record { gain = g; k = k }) (record { gain = h; k = j })))
