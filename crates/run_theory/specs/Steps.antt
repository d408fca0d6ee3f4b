-- Augmenting steps: candidates, the rule that picks one, and the run of a phase.
use Rattle.std.specs.Prelude.{◌≡◌, ℕ, ◌^◌, ◌≤◌, ℤ, pos, ◌-ℤ◌, ◌<ℤ◌, unsigned_abs, false, List, [], ◌∷◌, length, All}
use Rattle.std.specs.Prelude.{Contains, Option, Some, None, IsTrue}
use Rattle.std.specs.List.{list_all}
use Rattle.std.specs.Ordering.{int_cmp, nat_cmp, ordering_then, is_le}
use Rattle.std.specs.Cmp.Lexicographic.{slice_cmp}
use Rattle.std.specs.declared.cmp.Ordering.{Ordering}
use Rattle.fold_theory.specs.declared.Phase.{Phase}
use Rattle.fold_theory.specs.declared.Phase.TheVariants.{Closed, Counted}
use Rattle.lattice_theory.specs.Lists.{zip_with}
use Rattle.lattice_theory.specs.Vectors.{Vector, lex_cmp, is_zero, add, scale, zeros}
use Rattle.fold_theory.specs.Programs.{Program, Brick, Bricks, AreWithin, MeetsLinkRows, phase_cost, IsLength}

-- the point after 2 ^ k times the move
abbrev pub moved : Bricks → ℕ → Bricks → Bricks
moved x k h = zip_with (λ v d. add v (scale (pos (2 ^ k)) d)) x h

-- the sums w + h1, w + h1 + h2 and so on
abbrev pub partial_sums : Vector → Bricks → List Vector
partial_sums w [] = []
partial_sums w (d ∷ h) = add w d ∷ partial_sums (add w d) h

-- a walk from the sum w through these bricks: each move and each sum on the way is one of the listed
-- sums, and 2 ^ k times the move stays within the bounds
pub record IsWalk (zs : List Vector) (k : ℕ) (bricks : List Brick) (x : Bricks) (w : Vector) (h : Bricks) : Type 0 where
  pub size : length h ≡ length x
  pub moves : All (Contains zs) h
  pub sums : All (Contains zs) (partial_sums w h)
  pub within : AreWithin bricks (moved x k h)

-- the phase allows this end of a step
abbrev pub AllowsEnd : Program → Phase → Bricks → Type 0
AllowsEnd p Closed y = MeetsLinkRows p y
AllowsEnd p Counted y = Unit {0}

-- a candidate step of length 2 ^ k
pub record IsCandidate (p : Program) (phase : Phase) (zs : List Vector) (x : Bricks) (k : ℕ) (h : Bricks) : Type 0 where
  pub nonzero : list_all is_zero h ≡ false
  pub walk : IsWalk zs k p.bricks x (zeros p.brick.cols) h
  pub length : IsLength p k
  pub end : AllowsEnd p phase (moved x k h)

-- how much the phase cost falls
abbrev pub gain : Program → Phase → Bricks → ℕ → Bricks → ℤ
gain p phase x k h = phase_cost p phase x -ℤ phase_cost p phase (moved x k h)

-- a candidate that lowers the phase cost
pub record Augments (p : Program) (phase : Phase) (zs : List Vector) (x : Bricks) (k : ℕ) (h : Bricks) : Type 0 where
  pub candidate : IsCandidate p phase zs x k h
  pub lowers : pos 0 <ℤ gain p phase x k h

-- one step: its length and its move
pub record Move : Type 0 where
  pub k : ℕ
  pub bricks : Bricks

-- the order of the rule: by the phase cost after the step, then the length, then the move
abbrev pub rule_cmp : Program → Phase → Bricks → Move → Move → Ordering
rule_cmp p phase x a b =
    ordering_then (int_cmp (phase_cost p phase (moved x a.k a.bricks)) (phase_cost p phase (moved x b.k b.bricks)))
    (ordering_then (nat_cmp a.k b.k) (slice_cmp lex_cmp a.bricks b.bricks))

-- the step augments, and no other comes before it
pub record IsBest (p : Program) (phase : Phase) (zs : List Vector) (x : Bricks) (m : Move) : Type 0 where
  pub augments : Augments p phase zs x m.k m.bricks
  pub first : (k : ℕ) (h : Bricks) → Augments p phase zs x k h →
      IsTrue (is_le (rule_cmp p phase x m (record { k = k; bricks = h })))

-- no candidate lowers the phase cost
abbrev pub NoneAugments : Program → Phase → List Vector → Bricks → Type 0
NoneAugments p phase zs x = (k : ℕ) (h : Bricks) → Augments p phase zs x k h → ⊥

-- the rule's answer
abbrev pub IsRule : Program → Phase → List Vector → Bricks → Option Move → Type 0
IsRule p phase zs x None = NoneAugments p phase zs x
IsRule p phase zs x (Some m) = IsBest p phase zs x m

-- the steps of the rule from x until it has none, and the last point
abbrev pub IsRun : Program → Phase → List Vector → Bricks → List Move → Bricks → Type 0
IsRun p phase zs x [] last = NoneAugments p phase zs x × (last ≡ x)
IsRun p phase zs x (m ∷ ms) last = IsBest p phase zs x m × IsRun p phase zs (moved x m.k m.bricks) ms last

-- the greatest gain of a candidate of length 2 ^ k, where one has a gain above 0
abbrev pub IsGain : Program → Phase → List Vector → Bricks → ℕ → Option ℕ → Type 0
IsGain p phase zs x k None = (h : Bricks) → Augments p phase zs x k h → ⊥
IsGain p phase zs x k (Some g) =
    ((h : Bricks) × Augments p phase zs x k h × (gain p phase x k h ≡ pos g))
    × ((h : Bricks) → Augments p phase zs x k h → unsigned_abs (gain p phase x k h) ≤ g)
