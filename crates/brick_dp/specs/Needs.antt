-- What a step has to gain, and by how much the moves of all bricks can lower the cost at most.
use Rattle.std.specs.Prelude.{◌≡◌, ℕ, ◌^◌, ◌+◌, ◌-◌, ◌*◌, ◌<◌, ◌≤◌, ◌⊎◌, ℤ, pos, ◌-ℤ◌, ◌≤ℤ◌, ◌<ℤ◌, false, List, length}
use Rattle.std.specs.Prelude.{Option, Some, None, IsTrue, slice_get, unsigned_abs, sum_by, drop}
use Rattle.lattice_theory.specs.Vectors.{Vector, zeros}
use Rattle.lattice_theory.specs.SignedSums.{vectors}
use Rattle.fold_theory.specs.Programs.{Bricks, link_rests}
use Rattle.fold_program.specs.Refusals.{brick_magnitude, total_magnitude}
use Rattle.run_theory.specs.declared.Key.{Key}
use Rattle.run_theory.specs.Keys.{beaten, IsNoWorse}
use Rattle.run_theory.specs.Live.{IsLive, least_before}
use Rattle.run_theory.specs.Outcomes.{Step}
use Rattle.run_theory.specs.Walks.{WalkCosts}
use Rattle.run_theory.specs.Folds.{FoldValue}
use Rattle.run_theory.specs.Bests.{IsFound}
use Rattle.sieve_laws.specs.declared.PricedMove.{PricedMove}
use Rattle.sieve_laws.specs.Sieve.{Layer, Menu}
use Rattle.brick_dp.specs.Tables.{AreLayers}

-- a gain is at least this exactly where it is above 0 and the bound does not beat it; no step gains 2 ^ 124
pub record IsNeeded (k : ℕ) (bound : Option Key) (need : ℤ) : Type 0 where
  pub low : pos 1 ≤ℤ need
  pub high : need ≤ℤ pos (2 ^ 124)
  pub enough : (q : ℕ) → q < 2 ^ 124 → need ≤ℤ pos q → beaten (record { gain = q; k = k }) bound ≡ false
  pub few : (q : ℕ) → q < 2 ^ 124 → pos q <ℤ need → (q ≡ 0) ⊎ IsTrue (beaten (record { gain = q; k = k }) bound)

-- no step of that length lowers the cost by so much
abbrev pub NoneGains : FoldValue → Bricks → ℕ → ℤ → Type 0
NoneGains f x k need =
    (h : Bricks) (c : ℤ) →
    WalkCosts f.program f.phase (vectors f.sums) k (link_rests f.program x) f.program.bricks x
    (zeros f.program.brick.cols) h c →
    (pos 0 -ℤ need) <ℤ c

-- the best step of that length, where it lowers the cost by so much
abbrev pub IsStepUnder : FoldValue → Bricks → ℕ → ℤ → Option Step → Type 0
IsStepUnder f x k need None = NoneGains f x k need
IsStepUnder f x k need (Some s) = IsFound f x k s × (need ≤ℤ pos s.gain) × (s.gain < 2 ^ 124)

-- the least change of the moves, and 0 where none is below it
pub record IsLeastOf (menu : Menu) (least : ℤ) : Type 0 where
  pub below_zero : least ≤ℤ pos 0
  pub low : (i : ℕ) (m : PricedMove) → slice_get menu i ≡ Some m → least ≤ℤ m.change
  pub attained : (least ≡ pos 0) ⊎ ((i : ℕ) × (m : PricedMove) × (slice_get menu i ≡ Some m) × (m.change ≡ least))

-- a cost is there that is at most the limit
abbrev pub IsWithin : ℤ → List (Option ℤ) → Type 0
IsWithin limit costs = (i : ℕ) × (a : ℤ) × (slice_get costs i ≡ Some (Some a)) × (a ≤ℤ limit)

-- each cost that is there is above the limit
abbrev pub AreAbove : ℤ → List (Option ℤ) → Type 0
AreAbove limit costs = (i : ℕ) (a : ℤ) → slice_get costs i ≡ Some (Some a) → limit <ℤ a

-- some gain is needed, and no step of that length lowers the cost by so much
abbrev pub IsHopeless : FoldValue → Bricks → ℕ → Option Key → Type 0
IsHopeless f x k bound = (need : ℤ) × IsNeeded k bound need × NoneGains f x k need

-- some gain is needed, and no cost of the layer is so low that with the floor it gains so much
abbrev pub AreBeaten : ℕ → Option Key → List (Option ℤ) → ℤ → Type 0
AreBeaten k bound costs floor = (need : ℤ) × IsNeeded k bound need × AreAbove ((pos 0 -ℤ need) -ℤ floor) costs

-- some gain is needed; the limit is the most that a walk costs which with the floor gains so much; and a cost of the
-- layer is so low
abbrev pub HasHope : ℕ → Option Key → List (Option ℤ) → ℤ → ℤ → Type 0
HasHope k bound costs floor limit =
    (need : ℤ) × IsNeeded k bound need × (limit ≡ ((pos 0 -ℤ need) -ℤ floor)) × IsWithin limit costs

-- so many layers, right for whatever the bound asks for from now on
abbrev pub AreLayersUnder : FoldValue → Bricks → ℕ → ℕ → Option Key → List Layer → Type 0
AreLayersUnder f x k n bound layers =
    (now : Option Key) (need : ℤ) → IsNoWorse bound now → IsNeeded k now need → AreLayers f x k n need layers

-- no node of the last layer is live: moves of all bricks, each taken by itself, cannot gain what the bound asks for
abbrev pub NoneLives : FoldValue → Bricks → ℕ → Option Key → Type 0
NoneLives f x k bound = (w : Vector) → IsLive f.program f.phase (vectors f.sums) x k bound (length f.program.bricks)
    w → ⊥

-- the least that moves of the first i bricks change the cost by, each taken by itself, and how large it is at most
pub record IsFloor (f : FoldValue) (x : Bricks) (k i : ℕ) (floor : ℤ) : Type 0 where
  pub is : floor ≡ least_before f.program f.phase (vectors f.sums) x k i
  pub small : unsigned_abs floor ≤ 2 * total_magnitude f.program + 2 * sum_by brick_magnitude (drop i f.program.bricks)

-- the layers after m bricks, of which the last one is that layer, and the floor of the bricks that are left, right for
-- whatever the bound asks for from now on
pub record IsSwept (f : FoldValue) (x : Bricks) (k m : ℕ) (bound : Option Key) (all : List Layer) (layer : Layer)
    (lowest : ℤ) : Type 0 where
  pub layers : AreLayersUnder f x k (m + 1) bound all
  pub last : slice_get all m ≡ Some layer
  pub floor : IsFloor f x k (length f.program.bricks - m) lowest
