-- What the workers of a round know and keep.
use Rattle.std.specs.Prelude.{◌≡◌, ◌≢◌, ℕ, suc, ◌+◌, ◌⊎◌, max, List, [], ◌∷◌, ◌++◌, length, All, Contains, Bool, IsTrue}
use Rattle.atomic_table.specs.Seated.{TableId}
use Rattle.fold_theory.specs.Programs.{Bricks}
use Rattle.run_theory.specs.Outcomes.{Step}
use Rattle.run_theory.specs.Folds.{FoldValue}
use Rattle.run_theory.specs.Bests.{IsFound, NoneOfLength}
use Rattle.round_core.specs.declared.parts.Fate.TheVariants.{Offered, Beaten}
use Rattle.round_core.specs.declared.parts.Stand.TheVariants.{Working, Finished}
use Rattle.board_laws.specs.declared.views.Owned.{Owned}
use Rattle.board_laws.specs.Views.{opening_view, settling_view}
use Rattle.board_laws.specs.Closing.{IsSettled}
use Rattle.incumbent.specs.Seats.{Held}

-- a worker's seat, the steps of the lengths that it offered, and whether it knows the point as a best one
pub record WorkerValue : Type 0 where
  pub held : Held
  pub steps : List Step
  pub at_best : Bool

-- each length that was offered has its step among these
abbrev pub HasSteps : List Step → List Owned → Type 0
HasSteps steps lengths = All (λ e. e.fate ≡ Offered → (s : Step) × Contains steps s × (s.k ≡ e.k)) lengths

-- every length of the worker is settled, and it has the best steps of those that it offered
pub record Keeps (f : FoldValue) (x : Bricks) (w : WorkerValue) : Type 0 where
  pub settled : All IsSettled w.held.view.owned
  pub kept : HasSteps w.steps w.held.view.owned
  pub found : All (λ s. IsFound f x s.k s) w.steps

-- from a point that the worker knows as a best one no step of any length gains
abbrev pub KnowsBest : FoldValue → Bricks → WorkerValue → Type 0
KnowsBest f x w = IsTrue w.at_best → (k : ℕ) → NoneOfLength f x k

-- a worker before its first claim
pub record IsReady (f : FoldValue) (x : Bricks) (table : TableId) (w : WorkerValue) : Type 0 where
  pub of : w.held.table ≡ table
  pub working : w.held.view.stand ≡ Working
  pub keeps : Keeps f x w
  pub best : KnowsBest f x w

-- the worker after it tried a length: its best step was offered, or the length is beaten
pub record HasTried (f : FoldValue) (x : Bricks) (k : ℕ) (w r : WorkerValue) : Type 0 where
  pub of : r.held.table ≡ w.held.table
  pub fate : ((r.held.view ≡ settling_view w.held.view k Beaten r.held.view.seen) × (r.steps ≡ w.steps))
      ⊎ ((s : Step) × IsFound f x k s × (r.held.view ≡ settling_view w.held.view k Offered r.held.view.seen)
      × (r.steps ≡ (w.steps ++ s ∷ [])))
  pub best : KnowsBest f x r

-- the worker after its last claim
pub record IsDone (f : FoldValue) (x : Bricks) (w r : WorkerValue) : Type 0 where
  pub of : r.held.table ≡ w.held.table
  pub finished : r.held.view.stand ≡ Finished
  pub keeps : Keeps f x r
  pub number : r.held.view.number ≡ w.held.view.number
  pub joined : r.held.view.joined ≡ w.held.view.joined
  pub made : r.held.view.made ≡ w.held.view.made

-- one more than the greatest length that a seat owns
abbrev pub ceiling : List Owned → ℕ
ceiling [] = 0
ceiling (e ∷ es) = max (suc e.k) (ceiling es)

-- ---- teams

-- a worker that was split off and took in no other
pub record IsSplitOff (f : FoldValue) (x : Bricks) (table : TableId) (w : WorkerValue) : Type 0 where
  pub of : w.held.table ≡ table
  pub keeps : Keeps f x w
  pub number : w.held.view.number ≢ 0
  pub joined : w.held.view.joined ≡ 0

-- the opening worker, which made so many others and took in none as yet
pub record IsOpening (f : FoldValue) (x : Bricks) (table : TableId) (others : ℕ) (w : WorkerValue) : Type 0 where
  pub of : w.held.table ≡ table
  pub keeps : Keeps f x w
  pub number : w.held.view.number ≡ 0
  pub joined : w.held.view.joined ≡ 0
  pub made : w.held.view.made ≡ others

-- these workers were split off so far, each with no step, by the opening seat
pub record IsSplitting (f : FoldValue) (x : Bricks) (table : TableId) (opening : Held) (workers : List WorkerValue)
    : Type 0 where
  pub of : opening.table ≡ table
  pub view : opening.view ≡ record opening_view { made = length workers }
  pub ready : All (IsReady f x table) workers
  pub split : All (IsSplitOff f x table) workers

-- the workers that were split off, and then the opening one
pub record IsTeam (f : FoldValue) (x : Bricks) (table : TableId) (workers : List WorkerValue) : Type 0 where
  pub rest : List WorkerValue
  pub opening : WorkerValue
  pub all : workers ≡ (rest ++ opening ∷ [])
  pub split : All (IsSplitOff f x table) rest
  pub first : IsOpening f x table (length rest) opening

-- the opening worker, at its end, has still to take in these others
pub record IsTaking (f : FoldValue) (x : Bricks) (table : TableId) (w : WorkerValue) (others : List WorkerValue)
    : Type 0 where
  pub of : w.held.table ≡ table
  pub finished : w.held.view.stand ≡ Finished
  pub number : w.held.view.number ≡ 0
  pub counted : w.held.view.joined + length others ≡ w.held.view.made
  pub keeps : Keeps f x w
  pub split : All (IsSplitOff f x table) others
