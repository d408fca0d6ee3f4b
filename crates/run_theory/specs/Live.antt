-- Nodes of the layers that can still lead to a step which is not beaten.
use Rattle.std.specs.Prelude.{◌≡◌, ℕ, ◌*◌, ◌^◌, ◌<◌, ◌≤◌, ℤ, pos, ◌+ℤ◌, ◌<ℤ◌, unsigned_abs, false, List, [], ◌∷◌, map}
use Rattle.std.specs.Prelude.{filter, take, length, All, Contains, Option, Some}
use Rattle.std.specs.Int.{int_min}
use Rattle.fold_theory.specs.declared.Phase.{Phase}
use Rattle.run_theory.specs.declared.Key.{Key}
use Rattle.lattice_theory.specs.Lists.{sum_zip}
use Rattle.lattice_theory.specs.Vectors.{Vector, add, scale}
use Rattle.fold_theory.specs.Programs.{Program, Brick, Bricks, is_within}
use Rattle.run_theory.specs.Walks.{IsPotential, brick_change}
use Rattle.run_theory.specs.Keys.{beaten}

-- the least of the numbers, and 0 of none
abbrev pub least : List ℤ → ℤ
least [] = pos 0
least (a ∷ []) = a
least (a ∷ b ∷ rest) = int_min a (least (b ∷ rest))

-- the least change of cost by a move of this brick that stays within the bounds
abbrev pub least_change : Phase → List Vector → ℕ → Brick → Vector → ℤ
least_change phase zs k b v =
    let moves = filter (λ d. is_within b (add v (scale (pos (2 ^ k)) d))) zs in
    least (map (λ d. brick_change phase b v (add v (scale (pos (2 ^ k)) d))) moves)

-- the least change of cost by moves of the first i bricks, each taken by itself
abbrev pub least_before : Program → Phase → List Vector → Bricks → ℕ → ℕ → ℤ
least_before p phase zs x k i = sum_zip (least_change phase zs k) (take i p.bricks) (take i x)

-- a step through the sum w at layer i could gain something, and the bound would not beat it
pub record IsLive (p : Program) (phase : Phase) (zs : List Vector) (x : Bricks) (k : ℕ) (bound : Option Key) (i : ℕ)
    (w : Vector) : Type 0 where
  pub layer : 0 < i
  pub inside : i ≤ length p.bricks
  pub listed : Contains zs w
  pub potential : ℤ
  pub is : IsPotential p phase zs x k i w (Some potential)
  pub gains : (least_before p phase zs x k i +ℤ potential) <ℤ pos 0
  pub unbeaten : beaten (record { gain = unsigned_abs (least_before p phase zs x k i +ℤ potential); k = k }) bound ≡
      false

-- a layer and a place in the list of sums
abbrev pub Node : Type 0
Node = ℕ × Vector

-- the moves are at most the number of sums for each live node
abbrev pub TriesLiveNodes : Program → Phase → List Vector → Bricks → ℕ → Option Key → ℕ → Type 0
TriesLiveNodes p phase zs x k bound moves =
    (nodes : List Node) × All (λ n. IsLive p phase zs x k bound n.0 n.1) nodes × AreDifferent nodes
    × (moves ≤ length zs * length nodes)
  where
    AreDifferent : List Node → Type 0
    AreDifferent [] = Unit {0}
    AreDifferent (n ∷ ns) = (Contains ns n → ⊥) × AreDifferent ns
