-- The sum that a move reaches, and what walks cost from there.
use Rattle.std.specs.Prelude.{◌≡◌, ℕ, ◌≤◌, ◌^◌, ◌<◌, ℤ, unsigned_abs, List, Option, Some, None, slice_get}
use Rattle.lattice_theory.specs.Vectors.{Vector}
use Rattle.sieve_laws.specs.declared.PricedMove.{PricedMove}
use Rattle.sieve_laws.specs.Sieve.{Layer, Menu, Leads, Reaches, IsFirst}
use Rattle.layer_sieve.specs.declared.reaching.Reach.{Reach}
use Rattle.layer_sieve.specs.declared.choices.Choice.{Choice}

-- what the move at place h reaches from w
abbrev pub IsReach : List Vector → Layer → ℕ → ℕ → Option Reach → Type 0
IsReach zs next h w None = (a : ℤ) → Reaches zs next h w a → ⊥
IsReach zs next h w (Some r) = Leads zs h w r.to × (slice_get next r.to ≡ Some (Some r.rest))

-- each number that is there is at most this in absolute value
abbrev pub AreAtMost : ℕ → List (Option ℤ) → Type 0
AreAtMost most numbers = (i : ℕ) (a : ℤ) → slice_get numbers i ≡ Some (Some a) → unsigned_abs a ≤ most

-- the moves are listed sums, and no cost leaves 128 bits with them
pub record IsFair (sums : ℕ) (m : PricedMove) : Type 0 where
  pub low : m.place < sums
  pub small : unsigned_abs m.change ≤ 2 ^ 121

-- the first move of the menu whose walks cost this much, and where it leads
pub record IsChoice (zs : List Vector) (menu : Menu) (next : Layer) (w : ℕ) (c : ℤ) (choice : Choice) : Type 0 where
  pub i : ℕ
  pub first : IsFirst zs menu next w i c
  pub place : choice.place ≡ (first.goes.move).place
  pub to : choice.to ≡ first.goes.reach.to
  pub rest : choice.rest ≡ first.goes.rest
