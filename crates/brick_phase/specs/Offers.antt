-- What steps of a brick offer, and which offer comes first.
use Rattle.std.specs.Prelude.{◌≡◌, ℕ, ◌<◌, ◌≤◌, List, length, All, Contains, Option, Some, None, IsTrue}
use Rattle.std.specs.Ordering.{nat_cmp, ordering_then, is_le}
use Rattle.std.specs.declared.cmp.Ordering.{Ordering}
use Rattle.lattice_theory.specs.Vectors.{Vector, lex_cmp}
use Rattle.lattice_theory.specs.BasisLimits.{IsNarrow}
use Rattle.fold_theory.specs.Programs.{Program, Brick, IsWithin, brick_residual}
use Rattle.run_theory.specs.BrickRuns.{BrickMove, nearest_point, stepped, brick_cmp}
use Rattle.fold_program.specs.Places.{OfBrick, ForBrick}
use Rattle.brick_phase.specs.declared.moves.Moves.{Moves}
use Rattle.brick_phase.specs.declared.offers.Place.{Place}
use Rattle.brick_phase.specs.declared.offers.Offer.{Offer}
use Rattle.brick_phase.specs.Moves.{vectors}

-- each vector has an entry for each column and is narrow, and no length passes a word
pub record FitMoves (p : Program) (m : Moves) : Type 0 where
  pub sizes : All (λ v. (length v ≡ p.link.cols) × IsNarrow v) (vectors m.vectors.items)
  pub few : m.lengths ≤ 64

-- the point is within the bounds, and the residual is its own
pub record IsPlace (p : Program) (b : Brick) (a : Place) : Type 0 where
  pub within : IsWithin b a.point.items
  pub residual : a.residual ≡ brick_residual p b a.point.items

-- the step stays within the bounds and lowers the residual
pub record Lowers (p : Program) (b : Brick) (v : Vector) (m : BrickMove) : Type 0 where
  pub within : IsWithin b (stepped v m)
  pub lowers : brick_residual p b (stepped v m) < brick_residual p b v

-- the offer is such a step with the place to which it leads
pub record IsOffer (p : Program) (b : Brick) (v : Vector) (o : Offer) : Type 0 where
  pub lowers : Lowers p b v o.step
  pub point : o.place.point.items ≡ stepped v o.step
  pub residual : o.place.residual ≡ brick_residual p b (stepped v o.step)

-- the step's offer, where it is such a step
abbrev pub IsOfferOf : Program → Brick → Vector → BrickMove → Option Offer → Type 0
IsOfferOf p b v m None = Lowers p b v m → ⊥
IsOfferOf p b v m (Some o) = (o.step ≡ m) × IsOffer p b v o

-- by the residual after the step, then the length, then the vector
abbrev pub offer_cmp : Offer → Offer → Ordering
offer_cmp a b =
    ordering_then (nat_cmp a.place.residual b.place.residual)
    (ordering_then (nat_cmp a.step.k b.step.k) (lex_cmp a.step.vector b.step.vector))

-- a step with one of these vectors and one of so many lengths
abbrev pub Uses : List Vector → ℕ → BrickMove → Type 0
Uses vs lengths m = Contains vs m.vector × (m.k < lengths)

-- the best offer of these steps
abbrev pub IsBestOf : Program → Brick → Vector → (BrickMove → Type 0) → Option Offer → Type 0
IsBestOf p b v Steps None = (m : BrickMove) → Steps m → Lowers p b v m → ⊥
IsBestOf p b v Steps (Some o) =
    Steps o.step × IsOffer p b v o
    × ((m : BrickMove) → Steps m → Lowers p b v m → IsTrue (is_le (brick_cmp p b v o.step m)))

-- ---- at a place of the brick of this number

abbrev pub IsOfferAt : Program → ℕ → Place → BrickMove → Option Offer → Type 0
IsOfferAt p i a m offer = ForBrick p i (λ b. IsOfferOf p b a.point.items m offer)

abbrev pub IsBestOffer : Program → ℕ → Moves → Place → Option Offer → Type 0
IsBestOffer p i moves a best =
    ForBrick p i (λ b. IsBestOf p b a.point.items (Uses (vectors moves.vectors.items) moves.lengths) best)

-- the place from which its run starts
abbrev pub IsStart : Program → ℕ → Place → Type 0
IsStart p i a = OfBrick p i (λ b. IsPlace p b a × (a.point.items ≡ nearest_point b))
