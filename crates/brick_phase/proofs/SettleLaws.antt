-- Laws of a brick's run while it goes on: the best offer is the best step of the rule, and steps lead on.
use Rattle.std.proofs.Common.{◌≡◌, ℕ, ◌-◌, ◌<◌, ◌≤ℤ◌, ◌⊎◌, inl, inr, List, [], ◌∷◌, ◌++◌, length, map, refl, ap, sym}
use Rattle.std.proofs.Common.{subst, ◌∙◌, Option, Some, None, append_assoc, arith}
use Rattle.std.specs.List.{AllZip, Contains}
use Rattle.std.proofs.lemmas.List.{append-nil}
use Rattle.std.proofs.lemmas.Option.{slice_get_within, get_or_from_slice_get}
use Rattle.lattice_theory.specs.Vectors.{Vector, opposite}
use Rattle.lattice_theory.specs.Lattices.{first_parts}
use Rattle.lattice_laws.proofs.Members.{contains_cases, contains_head, contains_tail}
use Rattle.fold_theory.specs.Programs.{Program, Brick, IsProgram, IsBrick, IsWithin, brick_residual}
use Rattle.run_theory.specs.BrickRuns.{BrickMove, nearest_point, stepped, Improves, IsBestBrickMove, IsBrickRunFrom}
use Rattle.fold_program.specs.Places.{OfBrick, ForBrick}
use Rattle.brick_phase.specs.declared.moves.Moves.{Moves}
use Rattle.brick_phase.specs.declared.offers.Place.{Place}
use Rattle.brick_phase.specs.declared.offers.Offer.{Offer}
use Rattle.brick_phase.specs.Moves.{vectors, with_opposites, AreMoves}
use Rattle.brick_phase.specs.Offers.{FitMoves, IsPlace, Lowers, IsBestOf, IsBestOffer, Uses}
use Rattle.brick_phase.specs.Settled.{IsBrickEnd}
use Rattle.fold_program.proofs.PlaceLaws.{for_brick}

-- ---- the vectors of steps

pub parts_listed : (vs : List Vector) (v : Vector) → Contains (with_opposites vs) v →
    Contains vs v ⊎ Contains (map opposite vs) v
parts_listed [] v listed = inl listed
parts_listed (u ∷ vs) v listed = elim (contains_cases u (opposite u ∷ with_opposites vs) v listed) [
  | inl same ↦ inl (subst (Contains (u ∷ vs)) same (contains_head u vs))
  | inr rest ↦ elim (contains_cases (opposite u) (with_opposites vs) v rest) [
    | inl same ↦ inr (subst (Contains (opposite u ∷ map opposite vs)) same
        (contains_head (opposite u) (map opposite vs)))
    | inr more ↦ elim (parts_listed vs v more) [
      | inl part ↦ inl (contains_tail u vs v part)
      | inr back ↦ inr (contains_tail (opposite u) (map opposite vs) v back)
    ]
  ]
]

pub listed_parts : (vs : List Vector) (v : Vector) → Contains vs v ⊎ Contains (map opposite vs) v →
    Contains (with_opposites vs) v
listed_parts [] v (inl part) = part
listed_parts [] v (inr back) = back
listed_parts (u ∷ vs) v (inl part) = elim (contains_cases u vs v part) [
  | inl same ↦ subst (Contains (with_opposites (u ∷ vs))) same (contains_head u (opposite u ∷ with_opposites vs))
  | inr rest ↦ contains_tail u (opposite u ∷ with_opposites vs) v
      (contains_tail (opposite u) (with_opposites vs) v (listed_parts vs v (inl rest)))
]
listed_parts (u ∷ vs) v (inr back) = elim (contains_cases (opposite u) (map opposite vs) v back) [
  | inl same ↦
      subst (Contains (with_opposites (u ∷ vs))) same
      (contains_tail u (opposite u ∷ with_opposites vs) (opposite u) (contains_head (opposite u) (with_opposites vs)))
  | inr rest ↦ contains_tail u (opposite u ∷ with_opposites vs) v
      (contains_tail (opposite u) (with_opposites vs) v (listed_parts vs v (inr rest)))
]

-- ---- the best offer

module _ (p : Program) (basis : List Vector) (m : Moves) (moves : AreMoves p basis m) (b : Brick) (v : Vector) where
  -- a step of these moves that lowers the residual is a step of the rule
  improves : (n : BrickMove) → Uses (vectors m.vectors.items) m.lengths n → Lowers p b v n → Improves p basis b v n
  improves n uses lowers = record {
    part = parts_listed (first_parts p.brick.cols basis) n.vector
        (subst (λ vs. Contains vs n.vector) moves.parts uses.0);
    length = (moves.lengths n.k).0 uses.1;
    within = lowers.within;
    lowers = lowers.lowers;
  }

  -- and each step of the rule is one
  lowers_by : (n : BrickMove) → Improves p basis b v n → Uses (vectors m.vectors.items) m.lengths n × Lowers p b v n
  lowers_by n step = (
    (
      subst (λ vs. Contains vs n.vector) (sym moves.parts) (listed_parts (first_parts p.brick.cols basis) n.vector
          step.part),
      (moves.lengths n.k).1 step.length,
    ),
    record { within = step.within; lowers = step.lowers },
  )

  pub best_move : (o : Offer) → IsBestOf p b v (Uses (vectors m.vectors.items) m.lengths) (Some o) →
      IsBestBrickMove p basis b v o.step
  best_move o best = record {
    improves = improves o.step best.0 best.1.lowers;
    first = λ n step. let uses = lowers_by n step in best.2 n uses.0 uses.1;
  }

  pub no_move : IsBestOf p b v (Uses (vectors m.vectors.items) m.lengths) None → (n : BrickMove) →
      Improves p basis b v n → ⊥
  no_move none n step = let uses = lowers_by n step in none n uses.0 uses.1

pub AreMoves-fit : (p : Program) (basis : List Vector) (m : Moves) → AreMoves p basis m → FitMoves p m
AreMoves-fit p basis m moves = record { sizes = moves.sizes; few = moves.few }

-- ---- the run

-- a run from the second point is one from the first, with these steps before it
pub record LeadsOn (p : Program) (basis : List Vector) (b : Brick) (from : Vector) (trace : List BrickMove)
    (to : Vector) : Type 0 where
  pub on : (ms : List BrickMove) (last : Vector) → IsBrickRunFrom p basis b to ms last →
      IsBrickRunFrom p basis b from (trace ++ ms) last

module _ (p : Program) (basis : List Vector) (b : Brick) (from : Vector) where
  pub LeadsOn-none : (trace : List BrickMove) (to : Vector) → trace ≡ [] → to ≡ from → LeadsOn p basis b from trace to
  LeadsOn-none trace to none same = record {
    on = λ ms last run.
        subst (λ t. IsBrickRunFrom p basis b from (t ++ ms) last) (sym none)
        (subst (λ u. IsBrickRunFrom p basis b u ms last) same run);
  }

  -- one best step more
  pub LeadsOn-more : (trace new : List BrickMove) (at to : Vector) (m : BrickMove) → new ≡ trace ++ m ∷ [] →
      to ≡ stepped at m →
      IsBestBrickMove p basis b at m → LeadsOn p basis b from trace at → LeadsOn p basis b from new to
  LeadsOn-more trace new at to m is stepped_to best so_far = record {
    on = λ ms last run.
        subst (λ t. IsBrickRunFrom p basis b from t last) (sym (ap (λ t. t ++ ms) is ∙ append_assoc trace (m ∷ []) ms))
        (so_far.on (m ∷ ms) last (best, subst (λ u. IsBrickRunFrom p basis b u ms last) stepped_to run));
  }

  -- no step more
  pub LeadsOn-done : (trace : List BrickMove) (at : Vector) → ((n : BrickMove) → Improves p basis b at n → ⊥) →
      LeadsOn p basis b from trace at →
      IsBrickRunFrom p basis b from trace at
  LeadsOn-done trace at none so_far = subst (λ t. IsBrickRunFrom p basis b from t at) (append-nil trace)
      (so_far.on [] at (none, refl))

-- ---- the start

-- the bounds of a brick of a program do not cross
pub uncrossed_bounds : (p : Program) (i : ℕ) (lower upper : Vector) → IsProgram p → OfBrick p i (λ b. lower ≡ b.lower) →
    OfBrick p i (λ b. upper ≡ b.upper) →
    AllZip ◌≤ℤ◌ lower upper
uncrossed_bounds p i lower upper program (b, there, low) high =
    let inside : i - 1 < length p.bricks = slice_get_within p.bricks (i - 1) b there in
    let fits : IsBrick p.link.cols (length p.brick.rows) b =
    subst (IsBrick p.link.cols (length p.brick.rows)) (get_or_from_slice_get p.bricks (i - 1) b b there)
    (program.each_brick (i - 1) b inside) in
    subst (λ l. AllZip ◌≤ℤ◌ l upper) (sym low) (subst (AllZip ◌≤ℤ◌ b.lower)
    (sym (for_brick p i (λ a. upper ≡ a.upper) high b there)) fits.uncrossed)

-- ---- a turn, and the end

module _ (p : Program) (basis : List Vector) (i : ℕ) (m : Moves) (moves : AreMoves p basis m) where
  -- the best offer of these moves
  abbrev Best : Brick → Place → Option Offer → Type 0
  Best b a best = IsBestOf p b a.point.items (Uses (vectors m.vectors.items) m.lengths) best

  -- the best offer leads to a place
  pub place_after : (a : Place) (o : Offer) (best : Option Offer) → IsBestOffer p i m a best →
      best ≡ Some o → ForBrick p i (λ b. IsPlace p b o.place)
  place_after a o best found is b there =
      let first : Best b a (Some o) =
      subst (Best b a) is (found b there) in
      record {
        within = subst (IsWithin b) (sym first.1.point) first.1.lowers.within;
        residual = first.1.residual ∙ ap (brick_residual p b) (sym first.1.point);
      }

  -- with a lower residual
  pub residual_after : (a : Place) (o : Offer) (best : Option Offer) (Q : Brick → Type 0) → OfBrick p i Q →
      IsBestOffer p i m a best → best ≡ Some o → ForBrick p i (λ b. IsPlace p b a) →
      o.place.residual < a.residual
  residual_after a o best Q (b, there, q) found is place =
      let first : Best b a (Some o) =
      subst (Best b a) is (found b there) in
      omega (arith, first.1.residual, first.1.lowers.lowers, (place b there).residual)

  -- and is a step of the run
  pub leads_after : (a : Place) (o : Offer) (best : Option Offer) (trace new : List BrickMove) →
      IsBestOffer p i m a best → best ≡ Some o → new ≡ trace ++ o.step ∷ [] →
      ForBrick p i (λ b. LeadsOn p basis b (nearest_point b) trace a.point.items) →
      ForBrick p i (λ b. LeadsOn p basis b (nearest_point b) new o.place.point.items)
  leads_after a o best trace new found is pushed so_far b there =
      let first : Best b a (Some o) =
      subst (Best b a) is (found b there) in
      LeadsOn-more p basis b (nearest_point b) trace new a.point.items o.place.point.items o.step pushed first.1.point
      (best_move p basis m moves b a.point.items o first) (so_far b there)

  -- where there is none, the run ends
  pub brick_end : (a : Place) (best : Option Offer) (trace : List BrickMove) (Q : Brick → Type 0) → OfBrick p i Q →
      IsBestOffer p i m a best → best ≡ None → ForBrick p i (λ b. IsPlace p b a) →
      ForBrick p i (λ b. LeadsOn p basis b (nearest_point b) trace a.point.items) →
      IsBrickEnd p basis i trace a.point.items a.residual
  brick_end a best trace Q (b, there, q) found is place so_far =
      let none : Best b a None =
      subst (Best b a) is (found b there) in (
        b,
        there,
        LeadsOn-done p basis b (nearest_point b) trace a.point.items (no_move p basis m moves b a.point.items none)
            (so_far b there),
        sym (place b there).residual,
        (place b there).within,
      )
