-- What the ends of walks cost: products, what rows miss, and their sums.
use Rattle.std.proofs.Common.{◌≡◌, ℕ, ◌≤◌, ℤ, unsigned_abs, List, [], ◌∷◌, ◌++◌, refl, arith, inl, inr, Option, Some}
use Rattle.std.proofs.Common.{None, slice_get, ap, ◌∙◌, sym, All, subst}
use Rattle.std.specs.Prelude.{IfSome}
use Rattle.std.proofs.lemmas.Option.{slice_get_within, get_or_from_slice_get}
use Rattle.lattice_theory.specs.Vectors.{Vector}
use Rattle.lattice_theory.specs.BasisLimits.{IsNarrow}
use Rattle.fold_theory.specs.declared.Phase.{Phase}
use Rattle.fold_theory.specs.Programs.{Program, Bricks, link_rests, link_miss}
use Rattle.run_theory.specs.Folds.{FoldValue}
use Rattle.run_theory.specs.Walks.{end_at}
use Rattle.lattice_laws.proofs.Places.{same_value, slice_get-push}
use Rattle.walk_ends.proofs.EndLaws.{lefts}
use Rattle.layer_sieve.specs.Reaching.{AreAtMost}
use Rattle.brick_dp.specs.Ends.{ending}

-- a node of the last layer, from what was read of the fold and of the point
pub ending_is : (f : FoldValue) (k : ℕ) (x : Bricks) (w rests : Vector) (before after : ℕ) (phase : Phase)
    (p : Program) (cell : Option ℤ) → p ≡ f.program →
    rests ≡ link_rests p x → phase ≡ f.phase → before ≡ link_miss p (link_rests p x) →
    after ≡ link_miss p (lefts k rests p.link w) →
    cell ≡ end_at phase before after → cell ≡ ending f k (link_rests f.program x) w
ending_is f k x w rests before after phase p cell program_is rests_are phase_is before_is after_is cost =
    cost ∙ (λ i. end_at (phase_is i) (before_is i) (after_is i))
    ∙ (λ i. end_at f.phase (link_miss p (link_rests p x)) (link_miss p (lefts k (rests_are i) p.link w)))
    ∙ (λ i. end_at f.phase (link_miss (program_is i) (link_rests (program_is i) x))
    (link_miss (program_is i) (lefts k (link_rests (program_is i) x) (program_is i).link w)))

-- ---- rows

pub row_at : (rows : List Vector) (at : ℕ) (row : Vector) → All IsNarrow rows → slice_get rows at ≡ Some row →
    IsNarrow row
row_at rows at row narrow there =
    subst IsNarrow (get_or_from_slice_get rows at row row there) (narrow at row (slice_get_within rows at row there))

-- ---- how large the costs of ends are

pub AreAtMost-none : (most : ℕ) → AreAtMost most []
AreAtMost-none most i a there = absurd (cc)

-- one more cell
pub AreAtMost-push : (most : ℕ) (layer next : List (Option ℤ)) (cell : Option ℤ) → next ≡ layer ++ cell ∷ [] →
    IfSome cell (λ c. unsigned_abs c ≤ most) →
    AreAtMost most layer → AreAtMost most next
AreAtMost-push most layer next cell is here so_far i a there =
    elim (slice_get-push layer cell (Some a) i (ap (λ xs. slice_get xs i) (sym is) ∙ there)) [
      | inl before ↦ so_far i a before
      | inr new ↦ last cell here new.1
    ]
  where
    last : (o : Option ℤ) → IfSome o (λ c. unsigned_abs c ≤ most) → o ≡ Some a → unsigned_abs a ≤ most
    last None small e = absurd (cc)
    last (Some c) small e = let same : c ≡ a = same_value (Some c) c a refl e in
        omega (arith, small, ap unsigned_abs same)
