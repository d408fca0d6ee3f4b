-- The first limit at values worked by hand: the program of two bricks, whose linking row wants 3. Each brick goes from
-- (0, 0) by 4 times (0, 1) to (0, 4), so the row misses 3 and phase Counted begins; its five sums are more than 4.
use Rattle.std.specs.Prelude.{◌≡◌, ℕ, suc, zero, ◌<◌, ◌≤◌, ◌^◌, ℤ, pos, unsigned_abs, [], ◌∷◌, Contains, IsTrue, refl}
use Rattle.std.proofs.Common.{arith, subst, inl, inr, lit<, lit≤}
use Rattle.std.proofs.lemmas.Int.{ints}
use Rattle.std.proofs.lemmas.List.Elements.{All-from_recursion}
use Rattle.std.proofs.Math.Pow.{pow_mono}
use Rattle.std.specs.Ordering.{is_le}
use Rattle.fold_theory.specs.declared.Phase.TheVariants.{Counted}
use Rattle.run_theory.specs.declared.SolveFault.{SolveFault}
use Rattle.run_theory.specs.declared.SolveFault.TheVariants.{Sums}
use Rattle.lattice_theory.specs.Vectors.{Vector}
use Rattle.lattice_theory.specs.BasisLimits.{IsNarrow}
use Rattle.lattice_theory.specs.SignedSums.{IsSignedSum, vectors}
use Rattle.lattice_theory.proofs.KnownValues.{minus, two, three}
use Rattle.fold_theory.specs.Programs.{Bricks, IsLength}
use Rattle.fold_theory.proofs.KnownValues.{the_program, brick_with}
use Rattle.run_theory.specs.Links.{Bases, links_of}
use Rattle.run_theory.specs.BrickRuns.{BrickMove, Improves, IsSignedPart, IsBestBrickMove, IsBrickRun, brick_cmp}
use Rattle.run_theory.specs.BrickSums.{ExceedsSums}
use Rattle.run_theory.specs.Outcomes.{AllSettle}
use Rattle.run_theory.specs.Limits.{Caps, LinkStageWithin, IsLimit}
use Rattle.run_theory.proofs.KnownValues.{five_sums}
use Rattle.outcome_laws.proofs.KnownBases.{basis, it_is_slack, units, one_is_slack}
use Rattle.outcome_laws.proofs.OneLimit.{limit_unique}

-- ---- the run of a brick

abbrev origin : Vector
origin = two (pos 0) (pos 0)

abbrev upward : BrickMove
upward = record { k = 2; vector = two (pos 0) (pos 1) }

-- there are three lengths
short : (k : ℕ) → IsLength the_program k → k < 3
short zero fits = omega arith
short (suc zero) fits = omega arith
short (suc (suc zero)) fits = omega arith
short (suc (suc (suc k))) fits =
    let wide : 2 ^ 3 ≤ 2 ^ suc (suc (suc k)) = pow_mono {i = 3} {j = suc (suc (suc k))} (omega arith) in
    absurd (omega (arith, wide, fits))

-- what holds of the three first parts of the basis and of their opposites
each_part : (P : Vector → Type 0) → P (two (pos 0) (pos 1)) → P (two (pos 1) (minus 1)) → P (two (pos 1) (pos 0)) →
    P (two (pos 0) (minus 1)) → P (two (minus 1) (pos 1)) → P (two (minus 1) (pos 0)) → (v : Vector) →
    IsSignedPart the_program basis v → P v
each_part P a b c d e f v (inl (zero, low, is)) = subst P is a
each_part P a b c d e f v (inl (suc zero, low, is)) = subst P is b
each_part P a b c d e f v (inl (suc (suc zero), low, is)) = subst P is c
each_part P a b c d e f v (inl (suc (suc (suc k)), low, is)) = absurd (omega (arith, low))
each_part P a b c d e f v (inr (zero, low, is)) = subst P is d
each_part P a b c d e f v (inr (suc zero, low, is)) = subst P is e
each_part P a b c d e f v (inr (suc (suc zero), low, is)) = subst P is f
each_part P a b c d e f v (inr (suc (suc (suc k)), low, is)) = absurd (omega (arith, low))

abbrev NoLater : ℕ → Vector → Type 0
NoLater k v = IsTrue (is_le (brick_cmp the_program (brick_with 4) origin upward (record { k = k; vector = v })))

upward_first : (k : ℕ) → k < 3 → (v : Vector) → IsSignedPart the_program basis v → NoLater k v
upward_first zero low = each_part (NoLater 0) refl refl refl refl refl refl
upward_first (suc zero) low = each_part (NoLater 1) refl refl refl refl refl refl
upward_first (suc (suc zero)) low = each_part (NoLater 2) refl refl refl refl refl refl
upward_first (suc (suc (suc k))) low = absurd (omega (arith, low))

upward_is_best : IsBestBrickMove the_program basis (brick_with 4) origin upward
upward_is_best = record {
  improves = record {
    part = inl (0, omega arith, refl);
    length = lit≤ tt;
    within = ((omega (arith, ints), (omega (arith, ints), tt)), (omega (arith, ints), (omega (arith, ints), tt)));
    lowers = lit< tt;
  };
  first = λ n helps. upward_first n.k (short n.k helps.length) n.vector helps.part;
}

abbrev settled_vector : Vector
settled_vector = two (pos 0) (pos 4)

no_step_left : (m : BrickMove) → Improves the_program basis (brick_with 4) settled_vector m → ⊥
no_step_left m helps = omega (arith, helps.lowers)

its_run : IsBrickRun the_program basis (brick_with 4) (upward ∷ []) settled_vector
its_run = (upward_is_best, (no_step_left, refl))

abbrev settled_point : Bricks
settled_point = settled_vector ∷ settled_vector ∷ []

both_settle : AllSettle the_program basis the_program.bricks ((upward ∷ []) ∷ (upward ∷ []) ∷ []) settled_point
both_settle = (its_run, refl, (its_run, refl, tt))

-- ---- the limit

abbrev bases : Bases
bases = record { brick = basis; links = units }

narrow_row : (a b c : ℤ) → unsigned_abs a < 2 ^ 31 → unsigned_abs b < 2 ^ 31 → unsigned_abs c < 2 ^ 31 →
    IsNarrow (three a b c)
narrow_row a b c x y z = All-from_recursion (λ a. unsigned_abs a < 2 ^ 31) (three a b c) (x, (y, (z, tt)))

-- three elements and one
stage_within : (c : Caps) → 3 ≤ c.basis → LinkStageWithin the_program c bases settled_point
stage_within c room = record {
  bricks = record {
    within = record {
      slack = it_is_slack;
      short = omega (arith, room);
      narrow = All-from_recursion IsNarrow basis (
        narrow_row (pos 0) (pos 1) (pos 1) (lit< tt) (lit< tt) (lit< tt),
        (
          narrow_row (pos 1) (minus 1) (pos 0) (lit< tt) (lit< tt) (lit< tt),
          (narrow_row (pos 1) (pos 0) (pos 1) (lit< tt) (lit< tt) (lit< tt), tt),
        ),
      );
    };
    traces = (upward ∷ []) ∷ (upward ∷ []) ∷ [];
    settled = both_settle;
  };
  entries =
      All-from_recursion IsNarrow (links_of the_program basis).rows
      (All-from_recursion (λ a. unsigned_abs a < 2 ^ 31) (pos 1 ∷ []) (lit< tt, tt), tt);
  basis = record {
    slack = one_is_slack;
    short = omega (arith, room);
    narrow = All-from_recursion IsNarrow units (
      All-from_recursion (λ a. unsigned_abs a < 2 ^ 31) (two (pos 1) (pos 1)) (lit< tt, (lit< tt, tt)),
      tt,
    );
  };
}

-- each of the five is a sum of at most two signed generators
abbrev IsSumOfTwo : Vector → Type 0
IsSumOfTwo w = (n : ℕ) × (n ≤ 2) × IsSignedSum 2 (two (pos 1) (minus 1) ∷ []) n w

five_exceed : ExceedsSums the_program Counted bases 4
five_exceed = (
  vectors five_sums,
  refl,
  lit< tt,
  All-from_recursion IsSumOfTwo (vectors five_sums) (
    (2, lit≤ tt, (two (minus 1) (pos 1), step, below, listed, inr refl)),
    (
      (1, lit≤ tt, below),
      ((0, lit≤ tt, refl), ((1, lit≤ tt, above), ((2, lit≤ tt, (step, step, above, listed, inl refl)), tt))),
    ),
  ),
)
  where
    step : Vector
    step = two (pos 1) (minus 1)

    listed : Contains (two (pos 1) (minus 1) ∷ []) step
    listed = (0, omega arith, refl)

    above : IsSignedSum 2 (two (pos 1) (minus 1) ∷ []) 1 (two (pos 1) (minus 1))
    above = (origin, step, refl, listed, inl refl)

    below : IsSignedSum 2 (two (pos 1) (minus 1) ∷ []) 1 (two (minus 1) (pos 1))
    below = (origin, step, refl, listed, inr refl)

pub too_many_sums : (limit : ℕ) → 3 ≤ limit → IsLimit the_program (record { basis = limit; sums = 4 }) (Sums Counted)
too_many_sums limit room = (
  bases,
  settled_point,
  stage_within (record { basis = limit; sums = 4 }) room,
  lit< tt,
  tt,
  five_exceed,
)

-- and no other limit is passed first
pub sums_alone : (f : SolveFault) → IsLimit the_program (record { basis = 3; sums = 4 }) f → f ≡ Sums Counted
sums_alone f is =
    limit_unique the_program (record { basis = 3; sums = 4 }) f (Sums Counted) is (too_many_sums 3 (omega arith))
