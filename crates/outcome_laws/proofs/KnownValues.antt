-- The laws at values worked by hand: a brick with the row v = 4 whose bounds leave 4 alone, where the linking row, v at
-- most 5, is met too. Its outcome is reached with one element of a basis and one sum, and with fewer a limit is passed.
use Rattle.std.specs.Prelude.{◌≡◌, ℕ, suc, zero, ◌≤◌, ℤ, pos, List, [], ◌∷◌, length, Contains, None, Some, refl}
use Rattle.std.proofs.Common.{◌<◌, ◌^◌, unsigned_abs, lit<, lit≤, arith, ap, sym, inl, inr, subst}
use Rattle.std.proofs.lemmas.Int.{ints}
use Rattle.std.proofs.lemmas.List.Elements.{All-head, All-nil, All-from_recursion}
use Rattle.std.specs.List.{list_all}
use Rattle.fold_theory.specs.declared.Phase.TheVariants.{Closed}
use Rattle.fold_theory.specs.declared.Relation.TheVariants.{Less}
use Rattle.fold_theory.specs.declared.Verdict.TheVariants.{Optimal}
use Rattle.run_theory.specs.declared.SolveFault.{SolveFault}
use Rattle.run_theory.specs.declared.SolveFault.TheVariants.{BrickBasis, Sums}
use Rattle.lattice_theory.specs.Vectors.{Vector, is_zero}
use Rattle.lattice_theory.specs.Matrices.{HasShape}
use Rattle.lattice_theory.specs.BasisLimits.{IsBasisElement, IsNarrow, IsBasisWithin}
use Rattle.lattice_theory.specs.SignedSums.{Sum, IsSignedSum, HasLevel}
use Rattle.lattice_theory.proofs.KnownValues.{two}
use Rattle.lattice_laws.proofs.Tests.{not_both}
use Rattle.lattice_laws.proofs.Members.{contains_cases, contains_head}
use Rattle.fold_theory.specs.Costs.{value, IsConvexOn}
use Rattle.fold_theory.specs.Programs.{Program, Brick, Bricks, IsBrick, IsProgram}
use Rattle.run_theory.specs.Links.{Bases, AreBases}
use Rattle.run_theory.specs.BrickSums.{AreBrickSums}
use Rattle.run_theory.specs.BrickRuns.{BrickMove, Improves}
use Rattle.run_theory.specs.Steps.{NoneAugments}
use Rattle.run_theory.specs.Outcomes.{RunRecord, IsRecorded, Outcome, IsOutcome}
use Rattle.run_theory.specs.Limits.{Caps, LinkStageWithin, IsLimit}
use Rattle.run_theory.specs.Solved.{IsWithinCaps}
use Rattle.fold_theory.proofs.KnownValues.{square}
use Rattle.outcome_laws.proofs.KnownBases.{one, units, unit_is, one_is_slack, no_columns, none_is_slack}
use Rattle.outcome_laws.proofs.OneLimit.{limit_unique, within_excludes}

-- there is no number between 4 and 4
pub convex_at_four : (f : ℤ → ℤ) → IsConvexOn f (pos 4) (pos 4)
convex_at_four f v low high = absurd (omega (arith, ints, low, high))

-- ---- the program and its outcome

-- the row is met at 4 alone
abbrev pub small_brick : Brick
small_brick = record { lower = pos 4 ∷ []; upper = pos 4 ∷ []; right = pos 4 ∷ []; costs = square ∷ [] }

abbrev pub small_program : Program
small_program = record {
  link = one;
  link_right = pos 5 ∷ [];
  relations = Less ∷ [];
  brick = one;
  bricks = small_brick ∷ [];
}

pub one_shape : HasShape 1 1 one
one_shape = record {
  height = refl;
  width = refl;
  each_row = All-from_recursion (λ r. length r ≡ 1) one.rows (refl, tt);
}

pub small_is_a_program : IsProgram small_program
small_is_a_program = record {
  link_shape = one_shape;
  brick_shape = one_shape;
  right_size = refl;
  relations_size = refl;
  each_brick = All-from_recursion (IsBrick 1 1) small_program.bricks (
    record {
      lower_size = refl;
      upper_size = refl;
      right_size = refl;
      uncrossed = (omega (arith, ints), tt);
      costs_size = refl;
      convex = (convex_at_four (value square), tt);
    },
    tt,
  );
}

-- no vector but 0 has the product 0 with the row, so there are no generators
abbrev pub bases : Bases
bases = record { brick = units; links = [] }

pub they_are_bases : AreBases small_program bases
they_are_bases = record { brick = one_is_slack; links = none_is_slack }

-- of no generators 0 is the one sum
abbrev pub zero_vector : Vector
zero_vector = pos 0 ∷ []

abbrev pub sums : List Sum
sums = record { level = 0; vector = zero_vector } ∷ []

pub they_are_sums : AreBrickSums small_program Closed bases sums
they_are_sums = record {
  rising = refl;
  sound = All-from_recursion (λ s. (s.level ≤ 1) × HasLevel 1 [] s) sums (
    (omega arith, record { reached = refl; least = λ n h. omega arith }),
    tt,
  );
  complete = all_sums;
}
  where
    all_sums : (n : ℕ) (w : Vector) → n ≤ 1 → IsSignedSum 1 [] n w → Contains (zero_vector ∷ []) w
    all_sums zero w low e = subst (Contains (zero_vector ∷ [])) (sym e) (contains_head zero_vector [])
    all_sums (suc n) w low (before, e, sum, (k, few, q), is) = absurd (omega arith)

pub only_sum : (w : Vector) → Contains (zero_vector ∷ []) w → w ≡ zero_vector
only_sum w c = elim (contains_cases zero_vector [] w c) [
  | inl e ↦ sym e
  | inr d ↦ absurd (omega (arith, d.1))
]

abbrev pub point : Bricks
point = (pos 4 ∷ []) ∷ []

-- no move is left
none_augments : NoneAugments small_program Closed (zero_vector ∷ []) point
none_augments k [] h = absurd (omega (arith, h.candidate.walk.size))
none_augments k (d ∷ e ∷ rest) h = absurd (omega (arith, h.candidate.walk.size))
none_augments k (d ∷ []) h =
    let still = only_sum d (All-head (Contains (zero_vector ∷ [])) d [] h.candidate.walk.moves) in
    absurd (not_both (list_all is_zero (d ∷ [])) (ap (λ v. list_all is_zero (v ∷ [])) still) h.candidate.nonzero)

abbrev pub no_steps : RunRecord
no_steps = record { steps = []; gain = 0; factor = 0 }

-- the square of 4
abbrev pub small_outcome : Outcome
small_outcome = record {
  verdict = Optimal (pos 16);
  point = point;
  traces = [] ∷ [];
  counted = None;
  closed = Some no_steps;
}

pub small_settles : (m : BrickMove) → Improves small_program bases.brick small_brick (pos 4 ∷ []) m → ⊥
small_settles m helps = absurd (omega (arith, helps.lowers))

pub small_recorded : IsRecorded small_program Closed (zero_vector ∷ []) point no_steps point
small_recorded = record { moves = []; run = (none_augments, refl); steps = refl; fallen = refl; factor = refl }

pub it_is_optimal : IsOutcome small_program small_outcome
it_is_optimal = (
  bases,
  point,
  point,
  they_are_bases,
  ((small_settles, refl), refl, tt),
  (refl, refl),
  refl,
  (sums, they_are_sums, small_recorded),
  refl,
)

-- ---- limits

abbrev caps : ℕ → ℕ → Caps
caps basis sums = record { basis = basis; sums = sums }

bricks_within : (limit : ℕ) → 1 ≤ limit → IsBasisWithin one limit bases.brick
bricks_within limit room = record {
  slack = they_are_bases.brick;
  short = omega (arith, room);
  narrow =
      All-from_recursion IsNarrow bases.brick
      (All-from_recursion (λ a. unsigned_abs a < 2 ^ 31) (two (pos 1) (pos 1)) (lit< tt, (lit< tt, tt)), tt);
}

stage_within : (c : Caps) → 1 ≤ c.basis → LinkStageWithin small_program c bases point
stage_within c room = record {
  bricks = record {
    within = bricks_within c.basis room;
    traces = [] ∷ [];
    settled = ((small_settles, refl), refl, tt);
  };
  entries = All-from_recursion IsNarrow no_columns.rows (All-nil (λ a. unsigned_abs a < 2 ^ 31), tt);
  basis = record { slack = they_are_bases.links; short = omega arith; narrow = All-nil IsNarrow };
}

-- one element is more than none
pub brick_basis_passed : IsLimit small_program (caps 0 1) BrickBasis
brick_basis_passed = inl (bases.brick, refl, lit< tt, All-from_recursion (IsBasisElement one) bases.brick (unit_is, tt))

-- and so is one sum, in phase Closed, since phase Counted does not begin
pub sums_passed : IsLimit small_program (caps 1 0) (Sums Closed)
sums_passed = (
  bases,
  point,
  stage_within (caps 1 0) (omega arith),
  (None, point, (refl, refl), refl),
  λ begins. absurd (omega (arith, begins)),
  (
    zero_vector ∷ [],
    refl,
    lit< tt,
    All-from_recursion (λ w. (n : ℕ) × (n ≤ 1) × IsSignedSum 1 [] n w) (zero_vector ∷ []) ((0, lit≤ tt, refl), tt),
  ),
)

-- so no other limit is passed first
pub only_sums : (f : SolveFault) → IsLimit small_program (caps 1 0) f → f ≡ Sums Closed
only_sums f is = limit_unique small_program (caps 1 0) f (Sums Closed) is sums_passed

-- with one element and one sum no limit is passed
pub within_both : IsWithinCaps small_program (caps 1 1) small_outcome.verdict
within_both = (
  bases,
  point,
  sums,
  stage_within (caps 1 1) (omega arith),
  λ begins. absurd (omega (arith, begins)),
  record { all = they_are_sums; few = lit≤ tt },
  lit≤ tt,
)

pub none_passed : (f : SolveFault) → IsLimit small_program (caps 1 1) f → ⊥
none_passed = within_excludes small_program (caps 1 1) small_outcome it_is_optimal within_both
