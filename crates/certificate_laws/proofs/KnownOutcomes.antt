-- The laws on outcomes at values worked by hand, with bounds that leave one vector alone: a brick with the row
-- v1 + v2 = 9 at (4, 4), which is stuck; and a brick with the row v = 4 at (4), where the linking row, v at most 5, is
-- met too.
use Rattle.std.specs.Prelude.{◌≡◌, ℕ, suc, zero, ◌≤◌, ℤ, pos, ◌≤ℤ◌, List, [], ◌∷◌, length, Contains, Option, Some, None}
use Rattle.std.specs.Prelude.{slice_get, refl}
use Rattle.std.proofs.Common.{arith, ap, subst}
use Rattle.std.proofs.lemmas.Int.{ints}
use Rattle.std.proofs.lemmas.List.Elements.{All-head, All-nil, All-from_recursion}
use Rattle.run_theory.specs.declared.Claim.TheVariants as claim
use Rattle.fold_theory.specs.declared.Phase.TheVariants.{Closed}
use Rattle.fold_theory.specs.declared.Relation.TheVariants.{Equal}
use Rattle.fold_theory.specs.declared.Verdict.TheVariants.{InfeasibleBrick}
use Rattle.lattice_theory.specs.Vectors.{Vector}
use Rattle.lattice_theory.proofs.KnownValues.{two}
use Rattle.lattice_laws.proofs.Members.{contains_head}
use Rattle.fold_theory.specs.Costs.{value}
use Rattle.fold_theory.specs.Programs.{Program, Brick, Bricks, IsBrick, IsProgram, IsWithin, brick_residual, link_rests}
use Rattle.run_theory.specs.BrickRuns.{BrickMove, stepped, Improves}
use Rattle.run_theory.specs.Walks.{WalkCosts, IsPotential}
use Rattle.run_theory.specs.Certificates.{Certificate, FoldPart, Table}
use Rattle.run_theory.specs.Outcomes.{Outcome, IsOutcome, IsCertificate, IsFoldPart, ArePotentials, FirstStuck}
use Rattle.run_theory.specs.Checker.{Accept}
use Rattle.fold_theory.proofs.KnownValues.{square, free}
use Rattle.piece_laws.proofs.KnownPrograms.{one_row}
use Rattle.certificate_laws.proofs.Accepted.{stuck_is_accepted, outcome_is_accepted}
use Rattle.outcome_laws.proofs.KnownValues.{convex_at_four, small_program, small_is_a_program, bases, they_are_bases}
use Rattle.outcome_laws.proofs.KnownValues.{zero_vector, they_are_sums, sums, only_sum, point, small_outcome}
use Rattle.outcome_laws.proofs.KnownValues.{it_is_optimal}
use Rattle.outcome_laws.proofs.KnownBases.{row, pair, basis, it_is_slack}

-- ---- a brick that is stuck

abbrev corner : Vector
corner = two (pos 4) (pos 4)

abbrev brick : Brick
brick = record { lower = corner; upper = corner; right = pos 9 ∷ []; costs = square ∷ free ∷ [] }

abbrev the_program : Program
the_program = record {
  link = record { cols = 2; rows = two (pos 1) (pos 0) ∷ [] };
  link_right = pos 3 ∷ [];
  relations = Equal ∷ [];
  brick = pair;
  bricks = brick ∷ [];
}

it_is_a_program : IsProgram the_program
it_is_a_program = record {
  link_shape = one_row (two (pos 1) (pos 0)) refl;
  brick_shape = one_row row refl;
  right_size = refl;
  relations_size = refl;
  each_brick = All-from_recursion (IsBrick 2 1) the_program.bricks (
    record {
      lower_size = refl;
      upper_size = refl;
      right_size = refl;
      uncrossed = (omega (arith, ints), (omega (arith, ints), tt));
      costs_size = refl;
      convex = (convex_at_four (value square), (convex_at_four (value free), tt));
    },
    tt,
  );
}

-- the brick's run makes no step
abbrev the_outcome : Outcome
the_outcome = record {
  verdict = InfeasibleBrick 1 1;
  point = corner ∷ [];
  traces = [] ∷ [];
  counted = None;
  closed = None;
}

only_corner : (y : Vector) → IsWithin brick y → y ≡ corner
only_corner [] within = absurd (within.0)
only_corner (a ∷ []) within = absurd (within.0.1)
only_corner (a ∷ b ∷ c ∷ y) within = absurd (within.0.1.1)
only_corner (a ∷ b ∷ []) within =
    let first : a ≡ pos 4 = omega (arith, ints, within.0.0, within.1.0) in
    let second : b ≡ pos 4 = omega (arith, ints, within.0.1.0, within.1.1.0) in
    λ i. two (first i) (second i)

no_step : (m : BrickMove) → Improves the_program basis brick corner m → ⊥
no_step m helps =
    let back = only_corner (stepped corner m) helps.within in
    omega (arith, helps.lowers, ap (brick_residual the_program brick) back)

-- 4 + 4 misses 9 by 1
first : FirstStuck the_program basis 1 1 corner ([] ∷ [])
first = record {
  place = 0;
  numbered = refl;
  brick = brick;
  there = refl;
  earlier = [];
  joint = [];
  settled = tt;
  last = [];
  run = (no_step, refl);
  left = refl;
  stuck = omega arith;
  all = refl;
}

it_is_its_outcome : IsOutcome the_program the_outcome
it_is_its_outcome = (basis, corner, it_is_slack, first, refl, refl, refl)

abbrev the_certificate : Certificate
the_certificate = record {
  claim = claim.InfeasibleBrick 1;
  point = record { cols = 2; rows = corner ∷ [] };
  bricks = record { cols = 3; rows = basis };
  fold = None;
}

it_is_its_certificate : IsCertificate the_program the_outcome the_certificate
it_is_its_certificate = (refl, (basis, it_is_slack, refl, refl, refl))

-- all premises of the laws are met, and they say what the rules find by themselves
pub it_is_accepted : Accept the_program the_certificate
it_is_accepted =
    outcome_is_accepted the_program the_outcome the_certificate it_is_a_program it_is_its_outcome it_is_its_certificate

pub as_stuck : Accept the_program the_certificate
as_stuck =
    stuck_is_accepted the_program the_outcome the_certificate 1 1 it_is_a_program refl it_is_its_outcome
    it_is_its_certificate

pub by_the_rules : Accept the_program the_certificate
by_the_rules = refl

-- ---- a point of the least cost

-- the move 0 costs nothing, and so does the end
abbrev potentials : Table
potentials = record { cols = 1; rows = (Some (pos 0) ∷ []) ∷ (Some (pos 0) ∷ []) ∷ [] }

-- a walk of this cost from 0 through these bricks
abbrev ZeroWalk : List Brick → Bricks → Bricks → ℤ → Type 0
ZeroWalk bs x h c =
    WalkCosts small_program Closed (zero_vector ∷ []) 0 (link_rests small_program point) bs x zero_vector h c

ends_at_zero : (last : ℤ) → Some (pos 0) ≡ Some last → last ≡ pos 0
ends_at_zero last e = cc

one_move : ZeroWalk small_program.bricks point (zero_vector ∷ []) (pos 0)
one_move = record {
  walk = record {
    size = refl;
    moves =
        All-from_recursion (Contains (zero_vector ∷ [])) (zero_vector ∷ []) (contains_head zero_vector [], tt);
    sums =
        All-from_recursion (Contains (zero_vector ∷ [])) (zero_vector ∷ []) (contains_head zero_vector [], tt);
    within = (((omega (arith, ints), tt), (omega (arith, ints), tt)), tt);
  };
  last = pos 0;
  ends = refl;
  is = refl;
}

no_less : (h : Bricks) (c : ℤ) → ZeroWalk small_program.bricks point h c → pos 0 ≤ℤ c
no_less [] c costs = absurd (omega (arith, costs.walk.size))
no_less (d ∷ e ∷ rest) c costs = absurd (omega (arith, costs.walk.size))
no_less (d ∷ []) c costs =
    let still = only_sum d (All-head (Contains (zero_vector ∷ [])) d [] costs.walk.moves) in
    let same = subst (λ v. ZeroWalk small_program.bricks point (v ∷ []) c) still costs in
    omega (arith, ints, same.is, ends_at_zero same.last same.ends)

no_move : ZeroWalk [] [] [] (pos 0)
no_move = record {
  walk = record {
    size = refl;
    moves = All-nil (Contains (zero_vector ∷ []));
    sums = All-nil (Contains (zero_vector ∷ []));
    within = tt;
  };
  last = pos 0;
  ends = refl;
  is = refl;
}

no_less_at_end : (h : Bricks) (c : ℤ) → ZeroWalk [] [] h c → pos 0 ≤ℤ c
no_less_at_end (d ∷ h) c costs = absurd (omega (arith, costs.walk.size))
no_less_at_end [] c costs = omega (arith, ints, costs.is, ends_at_zero costs.last costs.ends)

-- the cell of a sum in a layer
abbrev CellAt : ℕ → ℕ → Vector → Type 0
CellAt i j w =
    (r : List (Option ℤ)) × (cell : Option ℤ) × (slice_get potentials.rows i ≡ Some r) × (slice_get r j ≡ Some cell)
    × IsPotential small_program Closed (zero_vector ∷ []) point 0 i w cell

each_cell : (i j : ℕ) (w : Vector) → i ≤ 1 → slice_get (zero_vector ∷ []) j ≡ Some w → CellAt i j w
each_cell i (suc j) w low e = absurd (cc)
each_cell (suc (suc i)) zero w low e = absurd (omega arith)
each_cell zero zero w low e =
    let same : zero_vector ≡ w = cc in
    subst (CellAt 0 0) same (Some (pos 0) ∷ [], Some (pos 0), refl, refl, ((zero_vector ∷ [], one_move), no_less))
each_cell (suc zero) zero w low e =
    let same : zero_vector ≡ w = cc in
    subst (CellAt 1 0) same (Some (pos 0) ∷ [], Some (pos 0), refl, refl, (([], no_move), no_less_at_end))

they_are_potentials : ArePotentials small_program Closed (zero_vector ∷ []) point potentials
they_are_potentials = record {
  width = refl;
  height = refl;
  each_row = All-from_recursion (λ r. length r ≡ 1) potentials.rows (refl, (refl, tt));
  cells = each_cell;
}

abbrev small_part : FoldPart
small_part = record {
  links = record { cols = 1; rows = [] };
  bound = 1;
  sums = record { cols = 2; rows = two (pos 0) (pos 0) ∷ [] };
  potentials = potentials;
}

abbrev small_certificate : Certificate
small_certificate = record {
  claim = claim.Optimal;
  point = record { cols = 1; rows = point };
  bricks = record { cols = 2; rows = bases.brick };
  fold = Some small_part;
}

small_part_is : IsFoldPart small_program Closed bases point small_part
small_part_is = record {
  links = refl;
  bound = refl;
  sums = sums;
  sums_are = they_are_sums;
  rows_are = refl;
  potentials = they_are_potentials;
}

small_is_its_certificate : IsCertificate small_program small_outcome small_certificate
small_is_its_certificate = (refl, (bases, small_part, they_are_bases, refl, refl, refl, small_part_is))

pub optimum_is_accepted : Accept small_program small_certificate
optimum_is_accepted =
    outcome_is_accepted small_program small_outcome small_certificate small_is_a_program it_is_optimal
    small_is_its_certificate

pub optimum_by_the_rules : Accept small_program small_certificate
optimum_by_the_rules = refl
