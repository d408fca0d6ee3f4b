-- The laws at two programs worked by hand. The first has one brick with one column, bounds 0 and 1, cost (v - 1)^2, no
-- brick row, and the linking row v <= 1: its slack bases, its brick sums, its run, which is one step from 0 to 1 that
-- changes what the linking row rests, and its outcome, which is that 0 is the least cost. The brick of the second has
-- no column, and a row that is to be 1.
use Rattle.std.specs.Prelude.{◌≡◌, ℕ, zero, suc, ◌≤◌, ◌^◌, ℤ, pos, negsuc, ◌+ℤ◌, ◌-ℤ◌, ◌*ℤ◌, ◌≤ℤ◌, unsigned_abs, List}
use Rattle.std.specs.Prelude.{[], ◌∷◌, length, Some, None, Contains, IsTrue, refl, true, false}
use Rattle.std.proofs.Common.{arith, sym, ◌∙◌, ◌⊎◌, inl, inr, subst}
use Rattle.std.proofs.lemmas.Int.{ints}
use Rattle.std.proofs.lemmas.Bool.Decides.{nat_tests}
use Rattle.std.proofs.lemmas.List.Elements.{All-from_recursion, All-contains, All-head}
use Rattle.std.proofs.Math.Nat.{pow-suc}
use Rattle.std.specs.Ordering.{is_le}
use Rattle.fold_theory.specs.declared.Cost.{Cost}
use Rattle.fold_theory.specs.declared.Cost.TheVariants.{Quadratic}
use Rattle.fold_theory.specs.declared.Phase.TheVariants.{Closed}
use Rattle.fold_theory.specs.declared.Relation.TheVariants.{Less}
use Rattle.fold_theory.specs.declared.Verdict.TheVariants.{Optimal, InfeasibleBrick}
use Rattle.lattice_theory.specs.Vectors.{Vector, ◌⊑◌, is_zero, leads_positive, add, sub}
use Rattle.lattice_theory.specs.Matrices.{Matrix}
use Rattle.lattice_theory.specs.Lattices.{IsMinimal, IsSlackBasis, InLattice}
use Rattle.lattice_theory.specs.BasisLimits.{IsBasisElement}
use Rattle.lattice_theory.specs.SignedSums.{Sum, vectors, IsSignedSum, HasLevel}
use Rattle.lattice_theory.proofs.KnownValues.{minus}
use Rattle.lattice_laws.proofs.Members.{contains_cases, contains_head}
use Rattle.lattice_laws.proofs.Conformal.{norm_some, below_same}
use Rattle.fold_theory.specs.Programs.{Program, Brick, Bricks, IsBrick, IsProgram, AreWithin, phase_cost, link_rests}
use Rattle.run_theory.specs.Links.{Bases, AreBases, fold_complexity}
use Rattle.run_theory.specs.BrickSums.{AreBrickSums}
use Rattle.run_theory.specs.Steps.{Move, NoneAugments, Augments, IsBest, IsRun, rule_cmp}
use Rattle.fold_theory.specs.Verdicts.{Holds}
use Rattle.run_theory.specs.Outcomes.{Outcome, IsOutcome, HoldsAt, bound_number}
use Rattle.run_theory.specs.Starts.{IsStart}
use Rattle.run_laws.proofs.Best.{finished_is_best}
use Rattle.run_laws.proofs.Stuck.{stuck_holds}
use Rattle.run_laws.proofs.TrueOutcomes.{outcome_holds}

-- ---- the program

abbrev no_row : Matrix
no_row = record { cols = 1; rows = [] }

abbrev one : Vector
one = pos 1 ∷ []

abbrev row_of_one : Matrix
row_of_one = record { cols = 1; rows = one ∷ [] }

-- (v - 1)^2
abbrev from_one : Cost
from_one = Quadratic (pos 1) (minus 2) (pos 1)

abbrev the_brick : Brick
the_brick = record { lower = pos 0 ∷ []; upper = pos 1 ∷ []; right = []; costs = from_one ∷ [] }

abbrev pub the_program : Program
the_program = record {
  link = row_of_one;
  link_right = pos 1 ∷ [];
  relations = Less ∷ [];
  brick = no_row;
  bricks = the_brick ∷ [];
}

pub it_is_a_program : IsProgram the_program
it_is_a_program = record {
  link_shape = record {
    height = refl;
    width = refl;
    each_row = All-from_recursion (λ r. length r ≡ 1) (one ∷ []) (refl, tt);
  };
  brick_shape = record {
    height = refl;
    width = refl;
    each_row = All-from_recursion (λ r. length r ≡ 1) [] tt;
  };
  right_size = refl;
  relations_size = refl;
  each_brick = All-from_recursion (IsBrick 1 0) (the_brick ∷ []) (is_brick, tt);
}
  where
    is_brick : IsBrick 1 0 the_brick
    is_brick = record {
      lower_size = refl;
      upper_size = refl;
      right_size = refl;
      uncrossed = (omega (arith, ints), tt);
      costs_size = refl;
      convex = ((λ v low high. absurd (omega (arith, ints, low, high))), tt);
    }

-- ---- the slack basis of the brick matrix

one_in : InLattice no_row one
one_in = record { size = refl; image = refl }

-- a vector of one positive entry has (1) below it
one_below : (z : Vector) → length z ≡ 1 → leads_positive z ≡ true → one ⊑ z
one_below [] size lead = absurd (omega arith)
one_below (pos zero ∷ []) size lead = absurd (cc)
one_below (pos (suc n) ∷ []) size lead = grind (arith, nat_tests, ints)
one_below (negsuc n ∷ []) size lead = absurd (cc)
one_below (a ∷ b ∷ z) size lead = absurd (omega arith)

brick_basis : IsSlackBasis no_row (one ∷ [])
brick_basis = record {
  rising = refl;
  sound = All-from_recursion (IsBasisElement no_row) (one ∷ []) ((is_minimal, refl), tt);
  complete = λ z minimal lead.
      subst (Contains (one ∷ []))
      (minimal.least one one_in refl (one_below z minimal.member.size lead))
      (contains_head one []);
}
  where
    is_minimal : IsMinimal no_row one
    is_minimal = record {
      member = one_in;
      nonzero = refl;
      least = λ y inside some below. below_same y one below (norm_some y some);
    }

-- ---- the slack basis of the link matrix

abbrev ones : Vector
ones = pos 1 ∷ pos 1 ∷ []

ones_in : InLattice row_of_one ones
ones_in = record { size = refl; image = refl }

-- an element of the lattice of the row (1) has its entry twice
twice : (z : Vector) → InLattice row_of_one z → (a : ℤ) × (z ≡ a ∷ a ∷ [])
twice [] inside = absurd (omega (arith, inside.size))
twice (a ∷ []) inside = absurd (omega (arith, inside.size))
twice (a ∷ b ∷ []) inside =
    let image : b ≡ pos 1 *ℤ a +ℤ pos 0 = cc (inside.image) in
    let same : b ≡ a = omega (arith, ints, image) in
    (a, λ i. a ∷ same i ∷ [])
twice (a ∷ b ∷ c ∷ z) inside = absurd (omega (arith, inside.size))

-- where the entry is positive it has (1 1) below it, and what is below (1 1) and not 0 is (1 1)
ones_below : (a : ℤ) → leads_positive (a ∷ a ∷ []) ≡ true → ones ⊑ (a ∷ a ∷ [])
ones_below (pos zero) lead = absurd (cc)
ones_below (pos (suc n)) lead = grind (arith, nat_tests, ints)
ones_below (negsuc n) lead = absurd (cc)

below_ones : (a : ℤ) → is_zero (a ∷ a ∷ []) ≡ false → (a ∷ a ∷ []) ⊑ ones → (a ∷ a ∷ []) ≡ ones
below_ones (pos zero) some below = absurd (cc)
below_ones (pos (suc zero)) some below = refl
below_ones (pos (suc (suc n))) some below = absurd (grind (arith, nat_tests, ints))
below_ones (negsuc n) some below = absurd (grind (arith, nat_tests, ints))

link_basis : IsSlackBasis row_of_one (ones ∷ [])
link_basis = record {
  rising = refl;
  sound = All-from_recursion (IsBasisElement row_of_one) (ones ∷ []) ((is_minimal, refl), tt);
  complete = λ z minimal lead.
      let q = twice z minimal.member in
      let below : ones ⊑ z =
      subst (λ y. ones ⊑ y) (sym q.1) (ones_below q.0 (subst (λ y. leads_positive y ≡ true) q.1 lead)) in
      subst (Contains (ones ∷ [])) (minimal.least ones ones_in refl below) (contains_head ones []);
}
  where
    is_minimal : IsMinimal row_of_one ones
    is_minimal = record {
      member = ones_in;
      nonzero = refl;
      least = λ y inside some below.
          let q = twice y inside in
          q.1
          ∙ below_ones q.0 (subst (λ v. is_zero v ≡ false) q.1 some) (subst (λ v. v ⊑ ones) q.1 below);
    }

abbrev pub the_bases : Bases
the_bases = record { brick = one ∷ []; links = ones ∷ [] }

pub they_are_bases : AreBases the_program the_bases
they_are_bases = record { brick = brick_basis; links = link_basis }

pub its_complexity : fold_complexity the_program Closed the_bases ≡ 2
its_complexity = refl

-- ---- its brick sums

abbrev sum_at : ℕ → ℤ → Sum
sum_at level a = record { level = level; vector = a ∷ [] }

abbrev pub the_sums : List Sum
the_sums = sum_at 2 (minus 2) ∷ sum_at 1 (minus 1) ∷ sum_at 0 (pos 0) ∷ sum_at 1 (pos 1) ∷ sum_at 2 (pos 2) ∷ []

-- a sum of n generators (1), of either sign, is a number of at most that size
record IsNumber (n : ℕ) (w : Vector) : Type 0 where
  entry : ℤ
  is : w ≡ entry ∷ []
  low : unsigned_abs entry ≤ n

number_of : (n : ℕ) (w : Vector) → IsSignedSum 1 (one ∷ []) n w → IsNumber n w
number_of zero w is = record { entry = pos 0; is = is; low = omega arith }
number_of (suc n) w (before, e, start, c, is) = by (number_of n before start) (only_one c) is
  where
    only_one : Contains (one ∷ []) e → e ≡ one
    only_one d = elim (contains_cases one [] e d) [ inl same ↦ sym same | inr none ↦ absurd (omega (arith, none.1)) ]

    by : IsNumber n before → e ≡ one → (w ≡ add before e) ⊎ (w ≡ sub before e) → IsNumber (suc n) w
    by q same (inl up) = record {
      entry = q.entry +ℤ pos 1;
      is = up ∙ (λ i. add (q.is i) (same i));
      low = omega (arith, ints, q.low);
    }
    by q same (inr down) = record {
      entry = q.entry -ℤ pos 1;
      is = down ∙ (λ i. sub (q.is i) (same i));
      low = omega (arith, ints, q.low);
    }

pub they_are_sums : AreBrickSums the_program Closed the_bases the_sums
they_are_sums = record {
  rising = refl;
  sound =
      All-from_recursion (λ s. (s.level ≤ 2) × HasLevel 1 (one ∷ []) s) the_sums (
        (omega arith, level_of 2 (minus 2) refl two_below),
        (
          (omega arith, level_of 1 (minus 1) refl one_less),
          (
            (omega arith, level_of 0 (pos 0) refl refl),
            (
              (omega arith, level_of 1 (pos 1) refl one_more),
              ((omega arith, level_of 2 (pos 2) refl two_above), tt),
            ),
          ),
        ),
      );
  complete = λ n w low is.
      let q = number_of n w is in
      subst (Contains (vectors the_sums)) (sym q.is) (listed q.entry (omega (arith, low, q.low)));
}
  where
    one_less : IsSignedSum 1 (one ∷ []) 1 (minus 1 ∷ [])
    one_less = (pos 0 ∷ [], one, refl, contains_head one [], inr refl)

    two_below : IsSignedSum 1 (one ∷ []) 2 (minus 2 ∷ [])
    two_below = (minus 1 ∷ [], one, one_less, contains_head one [], inr refl)

    one_more : IsSignedSum 1 (one ∷ []) 1 (pos 1 ∷ [])
    one_more = (pos 0 ∷ [], one, refl, contains_head one [], inl refl)

    two_above : IsSignedSum 1 (one ∷ []) 2 (pos 2 ∷ [])
    two_above = (pos 1 ∷ [], one, one_more, contains_head one [], inl refl)

    -- a number is no sum of fewer generators than its size
    level_of : (level : ℕ) (a : ℤ) → unsigned_abs a ≡ level → IsSignedSum 1 (one ∷ []) level (a ∷ []) →
        HasLevel 1 (one ∷ []) (sum_at level a)
    level_of level a size is = record {
      reached = is;
      least = λ n other.
          let q = number_of n (a ∷ []) other in
          let same : a ≡ q.entry = cc (q.is) in
          omega (arith, ints, size, same, q.low);
    }

    listed : (a : ℤ) → unsigned_abs a ≤ 2 → Contains (vectors the_sums) (a ∷ [])
    listed (pos zero) low = (2, omega arith, refl)
    listed (pos (suc zero)) low = (3, omega arith, refl)
    listed (pos (suc (suc zero))) low = (4, omega arith, refl)
    listed (pos (suc (suc (suc n)))) low = absurd (omega (arith, low))
    listed (negsuc zero) low = (1, omega arith, refl)
    listed (negsuc (suc zero)) low = (0, omega arith, refl)
    listed (negsuc (suc (suc n))) low = absurd (omega (arith, low))

-- ---- its run

abbrev pub at : ℤ → Bricks
at a = (a ∷ []) ∷ []

-- at 0 the linking row rests 1, and at 1 it rests 0: it is met, and no equation
pub rests_at_zero : link_rests the_program (at (pos 0)) ≡ pos 1 ∷ []
rests_at_zero = refl

pub rests_at_one : link_rests the_program (at (pos 1)) ≡ pos 0 ∷ []
rests_at_one = refl

no_cost_below : (y : Bricks) → AreWithin (the_brick ∷ []) y → pos 0 ≤ℤ phase_cost the_program Closed y
no_cost_below [] within = absurd within
no_cost_below ([] ∷ y) within = absurd within.0.0
no_cost_below ((pos zero ∷ []) ∷ []) within = omega (arith, ints)
no_cost_below ((pos (suc zero) ∷ []) ∷ []) within = omega (arith, ints)
no_cost_below ((pos (suc (suc n)) ∷ []) ∷ y) within = absurd (omega (arith, ints, within.0.1.0))
no_cost_below ((negsuc n ∷ []) ∷ y) within = absurd (omega (arith, ints, within.0.0.0))
no_cost_below ((a ∷ b ∷ v) ∷ y) within = absurd within.0.0.1
no_cost_below (v ∷ u ∷ y) within = absurd within.1

-- no step lowers the cost at 1
no_step : NoneAugments the_program Closed (vectors the_sums) (at (pos 1))
no_step k h augments = absurd (omega (arith, ints, augments.lowers, no_cost_below _ augments.candidate.walk.within))

-- a point within the bounds is a start
pub is_start : (a : ℤ) → pos 0 ≤ℤ a → a ≤ℤ pos 1 → IsStart the_program Closed (at a)
is_start (pos zero) low high = record { within = (((low, tt), (high, tt)), tt); brick_rows = (refl, tt); end = refl }
is_start (pos (suc zero)) low high = record {
  within = (((low, tt), (high, tt)), tt);
  brick_rows = (refl, tt);
  end = refl;
}
is_start (pos (suc (suc n))) low high = absurd (omega (arith, ints, high))
is_start (negsuc n) low high = absurd (omega (arith, ints, low))

-- one to the right
abbrev pub the_move : Move
the_move = record { k = 0; bricks = at (pos 1) }

-- a listed sum has one entry
one_entry : (v : Vector) → Contains (vectors the_sums) v → length v ≡ 1
one_entry v c =
    All-contains (λ u. length u ≡ 1) (vectors the_sums) v
    (All-from_recursion (λ u. length u ≡ 1) (vectors the_sums) (refl, (refl, (refl, (refl, (refl, tt)))))) c

-- at 0 a step of length 1 that lowers the cost is this move
the_only_one : (h : Bricks) → Augments the_program Closed (vectors the_sums) (at (pos 0)) 0 h → h ≡ at (pos 1)
the_only_one [] augments = absurd (cc (augments.candidate.nonzero))
the_only_one ([] ∷ h) augments = absurd augments.candidate.walk.within.0.0
the_only_one ((pos zero ∷ []) ∷ []) augments = absurd (cc (augments.candidate.nonzero))
the_only_one ((pos (suc zero) ∷ []) ∷ []) augments = refl
the_only_one ((pos (suc (suc n)) ∷ []) ∷ h) augments =
    absurd (omega (arith, ints, augments.candidate.walk.within.0.1.0))
the_only_one ((negsuc n ∷ []) ∷ h) augments = absurd (omega (arith, ints, augments.candidate.walk.within.0.0.0))
the_only_one ((a ∷ b ∷ d) ∷ h) augments =
    let listed = All-head (Contains (vectors the_sums)) (a ∷ b ∷ d) h augments.candidate.walk.moves in
    absurd (omega (arith, one_entry (a ∷ b ∷ d) listed))
the_only_one (d ∷ e ∷ h) augments = absurd (omega (arith, augments.candidate.walk.size))

-- no bound is more than 1 apart, so each step has length 1
no_longer : (k : ℕ) → 2 ^ k ≤ 1 → k ≡ 0
no_longer zero short = refl
no_longer (suc k) short = absurd (omega (arith, short, pow-suc 2 k, some k))
  where
    some : (k : ℕ) → 1 ≤ 2 ^ k
    some zero = omega arith
    some (suc k) = omega (arith, pow-suc 2 k, some k)

the_best : IsBest the_program Closed (vectors the_sums) (at (pos 0)) the_move
the_best = record {
  augments = record {
    candidate = record {
      nonzero = refl;
      walk = record {
        size = refl;
        moves = All-from_recursion (Contains (vectors the_sums)) (at (pos 1)) (third, tt);
        sums = All-from_recursion (Contains (vectors the_sums)) (at (pos 1)) (third, tt);
        within = (is_start (pos 1) (omega (arith, ints)) (omega (arith, ints))).within;
      };
      length = omega arith;
      end = refl;
    };
    lowers = omega (arith, ints);
  };
  first = λ k h augments. by k h augments (no_longer k (omega (arith, augments.candidate.length)));
}
  where
    third : Contains (vectors the_sums) one
    third = (3, omega arith, refl)

    by : (k : ℕ) (h : Bricks) → Augments the_program Closed (vectors the_sums) (at (pos 0)) k h → k ≡ 0 →
        IsTrue (is_le (rule_cmp the_program Closed (at (pos 0)) the_move (record { k = k; bricks = h })))
    by zero h augments short =
        subst (λ g. IsTrue (is_le (rule_cmp the_program Closed (at (pos 0)) the_move (record { k = 0; bricks = g }))))
        (sym (the_only_one h augments)) refl
    by (suc k) h augments short = absurd (omega (arith, short))

-- one step from 0 to 1, which changes the linking row that is no equation
pub its_run : IsRun the_program Closed (vectors the_sums) (at (pos 0)) (the_move ∷ []) (at (pos 1))
its_run = (the_best, (no_step, refl))

-- all premises of the law are met: 1 costs no more than 0
pub one_is_best : phase_cost the_program Closed (at (pos 1)) ≤ℤ phase_cost the_program Closed (at (pos 0))
one_is_best =
    finished_is_best the_program Closed the_bases the_sums (at (pos 1)) (at (pos 0)) it_is_a_program they_are_bases
    they_are_sums (is_start (pos 1) (omega (arith, ints)) (omega (arith, ints))) no_step
    (is_start (pos 0) (omega (arith, ints)) (omega (arith, ints)))

-- ---- its outcome

-- the run of the brick begins and ends at 0, and that of the closed phase ends at 1
abbrev the_outcome : Outcome
the_outcome = record {
  verdict = Optimal (pos 0);
  point = at (pos 1);
  traces = [] ∷ [];
  counted = None;
  closed = Some (record {
    steps = record { k = 0; gain = 1; bricks = 1 ∷ []; entries = pos 1 ∷ [] } ∷ [];
    gain = 1;
    factor = bound_number the_program (vectors the_sums);
  });
}

it_is_its_outcome : IsOutcome the_program the_outcome
it_is_its_outcome = (
  the_bases,
  at (pos 0),
  at (pos 0),
  they_are_bases,
  (((λ m improves. absurd (omega (arith, improves.lowers))), refl), refl, tt),
  (refl, refl),
  refl,
  (
    the_sums,
    they_are_sums,
    record { moves = the_move ∷ []; run = its_run; steps = refl; fallen = refl; factor = refl },
  ),
  refl,
)

pub it_holds : HoldsAt the_program the_outcome
it_holds = outcome_holds the_program the_outcome it_is_a_program it_is_its_outcome

-- ---- a stuck brick

abbrev empty_row : Matrix
empty_row = record { cols = 0; rows = [] ∷ [] }

abbrev stuck_brick : Brick
stuck_brick = record { lower = []; upper = []; right = pos 1 ∷ []; costs = [] }

abbrev stuck_program : Program
stuck_program = record {
  link = record { cols = 0; rows = [] };
  link_right = [];
  relations = [];
  brick = empty_row;
  bricks = stuck_brick ∷ [];
}

stuck_is_a_program : IsProgram stuck_program
stuck_is_a_program = record {
  link_shape = record { height = refl; width = refl; each_row = All-from_recursion (λ r. length r ≡ 0) [] tt };
  brick_shape = record {
    height = refl;
    width = refl;
    each_row = All-from_recursion (λ r. length r ≡ 0) ([] ∷ []) (refl, tt);
  };
  right_size = refl;
  relations_size = refl;
  each_brick =
      All-from_recursion (IsBrick 0 1) (stuck_brick ∷ []) (
        record {
          lower_size = refl;
          upper_size = refl;
          right_size = refl;
          uncrossed = tt;
          costs_size = refl;
          convex = tt;
        },
        tt,
      );
}

-- the lattice has no element but 0
no_element : IsSlackBasis empty_row []
no_element = record {
  rising = refl;
  sound = All-from_recursion (IsBasisElement empty_row) [] tt;
  complete = λ z minimal lead. absurd (cc (minimal.nonzero, minimal.member.image));
}

-- all premises of the law are met: the row is missed by 1
pub it_is_stuck : Holds stuck_program (InfeasibleBrick 1 1)
it_is_stuck =
    stuck_holds stuck_program [] 0 stuck_brick [] [] stuck_is_a_program no_element refl
    ((λ m improves. absurd (omega (arith, improves.lowers))), refl) (omega arith)
