-- The words at values worked by hand: two bricks whose two columns are to add up to 9 and to 4, and are at most 4.
use Rattle.std.proofs.Common.{◌≡◌, ℕ, ℤ, pos, negsuc, false, List, [], ◌∷◌, refl, None}
use Rattle.run_theory.specs.declared.Claim.TheVariants as claim
use Rattle.run_theory.specs.declared.Rule.TheVariants.{C2, C7, B1, B2}
use Rattle.fold_theory.specs.declared.Verdict.TheVariants.{InfeasibleBrick}
use Rattle.fold_theory.specs.declared.Cost.{Cost}
use Rattle.fold_theory.specs.declared.Cost.TheVariants.{Quadratic}
use Rattle.lattice_theory.specs.Vectors.{Vector}
use Rattle.fold_theory.specs.Programs.{Program, Brick}
use Rattle.run_theory.specs.Certificates.{Certificate}
use Rattle.cert_checker.specs.declared.answer.Check.TheVariants.{Yes, No}
use Rattle.cert_checker.specs.Answers.{checked, parts_fit}

abbrev pub free : Cost
free = Quadratic (pos 0) (pos 0) (pos 0)

-- two columns from 0 to 4 that are to add up to this
abbrev pub brick_of : ℤ → Brick
brick_of right = record {
  lower = pos 0 ∷ pos 0 ∷ [];
  upper = pos 4 ∷ pos 4 ∷ [];
  right = right ∷ [];
  costs = free ∷ free ∷ [];
}

abbrev pub worked : Program
worked = record {
  link = record { cols = 2; rows = [] };
  link_right = [];
  brick = record { cols = 2; rows = (pos 1 ∷ pos 1 ∷ []) ∷ [] };
  bricks = brick_of (pos 9) ∷ brick_of (pos 4) ∷ [];
  relations = [];
}

-- ---- the slack basis of the brick row

abbrev pub second : Vector
second = pos 0 ∷ pos 1 ∷ pos 1 ∷ []

abbrev pub exchange : Vector
exchange = pos 1 ∷ negsuc 0 ∷ pos 0 ∷ []

abbrev pub first : Vector
first = pos 1 ∷ pos 0 ∷ pos 1 ∷ []

-- ---- answers

-- the certificate on a brick with this point and this list
abbrev pub on_brick : ℕ → Vector → List Vector → Certificate
on_brick i point list =
    record {
      claim = claim.InfeasibleBrick i;
      point = record { cols = 2; rows = point ∷ [] };
      bricks = record { cols = 3; rows = list };
      fold = None;
    }

pub first_brick_misses_by_one : checked worked (on_brick 1 (pos 4 ∷ pos 4 ∷ []) (second ∷ exchange ∷ first ∷ []))
    ≡ Yes (InfeasibleBrick 1 1)
first_brick_misses_by_one = refl

pub a_step_helps : checked worked (on_brick 1 (pos 4 ∷ pos 3 ∷ []) (second ∷ exchange ∷ first ∷ [])) ≡ No B2
a_step_helps = refl

pub second_brick_is_met : checked worked (on_brick 2 (pos 2 ∷ pos 2 ∷ []) (second ∷ exchange ∷ first ∷ [])) ≡ No C7
second_brick_is_met = refl

pub no_brick_has_number_0 : checked worked (on_brick 0 (pos 4 ∷ pos 4 ∷ []) (second ∷ exchange ∷ first ∷ [])) ≡ No B1
no_brick_has_number_0 = refl

pub the_list_is_short : checked worked (on_brick 1 (pos 4 ∷ pos 4 ∷ []) (second ∷ first ∷ [])) ≡ No C2
the_list_is_short = refl

pub a_longer_point_does_not_fit : parts_fit worked
    (on_brick 1 (pos 4 ∷ pos 4 ∷ pos 4 ∷ []) (second ∷ exchange ∷ first ∷ [])) ≡ false
a_longer_point_does_not_fit = refl
