-- The definitions at values worked by hand: the bases, the sums and the certificate of the program of two bricks, and
-- spoilt certificates; three suppliers; keys.
use Rattle.std.specs.Prelude.{◌≡◌, ℕ, ℤ, pos, neg_ℤ, true, false, map, List, [], ◌∷◌, Option, Some, None, refl}
use Rattle.fold_theory.specs.declared.Phase.TheVariants.{Closed, Counted}
use Rattle.fold_theory.specs.declared.Relation.TheVariants.{Equal, Less}
use Rattle.run_theory.specs.declared.Claim.TheVariants as claim
use Rattle.run_theory.specs.declared.Rule.TheVariants.{C5, C6, B2}
use Rattle.run_theory.specs.declared.Key.{Key}
use Rattle.lattice_theory.specs.Vectors.{Vector}
use Rattle.lattice_theory.specs.Matrices.{Matrix}
use Rattle.lattice_theory.specs.Lattices.{is_complete_for, kernel}
use Rattle.lattice_theory.proofs.KnownValues.{minus, four, six}
use Rattle.fold_theory.specs.Programs.{Program, Bricks, phase_cost}
use Rattle.fold_theory.proofs.KnownValues.{program_with, the_program, point_of, best_point, suppliers}
use Rattle.run_theory.specs.Links.{link_matrix, complexity}
use Rattle.run_theory.specs.Outcomes.{Step, bound_number, step_at}
use Rattle.run_theory.specs.Steps.{moved, Move, rule_cmp}
use Rattle.std.specs.declared.cmp.Ordering.{Ordering}
use Rattle.std.specs.declared.cmp.Ordering.TheVariants as ordering
use Rattle.lattice_theory.specs.SignedSums.{Sum, vectors}
use Rattle.run_theory.specs.Keys.{beats}
use Rattle.run_theory.specs.Certificates.{Certificate, sum_of_row}
use Rattle.run_theory.specs.Checker.{first_broken}

abbrev pub the_bricks : List Vector
the_bricks = (pos 0 ∷ pos 1 ∷ pos 1 ∷ []) ∷ (pos 1 ∷ minus 1 ∷ pos 0 ∷ []) ∷ (pos 1 ∷ pos 0 ∷ pos 1 ∷ []) ∷ []

pub bricks_complete : is_complete_for (program_with 3 4).brick the_bricks ≡ true
bricks_complete = refl

pub its_kernel : kernel 2 the_bricks ≡ (pos 1 ∷ minus 1 ∷ []) ∷ []
its_kernel = refl

abbrev pub the_links : Matrix
the_links = record { cols = 1; rows = (pos 1 ∷ []) ∷ [] }

pub its_links : link_matrix (program_with 3 4).link (kernel 2 the_bricks) ≡ the_links
its_links = refl

pub links_complete : is_complete_for the_links ((pos 1 ∷ pos 1 ∷ []) ∷ []) ≡ true
links_complete = refl

pub closed_complexity : complexity Closed (Equal ∷ []) the_links ((pos 1 ∷ pos 1 ∷ []) ∷ []) ≡ 2
closed_complexity = refl

pub counted_complexity : complexity Counted (Equal ∷ []) the_links ((pos 1 ∷ pos 1 ∷ []) ∷ []) ≡ 2
counted_complexity = refl

abbrev pub sum_line : ℕ → ℤ → ℤ → Vector
sum_line l a b = pos l ∷ a ∷ b ∷ []

abbrev pub the_sums : List Vector
the_sums =
    sum_line 2 (minus 2) (pos 2) ∷ sum_line 1 (minus 1) (pos 1) ∷ sum_line 0 (pos 0) (pos 0)
    ∷ sum_line 1 (pos 1) (minus 1) ∷ sum_line 2 (pos 2) (minus 2) ∷ []

abbrev pub last_row : List (Option ℤ)
last_row = None ∷ None ∷ Some (pos 0) ∷ None ∷ None ∷ []

abbrev pub middle_row : ℤ → List (Option ℤ)
middle_row a = Some (pos 12) ∷ Some (pos 5) ∷ Some (pos 0) ∷ Some a ∷ Some (minus 4) ∷ []

abbrev pub first_row : List (Option ℤ)
first_row = Some (pos 8) ∷ Some (pos 3) ∷ Some (pos 0) ∷ Some (minus 3) ∷ Some (minus 4) ∷ []

abbrev pub certificate_with : ℤ → Certificate
certificate_with a = record {
  claim = claim.Optimal;
  point = record { cols = 2; rows = best_point };
  bricks = record { cols = 3; rows = the_bricks };
  fold = Some (record {
    links = record { cols = 2; rows = (pos 1 ∷ pos 1 ∷ []) ∷ [] };
    bound = 2;
    sums = record { cols = 3; rows = the_sums };
    potentials = record { cols = 5; rows = first_row ∷ middle_row a ∷ last_row ∷ [] };
  });
}

pub accepted : first_broken the_program (certificate_with (minus 3)) ≡ None
accepted = refl

-- a potential that is too high
pub refused_potential : first_broken the_program (certificate_with (minus 2)) ≡ Some C6
refused_potential = refl

-- with the last sum and its potentials left out, the sums are not closed
abbrev pub without_last : Certificate
without_last = record {
  claim = claim.Optimal;
  point = record { cols = 2; rows = best_point };
  bricks = record { cols = 3; rows = the_bricks };
  fold = Some (record {
    links = record { cols = 2; rows = (pos 1 ∷ pos 1 ∷ []) ∷ [] };
    bound = 2;
    sums = record {
      cols = 3;
      rows = sum_line 2 (minus 2) (pos 2) ∷ sum_line 1 (minus 1) (pos 1)
          ∷ sum_line 0 (pos 0) (pos 0) ∷ sum_line 1 (pos 1) (minus 1) ∷ [];
    };
    potentials = record {
      cols = 4;
      rows =
          (Some (pos 8) ∷ Some (pos 3) ∷ Some (pos 0) ∷ Some (minus 3) ∷ [])
          ∷ (Some (pos 12) ∷ Some (pos 5) ∷ Some (pos 0) ∷ Some (minus 3) ∷ [])
          ∷ (None ∷ None ∷ Some (pos 0) ∷ None ∷ []) ∷ [];
    };
  });
}

pub refused_sums : first_broken the_program without_last ≡ Some C5
refused_sums = refl

-- the certificate that the linking row cannot reach 9, offered for the program that wants 3
abbrev pub link_certificate : Certificate
link_certificate = record {
  claim = claim.InfeasibleLink;
  point = record { cols = 2; rows = point_of (pos 4) (pos 0) (pos 4) (pos 0) };
  bricks = record { cols = 3; rows = the_bricks };
  fold = Some (record {
    links = record { cols = 2; rows = (pos 1 ∷ pos 1 ∷ []) ∷ [] };
    bound = 2;
    sums = record { cols = 3; rows = the_sums };
    potentials = record { cols = 5; rows = zero_row ∷ zero_row ∷ end_row ∷ [] };
  });
}
  where
    zero_row : List (Option ℤ)
    zero_row = Some (pos 2) ∷ Some (pos 1) ∷ Some (pos 0) ∷ Some (minus 1) ∷ Some (minus 1) ∷ []

    end_row : List (Option ℤ)
    end_row = Some (pos 2) ∷ Some (pos 1) ∷ Some (pos 0) ∷ Some (minus 1) ∷ Some (pos 0) ∷ []

pub link_refused : first_broken (program_with 3 4) link_certificate ≡ Some C6
link_refused = refl

pub link_accepted : first_broken (program_with 9 4) link_certificate ≡ None
link_accepted = refl

-- brick 1 cannot reach 9
abbrev pub brick_certificate : ℤ → ℤ → Certificate
brick_certificate a b = record {
  claim = claim.InfeasibleBrick 1;
  point = record { cols = 2; rows = (a ∷ b ∷ []) ∷ [] };
  bricks = record { cols = 3; rows = the_bricks };
  fold = None;
}

pub brick_accepted : first_broken (program_with 3 9) (brick_certificate (pos 4) (pos 4)) ≡ None
brick_accepted = refl

pub brick_refused : first_broken (program_with 3 9) (brick_certificate (pos 4) (pos 3)) ≡ Some B2
brick_refused = refl

-- the bound number: two bricks of two columns, one linking row, and no entry of a sum or its image past 2
abbrev pub five_sums : List Sum
five_sums = map sum_of_row the_sums

pub their_vectors : vectors five_sums ≡ map (λ a. a ∷ neg_ℤ a ∷ []) (minus 2 ∷ minus 1 ∷ pos 0 ∷ pos 1 ∷ pos 2 ∷ [])
their_vectors = refl

pub its_bound_number : bound_number the_program (vectors five_sums) ≡ 20
its_bound_number = refl

-- with a linking row that is no equation the combination counts in phase Closed too
pub closed_complexity_of_at_most : complexity Closed (Less ∷ []) the_links ((pos 1 ∷ pos 3 ∷ []) ∷ []) ≡ 2
closed_complexity_of_at_most = refl

-- three suppliers: the complexity is 3 in both phases
abbrev pub supplier_basis : List Vector
supplier_basis =
    four (pos 0) (pos 0) (pos 1) (pos 1) ∷ four (pos 0) (pos 1) (minus 1) (pos 0) ∷ four (pos 0) (pos 1) (pos 0) (pos 1)
    ∷ four (pos 1) (minus 1) (pos 0) (pos 0) ∷ four (pos 1) (pos 0) (minus 1) (pos 0)
    ∷ four (pos 1) (pos 0) (pos 0) (pos 1) ∷ []

pub supplier_bricks_complete : is_complete_for suppliers.brick supplier_basis ≡ true
supplier_bricks_complete = refl

abbrev pub supplier_links : Matrix
supplier_links = link_matrix suppliers.link (kernel 3 supplier_basis)

pub supplier_columns : supplier_links.rows ≡ (pos 0 ∷ pos 1 ∷ pos 1 ∷ []) ∷ (pos 1 ∷ minus 1 ∷ pos 0 ∷ [])
    ∷ (minus 1 ∷ pos 0 ∷ minus 1 ∷ []) ∷ []
supplier_columns = refl

-- (w, M·w) for w = 001, 010, 01-1, 100, 10-1, 110, 11-1
abbrev pub supplier_link_basis : List Vector
supplier_link_basis =
    six (pos 0) (pos 0) (pos 1) (pos 1) (pos 0) (minus 1)
    ∷ six (pos 0) (pos 1) (minus 1) (pos 0) (minus 1) (pos 1)
    ∷ six (pos 0) (pos 1) (pos 0) (pos 1) (minus 1) (pos 0)
    ∷ six (pos 1) (pos 0) (minus 1) (minus 1) (pos 1) (pos 0)
    ∷ six (pos 1) (pos 0) (pos 0) (pos 0) (pos 1) (minus 1)
    ∷ six (pos 1) (pos 1) (minus 1) (pos 0) (pos 0) (pos 0)
    ∷ six (pos 1) (pos 1) (pos 0) (pos 1) (pos 0) (minus 1)
    ∷ []

pub supplier_links_complete : is_complete_for supplier_links supplier_link_basis ≡ true
supplier_links_complete = refl

pub supplier_closed : complexity Closed suppliers.relations supplier_links supplier_link_basis ≡ 3
supplier_closed = refl

-- a linking row (3 0) sends (2, -2) to 6, which is the widest entry
abbrev tripled : Program
tripled = record the_program { link = record { cols = 2; rows = (pos 3 ∷ pos 0 ∷ []) ∷ [] } }

pub bound_number_of_images : bound_number tripled (vectors five_sums) ≡ 60
bound_number_of_images = refl

-- ---- steps of phase Closed from (0, 4), (3, 1), of cost 9

abbrev pub start_point : Bricks
start_point = point_of (pos 0) (pos 4) (pos 3) (pos 1)

-- the first brick goes up by one and the second down by one
abbrev pub exchange : Bricks
exchange = point_of (pos 1) (minus 1) (minus 1) (pos 1)

pub moved_once : moved start_point 0 exchange ≡ point_of (pos 1) (pos 3) (pos 2) (pos 2)
moved_once = refl

pub moved_twice : moved start_point 1 exchange ≡ point_of (pos 2) (pos 2) (pos 1) (pos 3)
moved_twice = refl

pub costs_after :
    map (λ k. phase_cost the_program Closed (moved start_point k exchange)) (0 ∷ 1 ∷ []) ≡ pos 5 ∷ pos 5 ∷ []
costs_after = refl

-- the order of 2 ^ j times the one move and 2 ^ k times the other
abbrev order : ℕ → Bricks → ℕ → Bricks → Ordering
order j g k h = rule_cmp the_program Closed start_point (record { k = j; bricks = g }) (record { k = k; bricks = h })

-- of equal costs the shorter step is less, and of equal lengths too the lesser move
pub shorter_first : order 0 exchange 1 exchange ≡ ordering.Less
shorter_first = refl

pub longer_last : order 1 exchange 0 exchange ≡ ordering.Greater
longer_last = refl

pub lesser_first : order 0 exchange 0 (point_of (pos 2) (minus 2) (minus 2) (pos 2)) ≡ ordering.Less
lesser_first = refl

-- the cost decides before the length
pub cheaper_first : order 1 exchange 0 (point_of (pos 0) (pos 0) (pos 0) (pos 0)) ≡ ordering.Less
cheaper_first = refl

-- what is recorded of a step
abbrev exchange_twice : Step
exchange_twice = record { k = 1; gain = 4; bricks = 1 ∷ 2 ∷ []; entries = pos 1 ∷ minus 1 ∷ minus 1 ∷ pos 1 ∷ [] }

pub its_step : step_at the_program Closed start_point (record { k = 1; bricks = exchange }) ≡ exchange_twice
its_step = refl

-- a brick that stands still is left out: in phase Counted 0 + 2 misses 3 by 1
abbrev second_alone : Move
second_alone = record { k = 0; bricks = point_of (pos 0) (pos 0) (pos 1) (minus 1) }

abbrev second_once : Step
second_once = record { k = 0; gain = 1; bricks = 2 ∷ []; entries = pos 1 ∷ minus 1 ∷ [] }

pub its_counted_step : step_at the_program Counted (point_of (pos 0) (pos 4) (pos 2) (pos 2)) second_alone ≡ second_once
its_counted_step = refl

-- ---- keys

abbrev pub key : ℕ → ℕ → Key
key gain k = record { gain = gain; k = k }

pub greater_gain : beats (key 5 3) (key 4 0) ≡ true
greater_gain = refl

pub shorter_length : beats (key 4 0) (key 4 1) ≡ true
shorter_length = refl

pub not_itself : beats (key 4 1) (key 4 1) ≡ false
not_itself = refl
