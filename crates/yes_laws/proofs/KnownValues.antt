-- The law at values worked by hand: two bricks with the row v1 + v2 = 4, bounds 0 and 4 and cost v1 * v1, and one
-- linking row on the first columns. Where these are to add up to 3 the least cost is 1 + 4; to 9 they cannot add up.
-- Where the second columns are to add up to at most 5, the least cost is 1 + 4 too.
use Rattle.std.specs.Prelude.{◌≡◌, ℤ, pos, List, [], ◌∷◌, Option, Some, None, refl}
use Rattle.std.proofs.lemmas.List.Elements.{All-from_recursion}
use Rattle.fold_theory.specs.declared.Relation.TheVariants.{Less, Equal}
use Rattle.run_theory.specs.declared.Rule.TheVariants.{C6}
use Rattle.fold_theory.specs.declared.Verdict.TheVariants.{Optimal, InfeasibleLink}
use Rattle.lattice_theory.proofs.KnownValues.{minus}
use Rattle.fold_theory.specs.Programs.{Program, IsBrick, IsProgram}
use Rattle.run_theory.specs.Certificates.{Certificate}
use Rattle.run_theory.specs.Checker.{Accept, claimed_verdict, first_broken}
use Rattle.fold_theory.specs.Verdicts.{Holds}
use Rattle.fold_theory.proofs.KnownValues.{program_with, brick_with, best_point}
use Rattle.run_theory.proofs.KnownValues.{the_bricks, the_sums, certificate_with, link_certificate}
use Rattle.piece_laws.proofs.KnownPrograms.{one_brick, one_row, is_a_program}
use Rattle.yes_laws.proofs.Accepted.{yes_holds}
use Rattle.run_theory.specs.declared.Claim.TheVariants as claim

-- ---- the least cost

abbrev the_program : Program
the_program = program_with 3 4

abbrev the_certificate : Certificate
the_certificate = certificate_with (minus 3)

pub it_is_accepted : Accept the_program the_certificate
it_is_accepted = refl

-- the point (1 3), (2 2) costs 1 + 4
pub its_claim : claimed_verdict the_program the_certificate ≡ Optimal (pos 5)
its_claim = refl

-- all premises of the law are met, and it says that no feasible point costs less than 5
pub it_holds : Holds the_program (Optimal (pos 5))
it_holds = yes_holds the_program the_certificate (is_a_program Equal 3 4) it_is_accepted

-- ---- the linking row cannot reach 9

abbrev the_wider_program : Program
the_wider_program = program_with 9 4

pub link_is_accepted : Accept the_wider_program link_certificate
link_is_accepted = refl

-- 4 + 4 misses 9 by 1
pub link_claim : claimed_verdict the_wider_program link_certificate ≡ InfeasibleLink 1
link_claim = refl

-- the law says that the linking row is missed by 1 at least
pub link_holds : Holds the_wider_program (InfeasibleLink 1)
link_holds = yes_holds the_wider_program link_certificate (is_a_program Equal 9 4) link_is_accepted

-- ---- a row that is to be at most its right side

-- what the second columns add up to is to be at most 5, so the first ones add up to 3 at least
abbrev at_most_program : Program
at_most_program = record {
  link = record { cols = 2; rows = (pos 0 ∷ pos 1 ∷ []) ∷ [] };
  link_right = pos 5 ∷ [];
  relations = Less ∷ [];
  brick = record { cols = 2; rows = (pos 1 ∷ pos 1 ∷ []) ∷ [] };
  bricks = brick_with 4 ∷ brick_with 4 ∷ [];
}

at_most_is_a_program : IsProgram at_most_program
at_most_is_a_program = record {
  link_shape = one_row (pos 0 ∷ pos 1 ∷ []) refl;
  brick_shape = one_row (pos 1 ∷ pos 1 ∷ []) refl;
  right_size = refl;
  relations_size = refl;
  each_brick = All-from_recursion (IsBrick 2 1) at_most_program.bricks (one_brick 4, (one_brick 4, tt));
}

-- the potentials of the sums from (-2 2) to (2 -2) at the point (1 3), (2 2), where a walk may end with these costs
abbrev at_most_certificate : List (Option ℤ) → Certificate
at_most_certificate ends = record {
  claim = claim.Optimal;
  point = record { cols = 2; rows = best_point };
  bricks = record { cols = 3; rows = the_bricks };
  fold = Some (record {
    links = record { cols = 2; rows = (pos 1 ∷ minus 1 ∷ []) ∷ [] };
    bound = 2;
    sums = record { cols = 3; rows = the_sums };
    potentials = record {
      cols = 5;
      rows =
          (Some (pos 8) ∷ Some (pos 3) ∷ Some (pos 0) ∷ Some (minus 3) ∷ Some (minus 4) ∷ [])
          ∷ (Some (pos 12) ∷ Some (pos 5) ∷ Some (pos 0) ∷ Some (minus 3) ∷ Some (minus 4) ∷ [])
          ∷ ends ∷ [];
    };
  });
}

-- a walk may end where the second columns add up to less than 5
abbrev at_most_ends : List (Option ℤ)
at_most_ends = None ∷ None ∷ Some (pos 0) ∷ Some (pos 0) ∷ Some (pos 0) ∷ []

pub at_most_accepted : Accept at_most_program (at_most_certificate at_most_ends)
at_most_accepted = refl

-- were the row an equation, a walk could end at 5 alone
abbrev equation_ends : List (Option ℤ)
equation_ends = None ∷ None ∷ Some (pos 0) ∷ None ∷ None ∷ []

pub equation_ends_refused : first_broken at_most_program (at_most_certificate equation_ends) ≡ Some C6
equation_ends_refused = refl

-- all premises of the law are met, and it says that no point costs less than 5 at which the second columns add up to
-- at most 5
pub at_most_holds : Holds at_most_program (Optimal (pos 5))
at_most_holds = yes_holds at_most_program (at_most_certificate at_most_ends) at_most_is_a_program at_most_accepted
