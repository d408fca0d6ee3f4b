-- A certificate on one brick that breaks no rule shows what it claims.
use Rattle.std.proofs.Common.{◌≡◌, ℕ, ◌+◌, ◌-◌, ◌<◌, nat_eq, Bool, true, false, ◌&&◌, cond, List, [], ◌∷◌, length}
use Rattle.std.proofs.Common.{Option, Some, None, slice_get, refl, arith, sym, ◌∙◌, subst}
use Rattle.std.specs.List.{AllByRecursion}
use Rattle.std.proofs.lemmas.Bool.Decides.{nat_tests}
use Rattle.run_theory.specs.declared.Rule.{Rule}
use Rattle.run_theory.specs.declared.Rule.TheVariants.{B1}
use Rattle.run_theory.specs.declared.Claim.{Claim}
use Rattle.fold_theory.specs.declared.Verdict.TheVariants.{InfeasibleBrick}
use Rattle.lattice_theory.specs.Vectors.{Vector}
use Rattle.lattice_theory.specs.Matrices.{has_shape}
use Rattle.lattice_laws.proofs.Tests.{and_true, lt_true}
use Rattle.fold_theory.specs.Programs.{Program, Brick, IsBrick, IsProgram, is_within, brick_residual}
use Rattle.run_theory.specs.Certificates.{Certificate}
use Rattle.run_theory.specs.Checker.{brick_rules, first_failing, claimed_verdict, Accept}
use Rattle.fold_theory.specs.Verdicts.{Holds}
use Rattle.piece_laws.proofs.Bricks.{least_residual, IsHeldBrick}
use Rattle.lattice_theory.specs.Lattices.{first_parts}
use Rattle.fold_laws.proofs.Bounds.{is_within_true}
use Rattle.fold_laws.proofs.Points.{brick_at}
use Rattle.yes_laws.proofs.BrickSteps.{signed_no_help}
use Rattle.piece_laws.proofs.Misses.{brick_miss_holds}
use Rattle.run_theory.specs.declared.Claim.TheVariants as claim

-- ---- the rules

-- where no test is the first to fail, each passes
pub all_pass : (tests : List (Rule × Bool)) → first_failing tests ≡ None → AllByRecursion (λ t. t.1 ≡ true) tests
all_pass [] nothing = tt
all_pass (test ∷ tests) nothing = by test.1 nothing (λ k. all_pass tests k)
  where
    others : Type 0
    others = AllByRecursion (λ t. t.1 ≡ true) tests

    by : (t : Bool) → cond t (first_failing tests) (Some test.0) ≡ None → (first_failing tests ≡ None → others) →
        (t ≡ true) × others
    by true nothing rest = (refl, rest nothing)
    by false nothing rest = absurd (cc)

-- the vector is stuck, and misses the rows
record IsStuckAbove (p : Program) (b : Brick) (basis : List Vector) (x : Vector) : Type 0 where
  held : IsHeldBrick p b basis x
  above : 0 < brick_residual p b x

-- what the rules for a brick say
rules_say : (p : Program) (c : Certificate) (b : Brick) (x : Vector) →
    IsProgram p → IsBrick p.link.cols (length p.brick.rows) b → first_failing (brick_rules p c b x) ≡ None →
    IsStuckAbove p b c.bricks.rows x
rules_say p c b x program brick nothing =
    let point = has_shape 1 p.brick.cols c.point in
    let members = has_shape (length c.bricks.rows) (p.brick.cols + length p.brick.rows) c.bricks in
    let pass = all_pass (brick_rules p c b x) nothing in
    record {
      held = record {
        columns = brick.lower_size ∙ sym program.brick_shape.width;
        right = brick.right_size;
        complete = pass.1.0;
        within = is_within_true b x (and_true (point && members) (is_within b x) pass.0).1;
        no_help = signed_no_help p b x (first_parts p.brick.cols c.bricks.rows) pass.1.1.0;
      };
      above = lt_true 0 (brick_residual p b x) pass.1.1.1.0;
    }

-- ---- the verdict

-- the verdict of the brick at a place, where the rules hold
miss_holds : (p : Program) (c : Certificate) (number place : ℕ) (b : Brick) (x : Vector) →
    IsProgram p → number ≡ place + 1 → slice_get p.bricks place ≡ Some b → first_failing (brick_rules p c b x) ≡ None →
    Holds p (InfeasibleBrick number (brick_residual p b x))
miss_holds p c number place b x program numbered there nothing =
    let s = rules_say p c b x program (brick_at p place b program there) nothing in
    brick_miss_holds p number place b x numbered there s.held.within s.above
    (least_residual p b c.bricks.rows x s.held)

-- the certificate with this claim
abbrev claiming : Certificate → Claim → Certificate
claiming c k = record { claim = k; point = c.point; bricks = c.bricks; fold = c.fold }

-- by the number, the brick that has it, and the rows of the point
yes_holds : (p : Program) (c : Certificate) (i : ℕ) → IsProgram p → Accept p (claiming c (claim.InfeasibleBrick i)) →
    Holds p (claimed_verdict p (claiming c (claim.InfeasibleBrick i)))
yes_holds p c i program h = shown (nat_eq i 0) refl (slice_get p.bricks (i - 1)) refl c.point.rows h
  where
    broken_at : Brick → List Vector → Option Rule
    broken_at b [] = Some B1
    broken_at b (x ∷ rest) = first_failing (brick_rules p c b x)

    broken : List Vector → Option Brick → Option Rule
    broken rows None = Some B1
    broken rows (Some b) = broken_at b rows

    residual : Option Brick → List Vector → ℕ
    residual None rows = 0
    residual (Some b) [] = 0
    residual (Some b) (x ∷ rest) = brick_residual p b x

    behind : (n : ℕ) → nat_eq n 0 ≡ false → n ≡ n - 1 + 1
    behind n fails = grind (arith, nat_tests)

    shown : (t : Bool) → nat_eq i 0 ≡ t → (o : Option Brick) → slice_get p.bricks (i - 1) ≡ o → (rows : List Vector) →
        broken rows (cond t None o) ≡ None → Holds p (InfeasibleBrick i (residual o rows))
    shown true none o there rows nothing = absurd (cc)
    shown false some None there rows nothing = absurd (cc)
    shown false some (Some b) there [] nothing = absurd (cc)
    shown false some (Some b) there (x ∷ rest) nothing =
        miss_holds p c i (i - 1) b x program (behind i some) there nothing

-- what a certificate claims of a brick holds where it breaks no rule
pub accepted_holds : (p : Program) (c : Certificate) (i : ℕ) →
    IsProgram p → c.claim ≡ claim.InfeasibleBrick i → Accept p c → Holds p (claimed_verdict p c)
accepted_holds p c i program claims accepted =
    subst (λ k. Accept p (claiming c k) → Holds p (claimed_verdict p (claiming c k))) (sym claims)
    (yes_holds p c i program) accepted
