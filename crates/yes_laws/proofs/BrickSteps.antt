-- What the rule on the steps of a brick says: neither x + v nor x - v helps for a listed first part v.
use Rattle.std.proofs.Common.{◌≡◌, ℕ, ◌≤◌, nat_le, Bool, true, false, ◌&&◌, ◌||◌, not, List, [], ◌∷◌, ap, arith, ◌∙◌}
use Rattle.std.proofs.Common.{Contains, inl, inr, subst}
use Rattle.lattice_theory.specs.Vectors.{Vector, add, sub, opposite}
use Rattle.lattice_laws.proofs.Tests.{and_true, le_true}
use Rattle.lattice_laws.proofs.Members.{contains_cases}
use Rattle.lattice_laws.proofs.Conformal.{opposite-opposite, sub-opposite}
use Rattle.fold_theory.specs.Programs.{Program, Brick, is_within, brick_residual}
use Rattle.run_theory.specs.Checker.{no_step_helps}
use Rattle.lattice_laws.proofs.SlackBases.{IsSigned}
use Rattle.fold_laws.proofs.Bounds.{is_within_of}
use Rattle.piece_laws.proofs.Bricks.{IsNoHelp}

-- the test of one step
abbrev is_no_help : Program → Brick → Vector → Vector → Bool
is_no_help p b x y = not (is_within b y) || nat_le (brick_residual p b x) (brick_residual p b y)

-- what passes the test does not help
no_help : (p : Program) (b : Brick) (x y : Vector) → is_no_help p b x y ≡ true → IsNoHelp p b x y
no_help p b x y passes inside =
    by (is_within b y) (is_within_of b y inside) (brick_residual p b x) (brick_residual p b y) passes
  where
    by : (t : Bool) → t ≡ true → (m n : ℕ) → (not t || nat_le m n) ≡ true → m ≤ n
    by true e m n passes = le_true m n passes
    by false e m n passes = absurd (cc)

-- by the rule on the brick's steps, neither x + v nor x - v helps for a first part v
no_help_by : (p : Program) (b : Brick) (x : Vector) (parts : List Vector) (v : Vector) →
    no_step_helps p b parts x ≡ true → Contains parts v → IsNoHelp p b x (add x v) × IsNoHelp p b x (sub x v)
no_help_by p b x [] v passes (k, low, e) = absurd (omega arith)
no_help_by p b x (w ∷ parts) v passes c =
    let both = and_true (is_no_help p b x (add x w) && is_no_help p b x (sub x w)) (no_step_helps p b parts x) passes in
    let here = and_true (is_no_help p b x (add x w)) (is_no_help p b x (sub x w)) both.0 in
    elim (contains_cases w parts v c) [
      | inl e ↦
          subst (λ u. IsNoHelp p b x (add x u) × IsNoHelp p b x (sub x u)) e
          (no_help p b x (add x w) here.0, no_help p b x (sub x w) here.1)
      | inr d ↦ no_help_by p b x parts v both.1 d
    ]

-- nor does a step by a signed one
pub signed_no_help : (p : Program) (b : Brick) (x : Vector) (parts : List Vector) → no_step_helps p b parts x ≡ true →
    (v : Vector) → IsSigned parts v → IsNoHelp p b x (add x v)
signed_no_help p b x parts passes v (inl c) = (no_help_by p b x parts v passes c).0
signed_no_help p b x parts passes v (inr c) =
    subst (IsNoHelp p b x) (sub-opposite x (opposite v) ∙ ap (add x) (opposite-opposite v))
    (no_help_by p b x parts (opposite v) passes c).1
