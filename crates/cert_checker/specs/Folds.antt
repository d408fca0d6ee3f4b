-- The rules of the claims on all bricks, in the parts in which they are tested.
use Rattle.std.specs.Prelude.{◌≡◌, ℕ, ◌+◌, nat_eq, nat_le, nat_lt, Bool, true, ◌&&◌, List, [], ◌∷◌, length, Option}
use Rattle.std.specs.Prelude.{Some, None, cond}
use Rattle.fold_theory.specs.declared.Phase.{Phase}
use Rattle.fold_theory.specs.declared.Phase.TheVariants.{Closed, Counted}
use Rattle.run_theory.specs.declared.Claim.{Claim}
use Rattle.run_theory.specs.declared.Claim.TheVariants as claim
use Rattle.run_theory.specs.declared.Rule.{Rule}
use Rattle.run_theory.specs.declared.Rule.TheVariants.{C2, C3, C4, C5, C7}
use Rattle.fold_theory.specs.declared.Verdict.TheVariants.{Optimal, InfeasibleLink}
use Rattle.lattice_theory.specs.Vectors.{Vector}
use Rattle.lattice_theory.specs.Matrices.{has_shape}
use Rattle.lattice_theory.specs.Lattices.{is_complete_for}
use Rattle.fold_theory.specs.Programs.{Program, Bricks, link_rests, link_miss, cost}
use Rattle.run_theory.specs.Links.{complexity}
use Rattle.run_theory.specs.Certificates.{FoldPart, Certificate, listed_sums}
use Rattle.run_theory.specs.Checker.{listed_generators, listed_links, sums_are_closed}
use Rattle.cert_checker.specs.declared.answer.Check.{Check}
use Rattle.cert_checker.specs.declared.answer.Check.TheVariants.{Yes, No}

-- the claim of the phase
abbrev pub claim_of : Phase → Claim
claim_of Closed = claim.Optimal
claim_of Counted = claim.InfeasibleLink

-- the point and the elements have the sizes of the program
abbrev pub brick_parts_fit : Program → Certificate → Bool
brick_parts_fit p c =
    has_shape (length p.bricks) p.brick.cols c.point
    && has_shape (length c.bricks.rows) (p.brick.cols + length p.brick.rows) c.bricks

-- so have the parts on the linking rows, where there are so many generators
abbrev pub fold_parts_fit : Program → FoldPart → ℕ → Bool
fold_parts_fit p f generators =
    has_shape (length f.links.rows) (generators + length p.link.rows) f.links
    && has_shape (length f.sums.rows) (1 + p.brick.cols) f.sums
    && nat_eq (length f.potentials.rows) (1 + length p.bricks)
    && nat_eq f.potentials.cols (length f.sums.rows)

-- the linking rows are met where the phase wants that
abbrev pub meets_links : Program → Phase → Bricks → Bool
meets_links p phase x = elim phase [ Closed ↦ nat_eq (link_miss p (link_rests p x)) 0 | Counted ↦ true ]

-- the point with these rows
abbrev pub IsPointOf : List Vector → Option Bricks → Type 0
IsPointOf rows None = ⊥
IsPointOf rows (Some x) = x ≡ rows

-- the rules on the lists
abbrev pub list_rules : Program → Phase → Certificate → FoldPart → List (Rule × Bool)
list_rules p phase c f =
    (C2, is_complete_for p.brick c.bricks.rows)
    ∷ (C3, is_complete_for (listed_links p c) f.links.rows)
    ∷ (C4, nat_le (complexity phase p.relations (listed_links p c) f.links.rows) f.bound)
    ∷ (C5, sums_are_closed p.brick.cols (listed_generators p c) f.bound (listed_sums f))
    ∷ []

-- the answer by the last rule
abbrev pub verdict_of : Program → Phase → Bricks → Check
verdict_of p Closed x = Yes (Optimal (cost p x))
verdict_of p Counted x =
    cond (nat_lt 0 (link_miss p (link_rests p x))) (Yes (InfeasibleLink (link_miss p (link_rests p x)))) (No C7)
