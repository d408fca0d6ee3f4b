-- The rules of the checker: when a certificate is accepted, and which rule it breaks first.
use Rattle.std.specs.Prelude.{◌≡◌, ℕ, suc, ◌+◌, ◌-◌, ℤ, pos, ◌+ℤ◌, int_le, nat_eq, nat_le, nat_lt, Bool, true, false}
use Rattle.std.specs.Prelude.{◌&&◌, ◌||◌, not, List, [], ◌∷◌, length, cond, Option, Some, None, slice_get}
use Rattle.std.specs.List.{list_all, list_any}
use Rattle.fold_theory.specs.declared.Phase.{Phase}
use Rattle.fold_theory.specs.declared.Phase.TheVariants.{Closed, Counted}
use Rattle.run_theory.specs.declared.Claim.TheVariants as claim
use Rattle.run_theory.specs.declared.Rule.{Rule}
use Rattle.run_theory.specs.declared.Rule.TheVariants.{C1, C2, C3, C4, C5, C6, C7, B1, B2}
use Rattle.fold_theory.specs.declared.Verdict.{Verdict}
use Rattle.fold_theory.specs.declared.Verdict.TheVariants.{Optimal, InfeasibleBrick, InfeasibleLink}
use Rattle.lattice_theory.specs.Lists.{all_zip}
use Rattle.lattice_theory.specs.Vectors.{Vector, add, sub, zeros, same, is_rising}
use Rattle.lattice_theory.specs.Matrices.{Matrix, product, has_shape}
use Rattle.lattice_theory.specs.Lattices.{is_complete_for, kernel, first_parts}
use Rattle.fold_theory.specs.Programs.{Program, Brick, Bricks, is_within, brick_residual, link_rests, link_miss, cost}
use Rattle.run_theory.specs.Links.{link_matrix, complexity}
use Rattle.lattice_theory.specs.SignedSums.{Sum, vectors}
use Rattle.run_theory.specs.Walks.{brick_change, end_cost}
use Rattle.run_theory.specs.Certificates.{FoldPart, Certificate, listed_sums}

-- the vectors v of the listed (v, 0), and the matrix of their images
abbrev pub listed_generators : Program → Certificate → List Vector
listed_generators p c = kernel p.brick.cols c.bricks.rows

abbrev pub listed_links : Program → Certificate → Matrix
listed_links p c = link_matrix p.link (listed_generators p c)

-- the parts have the sizes of the program, and the point is where the phase wants it
abbrev pub point_fits : Program → Phase → Bricks → Bool
point_fits p phase x =
    all_zip is_within p.bricks x
    && all_zip (λ b v. nat_eq (brick_residual p b v) 0) p.bricks x
    && elim phase [ Closed ↦ nat_eq (link_miss p (link_rests p x)) 0 | Counted ↦ true ]

abbrev pub parts_fit : Program → Certificate → FoldPart → Bool
parts_fit p c f =
    has_shape (length p.bricks) p.brick.cols c.point
    && has_shape (length c.bricks.rows) (p.brick.cols + length p.brick.rows) c.bricks
    && has_shape (length f.links.rows) (length (listed_generators p c) + length p.link.rows) f.links
    && has_shape (length f.sums.rows) (1 + p.brick.cols) f.sums
    && nat_eq (length f.potentials.rows) (1 + length p.bricks)
    && nat_eq f.potentials.cols (length f.sums.rows)
    && list_all (λ row. nat_eq (length row) (length f.sums.rows)) f.potentials.rows

-- w is a sum of at most this level
abbrev pub is_sum_within : List Sum → ℕ → Vector → Bool
is_sum_within sums level w = list_any (λ s. same s.vector w && nat_le s.level level) sums

-- the sums rise, begin at zero, and are closed under one more generator below the bound
abbrev pub sums_are_closed : ℕ → List Vector → ℕ → List Sum → Bool
sums_are_closed t gens bound sums =
    is_rising (vectors sums)
    && is_sum_within sums 0 (zeros t)
    && list_all (λ s. nat_le bound s.level
    || list_all (λ e. is_sum_within sums (suc s.level) (add s.vector e) && is_sum_within sums (suc s.level)
    (sub s.vector e)) gens) sums

-- a is at most b, where none stands for infinity
abbrev pub at_most : Option ℤ → Option ℤ → Bool
at_most a None = true
at_most None (Some b) = false
at_most (Some a) (Some b) = int_le a b

abbrev pub plus : ℤ → Option ℤ → Option ℤ
plus d None = None
plus d (Some a) = Some (d +ℤ a)

-- the listed potential of the sum w in this layer, where w is a listed sum
abbrev pub potential_of : List Vector → List (Option ℤ) → Vector → Option (Option ℤ)
potential_of [] row w = None
potential_of (z ∷ zs) [] w = None
potential_of (z ∷ zs) (a ∷ row) w = cond (same z w) (Some a) (potential_of zs row w)

-- no move of this brick leads below the potential of a sum
abbrev pub layer_holds : Phase → List Vector → Brick → Vector → List (Option ℤ) → List (Option ℤ) → Bool
layer_holds phase zs b v row next =
    all_zip (λ w here. list_all (λ h.
    elim (potential_of zs next (add w h)) [
      | None ↦ true
      | Some there ↦ not (is_within b (add v h)) || at_most here (plus (brick_change phase b v (add v h)) there)
    ]) zs) zs row

-- each layer holds, and so does the last one, where a walk ends
abbrev pub layers_hold : Program → Phase → List Vector → Vector → List Brick → Bricks → List (List (Option ℤ)) → Bool
layers_hold p phase zs rests bs x [] = false
layers_hold p phase zs rests [] [] (row ∷ []) =
    all_zip (λ w here. at_most here (end_cost p phase rests (product p.link w))) zs row
layers_hold p phase zs rests (b ∷ bs) (v ∷ x) (row ∷ next ∷ rows) =
    layer_holds phase zs b v row next && layers_hold p phase zs rests bs x (next ∷ rows)
layers_hold p phase zs rests bs x rows = false

-- the potential at the beginning, of the zero vector, is not negative
abbrev pub starts_at_zero : Program → List Vector → List (List (Option ℤ)) → Bool
starts_at_zero p zs [] = false
starts_at_zero p zs (row ∷ rows) =
    elim (potential_of zs row (zeros p.brick.cols)) [ None ↦ false | Some first ↦ at_most (Some (pos 0)) first ]

-- neither x + v nor x - v is within the bounds and misses the brick's rows by less
abbrev pub no_step_helps : Program → Brick → List Vector → Vector → Bool
no_step_helps p b parts x =
    list_all (λ v. holds_at (add x v) && holds_at (sub x v)) parts
  where
    holds_at : Vector → Bool
    holds_at y = not (is_within b y) || nat_le (brick_residual p b x) (brick_residual p b y)

-- the first rule whose test fails
abbrev pub first_failing : List (Rule × Bool) → Option Rule
first_failing [] = None
first_failing (test ∷ tests) = cond test.1 (first_failing tests) (Some test.0)

-- the rules for the claims about all bricks
abbrev pub fold_rules : Program → Phase → Certificate → FoldPart → List (Rule × Bool)
fold_rules p phase c f =
    let sums = listed_sums f in
    let zs = vectors sums in
    (C1, parts_fit p c f && point_fits p phase c.point.rows)
    ∷ (C2, is_complete_for p.brick c.bricks.rows)
    ∷ (C3, is_complete_for (listed_links p c) f.links.rows)
    ∷ (C4, nat_le (complexity phase p.relations (listed_links p c) f.links.rows) f.bound)
    ∷ (C5, sums_are_closed p.brick.cols (listed_generators p c) f.bound sums)
    ∷ (
      C6,
      layers_hold p phase zs (link_rests p c.point.rows) p.bricks c.point.rows f.potentials.rows
          && starts_at_zero p zs f.potentials.rows,
    )
    ∷ (C7, elim phase [ Closed ↦ true | Counted ↦ nat_lt 0 (link_miss p (link_rests p c.point.rows)) ])
    ∷ []

-- the rules for the claim that brick b misses its rows, at the point's one row x
abbrev pub brick_rules : Program → Certificate → Brick → Vector → List (Rule × Bool)
brick_rules p c b x = (
  B1,
  has_shape 1 p.brick.cols c.point
      && has_shape (length c.bricks.rows) (p.brick.cols + length p.brick.rows) c.bricks
      && is_within b x,
)
    ∷ (C2, is_complete_for p.brick c.bricks.rows)
    ∷ (B2, no_step_helps p b (first_parts p.brick.cols c.bricks.rows) x)
    ∷ (C7, nat_lt 0 (brick_residual p b x))
    ∷ []

-- the first rule that the certificate breaks
abbrev pub first_broken : Program → Certificate → Option Rule
first_broken p c =
    elim c.claim [
      | claim.Optimal ↦ elim c.fold [ None ↦ Some C1 | Some f ↦ first_failing (fold_rules p Closed c f) ]
      | claim.InfeasibleLink ↦ elim c.fold [ None ↦ Some C1 | Some f ↦ first_failing (fold_rules p Counted c f) ]
      | claim.InfeasibleBrick i ↦
          elim (numbered i p.bricks) [
            | None ↦ Some B1
            | Some b ↦ elim c.point.rows [ [] ↦ Some B1 | x ∷ rest ↦ first_failing (brick_rules p c b x) ]
          ]
    ]
  where
    numbered : ℕ → List Brick → Option Brick
    numbered i bs = cond (nat_eq i 0) None (slice_get bs (i - 1))

-- every rule holds
abbrev pub Accept : Program → Certificate → Type 0
Accept p c = first_broken p c ≡ None

-- the verdict that the certificate claims, with the cost or the residual of its point
abbrev pub claimed_verdict : Program → Certificate → Verdict
claimed_verdict p c =
    elim c.claim [
      | claim.Optimal ↦ Optimal (cost p c.point.rows)
      | claim.InfeasibleLink ↦ InfeasibleLink (link_miss p (link_rests p c.point.rows))
      | claim.InfeasibleBrick i ↦ InfeasibleBrick i (residual_at (slice_get p.bricks (i - 1)) c.point.rows)
    ]
  where
    residual_at : Option Brick → List Vector → ℕ
    residual_at None rows = 0
    residual_at (Some b) [] = 0
    residual_at (Some b) (x ∷ rows) = brick_residual p b x
