-- The rule picks one step, so its run is one list of moves; the same of a brick's rule.
use Rattle.std.proofs.Common.{◌≡◌, true, List, [], ◌∷◌, refl, sym, ◌∙◌, subst}
use Rattle.std.specs.Ordering.{int_cmp, is_le, ordering_then, ordering_reverse}
use Rattle.std.specs.Cmp.{IsTotalOrder, int_cmp_total, nat_cmp_total}
use Rattle.std.specs.Cmp.Lexicographic.{lists_total, slice_cmp}
use Rattle.std.specs.declared.cmp.Ordering.{Ordering}
use Rattle.std.specs.declared.cmp.Ordering.TheVariants.{Less, Equal, Greater}
use Rattle.std.proofs.lemmas.Cmp.{on_total, then_total}
use Rattle.std.proofs.lemmas.Map.Lookups.{CmpEqualImpliesEq, exact_signed, exact_unsigned}
use Rattle.lattice_theory.specs.Vectors.{Vector, lex_cmp}
use Rattle.lattice_laws.proofs.Rising.{lex_total}
use Rattle.fold_theory.specs.declared.Phase.{Phase}
use Rattle.fold_theory.specs.Programs.{Program, Brick, Bricks, phase_cost, brick_residual}
use Rattle.run_theory.specs.Steps.{Move, moved, rule_cmp, IsBest, IsRun}
use Rattle.run_theory.specs.BrickRuns.{BrickMove, stepped, brick_cmp, IsBestBrickMove, IsBrickRunFrom}

-- ---- orders

-- of two that come no later than each other one is the other
none_later : {K : Type 0} (R : K → K → Ordering) → IsTotalOrder R → CmpEqualImpliesEq R → (a b : K) →
    is_le (R a b) ≡ true → is_le (R b a) ≡ true → a ≡ b
none_later R total exact a b h k = exact a b (by (R a b) (R b a) (total.antisymm a b) h k)
  where
    by : (o p : Ordering) → o ≡ ordering_reverse p → is_le o ≡ true → is_le p ≡ true → o ≡ Equal
    by Equal p e h k = refl
    by Less Less e h k = absurd (cc)
    by Less Equal e h k = absurd (cc)
    by Less Greater e h k = absurd (cc)
    by Greater p e h k = absurd (cc)

both_equal : (a b : Ordering) → ordering_then a b ≡ Equal → (a ≡ Equal) × (b ≡ Equal)
both_equal Less b e = absurd (cc)
both_equal Equal b e = (refl, e)
both_equal Greater b e = absurd (cc)

-- lists that tie are equal, where elements that tie are
exact_lists : {K : Type 0} (R : K → K → Ordering) → CmpEqualImpliesEq R → CmpEqualImpliesEq (slice_cmp R)
exact_lists R exact [] [] e = refl
exact_lists R exact [] (b ∷ bs) e = absurd (cc)
exact_lists R exact (a ∷ as') [] e = absurd (cc)
exact_lists R exact (a ∷ as') (b ∷ bs) e =
    let parts = both_equal (R a b) (slice_cmp R as' bs) e in
    λ i. exact a b parts.0 i ∷ exact_lists R exact as' bs parts.1 i

exact_vectors : CmpEqualImpliesEq lex_cmp
exact_vectors = exact_lists int_cmp exact_signed

-- ---- the rule of a phase

rule_total : (p : Program) (phase : Phase) (x : Bricks) → IsTotalOrder (rule_cmp p phase x)
rule_total p phase x =
    then_total (on_total (λ (m : Move). phase_cost p phase (moved x m.k m.bricks)) int_cmp_total)
    (then_total (on_total (λ (m : Move). m.k) nat_cmp_total)
    (on_total (λ (m : Move). m.bricks) (lists_total lex_total)))

rule_exact : (p : Program) (phase : Phase) (x : Bricks) → CmpEqualImpliesEq (rule_cmp p phase x)
rule_exact p phase x m n e =
    let parts = both_equal _ _ (both_equal _ _ e).1 in
    λ i. record {
      k = exact_unsigned m.k n.k parts.0 i;
      bricks = exact_lists lex_cmp exact_vectors m.bricks n.bricks parts.1 i;
    }

-- the rule picks one step
pub best_unique : (p : Program) (phase : Phase) (zs : List Vector) (x : Bricks) (m n : Move) → IsBest p phase zs x m →
    IsBest p phase zs x n → m ≡ n
best_unique p phase zs x m n a b =
    none_later (rule_cmp p phase x) (rule_total p phase x) (rule_exact p phase x) m n
    (a.first n.k n.bricks b.augments) (b.first m.k m.bricks a.augments)

-- a run from a point is one list of moves, and ends at one point
pub run_unique : (p : Program) (phase : Phase) (zs : List Vector) (x : Bricks) (ms ns : List Move) (y z : Bricks) →
    IsRun p phase zs x ms y → IsRun p phase zs x ns z → (ms ≡ ns) × (y ≡ z)
run_unique p phase zs x [] [] y z a b = (refl, a.1 ∙ sym b.1)
run_unique p phase zs x [] (n ∷ ns) y z a b = absurd (a.0 n.k n.bricks b.0.augments)
run_unique p phase zs x (m ∷ ms) [] y z a b = absurd (b.0 m.k m.bricks a.0.augments)
run_unique p phase zs x (m ∷ ms) (n ∷ ns) y z a b =
    let first : m ≡ n = best_unique p phase zs x m n a.0 b.0 in
    let rest =
    run_unique p phase zs (moved x n.k n.bricks) ms ns y z
    (subst (λ (s : Move). IsRun p phase zs (moved x s.k s.bricks) ms y) first a.1) b.1 in
    (λ i. first i ∷ rest.0 i, rest.1)

-- ---- the rule of a brick

brick_total : (p : Program) (b : Brick) (v : Vector) → IsTotalOrder (brick_cmp p b v)
brick_total p b v =
    then_total (on_total (λ (m : BrickMove). brick_residual p b (stepped v m)) nat_cmp_total)
    (then_total (on_total (λ (m : BrickMove). m.k) nat_cmp_total) (on_total (λ (m : BrickMove). m.vector) lex_total))

brick_exact : (p : Program) (b : Brick) (v : Vector) → CmpEqualImpliesEq (brick_cmp p b v)
brick_exact p b v m n e =
    let parts = both_equal _ _ (both_equal _ _ e).1 in
    λ i. record {
      k = exact_unsigned m.k n.k parts.0 i;
      vector = exact_vectors m.vector n.vector parts.1 i;
    }

best_brick_unique : (p : Program) (basis : List Vector) (b : Brick) (v : Vector) (m n : BrickMove) →
    IsBestBrickMove p basis b v m → IsBestBrickMove p basis b v n → m ≡ n
best_brick_unique p basis b v m n first second =
    none_later (brick_cmp p b v) (brick_total p b v) (brick_exact p b v) m n
    (first.first n second.improves) (second.first m first.improves)

-- a brick's run from a vector is one list of moves, and ends at one vector
pub brick_run_unique : (p : Program) (basis : List Vector) (b : Brick) (v : Vector) (ms ns : List BrickMove)
    (u w : Vector) → IsBrickRunFrom p basis b v ms u → IsBrickRunFrom p basis b v ns w → (ms ≡ ns) × (u ≡ w)
brick_run_unique p basis b v [] [] u w left right = (refl, left.1 ∙ sym right.1)
brick_run_unique p basis b v [] (n ∷ ns) u w left right = absurd (left.0 n right.0.improves)
brick_run_unique p basis b v (m ∷ ms) [] u w left right = absurd (right.0 m left.0.improves)
brick_run_unique p basis b v (m ∷ ms) (n ∷ ns) u w left right =
    let first : m ≡ n = best_brick_unique p basis b v m n left.0 right.0 in
    let rest =
    brick_run_unique p basis b (stepped v n) ms ns u w
    (subst (λ s. IsBrickRunFrom p basis b (stepped v s) ms u) first left.1) right.1 in
    (λ i. first i ∷ rest.0 i, rest.1)
