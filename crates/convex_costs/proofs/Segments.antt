-- Where a place stands among breakpoints: the search for its line, and how far they reach.
use Rattle.std.proofs.Common.{◌≡◌, ℕ, zero, suc, ◌+◌, ◌-◌, ◌<◌, ◌≤◌, max, ℤ, ◌≤ℤ◌, ◌<ℤ◌, int_le, int_lt, true, false}
use Rattle.std.proofs.Common.{List, [], ◌∷◌, length, get_or, ◌&&◌, None, refl, subst, ap, arith, sym, ◌∙◌}
use Rattle.std.specs.List.Sorted.{IsPartitionedBy, IsPartitionPoint}
use Rattle.std.proofs.lemmas.Int.{ints}
use Rattle.fold_theory.specs.declared.Breakpoint.{Breakpoint}
use Rattle.fold_theory.specs.Costs.{on_lines}
use Rattle.lattice_laws.proofs.Tests.{int_lt_true, int_lt_false}
use Rattle.convex_costs.specs.Faults.{first_failing, is_right, covers, last_of}
use Rattle.convex_costs.proofs.LineLaws.{on_line, on_lines-first, on_lines-later}
use Rattle.convex_costs.proofs.Neighbours.{rising_at}

-- a breakpoint further on is no further left
rising_to_right : (ps : List Breakpoint) (i n : ℕ) (d : Breakpoint) → first_failing is_right 1 ps ≡ None →
    i + n < length ps →
    (get_or ps i d).at ≤ℤ (get_or ps (i + n) d).at
rising_to_right ps i zero d none inside =
    let place : i + 0 ≡ i = omega arith in
    let same = ap (λ k. (get_or ps k d).at) place in
    omega (arith, ints, same)
rising_to_right ps i (suc n) d none inside =
    let place : i + suc n ≡ suc (i + n) = omega arith in
    let same = ap (λ k. (get_or ps k d).at) place in
    let before = rising_to_right ps i n d none (omega arith) in
    let step = rising_at 1 ps (i + n) d none (omega arith) in
    omega (arith, ints, same, before, step)

-- the breakpoints left of v come first
pub parted : (ps : List Breakpoint) (v : ℤ) → first_failing is_right 1 ps ≡ None →
    IsPartitionedBy (λ p. int_lt p.at v) ps
parted ps v none i j d below inside test =
    let place : i + (j - i) ≡ j = omega arith in
    let in_order = rising_to_right ps i (j - i) d none (omega arith) in
    let no_later = subst (λ k. (get_or ps i d).at ≤ℤ (get_or ps k d).at) place in_order in
    left (get_or ps i d).at (get_or ps j d).at test no_later
  where
    left : (a b : ℤ) → int_lt b v ≡ true → a ≤ℤ b → int_lt a v ≡ true
    left a b before no_more = grind (arith, ints)

-- the line on which v lies: its end is the first breakpoint that is not left of v, past the first one
on_lines-at : (ps : List Breakpoint) (k : ℕ) (v : ℤ) (d : Breakpoint) → suc k < length ps → ((i : ℕ) → i < k →
    (get_or ps (suc i) d).at <ℤ v) →
    v ≤ℤ (get_or ps (suc k) d).at → on_lines ps v ≡ on_line (get_or ps k d) (get_or ps (suc k) d) v
on_lines-at [] k v d inside before here = absurd (omega arith)
on_lines-at (p ∷ []) k v d inside before here = absurd (omega arith)
on_lines-at (p ∷ q ∷ ps) zero v d inside before here = on_lines-first p q ps v here
on_lines-at (p ∷ q ∷ ps) (suc k) v d inside before here =
    on_lines-later p q ps v (before 0 (omega arith))
    ∙ on_lines-at (q ∷ ps) k v d (omega arith) (λ i low. before (suc i) (omega arith)) here

-- the same by the place of the line's end
on_lines-next : (ps : List Breakpoint) (next : ℕ) (v : ℤ) (d : Breakpoint) → 1 ≤ next → next < length ps →
    ((i : ℕ) → 1 ≤ i → i < next → (get_or ps i d).at <ℤ v) → v ≤ℤ (get_or ps next d).at →
    on_lines ps v ≡ on_line (get_or ps (next - 1) d) (get_or ps next d) v
on_lines-next ps next v d from inside before here =
    let place : suc (next - 1) ≡ next = omega arith in
    let ends = subst (λ k. v ≤ℤ (get_or ps k d).at) (sym place) here in
    on_lines-at ps (next - 1) v d (omega arith) (λ i low. before (suc i) (omega arith) (omega arith)) ends
    ∙ ap (λ k. on_line (get_or ps (next - 1) d) (get_or ps k d) v) place

-- past the first, all breakpoints are left of v: the last value counts
on_lines-past : (ps : List Breakpoint) (v : ℤ) (d : Breakpoint) → 1 ≤ length ps →
    ((i : ℕ) → suc i < length ps → (get_or ps (suc i) d).at <ℤ v) → on_lines ps v ≡ (get_or ps (length ps - 1) d).value
on_lines-past [] v d some before = absurd (omega arith)
on_lines-past (p ∷ []) v d some before = refl
on_lines-past (p ∷ q ∷ ps) v d some before =
    let last : suc (length ps) - 1 ≡ length ps = omega arith in
    let whole : suc (length ps) ≡ suc (suc (length ps)) - 1 = omega arith in
    on_lines-later p q ps v (before 0 (omega arith))
    ∙ on_lines-past (q ∷ ps) v d (omega arith) (λ i low. before (suc i) (omega arith))
    ∙ ap (λ k. (get_or (q ∷ ps) k d).value) last ∙ ap (λ k. (get_or (p ∷ q ∷ ps) k d).value) whole

-- ---- what a binary search for v finds

module _ (ps : List Breakpoint) (left next : ℕ) (v : ℤ) (d : Breakpoint) (some : 1 ≤ length ps)
    (point : IsPartitionPoint (λ p. int_lt p.at v ≡ true) (λ p. int_lt p.at v ≡ false) ps left)
    (is_next : next ≡ max left 1) where
  -- each breakpoint before the found place is left of v
  is_left : (i : ℕ) → i < left → (get_or ps i d).at <ℤ v
  is_left i below = int_lt_true (get_or ps i d).at v (point.0 i d (omega arith) below)

  -- the line on which v lies
  pub on_lines-found : next < length ps → on_lines ps v ≡ on_line (get_or ps (next - 1) d) (get_or ps next d) v
  on_lines-found inside =
      let here = int_lt_false (get_or ps next d).at v (point.1 next d (omega arith) inside) in
      on_lines-next ps next v d (omega arith) inside (λ i from below. is_left i (omega (arith, from, below))) here

  -- or none, and the last value counts
  pub on_lines-beyond : length ps ≤ next → on_lines ps v ≡ (get_or ps (length ps - 1) d).value
  on_lines-beyond beyond = on_lines-past ps v d some (λ i inside. is_left (suc i) (omega (arith, inside)))

-- ---- how far the breakpoints reach

-- the last breakpoint by its place
last_read : (p : Breakpoint) (ps : List Breakpoint) (d : Breakpoint) → get_or (p ∷ ps) (length ps) d ≡ last_of p ps
last_read p [] d = refl
last_read p (q ∷ ps) d = last_read q ps d

-- the breakpoints that begin at or left of lo reach to hi where the last one does
pub covers-read : (ps : List Breakpoint) (lo hi : ℤ) (d : Breakpoint) → 1 ≤ length ps → (get_or ps 0 d).at ≤ℤ lo →
    int_le hi (get_or ps (length ps - 1) d).at ≡ covers ps lo hi
covers-read [] lo hi d some first = absurd (omega arith)
covers-read (p ∷ ps) lo hi d some first =
    let place : suc (length ps) - 1 ≡ length ps = omega arith in
    let begins : int_le p.at lo ≡ true = grind (arith, ints) in
    ap (λ k. int_le hi (get_or (p ∷ ps) k d).at) place ∙ ap (λ q. int_le hi q.at) (last_read p ps d)
    ∙ ap (λ b. b && int_le hi (last_of p ps).at) (sym begins)
