-- Neighbours in a list of breakpoints, as a walk from place to place meets them.
use Rattle.std.proofs.Common.{◌≡◌, ℕ, zero, suc, ◌+◌, ◌-◌, ◌<◌, ◌≤◌, pos, ◌<ℤ◌, List, [], ◌∷◌, length, get_or, drop}
use Rattle.std.proofs.Common.{Bool, true, false, cond, ap, arith, sym, ◌∙◌, Some, None, refl, subst, int_le}
use Rattle.std.proofs.lemmas.List.{at_drop_more, length-drop}
use Rattle.fold_theory.specs.declared.Breakpoint.{Breakpoint}
use Rattle.fold_theory.specs.Costs.{slope}
use Rattle.convex_costs.specs.Faults.{first_failing, first_bend, is_right}
use Rattle.convex_costs.proofs.LineLaws.{none_found, right_of}

-- what a read past the end of a list of breakpoints gives
abbrev pub origin : Breakpoint
origin = record { at = pos 0; value = pos 0 }

-- from the place before on, the list begins with these two
pub drop_two : {X : Type 0} (xs : List X) (at : ℕ) (d : X) → 1 ≤ at → at < length xs →
    drop (at - 1) xs ≡ get_or xs (at - 1) d ∷ get_or xs at d ∷ drop (at + 1) xs
drop_two xs at d from inside =
    let next : at - 1 + 1 ≡ at = omega arith in
    at_drop_more (λ ys. ys) xs (at - 1) d (omega arith)
    ∙ ap (λ i. get_or xs (at - 1) d ∷ drop i xs) next
    ∙ ap (λ ys. get_or xs (at - 1) d ∷ ys) (at_drop_more (λ ys. ys) xs at d inside)

-- from two places before on, with these three
pub drop_three : {X : Type 0} (xs : List X) (at : ℕ) (d : X) → 2 ≤ at → at < length xs →
    drop (at - 2) xs ≡ get_or xs (at - 2) d ∷ get_or xs (at - 1) d ∷ get_or xs at d ∷ drop (at + 1) xs
drop_three xs at d from inside =
    let next : at - 2 + 1 ≡ at - 1 = omega arith in
    at_drop_more (λ ys. ys) xs (at - 2) d (omega arith)
    ∙ ap (λ i. get_or xs (at - 2) d ∷ drop i xs) next
    ∙ ap (λ ys. get_or xs (at - 2) d ∷ ys) (drop_two xs at d (omega arith) inside)

-- where two neighbours pass the test, the first failure is looked for one place on
pub first_failing-pass : (test : Breakpoint → Breakpoint → Bool) (ps : List Breakpoint) (at : ℕ) (d : Breakpoint) →
    1 ≤ at → at < length ps →
    test (get_or ps (at - 1) d) (get_or ps at d) ≡ true →
    first_failing test at (drop (at - 1) ps) ≡ first_failing test (at + 1) (drop (at + 1 - 1) ps)
first_failing-pass test ps at d from inside passes =
    let number : suc at ≡ at + 1 = omega arith in
    let place : at ≡ at + 1 - 1 = omega arith in
    let rest = sym (at_drop_more (λ ys. ys) ps at d inside) ∙ ap (λ i. drop i ps) place in
    ap (first_failing test at) (drop_two ps at d from inside)
    ∙ ap (λ b. cond b (first_failing test (suc at) (get_or ps at d ∷ drop (at + 1) ps)) (Some (suc at))) passes
    ∙ (λ i. first_failing test (number i) (rest i))

-- where they fail, it is found
pub first_failing-fail : (test : Breakpoint → Breakpoint → Bool) (ps : List Breakpoint) (at : ℕ) (d : Breakpoint) →
    1 ≤ at → at < length ps →
    test (get_or ps (at - 1) d) (get_or ps at d) ≡ false → first_failing test at (drop (at - 1) ps) ≡ Some (at + 1)
first_failing-fail test ps at d from inside fails =
    let number : suc at ≡ at + 1 = omega arith in
    ap (first_failing test at) (drop_two ps at d from inside)
    ∙ ap (λ b. cond b (first_failing test (suc at) (get_or ps at d ∷ drop (at + 1) ps)) (Some (suc at))) fails
    ∙ ap Some number

-- the slope that ends at the place is not less than the one before
abbrev pub slope_rises : List Breakpoint → ℕ → Breakpoint → Bool
slope_rises ps at d =
    int_le (slope (get_or ps (at - 2) d) (get_or ps (at - 1) d)) (slope (get_or ps (at - 1) d) (get_or ps at d))

-- where the slope does not fall, the first bend is looked for one place on
pub first_bend-pass : (ps : List Breakpoint) (at : ℕ) (d : Breakpoint) → 2 ≤ at → at < length ps →
    slope_rises ps at d ≡ true →
    first_bend (at - 1) (drop (at - 2) ps) ≡ first_bend (at + 1 - 1) (drop (at + 1 - 2) ps)
first_bend-pass ps at d from inside passes =
    let number : suc (at - 1) ≡ at + 1 - 1 = omega arith in
    let behind = get_or ps (at - 1) d ∷ get_or ps at d ∷ drop (at + 1) ps in
    let place : at - 1 ≡ at + 1 - 2 = omega arith in
    let rest = sym (drop_two ps at d (omega arith) inside) ∙ ap (λ i. drop i ps) place in
    ap (first_bend (at - 1)) (drop_three ps at d from inside)
    ∙ ap (λ b. cond b (first_bend (suc (at - 1)) behind) (Some (suc (suc (at - 1))))) passes
    ∙ (λ i. first_bend (number i) (rest i))

-- where it falls, it is found
pub first_bend-fail : (ps : List Breakpoint) (at : ℕ) (d : Breakpoint) → 2 ≤ at → at < length ps →
    slope_rises ps at d ≡ false →
    first_bend (at - 1) (drop (at - 2) ps) ≡ Some (at + 1)
first_bend-fail ps at d from inside fails =
    let number : suc (suc (at - 1)) ≡ at + 1 = omega arith in
    let behind = get_or ps (at - 1) d ∷ get_or ps at d ∷ drop (at + 1) ps in
    ap (first_bend (at - 1)) (drop_three ps at d from inside)
    ∙ ap (λ b. cond b (first_bend (suc (at - 1)) behind) (Some (suc (suc (at - 1))))) fails
    ∙ ap Some number

-- at the end of the list nothing is left that could fail
pub first_failing-end : (test : Breakpoint → Breakpoint → Bool) (ps : List Breakpoint) (at : ℕ) → 1 ≤ at →
    length ps ≤ at → first_failing test at (drop (at - 1) ps) ≡ None
first_failing-end test ps at from end = short at (drop (at - 1) ps) (omega (arith, length-drop (at - 1) ps))
  where
    short : (j : ℕ) (rest : List Breakpoint) → length rest ≤ 1 → first_failing test j rest ≡ None
    short j [] few = refl
    short j (p ∷ []) few = refl
    short j (p ∷ q ∷ rest) few = absurd (omega arith)

-- nor that could bend
pub first_bend-end : (ps : List Breakpoint) (at : ℕ) → 2 ≤ at → length ps ≤ at →
    first_bend (at - 1) (drop (at - 2) ps) ≡ None
first_bend-end ps at from end = short (at - 1) (drop (at - 2) ps) (omega (arith, length-drop (at - 2) ps))
  where
    short : (j : ℕ) (rest : List Breakpoint) → length rest ≤ 2 → first_bend j rest ≡ None
    short j [] few = refl
    short j (p ∷ []) few = refl
    short j (p ∷ q ∷ []) few = refl
    short j (p ∷ q ∷ r ∷ rest) few = absurd (omega arith)

-- where no breakpoint fails to be right of the one before, each is
pub rising_at : (j : ℕ) (ps : List Breakpoint) (i : ℕ) (d : Breakpoint) → first_failing is_right j ps ≡ None →
    suc i < length ps →
    (get_or ps i d).at <ℤ (get_or ps (suc i) d).at
rising_at j [] i d none inside = absurd (omega arith)
rising_at j (p ∷ []) i d none inside = absurd (omega arith)
rising_at j (p ∷ q ∷ ps) zero d none inside =
    let here = none_found (is_right p q) (first_failing is_right (suc j) (q ∷ ps)) (suc j) none in right_of p q here.0
rising_at j (p ∷ q ∷ ps) (suc i) d none inside =
    let here = none_found (is_right p q) (first_failing is_right (suc j) (q ∷ ps)) (suc j) none in
    rising_at (suc j) (q ∷ ps) i d here.1 (omega arith)

-- the same by the place of the second one
pub rising_to : (ps : List Breakpoint) (at : ℕ) (d : Breakpoint) → first_failing is_right 1 ps ≡ None → 1 ≤ at →
    at < length ps →
    (get_or ps (at - 1) d).at <ℤ (get_or ps at d).at
rising_to ps at d none from inside =
    let place : suc (at - 1) ≡ at = omega arith in
    subst (λ k. (get_or ps (at - 1) d).at <ℤ (get_or ps k d).at) place (rising_at 1 ps (at - 1) d none (omega arith))

-- and one place before
pub rising_before : (ps : List Breakpoint) (at : ℕ) (d : Breakpoint) → first_failing is_right 1 ps ≡ None →
    2 ≤ at → at < length ps →
    (get_or ps (at - 2) d).at <ℤ (get_or ps (at - 1) d).at
rising_before ps at d none from inside =
    let place : at - 1 - 1 ≡ at - 2 = omega arith in
    let rises = rising_to ps (at - 1) d none (omega arith) (omega arith) in
    subst (λ k. (get_or ps k d).at <ℤ (get_or ps (at - 1) d).at) place rises
