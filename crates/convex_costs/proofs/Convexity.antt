-- Quadratic costs with a positive square, and lines whose slopes rise, are convex.
use Rattle.std.proofs.Common.{◌≡◌, ℤ, pos, ◌+ℤ◌, ◌-ℤ◌, ◌*ℤ◌, ◌≤ℤ◌, ◌<ℤ◌, List, [], ◌∷◌, ◌⊎◌, inl, inr, subst, ap, arith}
use Rattle.std.proofs.Common.{sym, ◌∙◌}
use Rattle.std.proofs.lemmas.Int.{ints}
use Rattle.fold_theory.specs.declared.Cost.TheVariants.{Quadratic}
use Rattle.fold_theory.specs.declared.Breakpoint.{Breakpoint}
use Rattle.fold_theory.specs.Costs.{slope, on_lines, value, IsConvexOn}
use Rattle.lattice_laws.proofs.Tests.{le_or_less}
use Rattle.convex_costs.specs.Faults.{last_of}
use Rattle.convex_costs.proofs.Products.{times_next, times_next_square}
use Rattle.convex_costs.proofs.LineLaws.{AreLines, SlopesRise, on_line, on_line-end, on_line-start, on_line-next}
use Rattle.convex_costs.proofs.LineLaws.{on_lines-first, on_lines-behind}

-- the second difference at v is not negative
abbrev pub IsConvexAt : (ℤ → ℤ) → ℤ → Type 0
IsConvexAt f v = (f v +ℤ f v) ≤ℤ (f (v -ℤ pos 1) +ℤ f (v +ℤ pos 1))

-- a second difference of a quadratic cost is 2a
pub quadratic_is_convex : (a b c lo hi : ℤ) → pos 0 ≤ℤ a → IsConvexOn (value (Quadratic a b c)) lo hi
quadratic_is_convex a b c lo hi up v low high =
    let back : v -ℤ pos 1 +ℤ pos 1 ≡ v = omega (arith, ints) in
    let square_here = sym (ap (λ x. a *ℤ (x *ℤ x)) back) ∙ times_next_square a (v -ℤ pos 1) in
    let line_here = sym (ap (λ x. b *ℤ x) back) ∙ times_next b (v -ℤ pos 1) in
    let step_here = sym (ap (λ x. a *ℤ x) back) ∙ times_next a (v -ℤ pos 1) in
    omega (arith, ints, square_here, line_here, step_here, times_next_square a v, times_next b v)

-- a line goes up by its slope to v
on_line-from_before : (p q : Breakpoint) (v : ℤ) → on_line p q v ≡ on_line p q (v -ℤ pos 1) +ℤ slope p q
on_line-from_before p q v =
    let back : v -ℤ pos 1 +ℤ pos 1 ≡ v = omega (arith, ints) in
    sym (ap (on_line p q) back) ∙ on_line-next p q (v -ℤ pos 1)

-- on one line nothing bends
convex_on_line : (p q : Breakpoint) (ps : List Breakpoint) (v : ℤ) → (v +ℤ pos 1) ≤ℤ q.at →
    IsConvexAt (on_lines (p ∷ q ∷ ps)) v
convex_on_line p q ps v inside =
    let before = on_lines-first p q ps (v -ℤ pos 1) (omega (arith, ints, inside)) in
    let here = on_lines-first p q ps v (omega (arith, ints, inside)) in
    let after = on_lines-first p q ps (v +ℤ pos 1) inside in
    omega (arith, ints, before, here, after, on_line-from_before p q v, on_line-next p q v)

-- one place right of the second breakpoint
after_turn : (p q r : Breakpoint) (ps : List Breakpoint) → AreLines (p ∷ q ∷ r ∷ ps) →
    on_lines (p ∷ q ∷ r ∷ ps) (q.at +ℤ pos 1) ≡ q.value +ℤ slope q r
after_turn p q r ps lines =
    let right = lines.1.0.right in
    on_lines-behind p q (r ∷ ps) (q.at +ℤ pos 1) lines (omega (arith, ints))
    ∙ on_lines-first q r ps (q.at +ℤ pos 1) (omega (arith, ints, right))
    ∙ on_line-next q r q.at ∙ ap (λ x. x +ℤ slope q r) (on_line-start q r)

-- at a breakpoint the slope rises
convex_at_turn : (p q r : Breakpoint) (ps : List Breakpoint) → AreLines (p ∷ q ∷ r ∷ ps) → slope p q ≤ℤ slope q r →
    IsConvexAt (on_lines (p ∷ q ∷ r ∷ ps)) q.at
convex_at_turn p q r ps lines rises =
    let before = on_lines-first p q (r ∷ ps) (q.at -ℤ pos 1) (omega (arith, ints)) in
    let here = on_lines-first p q (r ∷ ps) q.at (omega (arith, ints)) in
    let after = after_turn p q r ps lines in
    omega (arith, ints, before, here, on_line-from_before p q q.at, on_line-end p q lines.0, after, rises)

-- right of the second breakpoint the first one does not count
convex_behind : (p q : Breakpoint) (ps : List Breakpoint) (v : ℤ) → AreLines (p ∷ q ∷ ps) → q.at <ℤ v →
    IsConvexAt (on_lines (q ∷ ps)) v →
    IsConvexAt (on_lines (p ∷ q ∷ ps)) v
convex_behind p q ps v lines later rest =
    let before = on_lines-behind p q ps (v -ℤ pos 1) lines (omega (arith, ints, later)) in
    let here = on_lines-behind p q ps v lines (omega (arith, ints, later)) in
    let after = on_lines-behind p q ps (v +ℤ pos 1) lines (omega (arith, ints, later)) in
    omega (arith, ints, rest, before, here, after)

-- lines whose slopes rise are convex from the first to the last breakpoint
pub lines_are_convex : (p : Breakpoint) (ps : List Breakpoint) → AreLines (p ∷ ps) → SlopesRise (p ∷ ps) →
    IsConvexOn (on_lines (p ∷ ps)) p.at (last_of p ps).at
lines_are_convex p [] lines rise v low high = absurd (omega (arith, ints, low, high))
lines_are_convex p (q ∷ ps) lines rise v low high =
    by (le_or_less (v +ℤ pos 1) q.at) (le_or_less v q.at)
    (λ from. lines_are_convex q ps lines.1 (behind ps rise) v from high)
  where
    behind : (rs : List Breakpoint) → SlopesRise (p ∷ q ∷ rs) → SlopesRise (q ∷ rs)
    behind [] rises = tt
    behind (r ∷ rs) rises = rises.1

    turn : (rs : List Breakpoint) → AreLines (p ∷ q ∷ rs) → SlopesRise (p ∷ q ∷ rs) → q.at <ℤ (last_of q rs).at →
        IsConvexAt (on_lines (p ∷ q ∷ rs)) q.at
    turn [] all rises end = absurd (omega (arith, ints, end))
    turn (r ∷ rs) all rises end = convex_at_turn p q r rs all rises.0

    by : ((v +ℤ pos 1) ≤ℤ q.at) ⊎ (q.at <ℤ (v +ℤ pos 1)) → (v ≤ℤ q.at) ⊎ (q.at <ℤ v) →
        ((q.at +ℤ pos 1) ≤ℤ v → IsConvexAt (on_lines (q ∷ ps)) v) → IsConvexAt (on_lines (p ∷ q ∷ ps)) v
    by (inl inside) at rest = convex_on_line p q ps v inside
    by (inr beyond) (inl here) rest =
        let same : q.at ≡ v = omega (arith, ints, beyond, here) in
        subst (IsConvexAt (on_lines (p ∷ q ∷ ps))) same (turn ps lines rise (omega (arith, ints, high, same)))
    by (inr beyond) (inr later) rest = convex_behind p q ps v lines later (rest (omega (arith, ints, later)))
