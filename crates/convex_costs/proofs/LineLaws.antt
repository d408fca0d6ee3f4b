-- Breakpoints that rise by whole slopes: the cost on the lines between them, and how large it is.
use Rattle.std.proofs.Common.{◌≡◌, ℕ, suc, ◌≤◌, max, ℤ, pos, ◌+ℤ◌, ◌-ℤ◌, ◌*ℤ◌, ◌≤ℤ◌, ◌<ℤ◌, unsigned_abs, int_le}
use Rattle.std.proofs.Common.{int_rem, Bool, true, false, cond, List, [], ◌∷◌, map, ◌⊎◌, inl, inr, refl, ap, arith, sym}
use Rattle.std.proofs.Common.{◌∙◌, Option, Some, None, subst}
use Rattle.std.proofs.lemmas.Int.{ints, quot-rem}
use Rattle.std.proofs.Math.IntN.{*ℤ-zero}
use Rattle.lattice_theory.specs.Lists.{greatest}
use Rattle.fold_theory.specs.declared.Breakpoint.{Breakpoint}
use Rattle.fold_theory.specs.Costs.{slope, on_lines}
use Rattle.lattice_laws.proofs.Tests.{le_or_less, int_le_true}
use Rattle.lattice_laws.proofs.Products.{times_sum}
use Rattle.convex_costs.specs.Faults.{first_failing, first_bend, is_right, has_whole_slope}
use Rattle.convex_costs.proofs.Products.{times_next, multiples_agree}

-- ---- what the tests of a walk say

-- the second breakpoint is right of the first, and the slope between them is whole
pub record IsLine (p q : Breakpoint) : Type 0 where
  pub right : p.at <ℤ q.at
  pub whole : slope p q *ℤ (q.at -ℤ p.at) ≡ q.value -ℤ p.value

-- so it is of each two neighbours
abbrev pub AreLines : List Breakpoint → Type 0
AreLines [] = Unit {0}
AreLines (p ∷ []) = Unit {0}
AreLines (p ∷ q ∷ ps) = IsLine p q × AreLines (q ∷ ps)

-- no slope is less than the one before
abbrev pub SlopesRise : List Breakpoint → Type 0
SlopesRise [] = Unit {0}
SlopesRise (p ∷ []) = Unit {0}
SlopesRise (p ∷ q ∷ []) = Unit {0}
SlopesRise (p ∷ q ∷ r ∷ ps) = (slope p q ≤ℤ slope q r) × SlopesRise (q ∷ r ∷ ps)

-- where a walk finds nothing, it finds nothing here nor behind
pub none_found : (b : Bool) (rest : Option ℕ) (n : ℕ) → cond b rest (Some n) ≡ None → (b ≡ true) × (rest ≡ None)
none_found true rest n none = (refl, none)
none_found false rest n none = absurd (cc)

pub right_of : (p q : Breakpoint) → is_right p q ≡ true → p.at <ℤ q.at
right_of p q test = grind (arith, ints)

pub whole_of : (p q : Breakpoint) → has_whole_slope p q ≡ true → slope p q *ℤ (q.at -ℤ p.at) ≡ q.value -ℤ p.value
whole_of p q test =
    let rest : int_rem (q.value -ℤ p.value) (q.at -ℤ p.at) ≡ pos 0 = grind (arith, ints) in
    omega (arith, ints, quot-rem (q.value -ℤ p.value) (q.at -ℤ p.at), rest)

pub lines_of : (j k : ℕ) (ps : List Breakpoint) → first_failing is_right j ps ≡ None →
    first_failing has_whole_slope k ps ≡ None → AreLines ps
lines_of j k [] rising whole = tt
lines_of j k (p ∷ []) rising whole = tt
lines_of j k (p ∷ q ∷ ps) rising whole =
    let here = none_found (is_right p q) (first_failing is_right (suc j) (q ∷ ps)) (suc j) rising in
    let there = none_found (has_whole_slope p q) (first_failing has_whole_slope (suc k) (q ∷ ps)) (suc k) whole in
    let line : IsLine p q = record { right = right_of p q here.0; whole = whole_of p q there.0 } in
    (line, lines_of (suc j) (suc k) (q ∷ ps) here.1 there.1)

pub slopes_rise_of : (j : ℕ) (ps : List Breakpoint) → first_bend j ps ≡ None → SlopesRise ps
slopes_rise_of j [] none = tt
slopes_rise_of j (p ∷ []) none = tt
slopes_rise_of j (p ∷ q ∷ []) none = tt
slopes_rise_of j (p ∷ q ∷ r ∷ ps) none =
    let here = none_found (int_le (slope p q) (slope q r)) (first_bend (suc j) (q ∷ r ∷ ps)) (suc (suc j)) none in
    (int_le_true (slope p q) (slope q r) here.0, slopes_rise_of (suc j) (q ∷ r ∷ ps) here.1)

-- ---- one line

-- the value at v on the line from p to q
abbrev pub on_line : Breakpoint → Breakpoint → ℤ → ℤ
on_line p q v = p.value +ℤ slope p q *ℤ (v -ℤ p.at)

pub on_line-start : (p q : Breakpoint) → on_line p q p.at ≡ p.value
on_line-start p q =
    let none : p.at -ℤ p.at ≡ pos 0 = omega (arith, ints) in
    let product = ap (λ d. slope p q *ℤ d) none ∙ *ℤ-zero (slope p q) in
    omega (arith, ints, product)

pub on_line-end : (p q : Breakpoint) → IsLine p q → on_line p q q.at ≡ q.value
on_line-end p q line = omega (arith, ints, line.whole)

pub on_line-next : (p q : Breakpoint) (v : ℤ) → on_line p q (v +ℤ pos 1) ≡ on_line p q v +ℤ slope p q
on_line-next p q v =
    let further : v +ℤ pos 1 -ℤ p.at ≡ v -ℤ p.at +ℤ pos 1 = omega (arith, ints) in
    let product = ap (λ d. slope p q *ℤ d) further ∙ times_next (slope p q) (v -ℤ p.at) in
    omega (arith, ints, product)

-- between two numbers on one side of 0, a part and its rest
between : (a b x y : ℤ) → b -ℤ a ≡ x +ℤ y → ((pos 0 ≤ℤ x) × (pos 0 ≤ℤ y)) ⊎ ((x ≤ℤ pos 0) × (y ≤ℤ pos 0)) →
    unsigned_abs (a +ℤ x) ≤ max (unsigned_abs a) (unsigned_abs b)
between a b x y whole (inl up) = omega (arith, ints, whole, up.0, up.1)
between a b x y whole (inr down) = omega (arith, ints, whole, down.0, down.1)

-- a distance is a natural number
distance : (a b : ℤ) → a ≤ℤ b → (n : ℕ) × (b -ℤ a ≡ pos n)
distance a b below = (unsigned_abs (b -ℤ a), omega (arith, ints))

-- between its ends, a line is no larger than at them
pub on_line-small : (p q : Breakpoint) (v : ℤ) → IsLine p q → p.at ≤ℤ v → v ≤ℤ q.at →
    unsigned_abs (on_line p q v) ≤ max (unsigned_abs p.value) (unsigned_abs q.value)
on_line-small p q v line low high =
    let before = distance p.at v low in
    let behind = distance v q.at high in
    let s = slope p q in
    let run : q.at -ℤ p.at ≡ pos before.0 +ℤ pos behind.0 = omega (arith, ints, before.1, behind.1) in
    let parts = sym line.whole ∙ ap (λ d. s *ℤ d) run ∙ times_sum s (pos before.0) (pos behind.0) in
    let here : on_line p q v ≡ p.value +ℤ s *ℤ pos before.0 = ap (λ d. p.value +ℤ s *ℤ d) before.1 in
    subst (λ w. unsigned_abs w ≤ max (unsigned_abs p.value) (unsigned_abs q.value)) (sym here)
    (between p.value q.value (s *ℤ pos before.0) (s *ℤ pos behind.0) parts (multiples_agree s before.0 behind.0))

-- ---- all lines

pub on_lines-first : (p q : Breakpoint) (ps : List Breakpoint) (v : ℤ) → v ≤ℤ q.at →
    on_lines (p ∷ q ∷ ps) v ≡ on_line p q v
on_lines-first p q ps v here =
    let test : int_le v q.at ≡ true = grind (arith, ints) in
    ap (λ t. elim t [ true ↦ on_line p q v | false ↦ on_lines (q ∷ ps) v ]) test

pub on_lines-later : (p q : Breakpoint) (ps : List Breakpoint) (v : ℤ) → q.at <ℤ v →
    on_lines (p ∷ q ∷ ps) v ≡ on_lines (q ∷ ps) v
on_lines-later p q ps v later =
    let test : int_le v q.at ≡ false = grind (arith, ints) in
    ap (λ t. elim t [ true ↦ on_line p q v | false ↦ on_lines (q ∷ ps) v ]) test

pub on_lines-start : (p : Breakpoint) (ps : List Breakpoint) → AreLines (p ∷ ps) → on_lines (p ∷ ps) p.at ≡ p.value
on_lines-start p [] lines = refl
on_lines-start p (q ∷ ps) lines =
    let right = lines.0.right in
    on_lines-first p q ps p.at (omega (arith, ints, right)) ∙ on_line-start p q

-- from its second breakpoint on, the first breakpoint does not count
pub on_lines-behind : (p q : Breakpoint) (ps : List Breakpoint) (v : ℤ) → AreLines (p ∷ q ∷ ps) → q.at ≤ℤ v →
    on_lines (p ∷ q ∷ ps) v ≡ on_lines (q ∷ ps) v
on_lines-behind p q ps v lines behind = by (le_or_less v q.at)
  where
    by : (v ≤ℤ q.at) ⊎ (q.at <ℤ v) → on_lines (p ∷ q ∷ ps) v ≡ on_lines (q ∷ ps) v
    by (inr later) = on_lines-later p q ps v later
    by (inl here) =
        let same : v ≡ q.at = omega (arith, ints) in
        on_lines-first p q ps v here ∙ ap (on_line p q) same ∙ on_line-end p q lines.0
        ∙ sym (on_lines-start q ps lines.1) ∙ ap (on_lines (q ∷ ps)) (sym same)

-- no value is larger than the greatest at a breakpoint
pub on_lines-small : (p : Breakpoint) (ps : List Breakpoint) (v : ℤ) → AreLines (p ∷ ps) → p.at ≤ℤ v →
    unsigned_abs (on_lines (p ∷ ps) v) ≤ greatest (map (λ r. unsigned_abs r.value) (p ∷ ps))
on_lines-small p [] v lines low = omega arith
on_lines-small p (q ∷ ps) v lines low = by (le_or_less v q.at) (λ later. on_lines-small q ps v lines.1 later)
  where
    by : (v ≤ℤ q.at) ⊎ (q.at <ℤ v) → (q.at ≤ℤ v →
        unsigned_abs (on_lines (q ∷ ps) v) ≤ greatest (map (λ r. unsigned_abs r.value) (q ∷ ps))) →
        unsigned_abs (on_lines (p ∷ q ∷ ps) v) ≤ greatest (map (λ r. unsigned_abs r.value) (p ∷ q ∷ ps))
    by (inl here) rest =
        let same = ap unsigned_abs (on_lines-first p q ps v here) in
        let small = on_line-small p q v lines.0 low here in
        omega (arith, same, small)
    by (inr later) rest =
        let same = ap unsigned_abs (on_lines-later p q ps v later) in
        let small = rest (omega (arith, ints)) in
        omega (arith, same, small)
