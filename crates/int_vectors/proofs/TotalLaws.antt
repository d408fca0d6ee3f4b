-- Laws of the first entry of a sum that is past the range.
use Rattle.std.proofs.Common.{◌≡◌, ℕ, suc, ◌+◌, ℤ, ◌+ℤ◌, Bool, true, false, [], ◌∷◌, ◌++◌, length, refl, ap, arith, sym}
use Rattle.std.proofs.Common.{◌∙◌, IsTrue, not, cond, Option, Some, None}
use Rattle.std.specs.List.{position_from}
use Rattle.std.proofs.lemmas.Bool.{false_from_ne_true}
use Rattle.lattice_theory.specs.Vectors.{Vector, add, is_bounded, first_unbounded}

-- the first place past the range, where the places count from i
abbrev first_from : ℕ → Vector → Option ℕ
first_from i v = position_from (λ a. not (is_bounded a)) i v

-- where the front is within the range, the search goes on behind it
first_from-append : (i : ℕ) (xs ys : Vector) → first_from i xs ≡ None →
    first_from i (xs ++ ys) ≡ first_from (i + length xs) ys
first_from-append i [] ys within = ap (λ n. first_from n ys) (omega arith)
first_from-append i (x ∷ xs) ys within =
    by (not (is_bounded x)) (λ rest. first_from-append (i + 1) xs ys rest ∙ ap (λ n. first_from n ys) (omega arith))
    within
  where
    by : (large : Bool) →
        (first_from (i + 1) xs ≡ None → first_from (i + 1) (xs ++ ys) ≡ first_from (i + suc (length xs)) ys) →
        cond large (Some i) (first_from (i + 1) xs) ≡ None →
        cond large (Some i) (first_from (i + 1) (xs ++ ys)) ≡ first_from (i + suc (length xs)) ys
    by true go_on none = absurd (cc)
    by false go_on none = go_on none

-- what is done is within the range, and the next entry is not: that is the first place
pub first_unbounded-next : (done : Vector) (x y : ℤ) (whole u v u' v' : Vector) → first_unbounded done ≡ None →
    u ≡ x ∷ u' → v ≡ y ∷ v' → done ++ add u v ≡ whole → (IsTrue (is_bounded (x +ℤ y)) → ⊥) →
    first_unbounded whole ≡ Some (length done)
first_unbounded-next done x y whole u v u' v' within left right so_far large =
    let opened = rw (left, right) at so_far in
    let behind = first_from-append 0 done ((x +ℤ y) ∷ add u' v') within in
    ap first_unbounded (sym opened) ∙ behind ∙ at_it (is_bounded (x +ℤ y)) (false_from_ne_true _ large)
    ∙ ap Some (omega arith)
  where
    at_it : (b : Bool) → b ≡ false →
        cond (not b) (Some (0 + length done)) (first_from (0 + length done + 1) (add u' v')) ≡ Some (0 + length done)
    at_it true e = absurd (cc)
    at_it false e = refl

-- an entry within the range behind such entries
pub first_unbounded-snoc : (done : Vector) (z : ℤ) → first_unbounded done ≡ None → is_bounded z ≡ true →
    first_unbounded (done ++ z ∷ []) ≡ None
first_unbounded-snoc done z within small = first_from-append 0 done (z ∷ []) within ∙ at_it (is_bounded z) small
  where
    at_it : (b : Bool) → b ≡ true → cond (not b) (Some (0 + length done)) None ≡ None
    at_it true e = refl
    at_it false e = absurd (cc)
