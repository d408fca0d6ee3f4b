-- Where a vector stands in a rising list.
use Rattle.std.proofs.Common.{◌≡◌, ℕ, zero, suc, ◌+◌, ◌<◌, ◌≤◌, true, cond, List, [], ◌∷◌, length, Some, None, refl, ap}
use Rattle.std.proofs.Common.{arith, sym, ◌∙◌, subst, slice_get, inl, inr, ℤ}
use Rattle.std.specs.Option.{option_map}
use Rattle.std.specs.Ordering.{is_lt, is_eq, int_cmp, int_eq, ordering_reverse, eq_by_cmp}
use Rattle.std.specs.Cmp.Lexicographic.{lists_ties}
use Rattle.std.specs.declared.cmp.Ordering.TheVariants.{Less, Equal, Greater}
use Rattle.std.proofs.lemmas.Bool.{cases_lt}
use Rattle.std.proofs.lemmas.Option.{slice_get_within, get_or_from_slice_get}
use Rattle.lattice_theory.specs.Vectors.{Vector, lex_cmp, lex_less, is_rising, same}
use Rattle.lattice_laws.proofs.Tests.{same_true, same_refl, true_or_false}
use Rattle.lattice_laws.proofs.Rising.{lex_total, lex_less_trans, lex_less_irrefl, rising_tail, rising_above}
use Rattle.lattice_laws.proofs.Rising.{rising_places}
use Rattle.listed_sums.specs.Places.{place_in}

-- ---- the order

pub less_is : (u v : Vector) → lex_cmp u v ≡ Less → lex_less u v ≡ true
less_is u v is = ap is_lt is

pub greater_is : (u v : Vector) → lex_cmp u v ≡ Greater → lex_less v u ≡ true
greater_is u v is = ap is_lt (lex_total.antisymm v u ∙ ap ordering_reverse is)

-- ---- the place

-- a member has its place
pub place-here : (zs : List Vector) (i : ℕ) (w : Vector) → is_rising zs ≡ true → slice_get zs i ≡ Some w →
    place_in zs w ≡ Some i
place-here [] i w rising here = absurd (cc)
place-here (z ∷ zs) zero w rising here =
    let head : z ≡ w = cc in
    ap (λ t. cond t (Some 0) (option_map suc (place_in zs w))) (subst (λ v. same v w ≡ true) (sym head) (same_refl w))
place-here (z ∷ zs) (suc i) w rising here = elim (true_or_false (same z w)) [
  | inl head ↦
      let above = rising_above z zs w rising (i, slice_get_within zs i w here, get_or_from_slice_get zs i w w here) in
      absurd (lex_less_irrefl w (subst (λ v. lex_less v w ≡ true) (same_true z w head) above))
  | inr other ↦
      ap (λ t. cond t (Some 0) (option_map suc (place_in zs w))) other
      ∙ ap (option_map suc) (place-here zs i w (rising_tail z zs rising) here)
]

-- what is no member has none
pub place-none : (zs : List Vector) (w : Vector) → ((k : ℕ) (v : Vector) → slice_get zs k ≡ Some v → v ≡ w → ⊥) →
    place_in zs w ≡ None
place-none [] w others = refl
place-none (z ∷ zs) w others = elim (true_or_false (same z w)) [
  | inl head ↦ absurd (others 0 z refl (same_true z w head))
  | inr other ↦
      ap (λ t. cond t (Some 0) (option_map suc (place_in zs w))) other
      ∙ ap (option_map suc) (place-none zs w (λ k v here. others (suc k) v here))
]

-- ---- a search by halves

-- all before low are less than w, and all from high on are greater
pub record Between (zs : List Vector) (w : Vector) (low high : ℕ) : Type 0 where
  pub less : (k : ℕ) (v : Vector) → k < low → slice_get zs k ≡ Some v → lex_less v w ≡ true
  pub greater : (k : ℕ) (v : Vector) → high ≤ k → slice_get zs k ≡ Some v → lex_less w v ≡ true
  pub upto : high ≤ length zs

pub between-all : (zs : List Vector) (w : Vector) (n : ℕ) → n ≡ length zs → Between zs w 0 n
between-all zs w n all = record {
  less = λ k v low here. absurd (omega arith);
  greater = λ k v past here. absurd (omega (arith, slice_get_within zs k v here));
  upto = omega arith;
}

-- at one place there is one member
at_one : (zs : List Vector) (i j : ℕ) (u v : Vector) → i ≡ j → slice_get zs i ≡ Some u → slice_get zs j ≡ Some v → u ≡ v
at_one zs i j u v place there here = cc

pub between-less : (zs : List Vector) (w : Vector) (low high middle : ℕ) (m : Vector) → is_rising zs ≡ true →
    Between zs w low high → slice_get zs middle ≡ Some m → lex_cmp m w ≡ Less → Between zs w (middle + 1) high
between-less zs w low high middle m rising b here is = record {
  less = λ k v before there. elim (cases_lt k middle) [
    | inl earlier ↦ lex_less_trans v m w (rising_places zs k middle v m rising earlier there here) (less_is m w is)
    | inr at ↦
        let place : k ≡ middle = omega arith in
        let same : v ≡ m = at_one zs k middle v m place there here in
        subst (λ x. lex_less x w ≡ true) (sym same) (less_is m w is)
  ];
  greater = b.greater;
  upto = b.upto;
}

pub between-greater : (zs : List Vector) (w : Vector) (low high middle : ℕ) (m : Vector) → is_rising zs ≡ true →
    Between zs w low high → slice_get zs middle ≡ Some m → lex_cmp m w ≡ Greater → Between zs w low middle
between-greater zs w low high middle m rising b here is = record {
  less = b.less;
  greater = λ k v past there. elim (cases_lt middle k) [
    | inl later ↦ lex_less_trans w m v (greater_is m w is) (rising_places zs middle k m v rising later here there)
    | inr at ↦
        let place : k ≡ middle = omega arith in
        let same : v ≡ m = at_one zs k middle v m place there here in
        subst (λ x. lex_less w x ≡ true) (sym same) (greater_is m w is)
  ];
  upto = omega (arith, slice_get_within zs middle m here);
}

-- equal is the member itself
pub found_there : (zs : List Vector) (w : Vector) (middle : ℕ) (m : Vector) → is_rising zs ≡ true →
    slice_get zs middle ≡ Some m → lex_cmp m w ≡ Equal → Some middle ≡ place_in zs w
found_there zs w middle m rising here is =
    let same_test : same m w ≡ true = lists_ties int_cmp by_cmp m w ∙ ap is_eq is in
    sym (place-here zs middle w rising (here ∙ ap Some (same_true m w same_test)))
  where
    by_cmp : (x y : ℤ) → int_eq x y ≡ eq_by_cmp int_cmp x y
    by_cmp x y = refl

-- nothing is left
pub found_nowhere : (zs : List Vector) (w : Vector) (low high : ℕ) → Between zs w low high → high ≤ low →
    None ≡ place_in zs w
found_nowhere zs w low high b past =
    sym (place-none zs w (λ k v here same. elim (cases_lt k low) [
      | inl before ↦ lex_less_irrefl w (subst (λ x. lex_less x w ≡ true) same (b.less k v before here))
      | inr behind ↦ lex_less_irrefl w (subst (λ x. lex_less w x ≡ true) same (b.greater k v (omega arith) here))
    ]))
