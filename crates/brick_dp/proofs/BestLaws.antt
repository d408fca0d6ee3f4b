-- The best step of one length, or none, and the answer under a bound.
use Rattle.std.proofs.Common.{◌≡◌, ℕ, ◌+◌, ◌-◌, ℤ, pos, ◌-ℤ◌, ◌<ℤ◌, ◌≤ℤ◌, Bool, true, false, List, [], ◌∷◌, length}
use Rattle.std.proofs.Common.{refl, ap, arith, sym, ◌∙◌, Some, None, Option, slice_get, subst, All, IsTrue, Contains}
use Rattle.std.proofs.Common.{unsigned_abs, inl, inr, int_lt, cond}
use Rattle.std.proofs.lemmas.Int.{ints}
use Rattle.std.specs.Ordering.{int_cmp, nat_cmp, ordering_then, is_le}
use Rattle.std.specs.Cmp.Lexicographic.{slice_cmp}
use Rattle.std.specs.declared.cmp.Ordering.{Ordering}
use Rattle.std.specs.declared.cmp.Ordering.TheVariants.{Less, Equal, Greater}
use Rattle.lattice_theory.specs.Vectors.{zeros, lex_cmp, is_rising}
use Rattle.lattice_theory.specs.SignedSums.{Sum, vectors}
use Rattle.run_theory.specs.declared.Key.{Key}
use Rattle.run_theory.specs.Keys.{beaten}
use Rattle.fold_theory.specs.Programs.{IsProgram, AreWithin, IsLength, Bricks, link_rests, phase_cost}
use Rattle.run_theory.specs.Steps.{moved}
use Rattle.run_theory.specs.Outcomes.{Step}
use Rattle.walk_laws.proofs.BestWalks.{IsLeastWalk}
use Rattle.brick_sums.specs.Places.{width}
use Rattle.run_theory.specs.Folds.{FoldValue}
use Rattle.run_theory.specs.Bests.{IsFound, IsBeaten}
use Rattle.sieve_laws.proofs.Existence.{BestOrNone, best_or_none}
use Rattle.brick_dp.specs.Needs.{NoneGains, IsStepUnder}
use Rattle.brick_dp.proofs.NeedLaws.{best_found}
use Rattle.run_theory.specs.Walks.{WalkCosts}
use Rattle.lattice_laws.proofs.Places.{same_value, contains_at}
use Rattle.lattice_laws.proofs.Tests.{le_or_less}
use Rattle.sieve_laws.specs.Sieve.{Layer, IsAtMost, IsLayerUnder}
use Rattle.brick_dp.specs.Tables.{IsLayer, AreLayers, limit_at}

-- ---- answers

not_after : (a b : ℤ) (u : Ordering) → int_lt b a ≡ true → int_lt a b ≡ false →
    IsTrue (is_le (ordering_then (int_cmp a b) u)) → ⊥
not_after a b u e g h =
    let after : int_cmp a b ≡ Greater = ap (λ t. cond t Less (cond (int_lt b a) Greater Equal)) g
    ∙ ap (λ t. cond t Greater Equal) e in
    absurd (cc (ap (λ o. is_le (ordering_then o u)) after, h))

both_ways : (a b : ℤ) (u v : Ordering) → IsTrue (is_le (ordering_then (int_cmp a b) u)) →
    IsTrue (is_le (ordering_then (int_cmp b a) v)) → a ≡ b
both_ways a b u v h k = by (int_lt a b) refl (int_lt b a) refl h k
  where
    by : (s : Bool) → int_lt a b ≡ s → (t : Bool) → int_lt b a ≡ t → IsTrue (is_le (ordering_then (int_cmp a b) u)) →
        IsTrue (is_le (ordering_then (int_cmp b a) v)) → a ≡ b
    by true e true g h k = grind (arith, ints)
    by true e false g h k = absurd (not_after b a v e g k)
    by false e true g h k = absurd (not_after a b u g e h)
    by false e false g h k = grind (arith, ints)

-- two best steps gain the same
same_gain : (f : FoldValue) (x : Bricks) (k : ℕ) (s t : Step) → IsFound f x k s → IsFound f x k t → s.gain ≡ t.gain
same_gain f x k s t (h, best, is) (g, other, also) =
    let cost = phase_cost f.program f.phase in
    let same : cost (moved x k h) ≡ cost (moved x k g) =
    both_ways (cost (moved x k h)) (cost (moved x k g)) (ordering_then (nat_cmp k k) (slice_cmp lex_cmp h g))
    (ordering_then (nat_cmp k k) (slice_cmp lex_cmp g h))
    (best.first g other.augments) (other.first h best.augments) in
    ap (λ (s : Step). s.gain) is ∙ ap (λ c. unsigned_abs (cost x -ℤ c)) same ∙ sym (ap (λ (s : Step). s.gain) also)

-- a best step that the bound does not beat
pub unbeaten : (f : FoldValue) (x : Bricks) (k : ℕ) (s : Step) (bound : Option Key) → IsFound f x k s →
    beaten (record { gain = s.gain; k = k }) bound ≡ false → IsBeaten f x k bound → ⊥
unbeaten f x k s bound found safe (inl none) = none found.0 found.1.augments
unbeaten f x k s bound found safe (inr (t, other, beats)) =
    let same : s.gain ≡ t.gain = same_gain f x k s t found other in
    absurd (cc (ap (λ g. beaten (record { gain = g; k = k }) bound) same))

-- ---- the first node

-- it is as wide as all vectors are
zero_at : (fs : List Sum) (t at : ℕ) → All (λ w. length w ≡ t) (vectors fs) →
    slice_get (vectors fs) at ≡ Some (zeros (width fs)) →
    slice_get (vectors fs) at ≡ Some (zeros t)
zero_at [] t at widths there = absurd (cc)
zero_at (s ∷ fs) t at widths there = let e : length s.vector ≡ t =
    widths 0 s.vector (omega arith) in there ∙ ap (λ n. Some (zeros n)) e

-- where its place is kept with a list of the same sums
pub zero_of : (fs sums : List Sum) (t at : ℕ) → All (λ w. length w ≡ t) (vectors fs) → sums ≡ fs →
    slice_get (vectors sums) at ≡ Some (zeros (width sums)) → slice_get (vectors fs) at ≡ Some (zeros t)
zero_of fs sums t at widths same there =
    zero_at fs t at widths (subst (λ s. slice_get (vectors s) at ≡ Some (zeros (width s))) same there)

-- so it is listed
pub zero_listed : (fs sums : List Sum) (t at : ℕ) → All (λ w. length w ≡ t) (vectors fs) → sums ≡ fs →
    slice_get (vectors sums) at ≡ Some (zeros (width sums)) → Contains (vectors fs) (zeros t)
zero_listed fs sums t at widths same there =
    contains_at (vectors fs) at (zeros t) (zero_of fs sums t at widths same there)

module _ (f : FoldValue) (x : Bricks) (k : ℕ) (need : ℤ) (layers : List Layer)
    (are : AreLayers f x k (length f.program.bricks + 1) need layers)
    (at : ℕ) (layer : Layer) (start : slice_get (vectors f.sums) at ≡ Some (zeros f.program.brick.cols))
    (there : slice_get layers (length f.program.bricks) ≡ Some layer) where
  -- the first layer is under what is to be gained
  first_under : IsLayerUnder f.program f.phase (vectors f.sums) k (link_rests f.program x) f.program.bricks x
      (pos 0 -ℤ need) layer
  first_under =
      let n = length f.program.bricks in
      let none : n - n ≡ 0 = omega arith in
      let first : limit_at f x k need 0 ≡ (pos 0 -ℤ need) = omega (arith, ints) in
      subst (λ limit. IsLayerUnder f.program f.phase (vectors f.sums) k (link_rests f.program x) f.program.bricks x
      limit layer) first
      (subst (λ i. IsLayer f x k i need layer) none (are.each n layer there)).under

  -- a walk from zero that gains so much costs no less than the first cell
  first_low : (h : Bricks) (c : ℤ) →
      WalkCosts f.program f.phase (vectors f.sums) k (link_rests f.program x) f.program.bricks x
      (zeros f.program.brick.cols) h c →
      c ≤ℤ (pos 0 -ℤ need) → IsAtMost layer at c
  first_low h c wc low = first_under.least at (zeros f.program.brick.cols) h c start wc low

  -- where there is no first cell, none gains so much
  pub none_walks : slice_get layer at ≡ Some None → NoneGains f x k need
  none_walks cell h c wc = elim (le_or_less c (pos 0 -ℤ need)) [
    | inr high ↦ high
    | inl low ↦
        let (a, here, _) = first_low h c wc low in
        let same : Some a ≡ None = same_value (slice_get layer at) (Some a) None here cell in
        absurd (cc)
  ]

  -- nor where it is above that
  pub none_lowers : (total : ℤ) → slice_get layer at ≡ Some (Some total) → (pos 0 -ℤ need) <ℤ total →
      NoneGains f x k need
  none_lowers total cell above h c wc = elim (le_or_less c (pos 0 -ℤ need)) [
    | inr high ↦ high
    | inl low ↦
        let (a, here, less) = first_low h c wc low in
        let same : a ≡ total = same_value (Some a) a total refl (same_value (slice_get layer at) (Some a) (Some total)
        here
        cell) in
        absurd (omega (arith, ints, same, less, low, above))
  ]

  -- else it is the least cost of a walk from zero
  pub first_walk : (total : ℤ) → slice_get layer at ≡ Some (Some total) → total ≤ℤ (pos 0 -ℤ need) →
      IsLeastWalk f.program f.phase (vectors f.sums) k (link_rests f.program x) f.program.bricks x
      (zeros f.program.brick.cols) (Some total)
  first_walk total cell enough = (first_under.walks at (zeros f.program.brick.cols) total start cell, least)
    where
      least : (h : Bricks) (c : ℤ) →
          WalkCosts f.program f.phase (vectors f.sums) k (link_rests f.program x) f.program.bricks x
          (zeros f.program.brick.cols) h c → total ≤ℤ c
      least h c wc = elim (le_or_less c (pos 0 -ℤ need)) [
        | inr high ↦ omega (arith, ints, enough, high)
        | inl low ↦
            let (a, here, less) = first_low h c wc low in
            let same : a ≡ total = same_value (Some a) a total refl
            (same_value (slice_get layer at) (Some a) (Some total)
            here cell) in
            omega (arith, ints, same, less)
      ]

-- the best step gains what the least walk lowers the cost by
pub found_gain : (f : FoldValue) (x : Bricks) (k : ℕ) → IsProgram f.program → AreWithin f.program.bricks x →
    f.program.brick.cols ≡ f.program.link.cols →
    All (λ w. length w ≡ f.program.brick.cols) (vectors f.sums) → is_rising (vectors f.sums) ≡ true →
    IsLength f.program k → (s : Step) (total : ℤ) →
    total <ℤ pos 0 → IsFound f x k s →
    IsLeastWalk f.program f.phase (vectors f.sums) k (link_rests f.program x) f.program.bricks x
    (zeros f.program.brick.cols) (Some total) →
    s.gain ≡ unsigned_abs total
found_gain f x k program within cols widths rising fits s total low found ((g, walk), least) =
    by (best_or_none f.program f.phase (vectors f.sums) k (link_rests f.program x) rising f.program.bricks x
    (zeros f.program.brick.cols))
  where
    by : BestOrNone f.program f.phase (vectors f.sums) k (link_rests f.program x) f.program.bricks x
        (zeros f.program.brick.cols) → s.gain ≡ unsigned_abs total
    by (inr none) = absurd (none g total walk)
    by (inl (h, c, best)) =
        let up = best.least g total walk in
        let down = least h c best.walk in
        let same : c ≡ total = omega (arith, ints, up, down) in
        same_gain f x k s _ found (best_found f x k program within cols widths h c fits (omega (arith, ints, up, low))
        best) ∙ ap unsigned_abs same

pub under_some : (f : FoldValue) (x : Bricks) (k : ℕ) (need : ℤ) (o : Option Step) (s : Step) →
    IsStepUnder f x k need o → o ≡ Some s → IsStepUnder f x k need (Some s)
under_some f x k need o s under e = subst (IsStepUnder f x k need) e under

pub under_none : (f : FoldValue) (x : Bricks) (k : ℕ) (need : ℤ) (o : Option Step) → IsStepUnder f x k need o →
    o ≡ None → NoneGains f x k need
under_none f x k need o under e = subst (IsStepUnder f x k need) e under
