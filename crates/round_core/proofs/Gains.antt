-- Events keep the gains of all lengths, and a settled round names the best length by them.
use Rattle.std.proofs.Common.{◌≡◌, ℕ, zero, suc, ◌<◌, ◌≤◌, Bool, true, false, cond, List, [], ◌∷◌, length, map, get_or}
use Rattle.std.proofs.Common.{set, Option, Some, None, slice_get, IsTrue, option_map, refl, ap, sym, ◌∙◌, subst, arith}
use Rattle.std.proofs.lemmas.List.{length-map}
use Rattle.std.proofs.lemmas.Option.{same_Some, slice_get_within, slice_get-get_or, get_or_from_slice_get}
use Rattle.run_theory.specs.declared.Key.{Key}
use Rattle.run_theory.specs.Keys.{beats}
use Rattle.run_theory.specs.Bests.{IsBestByGains}
use Rattle.round_core.specs.declared.events.Event.{Event}
use Rattle.round_core.specs.declared.events.Event.TheVariants.{Claim, StoreHigh, StoreLow, LoadBest, LoadHigh, LoadLow}
use Rattle.round_core.specs.declared.events.Event.TheVariants.{Exchange, SplitSeat, JoinSeat}
use Rattle.round_core.specs.declared.parts.Length.{Length}
use Rattle.round_core.specs.Rounds.{Round, unclaimed, gain_at, outranks, index_beats, gains_of, first_round}
use Rattle.round_core.specs.Allowed.{is_allowed}
use Rattle.round_core.specs.Steps.{with_length, handed_over, is_beaten, settled, seeing_best, offering, after, step}
use Rattle.round_core.specs.Steps.{steps, is_settled, best_of}
use Rattle.round_core.specs.Sound.{IsBestLength}
use Rattle.round_core.proofs.Places.{get_map}
use Rattle.round_core.proofs.Ends.{reached}

-- ---- events keep the gains

abbrev gains_in : List Length → List (Option ℕ)
gains_in ls = map (λ l. l.gain) ls

-- another length with the same gain in the place of one
gains_set : (ls : List Length) (k : ℕ) (l d : Length) → l.gain ≡ (get_or ls k d).gain →
    gains_in (set ls k l) ≡ gains_in ls
gains_set [] k l d same = refl
gains_set (x ∷ ls) zero l d same = ap (λ g. g ∷ gains_in ls) same
gains_set (x ∷ ls) (suc k) l d same = ap (λ gs. x.gain ∷ gs) (gains_set ls k l d same)

pub gains_with : (r : Round) (k : ℕ) (l : Length) → l.gain ≡ gain_at r k → gains_of (with_length r k l) ≡ gains_of r
gains_with r k l same = gains_set r.lengths k l (unclaimed None) same

gains_handed : (from w : ℕ) (ls : List Length) → gains_in (map (handed_over from w) ls) ≡ gains_in ls
gains_handed from w [] = refl
gains_handed from w (x ∷ ls) = ap (λ gs. x.gain ∷ gs) (gains_handed from w ls)

gains_either : (b : Bool) (r s q : Round) → gains_of r ≡ gains_of q → gains_of s ≡ gains_of q →
    gains_of (cond b r s) ≡ gains_of q
gains_either true r s q first second = first
gains_either false r s q first second = second

gains_settled : (r : Round) (k : ℕ) → gains_of (settled r k) ≡ gains_of r
gains_settled r k = gains_either (is_beaten r k) _ r r (gains_with r k _ refl) refl

pub gains_kept : (r : Round) (e : Event) → gains_of (after r e) ≡ gains_of r
gains_kept r (Claim w) = gains_either _ _ _ r (gains_with r r.claims _ refl) refl
gains_kept r (StoreHigh w k) = gains_with r k _ refl
gains_kept r (StoreLow w k) = gains_with r k _ refl
gains_kept r (LoadBest w None) = refl
gains_kept r (LoadBest w (Some k)) = gains_settled (seeing_best r w) k
gains_kept r (LoadHigh w k) = refl
gains_kept r (LoadLow w k) = refl
gains_kept r (Exchange w expected k) =
    gains_either _ (offering r w k) (settled (seeing_best r w) k) r (gains_with r k _ refl)
    (gains_settled (seeing_best r w) k)
gains_kept r (SplitSeat w fresh) = refl
gains_kept r (JoinSeat w from) = gains_handed from w r.lengths

pub step_keeps_gains : (r next : Round) (e : Event) → step r e ≡ Some next → gains_of next ≡ gains_of r
step_keeps_gains r next e is = by (is_allowed r e) is
  where
    by : (b : Bool) → cond b (Some (after r e)) None ≡ Some next → gains_of next ≡ gains_of r
    by true h = ap gains_of (sym (same_Some (after r e) next h)) ∙ gains_kept r e
    by false h = absurd (cc)

pub steps_keep_gains : (events : List Event) (r end : Round) → steps r events ≡ Some end → gains_of end ≡ gains_of r
steps_keep_gains [] r end is = ap gains_of (sym (same_Some r end is))
steps_keep_gains (e ∷ es) r end is = by (λ next k. steps_keep_gains es next end k) (step r e) refl is
  where
    by : ((next : Round) → steps next es ≡ Some end → gains_of end ≡ gains_of next) → (o : Option Round) →
        step r e ≡ o → elim o [ None ↦ None | Some next ↦ steps next es ] ≡ Some end →
        gains_of end ≡ gains_of r
    by rest None was h = absurd (cc)
    by rest (Some next) was h = rest next h ∙ step_keeps_gains r next e was

-- a round begins with its gains
pub gains_first : (gains : List (Option ℕ)) (workers : ℕ) → gains_of (first_round gains workers) ≡ gains
gains_first gains workers = all gains
  where
    all : (gs : List (Option ℕ)) → gains_in (map unclaimed gs) ≡ gs
    all [] = refl
    all (g ∷ gs) = ap (λ rest. g ∷ rest) (all gs)

-- ---- the best length by the gains

module _ (r : Round) where
  inside : (k : ℕ) (g : Option ℕ) → slice_get (gains_of r) k ≡ Some g → k < length r.lengths
  inside k g there =
      omega (arith, slice_get_within (gains_of r) k g there, length-map r.lengths (λ (l : Length). l.gain))

  listed : (k : ℕ) (g : Option ℕ) → slice_get (gains_of r) k ≡ Some g → gain_at r k ≡ g
  listed k g there =
      sym (get_map (λ (l : Length). l.gain) r.lengths k (unclaimed None) None refl)
      ∙ get_or_from_slice_get (gains_of r) k g None there

  there : (k : ℕ) (g : Option ℕ) → k < length r.lengths → gain_at r k ≡ g → slice_get (gains_of r) k ≡ Some g
  there k g low is =
      slice_get-get_or (gains_of r) k None (omega (arith, low, length-map r.lengths (λ (l : Length). l.gain)))
      ∙ ap Some (get_map (λ (l : Length). l.gain) r.lengths k (unclaimed None) None refl ∙ is)

  -- what indexes beat is what keys beat
  beats_keys : (k j g h : ℕ) → gain_at r k ≡ Some g → gain_at r j ≡ Some h → IsTrue (index_beats r (suc k) (suc j)) →
      IsTrue (beats (record { gain = g; k = k }) (record { gain = h; k = j }))
  beats_keys k j g h own other wins =
      let keyed : ℕ → Option ℕ → Option Key = λ i o. option_map (λ n. record { gain = n; k = i }) o in
      (λ i. outranks (keyed k (sym own i)) (keyed j (sym other i))) ∙ wins

  pub best_by_gains : (best : Option ℕ) → IsBestLength r best → IsBestByGains (gains_of r) best
  best_by_gains None none = λ k g at. some_none g (sym (listed k (Some g) at) ∙ none k (inside k (Some g) at))
    where
      some_none : (g : ℕ) → Some g ≡ None → ⊥
      some_none g e = cc
  best_by_gains (Some k) (low, some, beating) = by (gain_at r k) refl
    where
      by : (o : Option ℕ) → gain_at r k ≡ o → IsBestByGains (gains_of r) (Some k)
      by None is = absurd (some is)
      by (Some g) is = (
        g,
        there k (Some g) low is,
        λ j h apart at.
            beats_keys k j g h is (listed j (Some h) at) (beating j (inside j (Some h) at) apart),
      )

pub reached_by_gains : (gains : List (Option ℕ)) (workers : ℕ) (events : List Event) (r : Round) → 1 ≤ workers →
    steps (first_round gains workers) events ≡ Some r → IsTrue (is_settled r) → IsBestByGains gains (best_of r)
reached_by_gains gains workers events r some is done =
    let same = steps_keep_gains events (first_round gains workers) r is ∙ gains_first gains workers in
    subst (λ gs. IsBestByGains gs (best_of r)) same
    (best_by_gains r (best_of r) ((reached gains workers events r some is).1 done))
