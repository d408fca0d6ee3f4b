-- The best step of the first lengths: none at first, then one more length at a time, and at the end the rule's step.
use Rattle.std.proofs.Common.{◌≡◌, ◌≢◌, ℕ, ◌+◌, ◌<◌, ◌≤◌, ◌↔◌, ◌≤ℤ◌, ◌<ℤ◌, false, pos, Option, Some, None, IsTrue, sym}
use Rattle.std.proofs.Common.{subst, arith, inl, inr}
use Rattle.std.proofs.lemmas.Int.{ints}
use Rattle.std.proofs.lemmas.Bool.{cases_order}
use Rattle.run_theory.specs.declared.Key.{Key}
use Rattle.lattice_theory.specs.SignedSums.{vectors}
use Rattle.fold_theory.specs.Programs.{Bricks, IsLength}
use Rattle.run_theory.specs.Steps.{Move, gain, IsBest, IsGain}
use Rattle.run_theory.specs.Outcomes.{Step}
use Rattle.run_theory.specs.Keys.{beats, beaten}
use Rattle.run_theory.specs.Folds.{FoldValue}
use Rattle.run_theory.specs.Bests.{IsBestOfLength, IsFound, NoneOfLength, IsBeaten, IsRuleStep}
use Rattle.rule_laws.specs.BestUpTo.{IsBestBelow, IsBestUpTo, key_of, kept_key}
use Rattle.rule_laws.proofs.Costs.{Gains, after, worth, move, key_at, NoLater, beats_lesser, unbeaten_gains}
use Rattle.rule_laws.proofs.Costs.{worth_after, later_costs, cheaper_first, beating_first}

module _ (f : FoldValue) (x : Bricks) where
  -- ---- one length

  -- the best step of a length gains most
  pub best_worth : (k : ℕ) (h g : Bricks) → IsBestOfLength f x k h → Gains f x k g → worth f x k g ≤ worth f x k h
  best_worth k h g best a =
      let low = later_costs f x (move f x k h) (move f x k g) (best.first g a) in
      omega (arith, ints, low, worth_after f x k h best.augments, worth_after f x k g a)

  -- so what it gains is the gain of its length
  pub found_gain : (k : ℕ) (s : Step) → IsFound f x k s → IsGain f.program f.phase (vectors f.sums) x k (Some s.gain)
  found_gain k s (h, best, is) =
      subst (λ (t : Step). IsGain f.program f.phase (vectors f.sums) x k (Some t.gain)) (sym is)
      ((h, best.augments, sym (worth_is k h best.augments)), λ g a. best_worth k h g best a)
    where
      worth_is : (k : ℕ) (h : Bricks) → Gains f x k h → pos (worth f x k h) ≡ gain f.program f.phase x k h
      worth_is k h a = omega (arith, ints, a.lowers)

  -- the key beats that of each step of the length that gains
  abbrev pub BeatsLength : Key → ℕ → Type 0
  BeatsLength key k = (h : Bricks) → Gains f x k h → IsTrue (beats key (key_at f x k h))

  pub beaten_length : (key : Key) (k : ℕ) → IsBeaten f x k (Some key) → BeatsLength key k
  beaten_length key k (inl none) h a = absurd (none h a)
  beaten_length key k (inr (s, (b, best, is), wins)) h a =
      let least = subst (λ (t : Step). IsTrue (beats key (record { gain = t.gain; k = k }))) is wins in
      beats_lesser key (worth f x k b) (worth f x k h) k (best_worth k b h best a) least

  -- the best step of one length is the rule's where its key beats every other length
  pub beats_all : (k : ℕ) (h : Bricks) → IsBestOfLength f x k h → ((j : ℕ) → j ≢ k → BeatsLength (key_at f x k h) j) →
      IsBest f.program f.phase (vectors f.sums) x (move f x k h)
  beats_all k h best others = record { augments = best.augments; first = firsts }
    where
      other : (j : ℕ) (g : Bricks) → j ≢ k → Gains f x j g → NoLater f x (move f x k h) (move f x j g)
      other j g apart a = beating_first f x k j h g best.augments a (others j apart g a)

      firsts : (j : ℕ) (g : Bricks) → Gains f x j g → NoLater f x (move f x k h) (move f x j g)
      firsts j g a = elim (cases_order j k) [
        | inl same ↦
            subst (λ i. NoLater f x (move f x k h) (move f x i g)) (sym same)
            (best.first g (subst (λ i. Gains f x i g) same a))
        | inr (inl before) ↦ other j g (λ same. omega (arith, before, same)) a
        | inr (inr behind) ↦ other j g (λ same. omega (arith, behind, same)) a
      ]

  -- the same of a step as it is recorded
  pub beating_step : (k : ℕ) (s : Step) → IsFound f x k s →
      ((j : ℕ) → j ≢ k → IsLength f.program j → IsBeaten f x j (Some (key_of s))) → IsRuleStep f x (Some s)
  beating_step k s (h, best, is) others = (move f x k h, beats_all k h best other, is)
    where
      other : (j : ℕ) → j ≢ k → BeatsLength (key_at f x k h) j
      other j apart g a =
          let beaten = subst (λ t. IsBeaten f x j (Some (key_of t))) is (others j apart a.candidate.length) in
          beaten_length (key_at f x k h) j beaten g a

  -- ---- the first lengths

  pub best_none : IsBestUpTo f x 0 None
  best_none k low = absurd (omega (arith, low))

  -- of the lengths up to n, what holds of those below n and of n
  each_length : (P : ℕ → Type 0) (n : ℕ) → ((k : ℕ) → k < n → P k) → P n → (k : ℕ) → k < n + 1 → P k
  each_length P n below here k low = elim (cases_order k n) [
    | inl same ↦ subst P (sym same) here
    | inr (inl before) ↦ below k before
    | inr (inr behind) ↦ absurd (omega (arith, behind, low))
  ]

  keeps_below : (n : ℕ) (m : Move) → IsBestBelow f x n m → BeatsLength (key_at f x m.k m.bricks) n →
      IsBestBelow f x (n + 1) m
  keeps_below n m best over = record {
    augments = best.augments;
    short = omega (arith, best.short);
    first = λ k h low.
        each_length (λ j. Gains f x j h → NoLater f x m (move f x j h)) n (λ j short. best.first j h short)
        (λ a. beating_first f x m.k n m.bricks h best.augments a (over h a)) k low;
  }

  takes_below : (n : ℕ) (m : Move) (h : Bricks) → IsBestBelow f x n m → IsBestOfLength f x n h →
      beats (key_at f x m.k m.bricks) (key_at f x n h) ≡ false → IsBestBelow f x (n + 1) (move f x n h)
  takes_below n m h kept best loses = record {
    augments = best.augments;
    short = omega arith;
    first = λ k g low.
        each_length (λ j. Gains f x j g → NoLater f x (move f x n h) (move f x j g)) n
        (λ j short a. cheaper_first f x (move f x n h) (move f x j g)
        (cheaper j g (later_costs f x m (move f x j g) (kept.first j g short a)))) (best.first g) k low;
  }
    where
      more : worth f x m.k m.bricks < worth f x n h
      more = unbeaten_gains (worth f x m.k m.bricks) (worth f x n h) m.k n kept.short loses

      cheaper : (j : ℕ) (g : Bricks) → after f x m.k m.bricks ≤ℤ after f x j g → after f x n h <ℤ after f x j g
      cheaper j g low =
          omega (arith, ints, low, more, worth_after f x m.k m.bricks kept.augments, worth_after f x n h best.augments)

  -- the first step that is found
  begins_below : (n : ℕ) (h : Bricks) → IsBestUpTo f x n None → IsBestOfLength f x n h →
      IsBestBelow f x (n + 1) (move f x n h)
  begins_below n h none best = record {
    augments = best.augments;
    short = omega arith;
    first = λ k g low.
        each_length (λ j. Gains f x j g → NoLater f x (move f x n h) (move f x j g)) n
        (λ j short a. absurd (none j short g a)) (best.first g) k low;
  }

  -- the step that is kept stays where it beats the next length
  pub best_keeps : (n : ℕ) (best : Option Step) → IsBestUpTo f x n best → IsBeaten f x n (kept_key best) →
      IsBestUpTo f x (n + 1) best
  best_keeps n None none (inl nothing) = each_length (NoneOfLength f x) n none nothing
  best_keeps n None none (inr (s, found, wins)) = absurd (cc)
  best_keeps n (Some s) (m, kept, is) over =
      let key = beaten_length (key_at f x m.k m.bricks) n (subst (λ t. IsBeaten f x n (kept_key (Some t))) is over) in
      (m, keeps_below n m kept key, is)

  -- and the best step of the next length is taken where the kept one does not beat it
  pub best_takes : (n : ℕ) (best : Option Step) (s : Step) → IsBestUpTo f x n best → IsFound f x n s →
      beaten (record { gain = s.gain; k = n }) (kept_key best) ≡ false → IsBestUpTo f x (n + 1) (Some s)
  best_takes n None s none (h, best, is) free = (move f x n h, begins_below n h none best, is)
  best_takes n (Some r) s (m, kept, was) (h, best, is) free =
      let loses =
      subst (λ (t : Step). beats (key_of t) (key_at f x n h) ≡ false) was
      (subst (λ (t : Step). beats (key_of r) (record { gain = t.gain; k = n }) ≡ false) is free) in
      (move f x n h, takes_below n m h kept best loses, is)

  -- at the end it is the rule's step
  pub best_all : (n : ℕ) (best : Option Step) → ((k : ℕ) → (k < n) ↔ IsLength f.program k) → IsBestUpTo f x n best →
      IsRuleStep f x best
  best_all n None lengths none = λ k h a. none k ((lengths k).1 a.candidate.length) h a
  best_all n (Some s) lengths (m, kept, is) = (
    m,
    record {
      augments = kept.augments;
      first = λ k h a. kept.first k h ((lengths k).1 a.candidate.length) a;
    },
    is,
  )
