-- Where the gains of all lengths are known, the best step of the length that is best by gains is the rule's.
use Rattle.std.proofs.Common.{◌≡◌, ◌≢◌, ℕ, ◌<◌, ◌≤◌, List, length, get_or, Option, Some, None, IsTrue, slice_get, subst}
use Rattle.std.proofs.Common.{sym, arith}
use Rattle.std.proofs.lemmas.Int.{ints}
use Rattle.std.proofs.lemmas.Option.{slice_get-get_or}
use Rattle.lattice_theory.specs.SignedSums.{vectors}
use Rattle.fold_theory.specs.Programs.{Bricks}
use Rattle.run_theory.specs.Steps.{IsGain}
use Rattle.run_theory.specs.Outcomes.{Step}
use Rattle.run_theory.specs.Keys.{beats}
use Rattle.run_theory.specs.Folds.{FoldValue}
use Rattle.run_theory.specs.Bests.{IsBestOfLength, IsFound, AreGains, IsBestByGains, IsRuleStep}
use Rattle.rule_laws.proofs.Costs.{Gains, worth, move, beats_lesser}
use Rattle.rule_laws.proofs.BestUpTo.{best_worth, BeatsLength, beats_all}

module _ (f : FoldValue) (x : Bricks) (gains : List (Option ℕ))
    (are : AreGains f.program f.phase (vectors f.sums) x gains) where
  abbrev GainAt : ℕ → Option ℕ → Type 0
  GainAt k g = IsGain f.program f.phase (vectors f.sums) x k g

  -- a step that gains has a length with a gain, which is at least its own
  record HasGain (k : ℕ) (h : Bricks) : Type 0 where
    gain : ℕ
    there : slice_get gains k ≡ Some (Some gain)
    most : worth f x k h ≤ gain

  has_gain : (k : ℕ) (h : Bricks) → Gains f x k h → HasGain k h
  has_gain k h a = by (get_or gains k None) (slice_get-get_or gains k None inside)
    where
      inside : k < length gains
      inside = (are.lengths k).1 a.candidate.length

      by : (g : Option ℕ) → slice_get gains k ≡ Some g → HasGain k h
      by None e = absurd (are.each k None e h a)
      by (Some g) e = record { gain = g; there = e; most = (are.each k (Some g) e).1 h a }

  -- the best step of a length gains what is listed for it
  listed_gain : (k g : ℕ) (h : Bricks) → IsBestOfLength f x k h → slice_get gains k ≡ Some (Some g) → worth f x k h ≡ g
  listed_gain k g h best there =
      let listed = are.each k (Some g) there in
      let low = listed.1 h best.augments in
      let high = best_worth f x k h listed.0.0 best listed.0.1 in
      omega (arith, ints, low, high, listed.0.2)

  -- no length gains, so no step does
  pub no_gain : IsBestByGains gains None → IsRuleStep f x None
  no_gain none k h a = let r = has_gain k h a in none k r.gain r.there

  -- the best step of the best length is the rule's
  pub best_gain : (k : ℕ) (s : Step) → IsBestByGains gains (Some k) → IsFound f x k s → IsRuleStep f x (Some s)
  best_gain k s (g, there, beating) (h, best, is) = (move f x k h, beats_all f x k h best others, is)
    where
      own : worth f x k h ≡ g
      own = listed_gain k g h best there

      others : (j : ℕ) → j ≢ k → BeatsLength f x (record { gain = worth f x k h; k = k }) j
      others j apart i a =
          let r = has_gain j i a in
          let wins =
          subst (λ n. IsTrue (beats (record { gain = n; k = k }) (record { gain = r.gain; k = j }))) (sym own)
          (beating j r.gain apart r.there) in
          beats_lesser (record { gain = worth f x k h; k = k }) r.gain (worth f x j i) j r.most wins
