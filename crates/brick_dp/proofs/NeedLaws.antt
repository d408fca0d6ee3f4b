-- The best step from the best walk, and the answer where no walk lowers the cost by what is needed.
use Rattle.std.proofs.Common.{◌≡◌, ℕ, ◌^◌, ◌<◌, ℤ, pos, ◌-ℤ◌, ◌≤ℤ◌, ◌<ℤ◌, Bool, true, false, List, length, refl, ap}
use Rattle.std.proofs.Common.{arith, sym, ◌∙◌, Some, None, Option, subst, All, inl, inr, unsigned_abs, int_lt}
use Rattle.std.proofs.lemmas.Int.{ints}
use Rattle.std.proofs.lemmas.Bool.Decides.{nat_tests}
use Rattle.lattice_theory.specs.Vectors.{Vector, zeros, is_rising}
use Rattle.lattice_theory.specs.SignedSums.{vectors}
use Rattle.fold_theory.specs.Programs.{IsProgram, AreWithin, Bricks, link_rests, IsLength}
use Rattle.run_theory.specs.declared.Key.{Key}
use Rattle.run_theory.specs.Keys.{beaten, IsNoWorse}
use Rattle.run_theory.specs.Outcomes.{step_at, nonzero_from, nonzero_entries}
use Rattle.run_theory.specs.Steps.{gain, Augments}
use Rattle.run_theory.specs.Folds.{FoldValue}
use Rattle.run_theory.specs.Bests.{IsFound, IsBeaten}
use Rattle.fold_laws.proofs.Points.{widths_within}
use Rattle.walk_laws.proofs.BestWalks.{IsBestWalk}
use Rattle.walk_laws.proofs.BestSteps.{none_augments, walk_augments, best_is_first, gain_is}
use Rattle.sieve_laws.proofs.Existence.{BestOrNone, best_or_none}
use Rattle.brick_dp.specs.Needs.{IsNeeded, NoneGains}

-- what a bound does not beat, no bound before it beats
pub no_worse : (key : Key) (old new : Option Key) → IsNoWorse old new → beaten key new ≡ false → beaten key old ≡ false
no_worse key None new better safe = refl
no_worse key (Some a) None better safe = absurd better
no_worse key (Some a) (Some b) better safe = grind (arith, nat_tests)

module _ (f : FoldValue) (x : Bricks) (k : ℕ) (program : IsProgram f.program) (within : AreWithin f.program.bricks x)
    (cols : f.program.brick.cols ≡ f.program.link.cols) (widths : All (λ z. length z ≡ f.program.brick.cols)
    (vectors f.sums)) where
  abbrev zs : List Vector
  zs = vectors f.sums

  wx : All (λ v. length v ≡ f.program.brick.cols) x
  wx =
      subst (λ t. All (λ v. length v ≡ t) x) (sym cols)
      (widths_within f.program.link.cols (length f.program.brick.rows) f.program.bricks x program.each_brick within)

  -- the best walk is the best step, where it lowers the cost
  pub best_found : (h : Bricks) (total : ℤ) → IsLength f.program k → total <ℤ pos 0 →
      IsBestWalk f.program f.phase zs k (link_rests f.program x) f.program.bricks x (zeros f.program.brick.cols) h
      total →
      IsFound f x k (record {
        k = k;
        gain = unsigned_abs total;
        bricks = nonzero_from 1 h;
        entries =
            nonzero_entries h;
      })
  best_found h total fits low best =
      (h, record { augments = augments; first = best_is_first f.program f.phase zs k x wx widths h total best }, steps)
    where
      augments : Augments f.program f.phase zs x k h
      augments = walk_augments f.program f.phase zs k x wx widths h total fits best.walk low

      opposite : (a : ℤ) → unsigned_abs (pos 0 -ℤ a) ≡ unsigned_abs a
      opposite a = grind (arith, ints)

      gains : unsigned_abs total ≡ unsigned_abs (gain f.program f.phase x k h)
      gains = sym (ap unsigned_abs (gain_is f.program f.phase zs k x wx widths h total best.walk) ∙ opposite total)

      steps : record { k = k; gain = unsigned_abs total; bricks = nonzero_from 1 h; entries = nonzero_entries h }
          ≡ step_at f.program f.phase x (record { k = k; bricks = h })
      steps = λ i. record { k = k; gain = gains i; bricks = nonzero_from 1 h; entries = nonzero_entries h }

  -- where no walk lowers the cost by what the bound asks for, no step gains, or the bound beats the best one
  pub beaten_by_need : (bound : Option Key) (need : ℤ) → is_rising zs ≡ true → IsLength f.program k →
      IsNeeded k bound need →
      NoneGains f x k need → IsBeaten f x k bound
  beaten_by_need bound need rising fits needed none =
      by (best_or_none f.program f.phase zs k (link_rests f.program x) rising f.program.bricks x
      (zeros f.program.brick.cols))
    where
      by : BestOrNone f.program f.phase zs k (link_rests f.program x) f.program.bricks x (zeros f.program.brick.cols) →
          IsBeaten f x k bound
      by (inr nothing) = inl (none_augments f.program f.phase zs k x wx widths None nothing (λ cost e. absurd (cc)))
      by (inl (h, c, best)) = at (int_lt c (pos 0)) refl
        where
          at : (t : Bool) → int_lt c (pos 0) ≡ t → IsBeaten f x k bound
          at false e =
              let above : pos 0 ≤ℤ c = grind (arith, ints) in
              inl (
              none_augments f.program f.phase zs k x wx widths (Some c) ((h, best.walk), best.least)
              (λ cost same. let is : c ≡ cost = cc in subst (λ a. pos 0 ≤ℤ a) is above)
              )
          at true e =
              let low : c <ℤ pos 0 = grind (arith, ints) in
              let under : (pos 0 -ℤ need) <ℤ c = none h c best.walk in
              let less : pos (unsigned_abs c) <ℤ need = omega (arith, ints, low, under) in
              let small : unsigned_abs c < 2 ^ 124 = omega (arith, ints, less, needed.high) in
              elim (needed.few (unsigned_abs c) small less) [
                | inl zero ↦ absurd (omega (arith, ints, low, zero))
                | inr beats ↦
                    inr (
                      record { k = k; gain = unsigned_abs c; bricks = nonzero_from 1 h; entries = nonzero_entries h },
                      best_found h c fits low best,
                      beats,
                    )
              ]
