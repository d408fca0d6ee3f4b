-- The steps of a run so far: each is the rule's, each lowers the phase cost, and where the rule has none they are the
-- run.
use Rattle.std.proofs.Common.{◌≡◌, ℕ, ◌*◌, ◌^◌, ◌<◌, ◌≤◌, ℤ, pos, negsuc, ◌+ℤ◌, ◌-ℤ◌, ◌≤ℤ◌, ◌<ℤ◌, unsigned_abs, List}
use Rattle.std.proofs.Common.{[], ◌∷◌, ◌++◌, length, refl, ap, arith, sym, ◌∙◌, Some, subst, suc, FitsSigned}
use Rattle.std.specs.Int.{w128}
use Rattle.std.proofs.lemmas.Int.{ints}
use Rattle.lattice_theory.specs.Vectors.{Vector}
use Rattle.lattice_theory.specs.SignedSums.{vectors}
use Rattle.fold_theory.specs.Programs.{IsProgram, Bricks, phase_cost}
use Rattle.run_theory.specs.Digits.{binary_digits}
use Rattle.run_theory.specs.Steps.{Move, IsBest, NoneAugments, IsRun, moved}
use Rattle.run_theory.specs.Outcomes.{Step, IsRecorded, step_at, steps_from, bound_number}
use Rattle.run_theory.specs.Starts.{IsStart}
use Rattle.run_theory.specs.Folds.{FoldValue, HasBrickSums}
use Rattle.run_theory.specs.Bests.{IsRuleStep}
use Rattle.piece_laws.proofs.Frames.{sums_quiet}
use Rattle.run_laws.proofs.PhaseRuns.{step_start}
use Rattle.count_laws.proofs.FewSteps.{few_steps, run_gains}
use Rattle.phase_run.specs.Steps.{LeadsTo}

module _ (f : FoldValue) where
  abbrev zs : List Vector
  zs = vectors f.sums

  abbrev cost : Bricks → ℤ
  cost x = phase_cost f.program f.phase x

  -- ---- one step

  -- it leads to a point where the phase may go on
  next_start : IsProgram f.program → HasBrickSums f → (x : Bricks) (m : Move) → IsStart f.program f.phase x →
      IsBest f.program f.phase zs x m →
      IsStart f.program f.phase (moved x m.k m.bricks)
  next_start program (b, bases, are) x m start best =
      step_start f.program f.phase zs program (sums_quiet f.program f.phase b f.sums bases are) x m.k m.bricks start
      best.augments.candidate

  -- ---- the steps so far

  -- the moves lead from x to this point, each of them the rule's
  abbrev LeadTo : Bricks → List Move → Bricks → Type 0
  LeadTo x [] y = y ≡ x
  LeadTo x (m ∷ ms) y = IsBest f.program f.phase zs x m × LeadTo (moved x m.k m.bricks) ms y

  lead_more : (x : Bricks) (ms : List Move) (y : Bricks) (m : Move) → LeadTo x ms y → IsBest f.program f.phase zs y m →
      LeadTo x (ms ++ m ∷ []) (moved y m.k m.bricks)
  lead_more x [] y m lead best =
      (subst (λ z. IsBest f.program f.phase zs z m) lead best, ap (λ z. moved z m.k m.bricks) lead)
  lead_more x (n ∷ ms) y m lead best = (lead.0, lead_more (moved x n.k n.bricks) ms y m lead.1 best)

  lead_steps : (x : Bricks) (ms : List Move) (y : Bricks) (m : Move) → LeadTo x ms y →
      steps_from f.program f.phase x (ms ++ m ∷ []) ≡ steps_from f.program f.phase x ms
      ++ step_at f.program f.phase y m ∷ []
  lead_steps x [] y m lead = ap (λ z. step_at f.program f.phase z m ∷ []) (sym lead)
  lead_steps x (n ∷ ms) y m lead = ap (λ ss. step_at f.program f.phase x n ∷ ss)
      (lead_steps (moved x n.k n.bricks) ms y m lead.1)

  lead_all : (x : Bricks) (ms : List Move) (y : Bricks) → LeadTo x ms y → NoneAugments f.program f.phase zs y →
      IsRun f.program f.phase zs x ms y
  lead_all x [] y lead none = (subst (NoneAugments f.program f.phase zs) lead none, lead)
  lead_all x (m ∷ ms) y lead none = (lead.0, lead_all (moved x m.k m.bricks) ms y lead.1 none)

  -- these steps lead from x to this point
  pub record RunSoFar (x : Bricks) (steps : List Step) (y : Bricks) : Type 0 where
    pub moves : List Move
    pub lead : LeadTo x moves y
    pub steps_are : steps ≡ steps_from f.program f.phase x moves
    pub start : IsStart f.program f.phase y

  pub run_none : (x : Bricks) (steps : List Step) → steps ≡ [] → IsStart f.program f.phase x → RunSoFar x steps x
  run_none x steps none start = record { moves = []; lead = refl; steps_are = none; start = start }

  pub run_more : (x y z : Bricks) (steps next : List Step) (s : Step) → IsProgram f.program → HasBrickSums f →
      RunSoFar x steps y → IsRuleStep f y (Some s) →
      LeadsTo f y s z → next ≡ steps ++ s ∷ [] → RunSoFar x next z
  run_more x y z steps next s program sums so_far (m, best, is) leads pushed =
      subst (RunSoFar x next) (sym (leads m best is)) (record {
        moves = so_far.moves ++ m ∷ [];
        lead = lead_more x so_far.moves y m so_far.lead best;
        steps_are =
            pushed ∙ ap (λ ss. ss ++ s ∷ []) so_far.steps_are
            ∙ ap (λ t. steps_from f.program f.phase x so_far.moves ++ t ∷ []) is
            ∙ sym (lead_steps x so_far.moves y m so_far.lead);
        start = next_start program sums y m so_far.start best;
      })

  -- a step lowers the phase cost
  pub step_lowers : (y z : Bricks) (s : Step) → IsRuleStep f y (Some s) → LeadsTo f y s z → cost z <ℤ cost y
  step_lowers y z s (m, best, is) leads = omega (arith, ints, best.augments.lowers, ap cost (leads m best is))

  -- ---- the run

  -- the steps are the run where the rule has none any more
  pub run_all : (x y : Bricks) (steps : List Step) (gain factor : ℕ) → RunSoFar x steps y →
      NoneAugments f.program f.phase zs y →
      gain ≡ unsigned_abs (cost x -ℤ cost y) → factor ≡ bound_number f.program zs →
      IsRecorded f.program f.phase zs x (record { steps = steps; gain = gain; factor = factor }) y
  run_all x y steps gain factor so_far none is bound =
      let run = lead_all x so_far.moves y so_far.lead none in
      let fallen = run_gains f.program f.phase zs so_far.moves x y run in
      record {
        moves = so_far.moves;
        run = run;
        steps = so_far.steps_are;
        fallen = ap pos is ∙ back (cost x -ℤ cost y) (omega (arith, ints, fallen));
        factor = bound;
      }
    where
      back : (a : ℤ) → pos 0 ≤ℤ a → pos (unsigned_abs a) ≡ a
      back (pos n) high = refl
      back (negsuc n) high = absurd (omega (arith, ints, high))

  -- and they are few
  pub run_few : (x y : Bricks) (steps : List Step) (gain factor : ℕ) → IsProgram f.program → HasBrickSums f →
      IsStart f.program f.phase x →
      RunSoFar x steps y → NoneAugments f.program f.phase zs y → gain ≡ unsigned_abs (cost x -ℤ cost y) →
      factor ≡ bound_number f.program zs →
      length steps ≤ factor * binary_digits gain
  run_few x y steps gain factor program (b, bases, are) start so_far none is bound =
      let run = lead_all x so_far.moves y so_far.lead none in
      let few = few_steps f.program f.phase b f.sums x y so_far.moves program bases are start run in
      let count : length steps ≡ length so_far.moves = ap length so_far.steps_are ∙ length-steps so_far.moves x in
      subst (λ n. n ≤ factor * binary_digits gain) (sym count) (
      subst (λ k. length so_far.moves ≤ k * binary_digits gain) (sym bound) (
      subst (λ g. length so_far.moves ≤ bound_number f.program zs * binary_digits g) (sym is) few
      )
      )
    where
      length-steps : (ms : List Move) (z : Bricks) → length (steps_from f.program f.phase z ms) ≡ length ms
      length-steps [] z = refl
      length-steps (m ∷ ms) z = ap suc (length-steps ms (moved z m.k m.bricks))

-- ---- the run ends

-- a number of 128 bits from the least one on
abbrev pub height : ℤ → ℕ
height a = unsigned_abs (a +ℤ pos (2 ^ 127))

pub height_falls : (a b : ℤ) → FitsSigned w128 a → FitsSigned w128 b → a <ℤ b → height a < height b
height_falls (pos m) (pos n) low high less = omega (arith, ints, less)
height_falls (pos m) (negsuc n) low high less = absurd (omega (arith, ints, less))
height_falls (negsuc m) (pos n) low high less = omega (arith, ints, less, low.sfits)
height_falls (negsuc m) (negsuc n) low high less = omega (arith, ints, less, low.sfits, high.sfits)
