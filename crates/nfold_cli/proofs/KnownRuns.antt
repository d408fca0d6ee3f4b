-- The texts of `solve` and `trial` at the program of two bricks, worked by hand.
use Rattle.std.specs.Prelude.{◌≡◌, true, false, [], ◌∷◌, ◌++◌, pos, neg_ℤ, Some, None, codes, refl}
use Rattle.std.specs.Fmt.{digits}
use Rattle.fold_theory.specs.declared.Phase.TheVariants.{Closed, Counted}
use Rattle.fold_theory.specs.declared.Verdict.TheVariants.{Optimal, InfeasibleBrick}
use Rattle.run_theory.specs.declared.SolveFault.TheVariants as limit
use Rattle.run_theory.specs.BrickRuns.{BrickMove}
use Rattle.run_theory.specs.Outcomes.{RunRecord, Outcome}
use Rattle.cert_checker.specs.declared.answer.Check.TheVariants as check
use Rattle.nfold_cli.specs.RunTexts.{outcome_text, trial_text, limit_text}

abbrev four_down : BrickMove
four_down = record { k = 2; vector = pos 0 ∷ pos 1 ∷ [] }

abbrev counted_run : RunRecord
counted_run = record {
  steps =
      record { k = 0; gain = 2; bricks = 2 ∷ []; entries = pos 2 ∷ neg_ℤ (pos 2) ∷ [] }
      ∷ record { k = 0; gain = 1; bricks = 2 ∷ []; entries = pos 1 ∷ neg_ℤ (pos 1) ∷ [] }
      ∷ [];
  gain = 3;
  factor = 20;
}

abbrev closed_run : RunRecord
closed_run = record {
  steps = record { k = 0; gain = 4; bricks = 1 ∷ 2 ∷ []; entries = pos 1 ∷ neg_ℤ (pos 1) ∷ neg_ℤ (pos 1) ∷ pos 1 ∷ [] }
      ∷ [];
  gain = 4;
  factor = 20;
}

abbrev the_outcome : Outcome
the_outcome = record {
  verdict = Optimal (pos 5);
  point = (pos 1 ∷ pos 3 ∷ []) ∷ (pos 2 ∷ pos 2 ∷ []) ∷ [];
  traces = (four_down ∷ []) ∷ (four_down ∷ []) ∷ [];
  counted = Some counted_run;
  closed = Some closed_run;
}

pub without_a_trace : outcome_text 2 false the_outcome ≡ codes "optimal\ncost 5\n2 2\n1 3\n2 2\n"
unfolding digits
without_a_trace = refl

pub with_a_trace : outcome_text 2 true the_outcome ≡
    codes "brick 1 length 4 vector 0 1\nbrick 2 length 4 vector 0 1\n"
    ++ codes "counted length 1 gain 2 at 2 2 -2\ncounted length 1 gain 1 at 2 1 -1\ncounted made 2 factor 20 digits 2\n"
    ++ codes "closed length 1 gain 4 at 1 1 -1 at 2 -1 1\nclosed made 1 factor 20 digits 3\n"
    ++ codes "optimal\ncost 5\n2 2\n1 3\n2 2\n"
unfolding digits
with_a_trace = refl

abbrev stuck : Outcome
stuck = record {
  verdict = InfeasibleBrick 1 1;
  point = (pos 4 ∷ pos 4 ∷ []) ∷ [];
  traces = (four_down ∷ record { k = 2; vector = pos 1 ∷ pos 0 ∷ [] } ∷ []) ∷ [];
  counted = None;
  closed = None;
}

pub a_stuck_brick : outcome_text 2 true stuck ≡
    codes "brick 1 length 4 vector 0 1\nbrick 1 length 4 vector 1 0\ninfeasible brick 1 residual 1\n"
unfolding digits
a_stuck_brick = refl

pub a_trial : trial_text 1 1 (Optimal (pos 6)) 0 (check.Yes (Optimal (pos 6)))
    ≡ codes "trial number 1 bricks 1 optimal cost 6 made 0 check yes\n"
unfolding digits
a_trial = refl

pub limits : limit_text limit.BrickBasis ++ limit_text (limit.LinkEntry 1 4) ++ limit_text limit.LinkBasis ++ limit_text
    (limit.Sums Counted) ++ limit_text (limit.Table Closed)
    ≡ codes "limit: brick-basis\nlimit: link-entry row 1 column 4\nlimit: link-basis\n"
    ++ codes "limit: sums counted\nlimit: table closed\n"
unfolding digits
limits = refl
