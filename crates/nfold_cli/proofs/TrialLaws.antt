-- What is made of a transport program that was solved is the line of a trial; and no limit of it is passed.
use Rattle.std.proofs.Common.{◌≡◌, ◌≢◌, ℕ, ◌≤◌, Result, Ok, Err, IfOk, arith, subst, inl, inr}
use Rattle.fold_theory.specs.Programs.{Program, IsProgram}
use Rattle.run_theory.specs.declared.SolveFault.{SolveFault}
use Rattle.run_theory.specs.declared.SolveFault.TheVariants as fault
use Rattle.run_theory.specs.Solved.{SolvedValue}
use Rattle.augment_run.specs.Solving.{IsSolved, IsSolveFault}
use Rattle.fold_gen.specs.Transports.{transport}
use Rattle.transport_laws.proofs.NoLimit.{none_passed}
use Rattle.nfold_cli.specs.Endings.{Ending}
use Rattle.nfold_cli.specs.SolvedTexts.{solved_outcome}
use Rattle.nfold_cli.specs.SolveCommand.{IsEndingWithin}
use Rattle.nfold_cli.specs.TrialCommand.{trial_caps, tried_ending, IsTrialEnding, IsTrueTrial}
use Rattle.nfold_cli.proofs.SolvedLaws.{IsFound, found, limit_passed}

module _ (number bricks : ℕ) where
  abbrev p : Program
  p = transport number bricks

  -- the ending of what was solved is the line of a trial, and what it says is true
  trial_found : (v : SolvedValue) (e : Ending) → IsProgram p → IsSolved p trial_caps v
      → e ≡ tried_ending number bricks p v.certificate (solved_outcome v)
      → IsTrialEnding number bricks e × IsTrueTrial number bricks e
  trial_found v e program solved is = (by all.ends, all.holds)
    where
      all : IsFound p trial_caps (tried_ending number bricks p) e
      all = found p trial_caps v solved program (tried_ending number bricks p) e is

      by : IsEndingWithin p trial_caps (tried_ending number bricks p) e → IsTrialEnding number bricks e
      by (inl (f, passed, line)) = absurd (solved.within f passed)
      by (inr outcome) = outcome

  pub tried_found : {E : Type 0} (r : Result Ending E) (q : Program) (v : SolvedValue) → q ≡ p
      → IsProgram q → IsSolved q trial_caps v
      → IfOk r (λ e. e ≡ tried_ending number bricks q v.certificate (solved_outcome v))
      → IfOk r (IsTrialEnding number bricks) × IfOk r (IsTrueTrial number bricks)
  tried_found (Err x) q v same program solved made = (tt, tt)
  tried_found (Ok e) q v same program solved made =
      trial_found v e (subst IsProgram same program) (subst (λ (a : Program). IsSolved a trial_caps v) same solved)
      (subst (λ (a : Program). e ≡ tried_ending number bricks a v.certificate (solved_outcome v)) same made)

  -- so a fault of its solve is want of memory
  pub no_limit : (q : Program) (f : SolveFault) → q ≡ p → bricks ≤ 10000 → IsSolveFault q trial_caps f
      → f ≢ fault.Memory → ⊥
  no_limit q f same few passed other =
      none_passed number bricks trial_caps few (omega arith) (omega arith) f
      (limit_passed p trial_caps f other (subst (λ (a : Program). IsSolveFault a trial_caps f) same passed))
