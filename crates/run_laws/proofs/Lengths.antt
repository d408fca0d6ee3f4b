-- Where no step of length 1 lowers the phase cost, no step of any length does.
use Rattle.std.proofs.Common.{ℕ, arith}
use Rattle.std.proofs.lemmas.Int.{ints}
use Rattle.lattice_theory.specs.SignedSums.{vectors}
use Rattle.fold_theory.specs.Programs.{IsProgram, Bricks}
use Rattle.run_theory.specs.Steps.{moved}
use Rattle.run_theory.specs.Starts.{IsStart}
use Rattle.run_theory.specs.Folds.{FoldValue, HasBrickSums}
use Rattle.run_theory.specs.Bests.{NoneOfLength}
use Rattle.piece_laws.proofs.Frames.{sums_quiet}
use Rattle.run_laws.proofs.Best.{first_length_best}
use Rattle.run_laws.proofs.PhaseRuns.{step_start}

-- a step of any length would lead to a start with a lower phase cost than a best one has
pub none_of_any_length : (f : FoldValue) (x : Bricks) → IsProgram f.program → HasBrickSums f →
    IsStart f.program f.phase x → NoneOfLength f x 0 → (k : ℕ) → NoneOfLength f x k
none_of_any_length f x program (b, bases, are) start none k h step =
    let quiet = sums_quiet f.program f.phase b f.sums bases are in
    let other = step_start f.program f.phase (vectors f.sums) program quiet x k h start step.candidate in
    let best = first_length_best f.program f.phase b f.sums x (moved x k h) program bases are start none other in
    absurd (omega (arith, ints, best, step.lowers))
