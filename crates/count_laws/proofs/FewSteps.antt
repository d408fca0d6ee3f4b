-- A run of a phase makes few steps: each gains at least a part of what is left to gain.
use Rattle.std.proofs.Common.{◌≡◌, ℕ, zero, suc, ◌+◌, ◌*◌, ◌<◌, ◌≤◌, ℤ, pos, ◌-ℤ◌, ◌≤ℤ◌, ◌<ℤ◌, unsigned_abs, List, []}
use Rattle.std.proofs.Common.{◌∷◌, length, ap, arith, IsTrue}
use Rattle.std.proofs.lemmas.Int.{ints}
use Rattle.std.specs.Ordering.{int_cmp, ordering_then, is_le, MatchOrdering}
use Rattle.std.specs.declared.cmp.Ordering.{Ordering}
use Rattle.std.specs.declared.cmp.Ordering.TheVariants.{Less, Equal, Greater}
use Rattle.std.specs.Cmp.{int_ranks}
use Rattle.fold_theory.specs.declared.Phase.{Phase}
use Rattle.lattice_theory.specs.Vectors.{Vector}
use Rattle.lattice_theory.specs.SignedSums.{Sum, vectors}
use Rattle.fold_theory.specs.Programs.{Program, Bricks, IsProgram, phase_cost}
use Rattle.run_theory.specs.Links.{Bases, AreBases, generators, fold_complexity}
use Rattle.run_theory.specs.BrickSums.{AreBrickSums}
use Rattle.run_theory.specs.Steps.{Move, moved, Augments, gain, IsBest, IsRun}
use Rattle.run_theory.specs.Outcomes.{bound_number}
use Rattle.run_theory.specs.Starts.{IsStart}
use Rattle.piece_laws.proofs.Frames.{frame_of, sums_quiet}
use Rattle.run_laws.proofs.PhaseRuns.{run_best, step_start}
use Rattle.run_theory.specs.Digits.{binary_digits}
use Rattle.count_laws.proofs.Counting.{count}
use Rattle.count_laws.proofs.PowersOfTwo.{less_than_power}
use Rattle.count_laws.proofs.LeftToGain.{left_to_gain}

-- ---- the rule's step

-- what comes first in the order of the rule has no higher phase cost
first_key : (a b : ℤ) (o : Ordering) → IsTrue (is_le (ordering_then (int_cmp a b) o)) → a ≤ℤ b
first_key a b o h = by (int_cmp a b) (int_ranks a b) h
  where
    by : (r : Ordering) → MatchOrdering r (a <ℤ b) (a ≡ b) (b <ℤ a) → IsTrue (is_le (ordering_then r o)) → a ≤ℤ b
    by Less m h = omega (arith, ints, m)
    by Equal m h = omega (arith, ints, m)
    by Greater m h = absurd (cc)

module _ (p : Program) (phase : Phase) (zs : List Vector) where
  -- no candidate gains more than the rule's step
  greatest_gain : (x : Bricks) (m : Move) → IsBest p phase zs x m → (k : ℕ) (d : Bricks) → Augments p phase zs x k d →
      gain p phase x k d ≤ℤ pos (unsigned_abs (gain p phase x m.k m.bricks))
  greatest_gain x m best k d augments =
      let first = first_key (phase_cost p phase (moved x m.k m.bricks)) (phase_cost p phase (moved x k d)) _
      (best.first k d augments) in
      omega (arith, ints, first, best.augments.lowers)

  -- a run lowers the phase cost
  pub run_gains : (moves : List Move) (x last : Bricks) → IsRun p phase zs x moves last →
      phase_cost p phase last ≤ℤ phase_cost p phase x
  run_gains [] x last run = omega (arith, ints, ap (phase_cost p phase) run.1)
  run_gains (m ∷ moves) x last run =
      omega (arith, ints, run.0.augments.lowers, run_gains moves (moved x m.k m.bricks) last run.1)

  -- what is left to gain after j steps
  abbrev left : Bricks → ℕ → Bricks → List Move → ℕ
  left last zero x moves = unsigned_abs (phase_cost p phase x -ℤ phase_cost p phase last)
  left last (suc j) x [] = 0
  left last (suc j) x (m ∷ moves) = left last j (moved x m.k m.bricks) moves

-- ---- the steps of a run

-- what is left is the gain of the step and what is left then
one_step : (k a g r : ℕ) → a ≡ g + r → a ≤ k * g → a + k * r ≤ k * a
one_step k a g r is low =
    let whole : k * (g + r) ≡ k * g + k * r = grind arith in omega (arith, low, whole, ap (λ n. k * n) is)

module _ (p : Program) (phase : Phase) (b : Bases) (sums : List Sum) (program : IsProgram p) (bases : AreBases p b)
    (are : AreBrickSums p phase b sums) where
  abbrev zs : List Vector
  zs = vectors sums

  abbrev factor : ℕ
  factor = bound_number p zs

  -- a step leads to a point where the phase may go on
  next_start : (x : Bricks) (m : Move) → IsStart p phase x → IsBest p phase zs x m →
      IsStart p phase (moved x m.k m.bricks)
  next_start x m start best =
      step_start p phase zs program (sums_quiet p phase b sums bases are) x m.k m.bricks start best.augments.candidate

  -- a step gains its part of what is left
  step_part : (x last : Bricks) (m : Move) (moves : List Move) → IsStart p phase x →
      IsRun p phase zs x (m ∷ moves) last →
      left p phase zs last 0 x (m ∷ moves) + factor * left p phase zs last 1 x (m ∷ moves)
      ≤ factor * left p phase zs last 0 x (m ∷ moves)
  step_part x last m moves start run =
      let y = moved x m.k m.bricks in
      let end = (run_best p phase b sums (m ∷ moves) x last program bases are start run).start in
      let most = unsigned_abs (gain p phase x m.k m.bricks) in
      let all =
      left_to_gain p phase program x start (generators p b.brick) zs (fold_complexity p phase b)
      (frame_of p phase b sums bases are) most (greatest_gain p phase zs x m run.0) last end in
      let after = run_gains p phase zs moves y last run.1 in
      one_step factor (unsigned_abs (phase_cost p phase x -ℤ phase_cost p phase last)) most
      (unsigned_abs (phase_cost p phase y -ℤ phase_cost p phase last))
      (omega (arith, ints, after, run.0.augments.lowers)) (omega (arith, ints, all, after, run.0.augments.lowers))

  run_less : (moves : List Move) (x last : Bricks) → IsRun p phase zs x moves last → (j : ℕ) → j < length moves →
      left p phase zs last (suc j) x moves < left p phase zs last j x moves
  run_less [] x last run j low = absurd (omega (arith, low))
  run_less (m ∷ moves) x last run zero low =
      omega (arith, ints, run.0.augments.lowers, run_gains p phase zs moves (moved x m.k m.bricks) last run.1)
  run_less (m ∷ moves) x last run (suc j) low =
      run_less moves (moved x m.k m.bricks) last run.1 j (omega (arith, low))

  run_part : (moves : List Move) (x last : Bricks) → IsStart p phase x → IsRun p phase zs x moves last → (j : ℕ) →
      j < length moves →
      left p phase zs last j x moves + factor * left p phase zs last (suc j) x moves
      ≤ factor * left p phase zs last j x moves
  run_part [] x last start run j low = absurd (omega (arith, low))
  run_part (m ∷ moves) x last start run zero low = step_part x last m moves start run
  run_part (m ∷ moves) x last start run (suc j) low =
      run_part moves (moved x m.k m.bricks) last (next_start x m start run.0) run.1 j (omega (arith, low))

-- a run has at most as many steps as the bound number times the binary digits of its gain
pub few_steps : (p : Program) (phase : Phase) (b : Bases) (sums : List Sum) (x last : Bricks) (moves : List Move) →
    IsProgram p → AreBases p b → AreBrickSums p phase b sums → IsStart p phase x →
    IsRun p phase (vectors sums) x moves last →
    length moves ≤ bound_number p (vectors sums)
    * binary_digits (unsigned_abs (phase_cost p phase x -ℤ phase_cost p phase last))
few_steps p phase b sums x last moves program bases are start run =
    let zs = vectors sums in
    let whole = unsigned_abs (phase_cost p phase x -ℤ phase_cost p phase last) in
    count (binary_digits whole) (bound_number p zs) (length moves) (λ j. left p phase zs last j x moves)
    (record {
      less = run_less p phase b sums program bases are moves x last run;
      part = run_part p phase b sums program bases are moves x last start run;
    })
    (less_than_power whole)
