-- The gains of a round, and what the answer for one length says of them.
use Rattle.std.proofs.Common.{◌≡◌, ℕ, ◌<◌, ◌≤◌, ◌^◌, ◌↔◌, max, List, length, [], ◌∷◌, ◌++◌, Option, Some, None, IfSome}
use Rattle.std.proofs.Common.{IfNone, IsTrue, option_map, refl, ap, sym, ◌∙◌, subst, arith, inl, inr, ⊎_elim}
use Rattle.std.proofs.lemmas.Int.{ints}
use Rattle.std.proofs.lemmas.Option.{slice_get-get_or}
use Rattle.lattice_theory.specs.SignedSums.{vectors}
use Rattle.fold_theory.specs.Programs.{Bricks}
use Rattle.run_theory.specs.declared.Key.{Key}
use Rattle.run_theory.specs.Keys.{beaten, IsNoWorse}
use Rattle.run_theory.specs.Steps.{IsGain}
use Rattle.run_theory.specs.Outcomes.{Step}
use Rattle.run_theory.specs.Folds.{FoldValue}
use Rattle.run_theory.specs.Bests.{IsFound, IsBeaten, NoneOfLength}
use Rattle.step_lengths.specs.Lengths.{IsLengthCount}
use Rattle.rule_laws.proofs.BestUpTo.{found_gain}
use Rattle.round_core.proofs.Decided.{less_or_not}
use Rattle.round_core.proofs.Places.{same_or_else}
use Rattle.round_core.specs.declared.parts.Fate.TheVariants.{Offered, Beaten}
use Rattle.brick_dp.specs.Answers.{IsStepAnswer}
use Rattle.brick_dp.specs.declared.answers.StepAnswer.{StepAnswer}
use Rattle.brick_dp.specs.declared.answers.StepAnswer.TheVariants as answers
use Rattle.board_laws.specs.declared.views.View.{View}
use Rattle.board_laws.proofs.Orders.{beats_before, outranks-beaten}
use Rattle.board_laws.specs.Indexes.{gain_of, length_key, IsOutdone}
use Rattle.board_laws.specs.Views.{seeing_view, settling_view}
use Rattle.round_workers.specs.Tasks.{HasGains}
use Rattle.round_workers.specs.Workers.{WorkerValue, KnowsBest, HasTried}
use Rattle.round_workers.proofs.Steps.{looked_settled}

module _ (f : FoldValue) (x : Bricks) (k : ℕ) where
  abbrev At : Option ℕ → Type 0
  At g = IsGain f.program f.phase (vectors f.sums) x k g

  -- a length has one gain
  pub gain_once : (g h : Option ℕ) → At g → At h → g ≡ h
  gain_once None None a b = refl
  gain_once None (Some h) a b = absurd (a b.0.0 b.0.1)
  gain_once (Some g) None a b = absurd (b a.0.0 a.0.1)
  gain_once (Some g) (Some h) a b =
      let up = a.1 b.0.0 b.0.1 in
      let down = b.1 a.0.0 a.0.1 in
      let e = a.0.2 in
      let d = b.0.2 in ap Some (omega (arith, ints, up, down, e, d))

module _ (f : FoldValue) (x : Bricks) (gains : List (Option ℕ)) (are : HasGains f x gains) (k : ℕ)
    (low : k < length gains) where
  listed : At f x k (gain_of gains k)
  listed = are.each k (gain_of gains k) (slice_get-get_or gains k None low)

  -- the step found has the key of its length
  pub found_key : (s : Step) → IsFound f x k s → length_key gains k ≡ Some (record { gain = s.gain; k = k })
  found_key s found =
      ap (option_map (λ g. record { gain = g; k = k }))
      (gain_once f x k (gain_of gains k) (Some s.gain) listed (found_gain f x k s found))

  -- a length of which no step gains has no gain
  pub none_gain : NoneOfLength f x k → gain_of gains k ≡ None
  none_gain none = gain_once f x k (gain_of gains k) None listed none

  -- a length that is beaten has no gain, or the bound beats its key
  pub beaten_outdone : (bound : Option Key) → IsBeaten f x k bound → IsOutdone gains k bound
  beaten_outdone bound is = ⊎_elim
      (λ (none : NoneOfLength f x k). inl (none_gain none))
      (λ (b : (s : Step) × IsFound f x k s × IsTrue (beaten (record { gain = s.gain; k = k }) bound)).
      inr (record { gain = b.0.gain; k = k }, found_key b.0 b.1, b.2))
      is

-- what outdoes a length, or a later bound that is no worse, outdoes it
pub IsOutdone-later : (gains : List (Option ℕ)) (k : ℕ) (old now : Option Key) → IsNoWorse old now
    → IsOutdone gains k old → IsOutdone gains k now
IsOutdone-later gains k old now later outdone = ⊎_elim
    (λ none. inl none)
    (λ (o : (key : Key) × (length_key gains k ≡ Some key) × IsTrue (beaten key old)).
    let before = outranks-beaten o.0 old ∙ o.2 in
    inr (o.0, o.1, sym (outranks-beaten o.0 now) ∙ beats_before old now (Some o.0) before later))
    outdone

-- two counts of the same numbers are equal
pub same_count : (P : ℕ → Type 0) (a b : ℕ) → ((k : ℕ) → (k < a) ↔ P k) → ((k : ℕ) → (k < b) ↔ P k) → a ≡ b
same_count P a b first second =
    let up : a < b → ⊥ = λ lt. let l : a < a = (first a).1 ((second a).0 lt) in absurd (omega (arith, l)) in
    let down : b < a → ⊥ = λ lt. let l : b < b = (second b).1 ((first b).0 lt) in absurd (omega (arith, l)) in
    ⊎_elim (λ e. e) (λ n. ⊎_elim (λ lt. absurd (up lt)) (λ le. absurd (down (omega (arith, n, le)))) (less_or_not a b))
    (same_or_else a b)

-- 2 ^ 0 is always a length
pub some_length : (range n : ℕ) → IsLengthCount range n → 1 ≤ n
some_length range n is = let one : 2 ^ 0 ≤ max 1 range = omega arith in omega (arith, (is 0).1 one)

-- ---- the answer for one length

pub answer_found : (f : FoldValue) (x : Bricks) (k : ℕ) (bound : Option Key) (a : StepAnswer) (s : Step)
    → a ≡ answers.Found s → IsStepAnswer f x k bound a → IsFound f x k s
answer_found f x k bound a s is answer = (subst (IsStepAnswer f x k bound) is answer).0

pub answer_beaten : (f : FoldValue) (x : Bricks) (k : ℕ) (bound : Option Key) (a : StepAnswer) → a ≡ answers.Beaten
    → IsStepAnswer f x k bound a → IsBeaten f x k bound
answer_beaten f x k bound a is answer = subst (IsStepAnswer f x k bound) is answer

-- the seat b looked before it settled the length
module _ (f : FoldValue) (x : Bricks) (k : ℕ) (w r : WorkerValue) (b : View) (bound : Option Key) (a : StepAnswer)
    (looked : b ≡ seeing_view w.held.view b.seen) (of : r.held.table ≡ w.held.table)
    (answer : IsStepAnswer f x k bound a) (best : KnowsBest f x r) where
  pub has_tried : (step : Option Step)
      → IfSome step (λ s. (a ≡ answers.Found s) × (r.held.view ≡ settling_view b k Offered r.held.view.seen))
      → IfNone step (r.held.view ≡ settling_view b k Beaten r.held.view.seen)
      → IfSome step (λ s. r.steps ≡ (w.steps ++ s ∷ [])) → IfNone step (r.steps ≡ w.steps) → HasTried f x k w r
  has_tried None _ beaten _ same = record {
    of = of;
    fate = inl (looked_settled w.held.view b r.held.view k Beaten looked beaten, same);
    best = best;
  }
  has_tried (Some s) offered _ one _ = record {
    of = of;
    fate = inr (
      s,
      answer_found f x k bound a s offered.0 answer,
      looked_settled w.held.view b r.held.view k Offered looked offered.1,
      one,
    );
    best = best;
  }
