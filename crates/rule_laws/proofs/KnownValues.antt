-- The laws at values worked by hand: the program of two bricks in phase Closed at the point (0, 4), (3, 1), of cost 9,
-- with the sums -e, 0 and e, where e = (1, -1). The one move that stays within the bounds and keeps the linking row is
-- (e, -e). Once and twice the move both lead to cost 5, so lengths 0 and 1 gain 4 each; four times leaves the bounds.
use Rattle.std.proofs.Common.{unsigned_abs, ◌≡◌, ◌≢◌, ℕ, zero, suc, ◌^◌, ◌<◌, ◌≤◌, ◌↔◌, pos, List, [], ◌∷◌, Contains}
use Rattle.std.proofs.Common.{Option, Some, None, IsTrue, slice_get, refl, sym, subst, arith, lit<, lit≤, inl, inr}
use Rattle.std.proofs.lemmas.Int.{ints}
use Rattle.std.proofs.lemmas.List.Elements.{All-head, All-tail, All-from_recursion}
use Rattle.std.proofs.Math.Pow.{pow_mono}
use Rattle.fold_theory.specs.declared.Phase.TheVariants.{Closed}
use Rattle.lattice_theory.specs.Vectors.{Vector}
use Rattle.lattice_theory.specs.SignedSums.{vectors}
use Rattle.lattice_theory.proofs.KnownValues.{minus, two}
use Rattle.lattice_laws.proofs.Members.{contains_cases}
use Rattle.fold_theory.specs.Programs.{Bricks, AreWithin, IsLength}
use Rattle.fold_theory.proofs.KnownValues.{the_program, point_of}
use Rattle.std.specs.Ordering.{is_le}
use Rattle.run_theory.specs.Keys.{beats}
use Rattle.run_theory.specs.Steps.{Move, moved, gain, IsWalk, Augments, IsGain, rule_cmp}
use Rattle.run_theory.specs.Outcomes.{Step}
use Rattle.run_theory.specs.Folds.{FoldValue}
use Rattle.run_theory.specs.Bests.{IsBestOfLength, IsFound, IsBeaten, AreGains, IsBestByGains, IsRuleStep}
use Rattle.rule_laws.specs.BestUpTo.{key_of}
use Rattle.rule_laws.proofs.BestUpTo.{found_gain, beating_step, best_none, best_takes, best_keeps, best_all}
use Rattle.rule_laws.proofs.Gains.{best_gain}

abbrev ahead : Vector
ahead = two (pos 1) (minus 1)

abbrev still : Vector
still = two (pos 0) (pos 0)

abbrev back : Vector
back = two (minus 1) (pos 1)

abbrev the_fold : FoldValue
the_fold = record {
  program = the_program;
  phase = Closed;
  sums =
      record { level = 1; vector = back } ∷ record { level = 0; vector = still }
      ∷ record { level = 1; vector = ahead } ∷ [];
}

abbrev the_sums : List Vector
the_sums = vectors the_fold.sums

abbrev the_point : Bricks
the_point = point_of (pos 0) (pos 4) (pos 3) (pos 1)

abbrev Gains : ℕ → Bricks → Type 0
Gains k h = Augments the_program Closed the_sums the_point k h

-- ---- the steps that gain

-- there are three lengths
three_lengths : (k : ℕ) → (k < 3) ↔ IsLength the_program k
three_lengths zero = (λ _. lit≤ tt, λ _. lit< tt)
three_lengths (suc zero) = (λ _. lit≤ tt, λ _. lit< tt)
three_lengths (suc (suc zero)) = (λ _. lit≤ tt, λ _. lit< tt)
three_lengths (suc (suc (suc k))) = (
  λ low. absurd (omega (arith, low)),
  λ power. let wide : 2 ^ 3 ≤ 2 ^ suc (suc (suc k)) = pow_mono {i = 3} {j = suc (suc (suc k))} (omega arith) in
      absurd (omega (arith, wide, power)),
)

each_sum : (P : Vector → Type 0) → P back → P still → P ahead → (w : Vector) → Contains the_sums w → P w
each_sum P first second third w listed = elim (contains_cases back (still ∷ ahead ∷ []) w listed) [
  | inl is ↦ subst P is first
  | inr rest ↦ elim (contains_cases still (ahead ∷ []) w rest) [
    | inl is ↦ subst P is second
    | inr last ↦ elim (contains_cases ahead [] w last) [
      | inl is ↦ subst P is third
      | inr past ↦ absurd (omega (arith, past.1))
    ]
  ]
]

-- what holds of all steps that gain holds of every move of two listed sums, and each of the three lengths
module _ (P : ℕ → Bricks → Type 0) where
  abbrev OfPair : Vector → Vector → Type 0
  OfPair c d = (k : ℕ) → Gains k (c ∷ d ∷ []) → P k (c ∷ d ∷ [])

  each_length : (c d : Vector) → (Gains 0 (c ∷ d ∷ []) → P 0 (c ∷ d ∷ [])) → (Gains 1 (c ∷ d ∷ []) → P 1 (c ∷ d ∷ [])) →
      (Gains 2 (c ∷ d ∷ []) → P 2 (c ∷ d ∷ [])) → OfPair c d
  each_length c d once twice fourfold zero a = once a
  each_length c d once twice fourfold (suc zero) a = twice a
  each_length c d once twice fourfold (suc (suc zero)) a = fourfold a
  each_length c d once twice fourfold (suc (suc (suc k))) a =
      absurd (omega (arith, (three_lengths (suc (suc (suc k)))).1 a.candidate.length))

  -- the first brick is at 0
  below : (d : Vector) → OfPair back d
  below d = each_length back d
      (λ a. absurd (omega (arith, ints, a.candidate.walk.within.0.0.0)))
      (λ a. absurd (omega (arith, ints, a.candidate.walk.within.0.0.0)))
      (λ a. absurd (omega (arith, ints, a.candidate.walk.within.0.0.0)))

  -- the linking row, which is met, is left by moves with another sum than 0
  first_still : (d : Vector) → Contains the_sums d → OfPair still d
  first_still = each_sum (OfPair still)
      (each_length still back
      (λ a. absurd (omega (arith, a.candidate.end))) (λ a. absurd (omega (arith, a.candidate.end)))
      (λ a. absurd (omega (arith, a.candidate.end))))
      (each_length still still
      (λ a. absurd (cc (a.candidate.nonzero))) (λ a. absurd (cc (a.candidate.nonzero)))
      (λ a. absurd (cc (a.candidate.nonzero))))
      (each_length still ahead
      (λ a. absurd (omega (arith, a.candidate.end))) (λ a. absurd (omega (arith, a.candidate.end)))
      (λ a. absurd (omega (arith, a.candidate.end))))

  -- the second brick is at 3
  first_ahead : P 0 (ahead ∷ back ∷ []) → P 1 (ahead ∷ back ∷ []) → (d : Vector) → Contains the_sums d → OfPair ahead d
  first_ahead once twice = each_sum (OfPair ahead)
      (each_length ahead back
      (λ _. once) (λ _. twice)
      (λ a. absurd (omega (arith, ints, a.candidate.walk.within.1.0.0.0))))
      (each_length ahead still
      (λ a. absurd (omega (arith, a.candidate.end))) (λ a. absurd (omega (arith, a.candidate.end)))
      (λ a. absurd (omega (arith, a.candidate.end))))
      (each_length ahead ahead
      (λ a. absurd (omega (arith, a.candidate.end))) (λ a. absurd (omega (arith, a.candidate.end)))
      (λ a. absurd (omega (arith, a.candidate.end))))

  each_step : P 0 (ahead ∷ back ∷ []) → P 1 (ahead ∷ back ∷ []) → (k : ℕ) (h : Bricks) → Gains k h → P k h
  each_step once twice k [] a = absurd (omega (arith, a.candidate.walk.size))
  each_step once twice k (c ∷ []) a = absurd (omega (arith, a.candidate.walk.size))
  each_step once twice k (c ∷ d ∷ b ∷ h) a = absurd (omega (arith, a.candidate.walk.size))
  each_step once twice k (c ∷ d ∷ []) a =
      let moves = a.candidate.walk.moves in
      let second = All-head (Contains the_sums) d [] (All-tail (Contains the_sums) c (d ∷ []) moves) in
      each_sum (λ c. OfPair c d) (below d) (first_still d second) (first_ahead once twice d second)
      c (All-head (Contains the_sums) c (d ∷ []) moves) k a

-- ---- gains

-- from 9 to 5, by lengths 0 and 1
abbrev the_gains : List (Option ℕ)
the_gains = Some 4 ∷ Some 4 ∷ None ∷ []

abbrev the_move : Bricks
the_move = ahead ∷ back ∷ []

-- the move and the sums on the way are listed
ahead_listed : Contains the_sums ahead
ahead_listed = (2, omega arith, refl)

back_listed : Contains the_sums back
back_listed = (0, omega arith, refl)

still_listed : Contains the_sums still
still_listed = (1, omega arith, refl)

the_walk : (k : ℕ) → AreWithin the_program.bricks (moved the_point k the_move) →
    IsWalk the_sums k the_program.bricks the_point still the_move
the_walk k within = record {
  size = refl;
  moves = All-from_recursion (Contains the_sums) the_move (ahead_listed, (back_listed, tt));
  sums = All-from_recursion (Contains the_sums) (ahead ∷ still ∷ []) (ahead_listed, (still_listed, tt));
  within = within;
}

gains_once : Gains 0 the_move
gains_once = record {
  candidate = record {
    nonzero = refl;
    walk = the_walk 0 (
      ((omega (arith, ints), (omega (arith, ints), tt)), (omega (arith, ints), (omega (arith, ints), tt))),
      (((omega (arith, ints), (omega (arith, ints), tt)), (omega (arith, ints), (omega (arith, ints), tt))), tt),
    );
    length = lit≤ tt;
    end = refl;
  };
  lowers = omega (arith, ints);
}

gains_twice : Gains 1 the_move
gains_twice = record {
  candidate = record {
    nonzero = refl;
    walk = the_walk 1 (
      ((omega (arith, ints), (omega (arith, ints), tt)), (omega (arith, ints), (omega (arith, ints), tt))),
      (((omega (arith, ints), (omega (arith, ints), tt)), (omega (arith, ints), (omega (arith, ints), tt))), tt),
    );
    length = lit≤ tt;
    end = refl;
  };
  lowers = omega (arith, ints);
}

their_gain : (k : ℕ) (h : Bricks) → Gains k h → unsigned_abs (gain the_program Closed the_point k h) ≤ 4
their_gain = each_step (λ k h. unsigned_abs (gain the_program Closed the_point k h) ≤ 4) (lit≤ tt) (lit≤ tt)

none_fourfold : (h : Bricks) → Gains 2 h → ⊥
none_fourfold h a = let short = each_step (λ k h. k < 2) (lit< tt) (lit< tt) 2 h a in omega (arith, short)

gains_are : AreGains the_program Closed the_sums the_point the_gains
gains_are = record { lengths = three_lengths; each = each }
  where
    each : (k : ℕ) (g : Option ℕ) → slice_get the_gains k ≡ Some g → IsGain the_program Closed the_sums the_point k g
    each zero g is =
        let same : Some 4 ≡ g = cc in
        subst (IsGain the_program Closed the_sums the_point 0) same ((the_move, gains_once, refl), their_gain 0)
    each (suc zero) g is =
        let same : Some 4 ≡ g = cc in
        subst (IsGain the_program Closed the_sums the_point 1) same ((the_move, gains_twice, refl), their_gain 1)
    each (suc (suc zero)) g is =
        let same : None ≡ g = cc in subst (IsGain the_program Closed the_sums the_point 2) same none_fourfold
    each (suc (suc (suc k))) g is = absurd (cc)

-- of equal gains that of the lesser length is the best
first_is_best : IsBestByGains the_gains (Some 0)
first_is_best = (4, refl, beating)
  where
    First : ℕ → ℕ → Type 0
    First j h = IsTrue (beats (record { gain = 4; k = 0 }) (record { gain = h; k = j }))

    beating : (j h : ℕ) → j ≢ 0 → slice_get the_gains j ≡ Some (Some h) → First j h
    beating zero h other is = absurd (other refl)
    beating (suc zero) h other is = let same : 4 ≡ h = cc in subst (First 1) same refl
    beating (suc (suc zero)) h other is = absurd (cc)
    beating (suc (suc (suc j))) h other is = absurd (cc)

-- ---- the rule's step

abbrev the_step : Step
the_step = record { k = 0; gain = 4; bricks = 1 ∷ 2 ∷ []; entries = pos 1 ∷ minus 1 ∷ minus 1 ∷ pos 1 ∷ [] }

abbrev twice_step : Step
twice_step = record { k = 1; gain = 4; bricks = 1 ∷ 2 ∷ []; entries = pos 1 ∷ minus 1 ∷ minus 1 ∷ pos 1 ∷ [] }

abbrev NoLater : ℕ → Bricks → Type 0
NoLater k h =
    let as_move : Bricks → Move = λ g. record { k = k; bricks = g } in
    IsTrue (is_le (rule_cmp the_program Closed the_point (as_move the_move) (as_move h)))

only_of_length : (k : ℕ) → Gains k the_move → NoLater k the_move → IsBestOfLength the_fold the_point k the_move
only_of_length k a first = record {
  augments = a;
  first = λ g b. subst (NoLater k) (sym (each_step (λ k h. h ≡ the_move) refl refl k g b)) first;
}

found_once : IsFound the_fold the_point 0 the_step
found_once = (the_move, only_of_length 0 gains_once refl, refl)

found_twice : IsFound the_fold the_point 1 twice_step
found_twice = (the_move, only_of_length 1 gains_twice refl, refl)

-- what it gains is the gain of its length
pub gain_once : IsGain the_program Closed the_sums the_point 0 (Some 4)
gain_once = found_gain the_fold the_point 0 the_step found_once

-- by the gains of all lengths
pub by_gains : IsRuleStep the_fold the_point (Some the_step)
by_gains = best_gain the_fold the_point the_gains gains_are 0 the_step first_is_best found_once

-- by a search over the lengths: the first is taken, it beats the second, and the third has no step
pub by_search : IsRuleStep the_fold the_point (Some the_step)
by_search =
    let first = best_takes the_fold the_point 0 None the_step (best_none the_fold the_point) found_once refl in
    let second = best_keeps the_fold the_point 1 (Some the_step) first (inr (twice_step, found_twice, refl)) in
    let third = best_keeps the_fold the_point 2 (Some the_step) second (inl none_fourfold) in
    best_all the_fold the_point 3 (Some the_step) three_lengths third

-- by its key, which beats those of all others
pub by_key : IsRuleStep the_fold the_point (Some the_step)
by_key = beating_step the_fold the_point 0 the_step found_once others
  where
    others : (j : ℕ) → j ≢ 0 → IsLength the_program j → IsBeaten the_fold the_point j (Some (key_of the_step))
    others zero other fits = absurd (other refl)
    others (suc zero) other fits = inr (twice_step, found_twice, refl)
    others (suc (suc zero)) other fits = inl none_fourfold
    others (suc (suc (suc j))) other fits = absurd (omega (arith, (three_lengths (suc (suc (suc j)))).1 fits))
