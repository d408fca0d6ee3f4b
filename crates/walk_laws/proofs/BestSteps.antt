-- The best walk through all layers is the best step of its length, where it lowers the cost, and else no step of that
-- length does.
use Rattle.std.proofs.Common.{◌≡◌, ℕ, ℤ, pos, ◌-ℤ◌, ◌≤ℤ◌, ◌<ℤ◌, Bool, true, false, List, length, refl, ap, arith, ◌∙◌}
use Rattle.std.proofs.Common.{Option, Some, None, subst, All, IsTrue, int_lt, get_or, ◌⊎◌, inl, inr}
use Rattle.std.proofs.lemmas.Int.{ints}
use Rattle.std.proofs.lemmas.Bool.Decides.{nat_tests}
use Rattle.std.proofs.lemmas.List.Elements.{All-contains}
use Rattle.std.specs.List.{list_all}
use Rattle.std.specs.Ordering.{int_cmp, nat_cmp, ordering_then, is_le}
use Rattle.std.specs.Cmp.Lexicographic.{slice_cmp}
use Rattle.std.specs.declared.cmp.Ordering.{Ordering}
use Rattle.std.specs.declared.cmp.Ordering.TheVariants.{Less, Equal}
use Rattle.fold_theory.specs.declared.Phase.{Phase}
use Rattle.lattice_theory.specs.Vectors.{Vector, lex_cmp, zeros, is_zero}
use Rattle.fold_theory.specs.Programs.{Program, Bricks, link_rests, phase_cost, IsLength}
use Rattle.run_theory.specs.Steps.{moved, gain, AllowsEnd, IsCandidate, Augments, rule_cmp}
use Rattle.run_theory.specs.Walks.{WalkCosts}
use Rattle.lattice_laws.proofs.Tests.{true_or_false}
use Rattle.walk_laws.proofs.BestWalks.{IsLeastWalk, IsBestWalk}
use Rattle.walk_laws.proofs.Candidates.{walk_steps, step_walks, moved_nothing}

same_length : (k : ℕ) → nat_cmp k k ≡ Equal
same_length k = grind (arith, nat_tests)

less_or_same : (a b : ℤ) → a ≤ℤ b → (int_cmp a b ≡ Less) ⊎ ((int_cmp a b ≡ Equal) × (a ≡ b))
less_or_same a b low = by (int_lt a b) refl
  where
    by : (t : Bool) → int_lt a b ≡ t → (int_cmp a b ≡ Less) ⊎ ((int_cmp a b ≡ Equal) × (a ≡ b))
    by true e = inl (grind (arith, ints))
    by false e = let same : a ≡ b = not_less e in inr (grind (arith, ints), same)
      where
        not_less : int_lt a b ≡ false → a ≡ b
        not_less e = grind (arith, ints)

-- the least of three orders decides
decided_first : (a b c : Ordering) → a ≡ Less → IsTrue (is_le (ordering_then a (ordering_then b c)))
decided_first a b c e = ap (λ o. is_le (ordering_then o (ordering_then b c))) e

decided_last : (a b c : Ordering) → a ≡ Equal → b ≡ Equal → IsTrue (is_le c) →
    IsTrue (is_le (ordering_then a (ordering_then b c)))
decided_last a b c e f h = ap (λ o. is_le (ordering_then o (ordering_then b c))) e
    ∙ ap (λ o. is_le (ordering_then o c)) f ∙ h

module _ (p : Program) (phase : Phase) (zs : List Vector) (k : ℕ) (x : Bricks)
    (wx : All (λ v. length v ≡ p.brick.cols) x) (widths : All (λ z. length z ≡ p.brick.cols) zs) where
  abbrev Walks : Bricks → ℤ → Type 0
  Walks h c = WalkCosts p phase zs k (link_rests p x) p.bricks x (zeros p.brick.cols) h c

  abbrev change : Bricks → ℤ
  change h = phase_cost p phase (moved x k h) -ℤ phase_cost p phase x

  walks : (h : Bricks) → IsCandidate p phase zs x k h → Walks h (change h)
  walks h cand = step_walks p zs p.brick.cols k x wx widths phase h cand.walk cand.end

  steps : (h : Bricks) (c : ℤ) → Walks h c → AllowsEnd p phase (moved x k h) × (c ≡ change h)
  steps h c wc = walk_steps p zs p.brick.cols k x wx widths phase h c wc

  -- no step gains where no walk through all layers lowers the cost
  pub none_augments : (o : Option ℤ) → IsLeastWalk p phase zs k (link_rests p x) p.bricks x (zeros p.brick.cols) o →
      ((c : ℤ) → o ≡ Some c → pos 0 ≤ℤ c) → (h : Bricks) → Augments p phase zs x k h → ⊥
  none_augments None least high h a = least h (change h) (walks h a.candidate)
  none_augments (Some c) least high h a =
      let low : c ≤ℤ change h = least.1 h (change h) (walks h a.candidate) in
      let above : pos 0 ≤ℤ c = high c refl in
      absurd (omega (arith, ints, low, above, a.lowers))

  -- a walk that lowers the cost is a step that gains
  pub walk_augments : (h : Bricks) (c : ℤ) → IsLength p k → Walks h c → c <ℤ pos 0 → Augments p phase zs x k h
  walk_augments h c fits wc low = record {
    candidate = record {
      nonzero = moves (true_or_false (list_all is_zero h));
      walk = wc.walk;
      length = fits;
      end = (steps h c wc).0;
    };
    lowers = let e = (steps h c wc).1 in omega (arith, ints, e, low);
  }
    where
      sized : All (λ v. length v ≡ p.brick.cols) h
      sized i d inside = All-contains (λ v. length v ≡ p.brick.cols) zs (get_or h i d) widths (wc.walk.moves i d inside)

      moves : (list_all is_zero h ≡ true) ⊎ (list_all is_zero h ≡ false) → list_all is_zero h ≡ false
      moves (inl zero) =
          let still : moved x k h ≡ x = moved_nothing p.brick.cols k x h wc.walk.size wx sized zero in
          let same = ap (phase_cost p phase) still in
          let e = (steps h c wc).1 in
          absurd (omega (arith, ints, same, e, low))
      moves (inr e) = e

  -- and the best walk is the first step of its length
  pub best_is_first : (h : Bricks) (c : ℤ) → IsBestWalk p phase zs k (link_rests p x) p.bricks x (zeros p.brick.cols) h
      c →
      (g : Bricks) → Augments p phase zs x k g →
      IsTrue (is_le (rule_cmp p phase x (record { k = k; bricks = h }) (record { k = k; bricks = g })))
  best_is_first h c best g a = by (less_or_same (phase_cost p phase (moved x k h)) (phase_cost p phase (moved x k g))
      after)
    where
      low : c ≤ℤ change g
      low = best.least g (change g) (walks g a.candidate)

      is : c ≡ change h
      is = (steps h c best.walk).1

      after : phase_cost p phase (moved x k h) ≤ℤ phase_cost p phase (moved x k g)
      after = omega (arith, ints, low, is)

      by : (int_cmp (phase_cost p phase (moved x k h)) (phase_cost p phase (moved x k g)) ≡ Less)
          ⊎ ((int_cmp (phase_cost p phase (moved x k h)) (phase_cost p phase (moved x k g)) ≡ Equal)
          × (phase_cost p phase (moved x k h) ≡ phase_cost p phase (moved x k g))) →
          IsTrue (is_le (rule_cmp p phase x (record { k = k; bricks = h }) (record { k = k; bricks = g })))
      by (inl less) = decided_first _ (nat_cmp k k) (slice_cmp lex_cmp h g) less
      by (inr same) =
          let costs : change g ≡ c = omega (arith, ints, same.1, is) in
          decided_last _ (nat_cmp k k) (slice_cmp lex_cmp h g) same.0 (same_length k)
          (best.first g (subst (λ e. Walks g e) costs (walks g a.candidate)))

  -- its gain is what the walk lowers the cost by
  pub gain_is : (h : Bricks) (c : ℤ) → Walks h c → gain p phase x k h ≡ pos 0 -ℤ c
  gain_is h c wc = let e = (steps h c wc).1 in omega (arith, ints, e)
