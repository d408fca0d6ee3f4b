-- What the keys of steps say of the costs after them, and so of the order of the rule.
use Rattle.std.proofs.Common.{◌≡◌, ℕ, ◌<◌, ◌≤◌, ℤ, pos, ◌-ℤ◌, ◌≤ℤ◌, ◌<ℤ◌, unsigned_abs, Bool, true, false, nat_eq}
use Rattle.std.proofs.Common.{nat_lt, ◌&&◌, ◌||◌, IsTrue, refl, ap, ◌∙◌, arith, ◌⊎◌, inl, inr}
use Rattle.std.proofs.lemmas.Int.{ints}
use Rattle.std.proofs.lemmas.Bool.Decides.{nat_tests}
use Rattle.std.specs.Ordering.{int_cmp, nat_cmp, ordering_then, is_le}
use Rattle.std.specs.Cmp.Lexicographic.{slice_cmp}
use Rattle.std.specs.declared.cmp.Ordering.{Ordering}
use Rattle.std.specs.declared.cmp.Ordering.TheVariants.{Less, Equal, Greater}
use Rattle.run_theory.specs.declared.Key.{Key}
use Rattle.lattice_theory.specs.Vectors.{lex_cmp}
use Rattle.lattice_theory.specs.SignedSums.{vectors}
use Rattle.fold_theory.specs.Programs.{Bricks, phase_cost}
use Rattle.run_theory.specs.Steps.{Move, moved, gain, Augments, rule_cmp}
use Rattle.run_theory.specs.Folds.{FoldValue}
use Rattle.run_theory.specs.Keys.{beats}

-- ---- keys

-- a key that beats another one beats one of that length that gains no more
pub beats_lesser : (a : Key) (g h k : ℕ) → h ≤ g → IsTrue (beats a (record { gain = g; k = k })) →
    IsTrue (beats a (record { gain = h; k = k }))
beats_lesser a g h k low wins = lesser a.gain a.k wins
  where
    lesser : (c j : ℕ) → IsTrue (nat_lt g c || (nat_eq c g && nat_lt j k)) →
        IsTrue (nat_lt h c || (nat_eq c h && nat_lt j k))
    lesser c j wins = grind (arith, nat_tests)

-- the key that beats gains more, or as much with a shorter length
pub beats_by : (g h j k : ℕ) → IsTrue (beats (record { gain = g; k = j }) (record { gain = h; k = k })) →
    (h < g) ⊎ ((g ≡ h) × (j < k))
beats_by g h j k wins = by (nat_lt h g) refl wins
  where
    by : (t : Bool) → nat_lt h g ≡ t → IsTrue (t || (nat_eq g h && nat_lt j k)) → (h < g) ⊎ ((g ≡ h) × (j < k))
    by true e w = inl (grind (arith, nat_tests))
    by false e w = inr (grind (arith, nat_tests), grind (arith, nat_tests))

-- where a key of a shorter length does not beat another one, that one gains more
pub unbeaten_gains : (g h j k : ℕ) → j < k →
    beats (record { gain = g; k = j }) (record { gain = h; k = k }) ≡ false → g < h
unbeaten_gains g h j k short loses = grind (arith, nat_tests)

-- ---- orders

less_cmp : (a b : ℤ) → a <ℤ b → int_cmp a b ≡ Less
less_cmp a b low = grind (arith, ints)

same_cmp : (a b : ℤ) → a ≡ b → int_cmp a b ≡ Equal
same_cmp a b e = grind (arith, ints)

shorter_cmp : (j k : ℕ) → j < k → nat_cmp j k ≡ Less
shorter_cmp j k low = grind (arith, nat_tests)

not_greater : (a b : ℤ) → int_cmp a b ≡ Greater → b <ℤ a
not_greater a b e = grind (arith, ints)

-- the first order decides where it says less, and where it says greater
less_first : (o rest : Ordering) → o ≡ Less → IsTrue (is_le (ordering_then o rest))
less_first o rest e = ap (λ u. is_le (ordering_then u rest)) e

less_second : (o u rest : Ordering) → o ≡ Equal → u ≡ Less → IsTrue (is_le (ordering_then o (ordering_then u rest)))
less_second o u rest e f =
    ap (λ v. is_le (ordering_then v (ordering_then u rest))) e ∙ less_first u rest f

greater_first : (o rest : Ordering) → IsTrue (is_le (ordering_then o rest)) → o ≡ Greater → ⊥
greater_first Less rest h e = absurd (cc)
greater_first Equal rest h e = absurd (cc)
greater_first Greater rest h e = absurd (cc)

-- ---- costs after steps

module _ (f : FoldValue) (x : Bricks) where
  abbrev pub Gains : ℕ → Bricks → Type 0
  Gains k h = Augments f.program f.phase (vectors f.sums) x k h

  -- the phase cost after the step
  abbrev pub after : ℕ → Bricks → ℤ
  after k h = phase_cost f.program f.phase (moved x k h)

  -- what the step gains
  abbrev pub worth : ℕ → Bricks → ℕ
  worth k h = unsigned_abs (gain f.program f.phase x k h)

  abbrev pub move : ℕ → Bricks → Move
  move k h = record { k = k; bricks = h }

  abbrev pub key_at : ℕ → Bricks → Key
  key_at k h = record { gain = worth k h; k = k }

  -- no later by the rule
  abbrev pub NoLater : Move → Move → Type 0
  NoLater m n = IsTrue (is_le (rule_cmp f.program f.phase x m n))

  -- the phase cost before the step is that after it and what it gains
  pub worth_after : (k : ℕ) (h : Bricks) → Gains k h → pos (worth k h) ≡ phase_cost f.program f.phase x -ℤ after k h
  worth_after k h a = omega (arith, ints, a.lowers)

  -- a step that is no later costs no more
  pub later_costs : (m n : Move) → NoLater m n → after m.k m.bricks ≤ℤ after n.k n.bricks
  later_costs m n no_later = by (int_cmp (after m.k m.bricks) (after n.k n.bricks)) refl
    where
      rest : Ordering
      rest = ordering_then (nat_cmp m.k n.k) (slice_cmp lex_cmp m.bricks n.bricks)

      by : (o : Ordering) → int_cmp (after m.k m.bricks) (after n.k n.bricks) ≡ o →
          after m.k m.bricks ≤ℤ after n.k n.bricks
      by Less e = grind (arith, ints)
      by Equal e = grind (arith, ints)
      by Greater e = absurd (greater_first (int_cmp (after m.k m.bricks) (after n.k n.bricks)) rest no_later e)

  -- a step that costs less comes first
  pub cheaper_first : (m n : Move) → after m.k m.bricks <ℤ after n.k n.bricks → NoLater m n
  cheaper_first m n low = less_first _ _ (less_cmp (after m.k m.bricks) (after n.k n.bricks) low)

  -- and so does one whose key beats the other's
  pub beating_first : (j k : ℕ) (g h : Bricks) → Gains j g → Gains k h → IsTrue (beats (key_at j g) (key_at k h)) →
      NoLater (move j g) (move k h)
  beating_first j k g h a b wins = by (beats_by (worth j g) (worth k h) j k wins)
    where
      first : pos (worth j g) ≡ phase_cost f.program f.phase x -ℤ after j g
      first = worth_after j g a

      second : pos (worth k h) ≡ phase_cost f.program f.phase x -ℤ after k h
      second = worth_after k h b

      by : (worth k h < worth j g) ⊎ ((worth j g ≡ worth k h) × (j < k)) → NoLater (move j g) (move k h)
      by (inl more) = cheaper_first (move j g) (move k h) (omega (arith, ints, first, second, more))
      by (inr (same, short)) =
          let costs : after j g ≡ after k h = omega (arith, ints, first, second, same) in
          less_second _ _ _ (same_cmp (after j g) (after k h) costs) (shorter_cmp j k short)
