-- Where there is a walk from a sum, there is a best one: the moves of a brick are gone through, each with the best walk
-- behind it.
use Rattle.std.proofs.Common.{◌≡◌, ℕ, ◌^◌, ℤ, pos, ◌+ℤ◌, ◌≤ℤ◌, true, Bool, false, List, [], ◌∷◌, refl, arith, sym}
use Rattle.std.proofs.Common.{Contains, Option, Some, None, subst, ◌⊎◌, inl, inr, IsTrue, int_lt}
use Rattle.std.proofs.lemmas.Int.{ints}
use Rattle.std.specs.Ordering.{is_le}
use Rattle.std.specs.Cmp.Lexicographic.{slice_cmp}
use Rattle.fold_theory.specs.declared.Phase.{Phase}
use Rattle.fold_theory.specs.Programs.{Program, Brick, Bricks, is_within}
use Rattle.lattice_theory.specs.Vectors.{Vector, lex_cmp, is_rising, add, scale}
use Rattle.lattice_theory.specs.Matrices.{product}
use Rattle.run_theory.specs.Walks.{brick_change, end_cost, WalkCosts}
use Rattle.lattice_laws.proofs.Members.{contains_cases, contains_head, contains_tail}
use Rattle.lattice_laws.proofs.Rising.{rising_tail, rising_above}
use Rattle.lattice_laws.proofs.Tests.{same_or_not, true_or_false, not_both}
use Rattle.fold_laws.proofs.Bounds.{is_within_true, is_within_of}
use Rattle.walk_laws.proofs.Orders.{first_decides, tails_decide}
use Rattle.walk_laws.proofs.Walks.{Front, front_of, walk_of}
use Rattle.walk_laws.proofs.BestWalks.{IsBestWalk, best_end, least_end}
use Rattle.sieve_laws.specs.Sieve.{after}

-- whether a vector is one of those listed is decided
listed_or_not : (vs : List Vector) (u : Vector) → Contains vs u ⊎ (Contains vs u → ⊥)
listed_or_not [] u = inr (λ c. absurd (omega (arith, c.1)))
listed_or_not (v ∷ vs) u = by (same_or_not v u) (listed_or_not vs u)
  where
    by : (v ≡ u) ⊎ (v ≡ u → ⊥) → Contains vs u ⊎ (Contains vs u → ⊥) → Contains (v ∷ vs) u ⊎ (Contains (v ∷ vs) u → ⊥)
    by (inl same) tail = inl (subst (Contains (v ∷ vs)) same (contains_head v vs))
    by (inr other) (inl there) = inl (contains_tail v vs u there)
    by (inr other) (inr none) = inr (λ c. elim (contains_cases v vs u c) [ inl e ↦ other e | inr d ↦ none d ])

module _ (p : Program) (phase : Phase) (zs : List Vector) (k : ℕ) (rests : Vector) where
  abbrev Costs : List Brick → Bricks → Vector → Bricks → ℤ → Type 0
  Costs bs x w h c = WalkCosts p phase zs k rests bs x w h c

  -- a best walk from w, or no walk at all
  abbrev pub BestOrNone : List Brick → Bricks → Vector → Type 0
  BestOrNone bs x w =
      ((h : Bricks) × (c : ℤ) × IsBestWalk p phase zs k rests bs x w h c) ⊎ ((h : Bricks) (c : ℤ) → Costs bs x w h c →
      ⊥)

  module _ (b : Brick) (bs : List Brick) (v : Vector) (x : Bricks) (w : Vector) (behind : (u : Vector) →
      BestOrNone bs x u) where
    -- the best of the walks that begin with one of these moves
    record BestBy (ds : List Vector) (h : Bricks) (c : ℤ) : Type 0 where
      walk : Costs (b ∷ bs) (v ∷ x) w h c
      least : (d : Vector) (g : Bricks) (e : ℤ) → Contains ds d → Costs (b ∷ bs) (v ∷ x) w (d ∷ g) e → c ≤ℤ e
      first : (d : Vector) (g : Bricks) → Contains ds d → Costs (b ∷ bs) (v ∷ x) w (d ∷ g) c →
          IsTrue (is_le (slice_cmp lex_cmp h (d ∷ g)))

    abbrev BestByOrNone : List Vector → Type 0
    BestByOrNone ds =
        ((h : Bricks) × (c : ℤ) × BestBy ds h c)
        ⊎ ((d : Vector) (g : Bricks) (e : ℤ) → Contains ds d → Costs (b ∷ bs) (v ∷ x) w (d ∷ g) e → ⊥)

    -- the walks that begin with d
    record BestFrom (d : Vector) (h : Bricks) (c : ℤ) : Type 0 where
      walk : Costs (b ∷ bs) (v ∷ x) w (d ∷ h) c
      least : (g : Bricks) (e : ℤ) → Costs (b ∷ bs) (v ∷ x) w (d ∷ g) e → c ≤ℤ e
      first : (g : Bricks) → Costs (b ∷ bs) (v ∷ x) w (d ∷ g) c → IsTrue (is_le (slice_cmp lex_cmp (d ∷ h) (d ∷ g)))

    abbrev BestFromOrNone : Vector → Type 0
    BestFromOrNone d =
        ((h : Bricks) × (c : ℤ) × BestFrom d h c) ⊎ ((g : Bricks) (e : ℤ) → Costs (b ∷ bs) (v ∷ x) w (d ∷ g) e → ⊥)

    front : (d : Vector) (g : Bricks) (e : ℤ) → Costs (b ∷ bs) (v ∷ x) w (d ∷ g) e →
        Front p phase zs k rests b bs v x w d g e
    front d g e wc = front_of p phase zs k rests b bs v x w d g e wc

    by_move : (d : Vector) → Contains zs d → BestFromOrNone d
    by_move d listed =
        by (true_or_false (is_within b (after k v d))) (listed_or_not zs (add w d)) (behind (add w d))
      where
        by : (is_within b (after k v d) ≡ true) ⊎ (is_within b (after k v d) ≡ false) →
            Contains zs (add w d) ⊎ (Contains zs (add w d) → ⊥) → BestOrNone bs x (add w d) → BestFromOrNone d
        by (inr outside) sum rest =
            inr (λ g e wc. not_both (is_within b (after k v d)) (is_within_of b (after k v d) (front d g e wc).within)
            outside)
        by (inl inside) (inr unlisted) rest = inr (λ g e wc. unlisted (front d g e wc).sum)
        by (inl inside) (inl sum) (inr none) = inr (λ g e wc. none g (front d g e wc).rest (front d g e wc).walk)
        by (inl inside) (inl sum) (inl (h, r, best)) = inl (
          h,
          brick_change phase b v (after k v d) +ℤ r,
          record {
            walk =
                walk_of p phase zs k rests b bs v x w d h (brick_change phase b v (after k v d) +ℤ r) r listed sum
                (is_within_true b (after k v d) inside) best.walk refl;
            least = λ g e wc.
                let f = front d g e wc in
                let low = best.least g f.rest f.walk in
                omega (arith, ints, low, f.is);
            first = λ g wc.
                let f = front d g _ wc in
                let same : f.rest ≡ r = omega (arith, ints, f.is) in
                tails_decide d h g (best.first g (subst (λ c. Costs bs x (add w d) g c) same f.walk));
          },
        )

    -- one more move before the others, with which it is compared
    with_move : (d : Vector) (ds : List Vector) → is_rising (d ∷ ds) ≡ true → BestFromOrNone d → BestByOrNone ds →
        BestByOrNone (d ∷ ds)
    with_move d ds rising (inr none) (inr nothing) =
        inr (λ e g c there wc. elim (contains_cases d ds e there) [
          | inl same ↦ none g c (subst (λ u. Costs (b ∷ bs) (v ∷ x) w (u ∷ g) c) (sym same) wc)
          | inr later ↦ nothing e g c later wc
        ])
    with_move d ds rising (inr none) (inl (h, c, best)) = inl (
      h,
      c,
      record {
        walk = best.walk;
        least = λ e g r there wc. elim (contains_cases d ds e there) [
          | inl same ↦ absurd (none g r (subst (λ u. Costs (b ∷ bs) (v ∷ x) w (u ∷ g) r) (sym same) wc))
          | inr later ↦ best.least e g r later wc
        ];
        first = λ e g there wc. elim (contains_cases d ds e there) [
          | inl same ↦ absurd (none g c (subst (λ u. Costs (b ∷ bs) (v ∷ x) w (u ∷ g) c) (sym same) wc))
          | inr later ↦ best.first e g later wc
        ];
      },
    )
    with_move d ds rising (inl (h, c, from)) (inr nothing) = inl (
      d ∷ h,
      c,
      record {
        walk = from.walk;
        least = λ e g r there wc. elim (contains_cases d ds e there) [
          | inl same ↦ from.least g r (subst (λ u. Costs (b ∷ bs) (v ∷ x) w (u ∷ g) r) (sym same) wc)
          | inr later ↦ absurd (nothing e g r later wc)
        ];
        first = λ e g there wc. elim (contains_cases d ds e there) [
          | inl same ↦
              subst (λ u. IsTrue (is_le (slice_cmp lex_cmp (d ∷ h) (u ∷ g)))) same
              (from.first g (subst (λ u. Costs (b ∷ bs) (v ∷ x) w (u ∷ g) c) (sym same) wc))
          | inr later ↦ absurd (nothing e g c later wc)
        ];
      },
    )
    with_move d ds rising (inl (h, c, from)) (inl (g, r, best)) = by (int_lt r c) refl
      where
        at_least : (n : ℤ) → n ≤ℤ c → n ≤ℤ r → (e : Vector) (f : Bricks) (s : ℤ) → Contains (d ∷ ds) e →
            Costs (b ∷ bs) (v ∷ x) w (e ∷ f) s → n ≤ℤ s
        at_least n low also e f s there wc = elim (contains_cases d ds e there) [
          | inl same ↦
              let above = from.least f s (subst (λ u. Costs (b ∷ bs) (v ∷ x) w (u ∷ f) s) (sym same) wc) in
              omega (arith, ints, low, above)
          | inr later ↦
              let above = best.least e f s later wc in
              omega (arith, ints, also, above)
        ]

        by : (t : Bool) → int_lt r c ≡ t → BestByOrNone (d ∷ ds)
        by true less = inl (
          g,
          r,
          record {
            walk = best.walk;
            least = at_least r (grind (arith, ints)) (omega (arith, ints));
            first = λ e f there wc. elim (contains_cases d ds e there) [
              | inl same ↦
                  let above = from.least f r (subst (λ u. Costs (b ∷ bs) (v ∷ x) w (u ∷ f) r) (sym same) wc) in
                  absurd (grind (arith, ints))
              | inr later ↦ best.first e f later wc
            ];
          },
        )
        by false more = inl (
          d ∷ h,
          c,
          record {
            walk = from.walk;
            least = at_least c (omega (arith, ints)) (grind (arith, ints));
            first = λ e f there wc. elim (contains_cases d ds e there) [
              | inl same ↦
                  subst (λ u. IsTrue (is_le (slice_cmp lex_cmp (d ∷ h) (u ∷ f)))) same
                  (from.first f (subst (λ u. Costs (b ∷ bs) (v ∷ x) w (u ∷ f) c) (sym same) wc))
              | inr later ↦ first_decides d e h f (rising_above d ds e rising later)
            ];
          },
        )

    by_moves : (ds : List Vector) → is_rising ds ≡ true → ((d : Vector) → Contains ds d → Contains zs d) →
        BestByOrNone ds
    by_moves [] rising listed = inr (λ d g e there wc. absurd (omega (arith, there.1)))
    by_moves (d ∷ ds) rising listed =
        with_move d ds rising (by_move d (listed d (contains_head d ds)))
        (by_moves ds (rising_tail d ds rising) (λ e there. listed e (contains_tail d ds e there)))

    best_more : is_rising zs ≡ true → BestOrNone (b ∷ bs) (v ∷ x) w
    best_more rising = by (by_moves zs rising (λ d there. there))
      where
        none : ((d : Vector) (g : Bricks) (e : ℤ) → Contains zs d → Costs (b ∷ bs) (v ∷ x) w (d ∷ g) e → ⊥) →
            (h : Bricks) (c : ℤ) → Costs (b ∷ bs) (v ∷ x) w h c → ⊥
        none nothing [] c wc = absurd (omega (arith, wc.walk.size))
        none nothing (d ∷ g) c wc = nothing d g c (front d g c wc).move wc

        least : (h : Bricks) (c : ℤ) → BestBy zs h c → (g : Bricks) (e : ℤ) → Costs (b ∷ bs) (v ∷ x) w g e → c ≤ℤ e
        least h c best [] e wc = absurd (omega (arith, wc.walk.size))
        least h c best (d ∷ g) e wc = best.least d g e (front d g e wc).move wc

        first : (h : Bricks) (c : ℤ) → BestBy zs h c → (g : Bricks) → Costs (b ∷ bs) (v ∷ x) w g c →
            IsTrue (is_le (slice_cmp lex_cmp h g))
        first h c best [] wc = absurd (omega (arith, wc.walk.size))
        first h c best (d ∷ g) wc = best.first d g (front d g c wc).move wc

        by : BestByOrNone zs → BestOrNone (b ∷ bs) (v ∷ x) w
        by (inr nothing) = inr (none nothing)
        by (inl (h, c, best)) =
            inl (h, c, record { walk = best.walk; least = least h c best; first = first h c best })

  -- there is a best walk, or no walk
  pub best_or_none : is_rising zs ≡ true → (bs : List Brick) (x : Bricks) (w : Vector) → BestOrNone bs x w
  best_or_none rising [] [] w = by (end_cost p phase rests (scale (pos (2 ^ k)) (product p.link w))) refl
    where
      by : (o : Option ℤ) → end_cost p phase rests (scale (pos (2 ^ k)) (product p.link w)) ≡ o → BestOrNone [] [] w
      by None e = inr (least_end p phase zs k rests w None e)
      by (Some a) e = inl ([], a, best_end p phase zs k rests w a e)
  best_or_none rising [] (v ∷ x) w = inr none
    where
      none : (h : Bricks) (c : ℤ) → Costs [] (v ∷ x) w h c → ⊥
      none [] c wc = absurd (omega (arith, wc.walk.size))
      none (d ∷ h) c wc = absurd (wc.walk.within)
  best_or_none rising (b ∷ bs) [] w = inr none
    where
      none : (h : Bricks) (c : ℤ) → Costs (b ∷ bs) [] w h c → ⊥
      none [] c wc = absurd (wc.walk.within)
      none (d ∷ h) c wc = absurd (omega (arith, wc.walk.size))
  best_or_none rising (b ∷ bs) (v ∷ x) w = best_more b bs v x w (λ u. best_or_none rising bs x u) rising
