-- Live nodes at values worked by hand: the program of two bricks in phase Closed at the point (0, 4), (3, 1), with its
-- five sums and steps of length 2. Twice (1, -1) and then twice (-1, 1) lower the cost of the second brick from 9 to 1,
-- and the least that the first brick changes its cost by is 0, so each of the two nodes on this way is worth 8.
use Rattle.std.specs.Prelude.{◌<ℤ◌, Bool, map, ◌≡◌, ℕ, zero, suc, ℤ, pos, ◌+ℤ◌, ◌≤ℤ◌, neg_ℤ, unsigned_abs, true, false}
use Rattle.std.specs.Prelude.{List, [], ◌∷◌, drop, Contains, Option, Some, None, refl}
use Rattle.std.proofs.Common.{arith, subst, ap, lit≤}
use Rattle.std.proofs.lemmas.Int.{ints}
use Rattle.std.proofs.lemmas.List.Elements.{All-head, All-nil, All-from_recursion}
use Rattle.std.proofs.lemmas.Option.{same_Some}
use Rattle.fold_theory.specs.declared.Phase.TheVariants.{Closed}
use Rattle.run_theory.specs.declared.Key.{Key}
use Rattle.lattice_theory.specs.Vectors.{Vector}
use Rattle.lattice_theory.specs.SignedSums.{vectors}
use Rattle.lattice_theory.proofs.KnownValues.{minus}
use Rattle.fold_theory.specs.Programs.{Bricks, link_rests}
use Rattle.fold_theory.proofs.KnownValues.{the_program, brick_with}
use Rattle.run_theory.specs.Keys.{beaten}
use Rattle.run_theory.specs.Walks.{WalkCosts}
use Rattle.run_theory.specs.Live.{least_change, least_before, IsLive, Node, TriesLiveNodes}
use Rattle.run_theory.proofs.KnownValues.{five_sums, start_point, key}

abbrev zs : List Vector
zs = vectors five_sums

-- c times (1, -1)
abbrev times : ℤ → Vector
times c = c ∷ neg_ℤ c ∷ []

each_sum : (P : Vector → Type 0) → P (times (minus 2)) → P (times (minus 1)) → P (times (pos 0)) → P (times (pos 1)) →
    P (times (pos 2)) → (w : Vector) → Contains zs w → P w
each_sum P a b c d e w (zero, low, is) = subst P is a
each_sum P a b c d e w (suc zero, low, is) = subst P is b
each_sum P a b c d e w (suc (suc zero), low, is) = subst P is c
each_sum P a b c d e w (suc (suc (suc zero)), low, is) = subst P is d
each_sum P a b c d e w (suc (suc (suc (suc zero))), low, is) = subst P is e
each_sum P a b c d e w (suc (suc (suc (suc (suc k)))), low, is) = absurd (omega (arith, low))

back_listed : Contains zs (times (minus 1))
back_listed = (1, omega arith, refl)

still_listed : Contains zs (times (pos 0))
still_listed = (2, omega arith, refl)

ahead_listed : Contains zs (times (pos 1))
ahead_listed = (3, omega arith, refl)

-- ---- walks from the layers

-- of the length 2, from the sum w at layer i to the end
abbrev Walk : ℕ → Vector → Bricks → ℤ → Type 0
Walk i w h c =
    WalkCosts the_program Closed zs 1 (link_rests the_program start_point) (drop i the_program.bricks)
    (drop i start_point) w h c

-- from layer 1 the second brick goes back by 2 or rests, and the sum at the end is 0
module _ (P : Vector → ℤ → Type 0) (back : P (times (pos 1)) (minus 8)) (rest : P (times (pos 0)) (pos 0)) where
  abbrev Ends : Vector → Vector → Type 0
  Ends w d = (c : ℤ) → Walk 1 w (d ∷ []) c → P w c

  each_way : (w d : Vector) → Contains zs w → Contains zs d → Ends w d
  each_way w d from listed =
      each_sum (λ d. Ends w d)
      (λ c walk. absurd (omega (arith, ints, walk.walk.within.0.0.0)))
      (each_sum (λ w. Ends w (times (minus 1)))
      (λ c walk. absurd (cc (walk.ends)))
      (λ c walk. absurd (cc (walk.ends)))
      (λ c walk. absurd (cc (walk.ends)))
      (λ c walk.
      let last = same_Some (pos 0) walk.last walk.ends in
      let cost : minus 8 ≡ c = omega (arith, ints, last, walk.is) in
      subst (P (times (pos 1))) cost back)
      (λ c walk. absurd (cc (walk.ends)))
      w from)
      (each_sum (λ w. Ends w (times (pos 0)))
      (λ c walk. absurd (cc (walk.ends)))
      (λ c walk. absurd (cc (walk.ends)))
      (λ c walk.
      let last = same_Some (pos 0) walk.last walk.ends in
      let cost : pos 0 ≡ c = omega (arith, ints, last, walk.is) in
      subst (P (times (pos 0))) cost rest)
      (λ c walk. absurd (cc (walk.ends)))
      (λ c walk. absurd (cc (walk.ends)))
      w from)
      (λ c walk. absurd (omega (arith, ints, walk.walk.within.0.1.0)))
      (λ c walk. absurd (omega (arith, ints, walk.walk.within.0.1.0)))
      d listed

  from_first : (w : Vector) (h : Bricks) (c : ℤ) → Contains zs w → Walk 1 w h c → P w c
  from_first w [] c from walk = absurd (omega (arith, walk.walk.size))
  from_first w (d ∷ e ∷ h) c from walk = absurd (omega (arith, walk.walk.size))
  from_first w (d ∷ []) c from walk = each_way w d from (All-head (Contains zs) d [] walk.walk.moves) c walk

-- at the last layer the sum is 0, and nothing is left to pay
module _ (P : Vector → ℤ → Type 0) (rest : P (times (pos 0)) (pos 0)) where
  abbrev Stops : Vector → Type 0
  Stops w = (c : ℤ) → Walk 2 w [] c → P w c

  from_last : (w : Vector) (h : Bricks) (c : ℤ) → Contains zs w → Walk 2 w h c → P w c
  from_last w (d ∷ h) c from walk = absurd (omega (arith, walk.walk.size))
  from_last w [] c from walk =
      each_sum Stops
      (λ c walk. absurd (cc (walk.ends)))
      (λ c walk. absurd (cc (walk.ends)))
      (λ c walk.
      let last = same_Some (pos 0) walk.last walk.ends in
      let cost : pos 0 ≡ c = omega (arith, ints, last, walk.is) in
      subst (P (times (pos 0))) cost rest)
      (λ c walk. absurd (cc (walk.ends)))
      (λ c walk. absurd (cc (walk.ends)))
      w from c walk

walk_back : Walk 1 (times (pos 1)) (times (minus 1) ∷ []) (minus 8)
walk_back = record {
  walk = record {
    size = refl;
    moves = All-from_recursion (Contains zs) (times (minus 1) ∷ []) (back_listed, tt);
    sums = All-from_recursion (Contains zs) (times (pos 0) ∷ []) (still_listed, tt);
    within = (((omega (arith, ints), (omega (arith, ints), tt)), (omega (arith, ints), (omega (arith, ints), tt))), tt);
  };
  last = pos 0;
  ends = refl;
  is = refl;
}

walk_none : Walk 2 (times (pos 0)) [] (pos 0)
walk_none = record {
  walk = record { size = refl; moves = All-nil (Contains zs); sums = All-nil (Contains zs); within = tt };
  last = pos 0;
  ends = refl;
  is = refl;
}

-- ---- nodes

-- each brick taken by itself
pub first_by_itself : least_change Closed zs 1 (brick_with 4) (pos 0 ∷ pos 4 ∷ []) ≡ pos 0
first_by_itself = refl

pub second_by_itself : least_change Closed zs 1 (brick_with 4) (pos 3 ∷ pos 1 ∷ []) ≡ minus 8
second_by_itself = refl

pub before_the_end :
    map (least_before the_program Closed zs start_point 1) (0 ∷ 1 ∷ 2 ∷ []) ≡ pos 0 ∷ pos 0 ∷ minus 8 ∷ []
before_the_end = refl

abbrev LiveUnder : Option Key → ℕ → Vector → Type 0
LiveUnder bound i w = IsLive the_program Closed zs start_point 1 bound i w

pub first_lives : LiveUnder None 1 (times (pos 1))
first_lives = record {
  layer = omega arith;
  inside = omega arith;
  listed = ahead_listed;
  potential = minus 8;
  is = (
    (times (minus 1) ∷ [], walk_back),
    λ h c. from_first AtLeast (omega (arith, ints)) (omega (arith, ints)) (times (pos 1)) h c ahead_listed,
  );
  gains = omega (arith, ints);
  unbeaten = refl;
}
  where
    AtLeast : Vector → ℤ → Type 0
    AtLeast w c = minus 8 ≤ℤ c

pub second_lives : LiveUnder None 2 (times (pos 0))
second_lives = record {
  layer = omega arith;
  inside = omega arith;
  listed = still_listed;
  potential = pos 0;
  is = (([], walk_none), λ h c. from_last AtLeast (omega (arith, ints)) (times (pos 0)) h c still_listed);
  gains = omega (arith, ints);
  unbeaten = refl;
}
  where
    AtLeast : Vector → ℤ → Type 0
    AtLeast w c = pos 0 ≤ℤ c

-- what holds of these two with what is left of their walks holds of each live node
each_live : (Q : ℕ → Vector → ℤ → Type 0) → Q 1 (times (pos 1)) (minus 8) → Q 2 (times (pos 0)) (pos 0) →
    (bound : Option Key) (i : ℕ) (w : Vector) (live : LiveUnder bound i w) → Q i w live.potential
each_live Q first second bound zero w live = absurd (omega (arith, live.layer))
each_live Q first second bound (suc (suc (suc i))) w live = absurd (omega (arith, live.inside))
each_live Q first second bound (suc zero) w live =
    from_first (λ w c. (pos 0 +ℤ c) <ℤ pos 0 → Q 1 w c) (λ _. first) (λ gains. absurd (omega (arith, ints, gains)))
    w live.is.0.0 live.potential live.listed live.is.0.1 live.gains
each_live Q first second bound (suc (suc zero)) w live =
    from_last (λ w c. Q 2 w c) second w live.is.0.0 live.potential live.listed live.is.0.1

-- what a step could gain by a node at layer i from which the least walk costs c
abbrev worth : ℕ → ℤ → ℕ
worth i c = unsigned_abs (least_before the_program Closed zs start_point 1 i +ℤ c)

-- each of them is worth 8
pub worth_eight : (i : ℕ) (w : Vector) (live : LiveUnder None i w) → worth i live.potential ≡ 8
worth_eight = each_live (λ i w c. worth i c ≡ 8) refl refl None

-- under a bound that gains 9 none is live
pub none_lives : (i : ℕ) (w : Vector) → LiveUnder (Some (key 9 0)) i w → ⊥
none_lives i w live = no_test _ (each_live IsBeaten refl refl (Some (key 9 0)) i w live) live.unbeaten
  where
    IsBeaten : ℕ → Vector → ℤ → Type 0
    IsBeaten i w c = beaten (record { gain = worth i c; k = 1 }) (Some (key 9 0)) ≡ true

    no_test : (b : Bool) → b ≡ true → b ≡ false → ⊥
    no_test b e h = absurd (cc)

-- so at most two times five moves are tried, and none under that bound
abbrev TriesAtMost : Option Key → ℕ → Type 0
TriesAtMost bound moves = TriesLiveNodes the_program Closed zs start_point 1 bound moves

abbrev two_nodes : List Node
two_nodes = (1, times (pos 1)) ∷ (2, times (pos 0)) ∷ []

pub ten_moves : TriesAtMost None 10
ten_moves = (
  two_nodes,
  All-from_recursion (λ n. LiveUnder None n.0 n.1) two_nodes (first_lives, (second_lives, tt)),
  (different, (λ past. absurd (omega (arith, past.1)), tt)),
  lit≤ tt,
)
  where
    different : Contains {X = Node} ((2, times (pos 0)) ∷ []) (1, times (pos 1)) → ⊥
    different (zero, low, is) = absurd (omega (arith, ap (λ (n : Node). n.0) is))
    different (suc k, low, is) = absurd (omega (arith, low))

pub no_moves : (moves : ℕ) → TriesAtMost (Some (key 9 0)) moves → moves ≡ 0
no_moves moves ([], live, apart, most) = omega (arith, most)
no_moves moves (n ∷ nodes, live, apart, most) =
    absurd (none_lives n.0 n.1 (All-head (λ n. LiveUnder (Some (key 9 0)) n.0 n.1) n nodes live))
