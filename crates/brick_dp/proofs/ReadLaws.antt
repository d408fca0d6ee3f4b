-- Reading the best walk off the layers: the moves so far begin it, and those that are not zero are written down.
use Rattle.std.proofs.Common.{◌≡◌, ℕ, suc, ◌+◌, ◌-◌, ◌<◌, ℤ, pos, ◌-ℤ◌, ◌<ℤ◌, ◌≤ℤ◌, Bool, true, false, List, [], ◌∷◌}
use Rattle.std.proofs.Common.{◌++◌, length, drop, refl, ap, arith, sym, ◌∙◌, Some, slice_get, subst, All, append_assoc}
use Rattle.std.proofs.Common.{append-nil, unsigned_abs, IsTrue}
use Rattle.std.proofs.lemmas.Int.{ints}
use Rattle.std.proofs.lemmas.List.{drop_all, length-append}
use Rattle.std.specs.Ordering.{is_le}
use Rattle.lattice_theory.specs.Vectors.{Vector, is_rising, is_zero, zeros, add}
use Rattle.lattice_theory.specs.SignedSums.{vectors}
use Rattle.fold_theory.specs.Programs.{IsProgram, AreWithin, Bricks, link_rests, IsLength}
use Rattle.run_theory.specs.Outcomes.{step_at, nonzero_from, nonzero_entries}
use Rattle.run_theory.specs.Steps.{gain, Augments, rule_cmp}
use Rattle.run_theory.specs.Walks.{WalkCosts}
use Rattle.run_theory.specs.Folds.{FoldValue}
use Rattle.run_theory.specs.Bests.{IsFound}
use Rattle.lattice_laws.proofs.Places.{same_value, drop-at}
use Rattle.fold_laws.proofs.Points.{widths_within}
use Rattle.walk_laws.proofs.BestWalks.{IsBestWalk, BeginsBest, begins_none, best_end}
use Rattle.walk_laws.proofs.BestSteps.{walk_augments, best_is_first, gain_is}
use Rattle.sieve_laws.specs.Sieve.{Layer, Menu, Goes}
use Rattle.sieve_laws.proofs.Lowering.{one_place}
use Rattle.sieve_laws.proofs.Rows.{goes_of_cell, begins_by_first}
use Rattle.layer_sieve.specs.declared.choices.Choice.{Choice}
use Rattle.layer_sieve.specs.Reaching.{IsChoice}
use Rattle.brick_dp.specs.Tables.{IsLayer, AreLayers, IsFirstCost, limit_at}
use Rattle.brick_dp.proofs.FillLaws.{AtBrick}
use Rattle.brick_dp.proofs.UnderLaws.{enough, front}

-- a gain is the change of cost, turned
turned : (a : ℤ) → unsigned_abs (pos 0 -ℤ a) ≡ unsigned_abs a
turned a = grind (arith, ints)

-- ---- steps as they are recorded

nonzero_from-push : (i : ℕ) (h : Bricks) (d : Vector) → nonzero_from i (h ++ d ∷ []) ≡ nonzero_from i h ++ nonzero_from
    (i + length h) (d ∷ [])
nonzero_from-push i [] d = let e : i ≡ i + 0 = omega arith in ap (λ j. nonzero_from j (d ∷ [])) e
nonzero_from-push i (u ∷ h) d =
    let e : i + 1 + length h ≡ i + suc (length h) = omega arith in
    by (is_zero u) (nonzero_from-push (i + 1) h d ∙ ap (λ j. nonzero_from (i + 1) h ++ nonzero_from j (d ∷ [])) e)
  where
    by : (t : Bool) → nonzero_from (i + 1) (h ++ d ∷ []) ≡ nonzero_from (i + 1) h ++ nonzero_from (i + suc (length h))
        (d ∷ []) →
        elim t [ true ↦ nonzero_from (i + 1) (h ++ d ∷ []) | false ↦ i ∷ nonzero_from (i + 1) (h ++ d ∷ []) ]
        ≡ elim t [ true ↦ nonzero_from (i + 1) h | false ↦ i ∷ nonzero_from (i + 1) h ] ++ nonzero_from
        (i + suc (length h)) (d ∷ [])
    by true more = more
    by false more = ap (λ xs. i ∷ xs) more

nonzero_entries-push : (h : Bricks) (d : Vector) → nonzero_entries (h ++ d ∷ []) ≡ nonzero_entries h ++ nonzero_entries
    (d ∷ [])
nonzero_entries-push [] d = refl
nonzero_entries-push (u ∷ h) d = by (is_zero u) (nonzero_entries-push h d)
  where
    by : (t : Bool) → nonzero_entries (h ++ d ∷ []) ≡ nonzero_entries h ++ nonzero_entries (d ∷ []) →
        elim t [ true ↦ nonzero_entries (h ++ d ∷ []) | false ↦ u ++ nonzero_entries (h ++ d ∷ []) ]
        ≡ elim t [ true ↦ nonzero_entries h | false ↦ u ++ nonzero_entries h ] ++ nonzero_entries (d ∷ [])
    by true more = more
    by false more = ap (λ xs. u ++ xs) more ∙ sym (append_assoc u (nonzero_entries h) (nonzero_entries (d ∷ [])))

-- at the end of all bricks the walk without a move is the best one
end_best : (f : FoldValue) (x : Bricks) (k : ℕ) (w : Vector) (cost : ℤ) →
    (h : Bricks) × WalkCosts f.program f.phase (vectors f.sums) k (link_rests f.program x) [] [] w h cost →
    IsBestWalk f.program f.phase (vectors f.sums) k (link_rests f.program x) [] [] w [] cost
end_best f x k w cost (h, walk) = by h walk
  where
    by : (h : Bricks) → WalkCosts f.program f.phase (vectors f.sums) k (link_rests f.program x) [] [] w h cost →
        IsBestWalk f.program f.phase (vectors f.sums) k (link_rests f.program x) [] [] w [] cost
    by [] wc =
        let same : wc.last ≡ cost = omega (arith, ints, wc.is) in
        best_end f.program f.phase (vectors f.sums) k (link_rests f.program x) w cost (wc.ends ∙ ap Some same)
    by (d ∷ h) wc = absurd (omega (arith, wc.walk.size))

module _ (f : FoldValue) (x : Bricks) (k : ℕ) (layers : List Layer) (total : ℤ) where
  abbrev zs : List Vector
  zs = vectors f.sums

  abbrev n : ℕ
  n = length f.program.bricks

  -- a step that costs no more is to gain this much
  abbrev need : ℤ
  need = pos 0 -ℤ total

  -- what was read before brick number done + 1, where the walk has come to the sum at this place, from which walks cost
  -- this much
  pub record Reading (done at : ℕ) (cost : ℤ) (bricks : List ℕ) (entries : Vector) : Type 0 where
    pub front : Bricks
    pub size : length front ≡ done
    pub bricks_are : bricks ≡ nonzero_from 1 front
    pub entries_are : entries ≡ nonzero_entries front
    pub sum : Vector
    pub listed : slice_get zs at ≡ Some sum
    pub layer : Layer
    pub here : slice_get layers (n - done) ≡ Some layer
    pub cell : slice_get layer at ≡ Some (Some cost)
    pub low : cost ≤ℤ limit_at f x k need done
    pub begins : BeginsBest f.program f.phase zs k (link_rests f.program x) f.program.bricks
        (drop done f.program.bricks) x (drop done x) (zeros f.program.brick.cols) sum total cost front

  pub reading_none : (at : ℕ) (bricks : List ℕ) (entries : Vector) → is_rising zs ≡ true →
      slice_get zs at ≡ Some (zeros f.program.brick.cols) → bricks ≡ [] →
      entries ≡ [] → IsFirstCost f layers total → Reading 0 at total bricks entries
  reading_none at bricks entries rising zero none nothing is =
      let same : is.at ≡ at = one_place zs rising is.at at (zeros f.program.brick.cols) is.zero zero in
      let first : n ≡ n - 0 = omega arith in
      record {
        front = [];
        size = refl;
        bricks_are = none;
        entries_are = nothing;
        sum = zeros f.program.brick.cols;
        listed = zero;
        layer = is.layer;
        here = ap (slice_get layers) (sym first) ∙ is.there;
        cell = ap (slice_get is.layer) (sym same) ∙ is.cell;
        low = omega (arith, ints);
        begins = begins_none f.program f.phase zs k (link_rests f.program x) f.program.bricks x
            (zeros f.program.brick.cols) total;
      }

  module _ (are : AreLayers f x k (n + 1) need layers) where
    -- the layers before and behind a brick
    layer_at : (done : ℕ) (layer : Layer) → done < n + 1 → slice_get layers (n - done) ≡ Some layer →
        IsLayer f x k done need layer
    layer_at done layer low there =
        let index : n - (n - done) ≡ done = omega (arith, low) in
        subst (λ i. IsLayer f x k i need layer) index (are.each (n - done) layer there)

    -- some move costs as little as the walks that are left
    pub choice_there : (done at : ℕ) (cost : ℤ) (bricks : List ℕ) (entries : Vector) (menu : Menu) (next : Layer) →
        done < n →
        Reading done at cost bricks entries → AtBrick f x k done menu → slice_get layers (n - (done + 1)) ≡ Some next →
        ((i : ℕ) → Goes zs menu next at i cost → ⊥) → ⊥
    choice_there done at cost bricks entries menu next low r here below none =
        let found = goes_of_cell f.program f.phase zs k (link_rests f.program x) here.brick
        (drop (done + 1) f.program.bricks) here.vector
        (drop (done + 1) x) menu next here.menu_is.moves (limit_at f x k need (done + 1)) (limit_at f x k need done)
        (layer_at (done + 1) next (omega (arith, low)) below).under (enough f x k done menu here need) r.layer
        (front f x k done menu here (limit_at f x k need done) r.layer (layer_at done r.layer (omega (arith, low))
        r.here).under)
        at cost r.cell r.low in
        none found.0 found.1

    -- the move of one more brick
    pub reading_more : (done at : ℕ) (cost : ℤ) (bricks next_bricks : List ℕ) (entries next_entries : Vector)
        (menu : Menu) (next : Layer)
        (choice : Choice) (part : Vector) → is_rising zs ≡ true → done < n → Reading done at cost bricks entries →
        AtBrick f x k done menu →
        slice_get layers (n - (done + 1)) ≡ Some next → IsChoice zs menu next at cost choice →
        slice_get zs choice.place ≡ Some part → next_bricks ≡ bricks ++ nonzero_from (done + 1) (part ∷ []) →
        next_entries ≡ entries ++ nonzero_entries (part ∷ []) →
        Reading (done + 1) choice.to choice.rest next_bricks next_entries
    reading_more done at cost bricks next_bricks entries next_entries menu next choice part rising low r at_brick below
        chosen there bricks_more entries_more = record {
          front = r.front ++ part ∷ [];
          size = length-append r.front (part ∷ []) ∙ ap (λ m. m + 1) r.size;
          bricks_are =
              bricks_more ∙ ap (λ j. bricks ++ nonzero_from j (part ∷ [])) number
              ∙ ap (λ xs. xs ++ nonzero_from (1 + length r.front) (part ∷ [])) r.bricks_are
              ∙ sym (nonzero_from-push 1 r.front part);
          entries_are = entries_more ∙ ap (λ xs. xs ++ nonzero_entries (part ∷ [])) r.entries_are
              ∙ sym (nonzero_entries-push r.front part);
          sum = add r.sum d;
          listed = ap (slice_get zs) chosen.to ∙ goes.reach.leads.end ∙ ap (λ u. Some (add u d)) from;
          layer = next;
          here = below;
          cell = ap (slice_get next) chosen.to ∙ goes.reach.cell ∙ ap (λ c. Some (Some c)) (sym chosen.rest);
          low =
              let left = enough f x k done menu at_brick need chosen.i goes.move goes.there in
              omega (arith, ints, left, chosen.rest, goes.is, r.low);
          begins =
              subst (λ e. BeginsBest f.program f.phase zs k (link_rests f.program x) f.program.bricks
              (drop (done + 1) f.program.bricks) x (drop (done + 1) x)
              (zeros f.program.brick.cols) (add r.sum d) total choice.rest (r.front ++ e ∷ [])) (sym parts) (
              subst (λ c. BeginsBest f.program f.phase zs k (link_rests f.program x) f.program.bricks
              (drop (done + 1) f.program.bricks) x (drop (done + 1) x)
              (zeros f.program.brick.cols) (add r.sum d) total c (r.front ++ d ∷ [])) (sym chosen.rest) further
              );
        }
      where
        goes : Goes zs menu next at chosen.i cost
        goes = chosen.first.goes

        d : Vector
        d = goes.reach.leads.by

        from : goes.reach.leads.from ≡ r.sum
        from = same_value (slice_get zs at) (goes.reach.leads.from) r.sum (goes.reach.leads.start) r.listed

        parts : part ≡ d
        parts = same_value (slice_get zs choice.place) part d there (ap (slice_get zs) chosen.place
            ∙ goes.reach.leads.move)

        number : done + 1 ≡ 1 + length r.front
        number = omega (arith, r.size)

        begun : BeginsBest f.program f.phase zs k (link_rests f.program x) f.program.bricks
            (at_brick.brick ∷ drop (done + 1) f.program.bricks) x
            (at_brick.vector ∷ drop (done + 1) x) (zeros f.program.brick.cols) r.sum total cost r.front
        begun =
            subst (λ bs. BeginsBest f.program f.phase zs k (link_rests f.program x) f.program.bricks bs x
            (at_brick.vector ∷ drop (done + 1) x)
            (zeros f.program.brick.cols) r.sum total cost r.front)
            (drop-at f.program.bricks done at_brick.brick at_brick.brick_there) (
            subst (λ y. BeginsBest f.program f.phase zs k (link_rests f.program x) f.program.bricks
            (drop done f.program.bricks) x y (zeros f.program.brick.cols) r.sum total cost r.front)
            (drop-at x done at_brick.vector at_brick.vector_there) r.begins
            )

        further : BeginsBest f.program f.phase zs k (link_rests f.program x) f.program.bricks
            (drop (done + 1) f.program.bricks) x (drop (done + 1) x)
            (zeros f.program.brick.cols) (add r.sum d) total goes.rest (r.front ++ d ∷ [])
        further =
            begins_by_first f.program f.phase zs k (link_rests f.program x) at_brick.brick
            (drop (done + 1) f.program.bricks) at_brick.vector
            (drop (done + 1) x) menu next at_brick.menu_is.moves (limit_at f x k need (done + 1))
            (limit_at f x k need done)
            (layer_at (done + 1) next (omega (arith, low)) below).under (enough f x k done menu at_brick need) r.layer
            (front f x k done menu at_brick (limit_at f x k need done) r.layer
            (layer_at done r.layer (omega (arith, low)) r.here).under)
            f.program.bricks x (zeros f.program.brick.cols) total r.front at chosen.i r.sum cost rising r.listed r.cell
            r.low chosen.first begun

    module _ (same : length x ≡ n) (widths : All (λ z. length z ≡ f.program.brick.cols) zs) where
      -- all moves
      pub reading_all : (at : ℕ) (cost : ℤ) (bricks : List ℕ) (entries : Vector)
          (r : Reading n at cost bricks entries) →
          IsBestWalk f.program f.phase zs k (link_rests f.program x) f.program.bricks x (zeros f.program.brick.cols)
          r.front total
      reading_all at cost bricks entries r =
          let none_bricks : drop n f.program.bricks ≡ [] = drop_all n f.program.bricks (omega arith) in
          let none_point : drop n x ≡ [] = drop_all n x (omega (arith, same)) in
          let walk = (layer_at n r.layer (omega arith) r.here).under.walks at r.sum cost r.listed r.cell in
          let ended = subst (λ y. WalkCosts f.program f.phase zs k (link_rests f.program x) (drop n f.program.bricks) y
          r.sum walk.0 cost) none_point walk.1 in
          let end : (h : Bricks) × WalkCosts f.program f.phase zs k (link_rests f.program x) [] [] r.sum h cost = (
            walk.0,
            subst (λ bs. WalkCosts f.program f.phase zs k (link_rests f.program x) bs [] r.sum walk.0 cost)
                none_bricks ended,
          ) in
          let best = end_best f x k r.sum cost end in
          let moved = subst (λ y. IsBestWalk f.program f.phase zs k (link_rests f.program x) (drop n f.program.bricks)
          y r.sum [] cost) (sym none_point)
          (subst (λ bs. IsBestWalk f.program f.phase zs k (link_rests f.program x) bs [] r.sum [] cost)
          (sym none_bricks) best) in
          subst (λ h. IsBestWalk f.program f.phase zs k (link_rests f.program x) f.program.bricks x
          (zeros f.program.brick.cols) h total) (append-nil r.front)
          (r.begins.goes_on [] moved)

      -- the best walk is the best step, where it lowers the cost
      pub reading_found : (at : ℕ) (cost : ℤ) (bricks : List ℕ) (entries : Vector) (gained : ℕ) → IsProgram f.program →
          AreWithin f.program.bricks x →
          f.program.brick.cols ≡ f.program.link.cols → IsLength f.program k → total <ℤ pos 0 →
          gained ≡ unsigned_abs total → Reading n at cost bricks entries →
          IsFound f x k (record { k = k; gain = gained; bricks = bricks; entries = entries })
      reading_found at cost bricks entries gained program within cols fits low is r =
          (r.front, record { augments = augments; first = firsts }, steps)
        where
          wx : All (λ v. length v ≡ f.program.brick.cols) x
          wx = subst (λ t. All (λ v. length v ≡ t) x) (sym cols)
              (widths_within f.program.link.cols (length f.program.brick.rows) f.program.bricks x program.each_brick
              within)

          best : IsBestWalk f.program f.phase zs k (link_rests f.program x) f.program.bricks x
              (zeros f.program.brick.cols) r.front total
          best = reading_all at cost bricks entries r

          augments : Augments f.program f.phase zs x k r.front
          augments = walk_augments f.program f.phase zs k x wx widths r.front total fits best.walk low

          firsts : (g : Bricks) → Augments f.program f.phase zs x k g →
              IsTrue (is_le (rule_cmp f.program f.phase x (record { k = k; bricks = r.front }) (record {
                k =
                    k;
                bricks = g;
              })))
          firsts = best_is_first f.program f.phase zs k x wx widths r.front total best

          gains : gained ≡ unsigned_abs (gain f.program f.phase x k r.front)
          gains =
              let opposite : unsigned_abs (pos 0 -ℤ total) ≡ unsigned_abs total = turned total in
              is ∙ sym (ap unsigned_abs (gain_is f.program f.phase zs k x wx widths r.front total best.walk) ∙ opposite)

          steps : record { k = k; gain = gained; bricks = bricks; entries = entries } ≡ step_at f.program f.phase x
              (record { k = k; bricks = r.front })
          steps = λ i. record { k = k; gain = gains i; bricks = r.bricks_are i; entries = r.entries_are i }
