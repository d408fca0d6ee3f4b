-- The layer over one of least costs under a limit holds least costs under a limit, and the first of the moves that
-- attain one begins the best walk.
use Rattle.std.proofs.Common.{◌≡◌, ℕ, ◌<◌, ◌^◌, ℤ, pos, ◌+ℤ◌, ◌-ℤ◌, ◌≤ℤ◌, true, List, [], ◌∷◌, ◌++◌, length, refl, ap}
use Rattle.std.proofs.Common.{arith, sym, ◌∙◌, Option, Some, None, subst, ◌⊎◌, inl, inr, IsTrue, All, append_assoc}
use Rattle.std.proofs.Common.{int_le}
use Rattle.std.proofs.lemmas.Int.{ints}
use Rattle.std.proofs.lemmas.Bool.{cases_order}
use Rattle.std.proofs.lemmas.Option.{slice_get_within, get_or_from_slice_get}
use Rattle.std.specs.Prelude.{slice_get}
use Rattle.std.specs.Ordering.{is_le}
use Rattle.std.specs.Cmp.Lexicographic.{slice_cmp}
use Rattle.fold_theory.specs.declared.Phase.{Phase}
use Rattle.fold_theory.specs.declared.Phase.TheVariants.{Closed, Counted}
use Rattle.fold_theory.specs.Programs.{Program, Brick, Bricks, IsWithin}
use Rattle.lattice_theory.specs.Vectors.{Vector, lex_cmp, is_rising, add, zeros}
use Rattle.run_theory.specs.Walks.{brick_change, WalkCosts}
use Rattle.lattice_laws.proofs.Multiples.{scale-zeros}
use Rattle.lattice_laws.proofs.Tests.{true_or_false, int_le_true}
use Rattle.lattice_laws.proofs.Sums.{add_zeros}
use Rattle.lattice_laws.proofs.Places.{same_value, contains_at, place_of, there_at}
use Rattle.lattice_laws.proofs.Rising.{rising_places}
use Rattle.walk_laws.proofs.Orders.{first_decides, tails_decide}
use Rattle.walk_laws.proofs.Walks.{Front, front_of, walk_of}
use Rattle.walk_laws.proofs.BestWalks.{IsLeastWalk, IsLeastRow, IsBestWalk, BeginsBest}
use Rattle.sieve_laws.specs.declared.PricedMove.{PricedMove}
use Rattle.sieve_laws.specs.Sieve.{Layer, Menu, IsMenu, Leads, Goes, IsAtMost, IsLayerOver, IsLayerUnder, IsFirst}
use Rattle.sieve_laws.specs.Sieve.{MayStay, after, live}
use Rattle.sieve_laws.proofs.Cells.{not_none}
use Rattle.sieve_laws.proofs.Live.{live_goes}

-- a cell is at most what bounds it
cell_low : (layer : Layer) (j : ℕ) (a c : ℤ) → slice_get layer j ≡ Some (Some a) → IsAtMost layer j c → a ≤ℤ c
cell_low layer j a c cell (b, there, low) =
    let same : b ≡ a = same_value (Some b) b a refl (same_value (slice_get layer j) (Some b) (Some a) there cell) in
    omega (arith, ints, same, low)

-- one of two numbers is at most the other
cases_le : (a b : ℤ) → (a ≤ℤ b) ⊎ (b ≤ℤ a)
cases_le a b = elim (true_or_false (int_le a b)) [
  | inl low ↦ inl (int_le_true a b low)
  | inr high ↦ inr (grind (arith, ints))
]

module _ (p : Program) (phase : Phase) (zs : List Vector) (k : ℕ) (rests : Vector) where
  abbrev Costs : List Brick → Bricks → Vector → Bricks → ℤ → Type 0
  Costs bs x w h c = WalkCosts p phase zs k rests bs x w h c

  abbrev Under : List Brick → Bricks → ℤ → Layer → Type 0
  Under bs x limit layer = IsLayerUnder p phase zs k rests bs x limit layer

  -- what holds under a limit holds under a lesser one
  pub under_less : (bs : List Brick) (x : Bricks) (less limit : ℤ) (layer : Layer) → less ≤ℤ limit →
      Under bs x limit layer → Under bs x less layer
  under_less bs x less limit layer below under = record {
    size = under.size;
    walks = under.walks;
    least = λ j w h c start wc low. under.least j w h c start wc (omega (arith, ints, low, below));
  }

  -- a layer of least costs is one under each limit
  pub least_under : (bs : List Brick) (x : Bricks) (limit : ℤ) (layer : Layer) →
      IsLeastRow p phase zs k rests bs x layer → Under bs x limit layer
  least_under bs x limit layer row = record {
    size = row.size;
    walks = λ j w c start cell. (row.cells j w (Some c) start cell).0;
    least = λ j w h c start wc low.
        by j w h c start wc (there_at layer j (omega (arith, row.size, slice_get_within zs j w start)));
  }
    where
      by : (j : ℕ) (w : Vector) (h : Bricks) (c : ℤ) → slice_get zs j ≡ Some w → Costs bs x w h c →
          (o : Option ℤ) × (slice_get layer j ≡ Some o) → IsAtMost layer j c
      by j w h c start wc (None, cell) = absurd (row.cells j w None start cell h c wc)
      by j w h c start wc (Some a, cell) = (a, cell, (row.cells j w (Some a) start cell).1 h c wc)

  -- where each walk from a sum costs at most the limit, the layer is one of least costs
  pub under_least : (bs : List Brick) (x : Bricks) (limit : ℤ) (layer : Layer) → Under bs x limit layer →
      ((j : ℕ) (w : Vector) (h : Bricks) (c : ℤ) → slice_get zs j ≡ Some w → Costs bs x w h c → c ≤ℤ limit) →
      IsLeastRow p phase zs k rests bs x layer
  under_least bs x limit layer under most = record { size = under.size; cells = cells }
    where
      cells : (j : ℕ) (w : Vector) (o : Option ℤ) → slice_get zs j ≡ Some w → slice_get layer j ≡ Some o →
          IsLeastWalk p phase zs k rests bs x w o
      cells j w None start cell = λ h c wc.
          let known = under.least j w h c start wc (most j w h c start wc) in
          not_none (Some known.0) known.0 refl (same_value (slice_get layer j) (Some known.0) None known.1 cell)
      cells j w (Some a) start cell = (
        under.walks j w a start cell,
        λ h c wc.
            cell_low layer j a c cell (under.least j w h c start wc (most j w h c start wc)),
      )

  module _ (b : Brick) (bs : List Brick) (v : Vector) (x : Bricks) (menu : Menu) (next : Layer)
      (is_menu : IsMenu phase zs k b v menu) where
    -- a move of the menu and a walk behind it are a walk
    taken : (at i : ℕ) (w : Vector) (c : ℤ) (h : Bricks) → slice_get zs at ≡ Some w →
        (goes : Goes zs menu next at i c) →
        Costs bs x (add w (goes.reach.leads.by)) h goes.rest → Costs (b ∷ bs) (v ∷ x) w ((goes.reach.leads.by) ∷ h) c
    taken at i w c h start goes wc =
        walk_of p phase zs k rests b bs v x w d h c goes.rest (contains_at zs goes.move.place d leads.move)
        (contains_at zs goes.reach.to (add w d) end)
        (subst (λ u. IsWithin b (after k v u)) moves known.2)
        wc
        (omega (arith, ints, goes.is, known.3, ap (λ u. brick_change phase b v (after k v u)) moves))
      where
        leads : Leads zs goes.move.place at goes.reach.to
        leads = goes.reach.leads

        d : Vector
        d = leads.by

        known : (d : Vector) × (slice_get zs goes.move.place ≡ Some d) × IsWithin b (after k v d)
            × (goes.move.change ≡ brick_change phase b v (after k v d))
        known = is_menu.sound i goes.move goes.there

        moves : known.0 ≡ d
        moves = same_value (slice_get zs goes.move.place) known.0 d known.1 leads.move

        end : slice_get zs goes.reach.to ≡ Some (add w d)
        end = leads.end ∙ ap (λ u. Some (add u d)) (same_value (slice_get zs at) leads.from w leads.start start)

    -- a move of the menu, and behind it the walk that costs what stands in the next layer
    onward : (limit : ℤ) → Under bs x limit next → (at i : ℕ) (w : Vector) (c : ℤ) → slice_get zs at ≡ Some w →
        Goes zs menu next at i c →
        (h : Bricks) × Costs (b ∷ bs) (v ∷ x) w h c
    onward limit under at i w c start goes =
        let d = goes.reach.leads.by in
        let end : slice_get zs goes.reach.to ≡ Some (add w d) =
        goes.reach.leads.end
        ∙ ap (λ u. Some (add u d)) (same_value (slice_get zs at) (goes.reach.leads.from) w (goes.reach.leads.start)
        start)
        in
        let behind = under.walks goes.reach.to (add w d) goes.rest end goes.reach.cell in
        (d ∷ behind.0, taken at i w c behind.0 start goes behind.1)

    module _ (limit before : ℤ) (under : Under bs x limit next)
        (enough : (i : ℕ) (m : PricedMove) → slice_get menu i ≡ Some m → (before -ℤ m.change) ≤ℤ limit) where
      -- the first move of a walk from w on the menu, and what it reaches there
      record Begun (at : ℕ) (w d : Vector) (h : Bricks) (c : ℤ) : Type 0 where
        i : ℕ
        goes : (e : ℤ) × Goes zs menu next at i e × (e ≤ℤ c)
        live : goes.1.rest ≤ℤ limit
        move : slice_get zs (goes.1.move).place ≡ Some d
        rest : ℤ
        walk : Costs bs x (add w d) h rest
        is : c ≡ ((goes.1.move).change +ℤ rest)

      begun : (at : ℕ) (w d : Vector) (h : Bricks) (c : ℤ) → slice_get zs at ≡ Some w →
          Costs (b ∷ bs) (v ∷ x) w (d ∷ h) c → c ≤ℤ before → Begun at w d h c
      begun at w d h c start wc low = record {
        i = entry.0;
        goes = (
          m.change +ℤ a,
          record {
            move = m;
            there = entry.2;
            rest = a;
            reach = record {
              to = sum.0;
              leads = record { from = w; start = start; by = d; move = move; end = sum.1 };
              cell = cell.1;
            };
            is = refl;
          },
          omega (arith, ints, cell.2, f.is, change),
        );
        live = omega (arith, ints, cell.2, rest_low);
        move = move;
        rest = f.rest;
        walk = f.walk;
        is = omega (arith, ints, f.is, change);
      }
        where
          f : Front p phase zs k rests b bs v x w d h c
          f = front_of p phase zs k rests b bs v x w d h c wc

          sum : (j : ℕ) × (slice_get zs j ≡ Some (add w d))
          sum = place_of zs (add w d) f.sum

          part : (j : ℕ) × (slice_get zs j ≡ Some d)
          part = place_of zs d f.move

          entry : (i : ℕ) × (m : PricedMove) × (slice_get menu i ≡ Some m) × (m.place ≡ part.0)
          entry = is_menu.complete part.0 d part.1 f.within

          m : PricedMove
          m = entry.1

          move : slice_get zs m.place ≡ Some d
          move = ap (slice_get zs) entry.3 ∙ part.1

          change : m.change ≡ brick_change phase b v (after k v d)
          change =
              let known = is_menu.sound entry.0 m entry.2 in
              known.3 ∙ ap (λ u. brick_change phase b v (after k v u))
              (same_value (slice_get zs m.place) known.0 d known.1 move)

          rest_low : f.rest ≤ℤ limit
          rest_low = omega (arith, ints, enough entry.0 m entry.2, f.is, change, low)

          cell : IsAtMost next sum.0 f.rest
          cell = under.least sum.0 (add w d) h f.rest sum.1 f.walk rest_low

          a : ℤ
          a = cell.0

      -- the layer over one that holds least costs under a limit holds them, too
      pub row_over : (layer : Layer) → IsLayerOver zs menu (live limit next) next layer →
          Under (b ∷ bs) (v ∷ x) before layer
      row_over layer over = record { size = over.size; walks = walks; least = least }
        where
          walks : (j : ℕ) (w : Vector) (c : ℤ) → slice_get zs j ≡ Some w → slice_get layer j ≡ Some (Some c) →
              (h : Bricks) × Costs (b ∷ bs) (v ∷ x) w h c
          walks j w c start cell =
              let found = over.attained j c cell in
              onward limit under j found.0 w c start found.1

          least : (j : ℕ) (w : Vector) (h : Bricks) (c : ℤ) → slice_get zs j ≡ Some w →
              Costs (b ∷ bs) (v ∷ x) w h c → c ≤ℤ before → IsAtMost layer j c
          least j w [] c start wc low = absurd (omega (arith, wc.walk.size))
          least j w (d ∷ h) c start wc low =
              let g = begun j w d h c start wc low in
              let most = over.least j g.i (g.goes).0 (live_goes zs next limit menu j g.i (g.goes).0 (g.goes).1 g.live)
              in
              (most.0, most.1, omega (arith, ints, most.2, (g.goes).2))

      module _ (layer : Layer) (over : Under (b ∷ bs) (v ∷ x) before layer) where
        -- a walk costs no less than the cell, where that is at most the limit
        no_less : (at : ℕ) (w : Vector) (h : Bricks) (c e : ℤ) → slice_get zs at ≡ Some w →
            slice_get layer at ≡ Some (Some c) → c ≤ℤ before → Costs (b ∷ bs) (v ∷ x) w h e → c ≤ℤ e
        no_less at w h c e start cell low wc = by (cases_le e before)
          where
            by : (e ≤ℤ before) ⊎ (before ≤ℤ e) → c ≤ℤ e
            by (inl inside) = cell_low layer at c e cell (over.least at w h e start wc inside)
            by (inr above) = omega (arith, ints, low, above)

        -- where a walk costs as much as the cell, so does its first move with what stands behind it
        same_cost : (at : ℕ) (w d : Vector) (h : Bricks) (c : ℤ) → (start : slice_get zs at ≡ Some w) →
            slice_get layer at ≡ Some (Some c) → (low : c ≤ℤ before) → (wc : Costs (b ∷ bs) (v ∷ x) w (d ∷ h) c) →
            Goes zs menu next at (begun at w d h c start wc low).i c
        same_cost at w d h c start cell low wc =
            let g = begun at w d h c start wc low in
            let walk = onward limit under at g.i w (g.goes).0 start (g.goes).1 in
            let less : c ≤ℤ (g.goes).0 = no_less at w walk.0 c (g.goes).0 start cell low walk.1 in
            let same : (g.goes).0 ≡ c = omega (arith, ints, less, (g.goes).2) in
            subst (Goes zs menu next at g.i) same (g.goes).1

        -- a cell that is at most the limit is attained by a move of the menu
        pub goes_of_cell : (at : ℕ) (c : ℤ) → slice_get layer at ≡ Some (Some c) → c ≤ℤ before →
            (i : ℕ) × Goes zs menu next at i c
        goes_of_cell at c cell low = by walk.0 walk.1
          where
            from : (w : Vector) × (slice_get zs at ≡ Some w)
            from = there_at zs at (omega (arith, over.size, slice_get_within layer at (Some c) cell))

            walk : (h : Bricks) × Costs (b ∷ bs) (v ∷ x) from.0 h c
            walk = over.walks at from.0 c from.1 cell

            by : (h : Bricks) → Costs (b ∷ bs) (v ∷ x) from.0 h c → (i : ℕ) × Goes zs menu next at i c
            by [] wc = absurd (omega (arith, wc.walk.size))
            by (d ∷ h) wc =
                ((begun at from.0 d h c from.1 wc low).i, same_cost at from.0 d h c from.1 cell low wc)

        -- the first move that attains the cell, and then the best walk behind it, is the best walk
        pub best_by_first : (at i : ℕ) (w : Vector) (c : ℤ) (h : Bricks) → is_rising zs ≡ true →
            slice_get zs at ≡ Some w → slice_get layer at ≡ Some (Some c) → c ≤ℤ before →
            (first : IsFirst zs menu next at i c) →
            IsBestWalk p phase zs k rests bs x (add w (first.goes.reach.leads.by)) h (first.goes.rest) →
            IsBestWalk p phase zs k rests (b ∷ bs) (v ∷ x) w ((first.goes.reach.leads.by) ∷ h) c
        best_by_first at i w c h rising start cell low first best = record {
          walk = taken at i w c h start first.goes best.walk;
          least = λ g e wc. no_less at w g c e start cell low wc;
          first = firsts;
        }
          where
            d : Vector
            d = first.goes.reach.leads.by

            firsts : (g : Bricks) → Costs (b ∷ bs) (v ∷ x) w g c → IsTrue (is_le (slice_cmp lex_cmp (d ∷ h) g))
            firsts [] wc = absurd (omega (arith, wc.walk.size))
            firsts (e ∷ g) wc = by (cases_order i o.i)
              where
                o : Begun at w e g c
                o = begun at w e g c start wc low

                goes : Goes zs menu next at o.i c
                goes = same_cost at w e g c start cell low wc

                by : (i ≡ o.i) ⊎ ((i < o.i) ⊎ (o.i < i)) → IsTrue (is_le (slice_cmp lex_cmp (d ∷ h) (e ∷ g)))
                by (inl same) =
                    let moves : first.goes.move ≡ (o.goes.1).move =
                    same_value (slice_get menu o.i) (first.goes.move) ((o.goes.1).move) (ap (slice_get menu) (sym same)
                    ∙ first.goes.there) ((o.goes.1).there) in
                    let heads : d ≡ e =
                    same_value (slice_get zs ((o.goes.1).move).place) d e
                    (ap (λ (m : PricedMove). slice_get zs m.place) (sym moves) ∙ first.goes.reach.leads.move) o.move
                    in
                    let changes : (first.goes.move).change ≡ ((o.goes.1).move).change =
                    ap (λ (m : PricedMove). m.change) moves in
                    let rest : o.rest ≡ first.goes.rest = omega (arith, ints, o.is, first.goes.is, changes) in
                    let tail : Costs bs x (add w d) g first.goes.rest =
                    subst (λ u. Costs bs x (add w u) g first.goes.rest) (sym heads)
                    (subst (λ r. Costs bs x (add w e) g r) rest o.walk) in
                    subst (λ u. IsTrue (is_le (slice_cmp lex_cmp (d ∷ h) (u ∷ g)))) heads
                    (tails_decide d h g (best.first g tail))
                by (inr (inl before)) =
                    let places = is_menu.rising i o.i (first.goes.move) ((o.goes.1).move) before (first.goes.there)
                    ((o.goes.1).there) in
                    first_decides d e h g (rising_places zs ((first.goes.move).place)
                    (((o.goes.1).move).place) d e rising places (first.goes.reach.leads.move) o.move)
                by (inr (inr behind)) = absurd (first.none_before o.i behind goes)

        -- the moves so far, and this one, begin the best walk of all bricks
        pub begins_by_first : (bricks : List Brick) (whole : Bricks) (begin : Vector) (total : ℤ) (front : Bricks)
            (at i : ℕ) (w : Vector) (c : ℤ) →
            is_rising zs ≡ true → slice_get zs at ≡ Some w → slice_get layer at ≡ Some (Some c) → c ≤ℤ before →
            (first : IsFirst zs menu next at i c) →
            BeginsBest p phase zs k rests bricks (b ∷ bs) whole (v ∷ x) begin w total c front →
            BeginsBest p phase zs k rests bricks bs whole x begin (add w (first.goes.reach.leads.by)) total
            (first.goes.rest) (front ++ (first.goes.reach.leads.by) ∷ [])
        begins_by_first bricks whole begin total front at i w c rising start cell low first begins = record {
          goes_on = λ h best.
              subst
              (λ g. IsBestWalk p phase zs k rests bricks whole begin g total)
              (sym (append_assoc front ((first.goes.reach.leads.by) ∷ []) h))
              (begins.goes_on ((first.goes.reach.leads.by) ∷ h)
              (best_by_first at i w c h rising start cell low first best));
        }

-- ---- a brick may stay where it is

pub no_change : (phase : Phase) (b : Brick) (v : Vector) → brick_change phase b v v ≡ pos 0
no_change Closed b v = omega (arith, ints)
no_change Counted b v = refl

-- where zero is listed, each sum may be left as it is
pub may_stay : (phase : Phase) (zs : List Vector) (k t : ℕ) (b : Brick) (v : Vector) (menu : Menu) (next : Layer)
    (place : ℕ) →
    IsMenu phase zs k b v menu → slice_get zs place ≡ Some (zeros t) → All (λ z. length z ≡ t) zs → length v ≡ t →
    IsWithin b v →
    length next ≡ length zs → MayStay zs menu next
may_stay phase zs k t b v menu next place is_menu there widths size within all w c cell = (entry.0, stay)
  where
    still : after k v (zeros t) ≡ v
    still = ap (add v) (scale-zeros (pos (2 ^ k)) t) ∙ add_zeros v t size

    entry : (i : ℕ) × (m : PricedMove) × (slice_get menu i ≡ Some m) × (m.place ≡ place)
    entry = is_menu.complete place (zeros t) there (subst (IsWithin b) (sym still) within)

    from : (u : Vector) × (slice_get zs w ≡ Some u)
    from = there_at zs w (omega (arith, all, slice_get_within next w (Some c) cell))

    width : length from.0 ≡ t
    width = sym (ap length (get_or_from_slice_get zs w from.0 from.0 from.1))
        ∙ widths w from.0 (slice_get_within zs w from.0 from.1)

    move : slice_get zs (entry.1).place ≡ Some (zeros t)
    move = ap (slice_get zs) entry.3 ∙ there

    free : (entry.1).change ≡ pos 0
    free =
        let known = is_menu.sound entry.0 entry.1 entry.2 in
        let moves : known.0 ≡ zeros t = same_value (slice_get zs (entry.1).place) known.0 (zeros t) known.1 move in
        known.3 ∙ ap (λ u. brick_change phase b v (after k v u)) moves ∙ ap (brick_change phase b v) still
        ∙ no_change phase b v

    stay : Goes zs menu next w entry.0 c
    stay = record {
      move = entry.1;
      there = entry.2;
      rest = c;
      reach = record {
        to = w;
        leads = record {
          from = from.0;
          start = from.1;
          by = zeros t;
          move = move;
          end = from.1 ∙ ap Some (sym (add_zeros from.0 t width));
        };
        cell = cell;
      };
      is = omega (arith, ints, free);
    }
