-- Layers for what a step has to gain: how each comes from the next one, and what they say of steps.
use Rattle.std.proofs.Common.{◌≡◌, ℕ, zero, suc, ◌+◌, ◌-◌, ◌*◌, ◌^◌, ◌<◌, ◌≤◌, ℤ, pos, ◌-ℤ◌, ◌+ℤ◌, ◌≤ℤ◌, ◌<ℤ◌, List, []}
use Rattle.std.proofs.Common.{◌∷◌, ◌++◌, length, drop, sum_by, refl, ap, arith, sym, ◌∙◌, Some, Option, slice_get}
use Rattle.std.proofs.Common.{subst, Contains, ◌⊎◌, inl, inr, unsigned_abs}
use Rattle.std.proofs.lemmas.Int.{ints}
use Rattle.std.proofs.lemmas.List.{length-append}
use Rattle.std.proofs.lemmas.List.Sums.{sum_by-cons}
use Rattle.std.proofs.lemmas.Option.{slice_get_within, get_or_from_slice_get}
use Rattle.lattice_theory.specs.Vectors.{Vector, add, zeros}
use Rattle.lattice_theory.specs.SignedSums.{vectors}
use Rattle.fold_theory.specs.Programs.{Brick, Bricks, IsWithin, link_rests}
use Rattle.fold_program.specs.Refusals.{brick_magnitude, total_magnitude}
use Rattle.fold_program.proofs.PlaceLaws.{brick_in_total}
use Rattle.run_theory.specs.declared.Key.{Key}
use Rattle.run_theory.specs.Keys.{beats, IsNoWorse}
use Rattle.run_theory.specs.Walks.{brick_change, WalkCosts}
use Rattle.run_theory.specs.Live.{least_change, least_before, IsLive}
use Rattle.run_theory.specs.Folds.{FoldValue}
use Rattle.lattice_laws.proofs.Places.{same_value, drop-at, contains_at, place_of, slice_get-push, there_at}
use Rattle.lattice_laws.proofs.Tests.{le_or_less}
use Rattle.walk_laws.proofs.Walks.{front_of}
use Rattle.walk_laws.proofs.BestWalks.{IsLeastRow}
use Rattle.sieve_laws.specs.declared.PricedMove.{PricedMove}
use Rattle.sieve_laws.specs.Sieve.{Layer, Menu, IsLayerOver, IsLayerUnder, AreTops, after, live}
use Rattle.sieve_laws.proofs.Rows.{row_over, under_less, under_least, least_under}
use Rattle.sieve_laws.proofs.Tops.{tops_less}
use Rattle.brick_dp.specs.Ends.{IsLastLayer}
use Rattle.brick_dp.specs.Needs.{IsNeeded, AreAbove, NoneGains, HasHope, NoneLives, AreLayersUnder}
use Rattle.brick_dp.specs.Tables.{most_from, limit_at, CostsFrom, AreWalksSmall, IsLayer, AreLayers, AreLeastLayers}
use Rattle.brick_dp.proofs.FillLaws.{AtBrick, most_small, most_from-small, cells_small, last_is}
use Rattle.brick_dp.proofs.FloorLaws.{least_change-low, sum_zip-next, Passes, passes}
use Rattle.brick_dp.proofs.NeedLaws.{no_worse}

-- ---- what bounds ask for

-- no bound asks for less than one before it
need_rises : (k : ℕ) (old now : Option Key) (need ask : ℤ) → IsNoWorse old now → IsNeeded k old need →
    IsNeeded k now ask →
    need ≤ℤ ask
need_rises k old now need ask better first then = elim (le_or_less need ask) [
  | inl low ↦ low
  | inr high ↦
      let small : unsigned_abs ask < 2 ^ 124 = omega (arith, ints, high, first.high, then.low) in
      let less : pos (unsigned_abs ask) <ℤ need = omega (arith, ints, high, then.low) in
      let safe = no_worse _ old now better (then.enough (unsigned_abs ask) small (omega (arith, ints, then.low))) in
      elim (first.few (unsigned_abs ask) small less) [
        | inl none ↦ absurd (omega (arith, ints, none, then.low))
        | inr beats ↦ absurd (cc)
      ]
]

-- ---- walks and layers

module _ (f : FoldValue) (x : Bricks) (k : ℕ) where
  abbrev n : ℕ
  n = length f.program.bricks

  abbrev zs : List Vector
  zs = vectors f.sums

  abbrev Under : List Brick → Bricks → ℤ → Layer → Type 0
  Under bs y limit layer = IsLayerUnder f.program f.phase zs k (link_rests f.program x) bs y limit layer

  -- where no walk costs more than the limit, costs under it are the least ones
  least_row : (i : ℕ) (limit : ℤ) (layer : Layer) → pos (most_from f.program i) ≤ℤ limit → AreWalksSmall f x k i →
      Under (drop i f.program.bricks) (drop i x) limit layer →
      IsLeastRow f.program f.phase zs k (link_rests f.program x) (drop i f.program.bricks) (drop i x) layer
  least_row i limit layer high small under =
      under_least f.program f.phase zs k (link_rests f.program x) (drop i f.program.bricks) (drop i x) limit layer under
      (λ j w h c start wc. let few = small w h c (contains_at zs j w start) wc in omega (arith, ints, high, few))

  -- a layer for whatever a step is to gain has the least costs
  pub least_of_all : (i : ℕ) (layer : Layer) → ((need : ℤ) → IsLayer f x k i need layer) →
      IsLeastRow f.program f.phase zs k (link_rests f.program x) (drop i f.program.bricks) (drop i x) layer
  least_of_all i layer is =
      let floor = least_before f.program f.phase zs x k i in
      let need : ℤ = (pos 0 -ℤ pos (most_from f.program i)) -ℤ floor in
      let here = is need in
      least_row i (limit_at f x k need i) layer (omega (arith, ints)) here.small here.under

  -- for more to gain a layer stays right
  layer_less : (i : ℕ) (need ask : ℤ) (layer : Layer) → need ≤ℤ ask → IsLayer f x k i need layer →
      IsLayer f x k i ask layer
  layer_less i need ask layer more is = record {
    under =
        under_less f.program f.phase zs k (link_rests f.program x) (drop i f.program.bricks) (drop i x)
        (limit_at f x k ask i)
        (limit_at f x k need i) layer (omega (arith, ints, more)) is.under;
    small = is.small;
  }

  pub layers_less : (m : ℕ) (need ask : ℤ) (layers : List Layer) → need ≤ℤ ask → AreLayers f x k m need layers →
      AreLayers f x k m ask layers
  layers_less m need ask layers more are = record {
    size = are.size;
    each = λ i layer there. layer_less (n - i) need ask layer more (are.each i layer there);
  }

  -- ---- over one brick

  module _ (i : ℕ) (menu : Menu) (here : AtBrick f x k i menu) where
    abbrev rest_bricks : List Brick
    rest_bricks = drop (i + 1) f.program.bricks

    abbrev rest_point : Bricks
    rest_point = drop (i + 1) x

    floor_split : least_before f.program f.phase zs x k (i + 1)
        ≡ (least_before f.program f.phase zs x k i +ℤ least_change f.phase zs k here.brick here.vector)
    floor_split = sum_zip-next (least_change f.phase zs k) f.program.bricks x i here.brick here.vector
        here.brick_there here.vector_there

    -- what is left of the limit after a move is within that of the next layer
    pub enough : (need : ℤ) (j : ℕ) (m : PricedMove) → slice_get menu j ≡ Some m →
        (limit_at f x k need i -ℤ m.change) ≤ℤ limit_at f x k need (i + 1)
    enough need j m there =
        let (d, move, within, is) = here.menu_is.moves.sound j m there in
        let low = least_change-low f.phase zs k here.brick here.vector d (contains_at zs m.place d move) within in
        omega (arith, ints, low, is, floor_split)

    -- the walks from this layer, by their first brick
    walk_here : (w : Vector) (h : Bricks) (c : ℤ) → CostsFrom f x k i w h c →
        WalkCosts f.program f.phase zs k (link_rests f.program x) (here.brick ∷ rest_bricks)
        (here.vector ∷ rest_point) w h c
    walk_here w h c wc =
        subst (λ y. WalkCosts f.program f.phase zs k (link_rests f.program x) (here.brick ∷ rest_bricks) y w h c)
        (drop-at x i here.vector here.vector_there)
        (subst (λ bs. WalkCosts f.program f.phase zs k (link_rests f.program x) bs (drop i x) w h c)
        (drop-at f.program.bricks i here.brick here.brick_there) wc)

    back : (limit : ℤ) (layer : Layer) → Under (here.brick ∷ rest_bricks) (here.vector ∷ rest_point) limit layer →
        Under (drop i f.program.bricks) (drop i x) limit layer
    back limit layer under =
        subst (λ y. Under (drop i f.program.bricks) y limit layer) (sym (drop-at x i here.vector here.vector_there))
        (subst (λ bs. Under bs (here.vector ∷ rest_point) limit layer)
        (sym (drop-at f.program.bricks i here.brick here.brick_there)) under)

    pub front : (limit : ℤ) (layer : Layer) → Under (drop i f.program.bricks) (drop i x) limit layer →
        Under (here.brick ∷ rest_bricks) (here.vector ∷ rest_point) limit layer
    front limit layer under =
        subst (λ y. Under (here.brick ∷ rest_bricks) y limit layer) (drop-at x i here.vector here.vector_there)
        (subst (λ bs. Under bs (drop i x) limit layer) (drop-at f.program.bricks i here.brick here.brick_there) under)

    -- a listed move that stays within the bounds stands on the menu, and so changes the cost by little
    move_small : (d : Vector) → Contains zs d → IsWithin here.brick (after k here.vector d) →
        unsigned_abs (brick_change f.phase here.brick here.vector (after k here.vector d)) ≤ 2 * brick_magnitude
        here.brick
    move_small d there within =
        let (h, place) = place_of zs d there in
        let (j, m, at, is) = here.menu_is.moves.complete h d place within in
        let (e, move, _, change) = here.menu_is.moves.sound j m at in
        let same : e ≡ d = same_value (slice_get zs m.place) e d move (ap (slice_get zs) is ∙ place) in
        let few : unsigned_abs m.change ≤ 2 * brick_magnitude here.brick =
        subst (λ (m : PricedMove). unsigned_abs m.change ≤ 2 * brick_magnitude here.brick)
        (get_or_from_slice_get menu j m m at)
        (here.menu_is.small j m (slice_get_within menu j m at)) in
        let cost : m.change ≡ brick_change f.phase here.brick here.vector (after k here.vector d) =
        change ∙ ap (λ u. brick_change f.phase here.brick here.vector (after k here.vector u)) same in
        subst (λ c. unsigned_abs c ≤ 2 * brick_magnitude here.brick) cost few

    small_over : AreWalksSmall f x k (i + 1) → AreWalksSmall f x k i
    small_over behind w h c there wc = by h (walk_here w h c wc)
      where
        split : sum_by brick_magnitude (drop i f.program.bricks) ≡ brick_magnitude here.brick + sum_by
            brick_magnitude rest_bricks
        split = ap (sum_by brick_magnitude) (drop-at f.program.bricks i here.brick here.brick_there)
            ∙ sum_by-cons brick_magnitude here.brick rest_bricks

        by : (h : Bricks) →
            WalkCosts f.program f.phase zs k (link_rests f.program x) (here.brick ∷ rest_bricks)
            (here.vector ∷ rest_point) w h c →
            unsigned_abs c ≤ most_from f.program i
        by [] wc = absurd (omega (arith, wc.walk.size))
        by (d ∷ h) wc =
            let g = front_of f.program f.phase zs k (link_rests f.program x) here.brick rest_bricks here.vector
            rest_point w d h c wc in
            let rest = behind (add w d) h g.rest g.sum g.walk in
            let change = move_small d g.move g.within in
            omega (arith, ints, g.is, rest, change, split)

    -- the layer over the next one, where live nodes are the sources
    pub over_is : (need : ℤ) (next layer : Layer) → IsLayer f x k (i + 1) need next →
        IsLayerOver zs menu (live (limit_at f x k need (i + 1)) next) next layer → IsLayer f x k i need layer
    over_is need next layer below over = record {
      under = back (limit_at f x k need i) layer (
          row_over f.program f.phase zs k (link_rests f.program x) here.brick rest_bricks here.vector rest_point menu
          next here.menu_is.moves
          (limit_at f x k need (i + 1)) (limit_at f x k need i) below.under (enough need) layer over
          );
      small = small_over below.small;
    }

    -- the same where each node is a source
    pub over_least : (limit : ℤ) (next layer : Layer) → total_magnitude f.program ≤ 2 ^ 120 → pos (2 ^ 123) ≤ℤ limit →
        ((need : ℤ) → IsLayer f x k (i + 1) need next) → IsLayerOver zs menu (live limit next) next layer →
        (need : ℤ) → IsLayer f x k i need layer
    over_least limit next layer most high below over need = record {
      under =
          least_under f.program f.phase zs k (link_rests f.program x) (drop i f.program.bricks) (drop i x)
          (limit_at f x k need i) layer
          (least_row i (limit -ℤ pos (2 ^ 121)) layer (omega (arith, ints, high, most_from-small f.program i most))
          small here_under);
      small = small;
    }
      where
        small : AreWalksSmall f x k i
        small = small_over (below need).small

        fair : (j : ℕ) (m : PricedMove) → slice_get menu j ≡ Some m → ((limit -ℤ pos (2 ^ 121)) -ℤ m.change) ≤ℤ limit
        fair j m there =
            let few : unsigned_abs m.change ≤ 2 * brick_magnitude here.brick =
            subst (λ (m : PricedMove). unsigned_abs m.change ≤ 2 * brick_magnitude here.brick)
            (get_or_from_slice_get menu j m m there)
            (here.menu_is.small j m (slice_get_within menu j m there)) in
            omega (arith, ints, few, most, brick_in_total f.program.bricks i here.brick here.brick_there)

        behind : Under rest_bricks rest_point limit next
        behind =
            least_under f.program f.phase zs k (link_rests f.program x) rest_bricks rest_point limit next
            (least_of_all (i + 1) next below)

        here_under : Under (drop i f.program.bricks) (drop i x) (limit -ℤ pos (2 ^ 121)) layer
        here_under = back (limit -ℤ pos (2 ^ 121)) layer (
            row_over f.program f.phase zs k (link_rests f.program x) here.brick rest_bricks here.vector rest_point
            menu next here.menu_is.moves
            limit (limit -ℤ pos (2 ^ 121)) behind fair layer over
            )

  -- ---- from the last layer on

  pub layers_one : (layer : Layer) (layers : List Layer) → length x ≡ n → layers ≡ layer ∷ [] →
      IsLastLayer f k (link_rests f.program x) layer →
      AreLeastLayers f x k 1 layers
  layers_one layer layers same is last need =
      subst (AreLayers f x k 1 need) (sym is) (record { size = refl; each = λ m other there. by m other there })
    where
      by : (m : ℕ) (other : Layer) → slice_get (layer ∷ []) m ≡ Some other → IsLayer f x k (n - m) need other
      by zero other there =
          let first : n ≡ n - 0 = omega arith in
          subst (λ l. IsLayer f x k (n - 0) need l) (same_value (Some layer) layer other refl there)
          (subst (λ i. IsLayer f x k i need layer) first (last_is f x k same layer last need))
      by (suc m) other there = absurd (cc)

  -- one more layer behind those that are there
  layers_more : (m : ℕ) (need : ℤ) (layers more : List Layer) (layer : Layer) → AreLayers f x k (m + 1) need layers →
      more ≡ layers ++ layer ∷ [] → IsLayer f x k (n - (m + 1)) need layer → AreLayers f x k (m + 1 + 1) need more
  layers_more m need layers more layer so_far is new =
      subst (AreLayers f x k (m + 1 + 1) need) (sym is) (record {
        size = length-append layers (layer ∷ []) ∙ ap (λ m. m + 1) so_far.size;
        each = λ i other here. by i other (slice_get-push layers layer other i here);
      })
    where
      by : (i : ℕ) (other : Layer) → (slice_get layers i ≡ Some other) ⊎ ((i ≡ length layers) × (layer ≡ other)) →
          IsLayer f x k (n - i) need other
      by i other (inl before) = so_far.each i other before
      by i other (inr last) =
          let index : m + 1 ≡ i = sym (last.0 ∙ so_far.size) in
          subst (λ l. IsLayer f x k (n - i) need l) last.1 (subst (λ j. IsLayer f x k (n - j) need layer) index new)

  module _ (m : ℕ) (layers more : List Layer) (next layer : Layer) (menu : Menu) (low : m < n)
      (here : AtBrick f x k (n - m - 1) menu) (there : slice_get layers m ≡ Some next)
      (is : more ≡ layers ++ layer ∷ []) where
    joined : n - m ≡ n - m - 1 + 1
    joined = omega (arith, low)

    place : n - m - 1 ≡ n - (m + 1)
    place = omega arith

    -- the layers with the one over the last of them
    pub layers_over : (need : ℤ) → AreLayers f x k (m + 1) need layers →
        IsLayerOver zs menu (live (limit_at f x k need (n - m)) next) next layer → AreLayers f x k (m + 1 + 1) need more
    layers_over need so_far over =
        layers_more m need layers more layer so_far is (
        subst (λ i. IsLayer f x k i need layer) place (
        over_is (n - m - 1) menu here need next layer (subst (λ i. IsLayer f x k i need next) joined
        (so_far.each m next there))
        (subst (λ i. IsLayerOver zs menu (live (limit_at f x k need i) next) next layer) joined over)
        )
        )

    pub layers_over-least : (limit : ℤ) → total_magnitude f.program ≤ 2 ^ 120 → pos (2 ^ 123) ≤ℤ limit →
        AreLeastLayers f x k (m + 1) layers →
        IsLayerOver zs menu (live limit next) next layer → AreLeastLayers f x k (m + 1 + 1) more
    layers_over-least limit most high so_far over need =
        layers_more m need layers more layer (so_far need) is (
        subst (λ i. IsLayer f x k i need layer) place (
        over_least (n - m - 1) menu here limit next layer most high
        (λ ask. subst (λ i. IsLayer f x k i ask next) joined ((so_far ask).each m next there)) over need
        )
        )

    -- and so for whatever the bound asks for from now on
    pub layers_over-under : (old now : Option Key) (need : ℤ) → AreLayersUnder f x k (m + 1) old layers →
        IsNoWorse old now →
        IsNeeded k now need → IsLayerOver zs menu (live (limit_at f x k need (n - m)) next) next layer →
        AreLayersUnder f x k (m + 1 + 1) now more
    layers_over-under old now need so_far better needed over later ask worse asked =
        layers_less (m + 1 + 1) need ask more (need_rises k now later need ask worse needed asked)
        (layers_over need (so_far now need better needed) over)

  -- bounds for the moves over layer i, right for whatever the bound asks for from now on
  abbrev pub AreTopsUnder : ℕ → Option Key → Layer → List (Option ℤ) → Type 0
  AreTopsUnder i bound layer tops =
      (now : Option Key) (need : ℤ) → IsNoWorse bound now → IsNeeded k now need →
      AreTops zs (live (limit_at f x k need i) layer) layer tops

  pub tops_under : (i j : ℕ) (now : Option Key) (need : ℤ) (layer : Layer) (tops : List (Option ℤ)) →
      IsNeeded k now need →
      least_before f.program f.phase zs x k i ≤ℤ least_before f.program f.phase zs x k j →
      AreTops zs (live (limit_at f x k need i) layer) layer tops → AreTopsUnder j now layer tops
  tops_under i j now need layer tops needed floors are later ask worse asked =
      let more = need_rises k now later need ask worse needed asked in
      tops_less zs (limit_at f x k ask j) (limit_at f x k need i) layer tops (omega (arith, ints, more, floors)) are

  -- ---- what a layer says of steps

  -- where no walk from a node of the layer costs little enough, none gains so much
  pub none_gains_above : (i : ℕ) (layer : Layer) (need : ℤ) → i ≤ n → IsLayer f x k i need layer →
      AreAbove (limit_at f x k need i) layer →
      Contains zs (zeros f.program.brick.cols) → NoneGains f x k need
  none_gains_above i layer need low is above origin h c wc = by (le_or_less way.rest (limit_at f x k need i))
    where
      way : Passes f.program f.phase zs k (link_rests f.program x) f.program.bricks x i c
      way = passes f.program f.phase zs k (link_rests f.program x) f.program.bricks x i (zeros f.program.brick.cols)
          h c low origin wc

      by : (way.rest ≤ℤ limit_at f x k need i) ⊎ (limit_at f x k need i <ℤ way.rest) → (pos 0 -ℤ need) <ℤ c
      by (inr high) = omega (arith, ints, way.low, high)
      by (inl under) =
          let (j, at) = place_of zs way.sum way.there in
          let (a, cell, less) = is.under.least j way.sum way.moves way.rest at way.walk under in
          let more = above j a cell in
          absurd (omega (arith, ints, more, less, under))

  -- a cost that is at most the limit is that of a live node, under each bound before
  pub node_lives : (i : ℕ) (need : ℤ) (layer : Layer) (old new : Option Key) (j : ℕ) (w : Vector) (a : ℤ) → 0 < i →
      i ≤ n →
      total_magnitude f.program ≤ 2 ^ 120 → unsigned_abs (least_before f.program f.phase zs x k i) ≤ 2 ^ 122 →
      IsLayer f x k i need layer → IsNeeded k new need → IsNoWorse old new → slice_get zs j ≡ Some w →
      slice_get layer j ≡ Some (Some a) → a ≤ℤ limit_at f x k need i → IsLive f.program f.phase zs x k old i w
  node_lives i need layer old new j w a some inside most few is needed better here cell low = record {
    layer = some;
    inside = inside;
    listed = contains_at zs j w here;
    potential = a;
    is = (is.under.walks j w a here cell, least);
    gains = omega (arith, ints, low, needed.low);
    unbeaten = no_worse _ old new better (needed.enough _ (omega (arith, ints, few, a_small))
        (omega (arith, ints, low, needed.low)));
  }
    where
      a_small : unsigned_abs a ≤ 2 ^ 122
      a_small = most_small f.program i layer most (cells_small f x k i need layer is) j a cell

      least : (h : Bricks) (c : ℤ) → CostsFrom f x k i w h c → a ≤ℤ c
      least h c wc = elim (le_or_less c (limit_at f x k need i)) [
        | inr high ↦ omega (arith, ints, low, high)
        | inl under ↦
            let (b, there, less) = is.under.least j w h c here wc under in
            let same : b ≡ a = same_value (Some b) b a refl (same_value (slice_get layer j) (Some b) (Some a) there
            cell) in
            omega (arith, ints, less, same)
      ]

  -- so a last layer that leaves hope has a live node
  pub last_lives : (layer : Layer) (floor limit : ℤ) (old new : Option Key) → 0 < n →
      total_magnitude f.program ≤ 2 ^ 120 →
      unsigned_abs floor ≤ 2 ^ 122 → floor ≡ least_before f.program f.phase zs x k n →
      ((need : ℤ) → IsNeeded k new need → IsLayer f x k n need layer) → HasHope k new layer floor limit →
      IsNoWorse old new → NoneLives f x k old → ⊥
  last_lives layer floor limit old new some most few lowest is (need, needed, under, (j, a, cell, low)) better none =
      let here = is need needed in
      let (w, at) = there_at zs j (omega (arith, here.under.size, slice_get_within layer j (Some a) cell)) in
      none w (
      node_lives n need layer old new j w a some (omega arith) most
      (subst (λ (b : ℤ). unsigned_abs b ≤ 2 ^ 122) lowest few) here needed better at cell
      (omega (arith, ints, low, under, lowest))
      )
