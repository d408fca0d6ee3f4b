-- Sweeps so far: what holds where the bound leaves hope, and that a brick none of whose moves lowers a cell of the
-- layer
-- behind it repeats that layer.
use Rattle.std.proofs.Common.{◌≡◌, ℕ, ◌+◌, ◌-◌, ◌^◌, ◌<◌, ◌≤◌, ℤ, pos, ◌-ℤ◌, ◌≤ℤ◌, List, [], ◌∷◌, ◌++◌, length, ap}
use Rattle.std.proofs.Common.{arith, sym, ◌∙◌, Option, Some, All, Contains, subst}
use Rattle.std.specs.Prelude.{slice_get}
use Rattle.std.proofs.lemmas.Int.{ints}
use Rattle.lattice_theory.specs.Vectors.{zeros}
use Rattle.lattice_theory.specs.SignedSums.{vectors}
use Rattle.fold_theory.specs.Programs.{Bricks}
use Rattle.run_theory.specs.declared.Key.{Key}
use Rattle.run_theory.specs.Folds.{FoldValue}
use Rattle.run_theory.specs.Keys.{IsNoWorse}
use Rattle.run_theory.specs.Live.{least_before}
use Rattle.lattice_laws.proofs.Places.{place_of}
use Rattle.fold_program.specs.Refusals.{total_magnitude}
use Rattle.sieve_laws.specs.Sieve.{Layer, Menu, AreIdle, AreTops, IsLayerOver, live}
use Rattle.sieve_laws.proofs.Idle.{idle_over, idle_less}
use Rattle.gain_laws.proofs.Keys.{no_worse_itself, no_worse_through}
use Rattle.layer_sieve.specs.Reaching.{AreAtMost}
use Rattle.brick_dp.specs.Needs.{IsNeeded, IsLeastOf, IsFloor, IsSwept, AreAbove, AreBeaten, IsHopeless, HasHope}
use Rattle.brick_dp.specs.Needs.{NoneLives}
use Rattle.brick_dp.specs.Tables.{IsLayer, limit_at}
use Rattle.brick_dp.proofs.FillLaws.{AtBrick, stays, most_small, cells_small}
use Rattle.brick_dp.proofs.FloorLaws.{floor_next, floor_fits}
use Rattle.brick_dp.proofs.MenuLaws.{slice_get-last}
use Rattle.brick_dp.proofs.UnderLaws.{AreTopsUnder, tops_under, none_gains_above, last_lives, layers_over-under}

-- ---- where the bound leaves hope

-- what a layer that leaves hope stands for
pub record IsHoped (f : FoldValue) (x : Bricks) (k m : ℕ) (now : Option Key) (all : List Layer) (layer : Layer)
    (limit : ℤ) : Type 0 where
  pub need : ℤ
  pub needed : IsNeeded k now need
  pub limit_is : limit ≡ limit_at f x k need (length f.program.bricks - m)
  pub is : IsLayer f x k (length f.program.bricks - m) need layer
  pub small : AreAtMost (2 ^ 122) layer
  pub count : length all ≡ m + 1

module _ (f : FoldValue) (x : Bricks) (k m : ℕ) (old now : Option Key) (all : List Layer) (layer : Layer) (lowest : ℤ)
    (most : total_magnitude f.program ≤ 2 ^ 120) (so_far : IsSwept f x k m old all layer lowest)
    (better : IsNoWorse old now) where
  pub hoped : (limit : ℤ) → HasHope k now layer lowest limit → IsHoped f x k m now all layer limit
  hoped limit (need, needed, is, _) =
      let layer_is = (so_far.layers now need better needed).each m layer so_far.last in
      record {
        need = need;
        needed = needed;
        limit_is = is ∙ ap (λ (a : ℤ). (pos 0 -ℤ need) -ℤ a) so_far.floor.is;
        is = layer_is;
        small = most_small f.program (length f.program.bricks - m) layer most
            (cells_small f x k (length f.program.bricks - m) need layer layer_is);
        count = (so_far.layers now need better needed).size;
      }

  pub swept_later : IsSwept f x k m now all layer lowest
  swept_later = record {
    layers = λ later need worse needed. so_far.layers later need (no_worse_through old now later better worse) needed;
    last = so_far.last;
    floor = so_far.floor;
  }

  -- where the bound leaves none, no walk gains what it asks for
  pub swept_beaten : Contains (vectors f.sums) (zeros f.program.brick.cols) → AreBeaten k now layer lowest →
      IsHopeless f x k now
  swept_beaten origin (need, needed, above) =
      let layer_is = (so_far.layers now need better needed).each m layer so_far.last in (
        need,
        needed,
        none_gains_above f x k (length f.program.bricks - m) layer need (omega arith) layer_is
            (subst (λ (a : ℤ). AreAbove ((pos 0 -ℤ need) -ℤ a) layer) so_far.floor.is above) origin,
      )

  -- where it leaves some at the last layer, a node of it lives under each bound before
  pub first_lives : (start : Option Key) (limit : ℤ) → m ≡ 0 → 0 < length f.program.bricks → IsNoWorse start old →
      HasHope k now layer lowest limit → NoneLives f x k start → ⊥
  first_lives start limit none some before hope =
      let first : length f.program.bricks - m ≡ length f.program.bricks = omega (arith, none) in
      last_lives f x k layer lowest limit start now some most
      (floor_fits f (length f.program.bricks - m) lowest most so_far.floor.small)
      (so_far.floor.is ∙ ap (least_before f.program f.phase (vectors f.sums) x k) first)
      (λ need needed. subst (λ i. IsLayer f x k i need layer) first
      ((so_far.layers now need better needed).each m layer so_far.last)) hope
      (no_worse_through start old now before better)

  -- one more brick, over which the layer is another one
  pub swept_over : (more : List Layer) (over : Layer) (menu : Menu) (least limit : ℤ) → m < length f.program.bricks →
      AtBrick f x k (length f.program.bricks - m - 1) menu → IsLeastOf menu least →
      Contains (vectors f.sums) (zeros f.program.brick.cols) → IsHoped f x k m now all layer limit →
      more ≡ all ++ over ∷ [] → IsLayerOver (vectors f.sums) menu (live limit layer) layer over →
      IsSwept f x k (m + 1) now more over (lowest -ℤ least)
  swept_over more over menu least limit low here least_is origin hope is over_is =
      let next = floor_next f x k m menu lowest least low here origin least_is so_far.floor.is so_far.floor.small in
      record {
        layers = layers_over-under f x k m all more layer over menu low here so_far.last is old now hope.need
            so_far.layers better hope.needed
            (subst (λ a. IsLayerOver (vectors f.sums) menu (live a layer) layer over) hope.limit_is over_is);
        last = ap (λ (ls : List Layer). slice_get ls (m + 1)) is ∙ ap (slice_get (all ++ over ∷ [])) (sym hope.count)
            ∙ slice_get-last all over;
        floor = record { is = next.0; small = next.1 };
      }

-- bounds for the moves over a layer stay right behind more bricks
pub tops_later : (f : FoldValue) (x : Bricks) (k m l : ℕ) (now : Option Key) (all : List Layer) (layer new : Layer)
    (lowest higher limit : ℤ) (tops : List (Option ℤ)) → IsHoped f x k m now all layer limit →
    IsFloor f x k (length f.program.bricks - m) lowest → IsFloor f x k (length f.program.bricks - l) higher →
    lowest ≤ℤ higher → AreTops (vectors f.sums) (live limit new) new tops →
    AreTopsUnder f x k (length f.program.bricks - l) now new tops
tops_later f x k m l now all layer new lowest higher limit tops hope before after rises are =
    tops_under f x k (length f.program.bricks - m) (length f.program.bricks - l) now hope.need new tops hope.needed
    (omega (arith, ints, before.is, after.is, rises))
    (subst (λ a. AreTops (vectors f.sums) (live a new) new tops) hope.limit_is are)

-- and are those under the limit
pub tops_now : (f : FoldValue) (x : Bricks) (k m : ℕ) (old now : Option Key) (all : List Layer) (layer : Layer)
    (limit : ℤ) (tops : List (Option ℤ)) → IsHoped f x k m now all layer limit → IsNoWorse old now →
    AreTopsUnder f x k (length f.program.bricks - m) old layer tops → AreTops (vectors f.sums) (live limit layer) layer
    tops
tops_now f x k m old now all layer limit tops hope better are =
    subst (λ a. AreTops (vectors f.sums) (live a layer) layer tops) (sym hope.limit_is)
    (are now hope.need better hope.needed)

-- ---- over bricks all of whose moves are idle

module _ (f : FoldValue) (x : Bricks) (k : ℕ) (same : length x ≡ length f.program.bricks)
    (widths : All (λ z. length z ≡ f.program.brick.cols) (vectors f.sums))
    (origin : Contains (vectors f.sums) (zeros f.program.brick.cols)) where
  abbrev n : ℕ
  n = length f.program.bricks

  module _ (m : ℕ) (bound : Option Key) (layers more : List Layer) (layer : Layer) (menu : Menu)
      (floor start least limit : ℤ)
      (low : m < n) (here : AtBrick f x k (n - m - 1) menu) (lowest : IsLeastOf menu least)
      (so_far : IsSwept f x k m bound layers layer floor) (rises : start ≤ℤ floor)
      (hope : HasHope k bound layer start limit) (idle : AreIdle (vectors f.sums) (live limit layer) layer menu)
      (is : more ≡ layers ++ layer ∷ []) where
    abbrev need : ℤ
    need = hope.0

    layer_is : IsLayer f x k (n - m) need layer
    layer_is = (so_far.layers bound need (no_worse_itself bound) hope.1).each m layer so_far.last

    below : limit_at f x k need (n - m) ≤ℤ limit
    below = omega (arith, ints, hope.2, so_far.floor.is, rises)

    over : IsLayerOver (vectors f.sums) menu (live (limit_at f x k need (n - m)) layer) layer layer
    over =
        let zero = place_of (vectors f.sums) (zeros f.program.brick.cols) origin in
        idle_over (vectors f.sums) layer menu (live (limit_at f x k need (n - m)) layer) layer_is.under.size
        (stays f x k same f.program.brick.cols zero.0 (n - m - 1) here.brick here.vector menu layer zero.1 widths
        here.width here.within layer_is.under.size here.menu_is)
        (idle_less (vectors f.sums) layer (limit_at f x k need (n - m)) limit menu below idle)

    -- one more brick
    pub swept_idle : IsSwept f x k (m + 1) bound more layer (floor -ℤ least)
    swept_idle =
        let size = (so_far.layers bound need (no_worse_itself bound) hope.1).size in
        let next = floor_next f x k m menu floor least low here origin lowest so_far.floor.is so_far.floor.small in
        record {
          layers = layers_over-under f x k m layers more layer layer menu low here so_far.last is bound bound need
              so_far.layers (no_worse_itself bound) hope.1 over;
          last = ap (λ (ls : List Layer). slice_get ls (m + 1)) is ∙ ap (slice_get (layers ++ layer ∷ [])) (sym size)
              ∙ slice_get-last layers layer;
          floor = record { is = next.0; small = next.1 };
        }

    pub last_of : slice_get layers (length layers - 1) ≡ Some layer
    last_of =
        let size = (so_far.layers bound need (no_worse_itself bound) hope.1).size in
        let place : length layers - 1 ≡ m = omega (arith, size) in
        ap (slice_get layers) place ∙ so_far.last
