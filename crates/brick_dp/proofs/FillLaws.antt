-- What filling the layers stands on: points within the bounds, how large the numbers become, the last layer, and what
-- a layer needs of the brick before it.
use Rattle.std.proofs.Common.{◌≡◌, ℕ, zero, suc, ◌^◌, ◌<◌, ◌≤◌, ℤ, unsigned_abs, List, [], ◌∷◌, ◌++◌, length, drop}
use Rattle.std.proofs.Common.{take, append-nil, sum_by, refl, ap, arith, sym, ◌∙◌, Some, None, Option, slice_get, subst}
use Rattle.std.proofs.Common.{All, replicate}
use Rattle.std.proofs.lemmas.Int.{ints}
use Rattle.std.proofs.lemmas.List.{drop_all, take_all, length-replicate}
use Rattle.std.proofs.lemmas.List.Sums.{sum_by-take-drop}
use Rattle.std.proofs.lemmas.Option.{slice_get_within, get_or_from_slice_get}
use Rattle.lattice_theory.specs.Vectors.{Vector, zeros}
use Rattle.lattice_theory.specs.SignedSums.{vectors}
use Rattle.fold_theory.specs.Programs.{Program, IsProgram, Brick, Bricks, IsWithin, AreWithin, link_rests}
use Rattle.fold_program.specs.Points.{HasPointShape}
use Rattle.fold_program.specs.Refusals.{brick_magnitude, total_magnitude}
use Rattle.fold_program.proofs.PointLaws.{shape_of}
use Rattle.fold_program.proofs.PlaceLaws.{brick_in_total}
use Rattle.run_theory.specs.Folds.{FoldValue}
use Rattle.run_theory.specs.Walks.{WalkCosts}
use Rattle.lattice_laws.proofs.Places.{same_value, contains_at, place_of, there_at}
use Rattle.fold_laws.proofs.Points.{within_at}
use Rattle.walk_laws.proofs.BestWalks.{IsLeastWalk, least_end}
use Rattle.sieve_laws.specs.Sieve.{Layer, Menu, MayStay, AreTops, IsAtMost, live}
use Rattle.sieve_laws.proofs.Rows.{may_stay}
use Rattle.sieve_laws.proofs.Tops.{tops_none}
use Rattle.layer_sieve.specs.Reaching.{AreAtMost, IsFair}
use Rattle.brick_dp.specs.Ends.{IsLastLayer}
use Rattle.brick_dp.specs.Menus.{IsBrickMenu, AreMenus}
use Rattle.brick_dp.specs.Tables.{most_from, CostsFrom, IsLayer}

-- ---- how large the numbers in the layers become

pub AreAtMost-more : (m n : ℕ) (numbers : List (Option ℤ)) → m ≤ n → AreAtMost m numbers → AreAtMost n numbers
AreAtMost-more m n numbers more most i a there = omega (arith, more, most i a there)

sum_by-drop : (bs : List Brick) (i : ℕ) → sum_by brick_magnitude (drop i bs) ≤ sum_by brick_magnitude bs
sum_by-drop bs i = omega (arith, sum_by-take-drop brick_magnitude bs i)

pub most_from-small : (p : Program) (i : ℕ) → total_magnitude p ≤ 2 ^ 120 → most_from p i ≤ 2 ^ 122
most_from-small p i most = omega (arith, most, sum_by-drop p.bricks i)

-- no walk costs more than twice all magnitudes and what its end costs
pub most_small : (p : Program) (i : ℕ) (layer : Layer) → total_magnitude p ≤ 2 ^ 120 →
    AreAtMost (most_from p i) layer → AreAtMost (2 ^ 122) layer
most_small p i layer most small = AreAtMost-more (most_from p i) (2 ^ 122) layer (most_from-small p i most) small

-- moves of a menu are fair
pub fair_menu : (f : FoldValue) (k i : ℕ) (b : Brick) (v : Vector) (menu : Menu) →
    total_magnitude f.program ≤ 2 ^ 120 → slice_get f.program.bricks i ≡ Some b →
    IsBrickMenu f k b v menu → All (IsFair (length f.sums)) menu
fair_menu f k i b v menu most brick is j m low =
    record {
      low = is.low j m low;
      small =
          omega (arith, most, is.small j m low, brick_in_total f.program.bricks i b brick);
    }

-- ---- a listed vector

-- no cell of a layer is more than walks cost
pub cells_small : (f : FoldValue) (x : Bricks) (k i : ℕ) (need : ℤ) (layer : Layer) → IsLayer f x k i need layer →
    AreAtMost (most_from f.program i) layer
cells_small f x k i need layer is j a there =
    let (w, here) = there_at (vectors f.sums) j (omega (arith, is.under.size, slice_get_within layer j (Some a) there))
    in
    let (h, walk) = is.under.walks j w a here there in
    is.small w h a (contains_at (vectors f.sums) j w here) walk

-- ---- layers

module _ (f : FoldValue) (x : Bricks) (k : ℕ) (same : length x ≡ length f.program.bricks) where
  abbrev n : ℕ
  n = length f.program.bricks

  abbrev zs : List Vector
  zs = vectors f.sums

  -- behind the last brick a walk is over
  ended : (w : Vector) (h : Bricks) (c : ℤ) → CostsFrom f x k n w h c →
      WalkCosts f.program f.phase zs k (link_rests f.program x) [] [] w h c
  ended w h c wc =
      let bricks : drop n f.program.bricks ≡ [] = drop_all n f.program.bricks (omega arith) in
      let none : drop n x ≡ [] = drop_all n x (omega (arith, same)) in
      subst (λ y. WalkCosts f.program f.phase zs k (link_rests f.program x) [] y w h c) none
      (subst (λ bs. WalkCosts f.program f.phase zs k (link_rests f.program x) bs (drop n x) w h c) bricks wc)

  -- the last layer, whatever a step is to gain
  pub last_is : (layer : Layer) → IsLastLayer f k (link_rests f.program x) layer → (need : ℤ) →
      IsLayer f x k n need layer
  last_is layer last need = record {
    under = record {
      size = last.size;
      walks = λ j w c here cell. (cells j w (Some c) here cell).0;
      least = λ j w h c here wc low. least j w h c here wc
          (there_at layer j (omega (arith, last.size, slice_get_within zs j w here)));
    };
    small = λ w h c there wc. small w h c (place_of zs w there) (ended w h c wc);
  }
    where
      cells : (j : ℕ) (w : Vector) (o : Option ℤ) → slice_get zs j ≡ Some w → slice_get layer j ≡ Some o →
          IsLeastWalk f.program f.phase zs k (link_rests f.program x) (drop n f.program.bricks) (drop n x) w o
      cells j w o here cell =
          let bricks : drop n f.program.bricks ≡ [] = drop_all n f.program.bricks (omega arith) in
          let none : drop n x ≡ [] = drop_all n x (omega (arith, same)) in
          subst (λ y. IsLeastWalk f.program f.phase zs k (link_rests f.program x) (drop n f.program.bricks) y w o)
          (sym none) (
          subst (λ bs. IsLeastWalk f.program f.phase zs k (link_rests f.program x) bs [] w o) (sym bricks)
          (least_end f.program f.phase zs k (link_rests f.program x) w o (sym (last.cells j w o here cell)))
          )

      least : (j : ℕ) (w : Vector) (h : Bricks) (c : ℤ) → slice_get zs j ≡ Some w → CostsFrom f x k n w h c →
          (o : Option ℤ) × (slice_get layer j ≡ Some o) → IsAtMost layer j c
      least j w h c here wc (None, cell) = absurd (cells j w None here cell h c wc)
      least j w h c here wc (Some a, cell) = (a, cell, (cells j w (Some a) here cell).1 h c wc)

      small : (w : Vector) (h : Bricks) (c : ℤ) → (j : ℕ) × (slice_get zs j ≡ Some w) →
          WalkCosts f.program f.phase zs k (link_rests f.program x) [] [] w h c → unsigned_abs c ≤ most_from f.program n
      small w [] c (j, here) wc =
          let (o, cell) = there_at layer j (omega (arith, last.size, slice_get_within zs j w here)) in
          let is : o ≡ Some wc.last = last.cells j w o here cell ∙ wc.ends in
          let few = last.small j wc.last (cell ∙ ap Some is) in
          omega (arith, ints, wc.is, few)
      small w (d ∷ h) c place wc = absurd (omega (arith, wc.walk.size))

  -- each brick may stay where it is
  pub stays : (t place i : ℕ) (b : Brick) (v : Vector) (menu : Menu) (next : Layer) →
      slice_get zs place ≡ Some (zeros t) → All (λ z. length z ≡ t) zs →
      length v ≡ t → IsWithin b v → length next ≡ length zs → IsBrickMenu f k b v menu → MayStay zs menu next
  stays t place i b v menu next contains_at widths size within all is =
      may_stay f.phase zs k t b v menu next place is.moves contains_at widths size within all

-- ---- what a layer needs of the brick before it

-- a brick, its vector and its menu
pub record AtBrick (f : FoldValue) (x : Bricks) (k i : ℕ) (menu : Menu) : Type 0 where
  pub brick : Brick
  pub brick_there : slice_get f.program.bricks i ≡ Some brick
  pub vector : Vector
  pub vector_there : slice_get x i ≡ Some vector
  pub width : length vector ≡ f.program.brick.cols
  pub within : IsWithin brick vector
  pub menu_is : IsBrickMenu f k brick vector menu

pub at_brick : (f : FoldValue) (x : Bricks) (k i : ℕ) (menus : List Menu) (menu : Menu) → IsProgram f.program →
    AreWithin f.program.bricks x → AreMenus f x k menus →
    i < length f.program.bricks → slice_get menus i ≡ Some menu → AtBrick f x k i menu
at_brick f x k i menus menu program within menus_are low there = record {
  brick = brick.0;
  brick_there = brick.1;
  vector = vector.0;
  vector_there = vector.1;
  width = sym (ap length (get_or_from_slice_get x i vector.0 vector.0 vector.1))
      ∙ shape.widths i vector.0 (omega (arith, shape.bricks, low)) ∙ sym program.brick_shape.width;
  within = within_at f.program.bricks x i brick.0 vector.0 within brick.1 vector.1;
  menu_is = menus_are.each i brick.0 vector.0 menu brick.1 vector.1 there;
}
  where
    shape : HasPointShape f.program x
    shape = shape_of f.program x program within

    brick : (b : Brick) × (slice_get f.program.bricks i ≡ Some b)
    brick = there_at f.program.bricks i low

    vector : (v : Vector) × (slice_get x i ≡ Some v)
    vector = there_at x i (omega (arith, shape.bricks, low))

-- what stands in a buffer after all of it was written
pub buffer : {A : Type 0} (new old : List A) (len : ℕ) → length new ≡ length old → len ≡ length old →
    take len (new ++ drop (length new) old) ≡ new
buffer new old len same all =
    ap (λ rest. take len (new ++ rest)) (drop_all (length new) old (omega (arith, same)))
    ∙ ap (take len) (append-nil new) ∙ take_all len new (omega (arith, same, all))

-- ---- bounds for the moves over a layer

-- none is known at first
pub tops_fresh : (zs : List Vector) (from next : Layer) (tops : List (Option ℤ)) (size : ℕ) →
    tops ≡ replicate size None → size ≡ length zs →
    AreTops zs from next tops
tops_fresh zs from next tops size is all =
    tops_none zs from next tops (ap length is ∙ length-replicate size None ∙ all)
    (λ h o there. none size h o (ap (λ ts. slice_get ts h) (sym is) ∙ there))
  where
    none : (n h : ℕ) (o : Option ℤ) → slice_get (replicate n None) h ≡ Some o → o ≡ None
    none zero h o there = absurd (cc)
    none (suc n) zero o there = sym (same_value (Some None) None o refl there)
    none (suc n) (suc h) o there = none n h o there

-- those that stand in a list, over the layer that stands in one
pub tops_same : (zs : List Vector) (limit : ℤ) (layer next : Layer) (tops others : List (Option ℤ)) → next ≡ layer →
    others ≡ tops →
    AreTops zs (live limit layer) layer tops → AreTops zs (live limit next) next others
tops_same zs limit layer next tops others same also are =
    subst (λ (l : Layer). AreTops zs (live limit l) l others) (sym same)
    (subst (λ (ts : List (Option ℤ)). AreTops zs (live limit layer) layer ts) (sym also) are)
