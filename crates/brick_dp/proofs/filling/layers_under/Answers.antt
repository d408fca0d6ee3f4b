use Rattle.std.proofs.Common.{◌≡◌, ◌∙◌, ◌+◌, ◌-◌, ◌*◌, ◌≤◌, ◌^◌, ◌<◌, ◌-ℤ◌, ℤ, FitsSigned, to_z, ap, sym, refl, arith}
use Rattle.std.proofs.Common.{rules, length, subst, slice_get, None, Option, ◌∷◌, [], List, All, replicate, take, drop}
use Rattle.std.proofs.Common.{◌++◌}
use Rattle.std.specs.Int.{w128}
use Rattle.std.proofs.lemmas.Int.{ints, to_z-of_z, fits_signed_from_abs}
use Rattle.std.proofs.lemmas.List.{length-map}
use Rattle.std.proofs.lemmas.Bool.{OnTrue_at}
use Rattle.lattice_theory.specs.SignedSums.{Sum, vectors}
use Rattle.lattice_theory.specs.Vectors.{Vector, zeros}
use Rattle.fold_theory.specs.Programs.{Program, IsProgram}
use Rattle.fold_program.specs.Refusals.{total_magnitude}
use Rattle.fold_program.proofs.PointLaws.{shape_of}
use Rattle.run_theory.specs.Live.{least_before}
use Rattle.lattice_laws.proofs.Places.{place_of}
use Rattle.fold_laws.proofs.Points.{point-length}
use Rattle.sieve_laws.specs.Sieve.{Layer, AreTops, IsLayerOver, MayStay, live}
use Rattle.gain_laws.proofs.Keys.{no_worse_itself, no_worse_through}
use Rattle.layer_sieve.specs.Reaching.{AreAtMost, IsFair}
use Rattle.layer_sieve.specs.Tried.{IsTried}
use Rattle.layer_sieve.proofs.FlagLaws.{count_more}
use Rattle.brick_dp.specs.Blocks.{AreIdleFrom}
use Rattle.brick_dp.specs.Needs.{AreBeaten, HasHope, NoneLives, IsLeastOf, IsSwept, AreLayersUnder}
use Rattle.brick_dp.specs.Tables.{limit_at}
use Rattle.brick_dp.proofs.MenuLaws.{menu_short}
use Rattle.brick_dp.proofs.FillLaws.{stays, fair_menu, at_brick, buffer, tops_fresh, tops_same, AtBrick}
use Rattle.brick_dp.proofs.FloorLaws.{floor_next, floor_fits}
use Rattle.brick_dp.proofs.UnderLaws.{AreTopsUnder, layers_one}
use Rattle.brick_dp.proofs.PassLaws.{IsHoped, hoped, swept_later, swept_beaten, first_lives, swept_over, tops_later}
use Rattle.brick_dp.proofs.PassLaws.{tops_now}
use Rattle.brick_dp.proofs.TriedLaws.{TriedBehind, tried_none, tried_all, tried_next, tried_less}
use Rattle.brick_dp.proofs.LayerLaws.{count_round, count_most, count_all}
use Rattle.brick_dp.proofs.filling.layers_under.Goals as goal
use Rattle.brick_dp.proofs.filling.layers_under.Goals.{In-Some, After-n-bricks, After-is_idle_block, After-of-menu}
use Rattle.brick_dp.proofs.filling.layers_under.Goals.{After-least, After-add_layer, In_ok-add_layer}

-- ---- the program

-- its bricks are counted
bricks_are : (g : _) (c : After-n-bricks g) → c.n-bricks.result ≡ length c.args.fold.now.program.bricks
bricks_are g c = c.n-bricks.ensures.bricks ∙ ap (λ (p : Program). length p.bricks) c.program.ensures

-- it is one
is_program : (g : _) (c : After-n-bricks g) → IsProgram c.args.fold.now.program
is_program g c = subst IsProgram c.program.ensures c.n-bricks.ensures.program

-- its numbers are small
most : (g : _) (c : After-n-bricks g) → total_magnitude c.args.fold.now.program ≤ 2 ^ 120
most g c = subst (λ p. total_magnitude p ≤ 2 ^ 120) c.program.ensures c.n-bricks.ensures.magnitude

-- ---- where the bound leaves hope

-- the limit is what a walk costs that gains what the bound asks for
hope : (g : _) (c : In-Some g) → HasHope c.args.k (g.B.Bound.last c.limit_under.new.bound) c.loop-done.layer.items
    (to_z w128 c.loop-done.floor-bits) c.in-Some.limit
hope g c =
    subst (λ (l : Layer). HasHope c.args.k (g.B.Bound.last c.limit_under.new.bound) l
    (to_z w128 c.loop-done.floor-bits) c.in-Some.limit) c.deref-in-loop-done.ensures.value c.in-Some.ensures.limit

-- and the layer leads to such walks
here : (g : _) (c : In-Some g) → IsHoped c.args.fold.now c.args.point.now c.args.k c.loop-done.done
    (g.B.Bound.last c.limit_under.new.bound) c.loop-done.layers c.loop-done.layer.items c.in-Some.limit
here g c =
    let past = goal.at.In-Some g c in
    hoped c.args.fold.now c.args.point.now c.args.k c.loop-done.done (g.B.Bound.last c.loop-done.bound)
    (g.B.Bound.last c.limit_under.new.bound) c.loop-done.layers c.loop-done.layer.items
    (to_z w128 c.loop-done.floor-bits) (most g past.After-n-bricks) c.loop-done.invariant.swept c.in-Some.ensures.better
    c.in-Some.limit (hope g c)

-- so some node lived under the bound at the start
some_lives : (g : _) (c : In-Some g) → NoneLives c.args.fold.now c.args.point.now c.args.k
    (g.B.Bound.last c.args.bound.now) → ⊥
some_lives g c none =
    let past = goal.at.In-Some g c in
    let some : 0 < length c.args.fold.now.program.bricks =
    omega (arith, bricks_are g past.After-n-bricks, c.n-bricks.ensures.from) in
    first_lives c.args.fold.now c.args.point.now c.args.k c.loop-done.done (g.B.Bound.last c.loop-done.bound)
    (g.B.Bound.last c.limit_under.new.bound) c.loop-done.layers c.loop-done.layer.items
    (to_z w128 c.loop-done.floor-bits) (most g past.After-n-bricks) c.loop-done.invariant.swept c.in-Some.ensures.better
    (g.B.Bound.last c.args.bound.now) c.in-Some.limit (c.loop-done.invariant.untried none).0 some
    c.loop-done.invariant.better (hope g c) none

-- each sum has a cell
sums_are : (g : _) (c : In-Some g) → length c.loop-done.layer.items ≡ length c.args.targets.now
sums_are g c =
    (here g c).is.under.size ∙ length-map {A = Sum} {B = Vector} c.args.fold.now.sums (λ s. s.vector)
    ∙ sym (ap length c.requires.targets)

-- the block was asked for with bounds for the moves, and left such
tops_kept : (g : _) (c : After-is_idle_block g) → AreTops (vectors c.args.fold.now.sums)
    (live c.in-Some.limit c.loop-done.layer.items) c.loop-done.layer.items c.is_idle_block.new.tops
tops_kept g c =
    let limit : FitsSigned w128 c.in-Some.limit = search rules in
    subst (λ (l : Layer). AreTops (vectors c.args.fold.now.sums) (live c.in-Some.limit l) l c.is_idle_block.new.tops)
    c.deref-in-loop-done-2.ensures.value
    (subst (λ (s : List Sum). AreTops (vectors s) (live c.in-Some.limit c.deref-in-loop-done-2.result.now)
    c.deref-in-loop-done-2.result.now c.is_idle_block.new.tops) c.requires.targets
    (simp to_z-of_z at c.is_idle_block.ensures.tops))

-- which stand in the list afterwards
tops_noted : (g : _) (c : After-is_idle_block g) → take c.loop-done.tops.len (c.is_idle_block.new.tops ++ drop
    (length c.is_idle_block.new.tops) c.loop-done.tops.items) ≡ c.is_idle_block.new.tops
tops_noted g c =
    buffer c.is_idle_block.new.tops c.loop-done.tops.items c.loop-done.tops.len
    (omega (arith, c.is_idle_block.auto.tops, c.deref_mut.ensures.len, c.loop-done.tops.ok.0)) c.loop-done.tops.ok.0

-- ---- one more brick

-- some brick is left
is_low : (g : _) (c : After-of-menu g) → c.loop-done.done < length c.args.fold.now.program.bricks
is_low g c = omega (arith, bricks_are g (goal.at.After-of-menu g c).After-n-bricks, c.loop-done-test.true)

-- the brick before the layer, and its menu
brick_at : (g : _) (c : After-of-menu g) → AtBrick c.args.fold.now c.args.point.now c.args.k
    (length c.args.fold.now.program.bricks - c.loop-done.done - 1) c.of-menu.result.now
brick_at g c =
    let past = goal.at.After-of-menu g c in
    let n = length c.args.fold.now.program.bricks in
    let index : c.n-bricks.result - c.loop-done.done - 1 ≡ n - c.loop-done.done - 1 =
    omega (arith, bricks_are g past.After-n-bricks) in
    at_brick c.args.fold.now c.args.point.now c.args.k (n - c.loop-done.done - 1) c.args.menus.now
    c.of-menu.result.now (is_program g past.After-n-bricks) c.requires.within c.requires.menus
    (omega (arith, is_low g c)) (ap (slice_get c.args.menus.now) (sym index) ∙ c.of-menu.ensures)

-- its menu has at most one move for each sum
few : (g : _) (c : After-of-menu g) → length c.of-menu.result.now ≤ length c.args.fold.now.sums
few g c =
    let brick = brick_at g c in
    menu_short c.args.fold.now c.args.k brick.brick brick.vector c.of-menu.result.now brick.menu_is

-- the least change is that of this menu
is_least : (g : _) (c : After-least g) → IsLeastOf c.of-menu.result.now c.least.result
is_least g c = c.least.ensures c.of-menu.result.now c.of-menu.ensures

-- the floor below its least change fits
next_fits : (g : _) (c : After-least g) → FitsSigned w128 (to_z w128 c.loop-done.floor-bits -ℤ c.least.result)
next_fits g c =
    let past = goal.at.After-least g c in
    let f = c.args.fold.now in
    let floor = to_z w128 c.loop-done.floor-bits in
    let next = floor_next f c.args.point.now c.args.k c.loop-done.done c.of-menu.result.now floor c.least.result
    (is_low g past.After-of-menu) (brick_at g past.After-of-menu) c.requires.zero (is_least g c)
    c.loop-done.invariant.swept.floor.is c.loop-done.invariant.swept.floor.small in
    fits_signed_from_abs w128 (floor -ℤ c.least.result) (omega (
      arith,
      floor_fits f (length f.program.bricks - (c.loop-done.done + 1)) (floor -ℤ c.least.result)
          (most g past.After-n-bricks) next.1,
    ))

-- its moves were tried at live nodes
is_tried : (g : _) (c : After-add_layer g) → TriedBehind c.args.fold.now.program c.args.fold.now.phase
    (vectors c.args.fold.now.sums) c.args.point.now c.args.k (g.B.Bound.last c.args.bound.now)
    (length c.args.fold.now.program.bricks - (c.loop-done.done + 1)) (c.add_layer.new.moves - c.args.moves.now)
is_tried g c =
    let past = goal.at.After-add_layer g c in
    let f = c.args.fold.now in
    let floor = to_z w128 c.loop-done.floor-bits in
    let limit : FitsSigned w128 c.in-Some.limit = search rules in
    let counted : IsTried (length c.of-menu.result.now) c.loop-done.layer.items c.in-Some.limit
    (c.add_layer.new.moves - c.loop-done.moves) =
    subst (λ (l : Layer). IsTried (length c.of-menu.result.now) l c.in-Some.limit
    (c.add_layer.new.moves - c.loop-done.moves)) c.deref_mut-else-is_idle_block.ensures.value
    (simp to_z-of_z at c.add_layer.ensures.tried) in
    tried_next f c.args.point.now c.args.k c.loop-done.done floor c.in-Some.limit c.loop-done.layers
    c.loop-done.layer.items (g.B.Bound.last c.args.bound.now) (g.B.Bound.last c.loop-done.bound)
    (g.B.Bound.last c.limit_under.new.bound) c.args.moves.now c.loop-done.moves c.add_layer.new.moves
    (length c.of-menu.result.now) c.requires.rising (is_low g past.After-of-menu) (most g past.After-n-bricks)
    (floor_fits f (length f.program.bricks - c.loop-done.done) floor (most g past.After-n-bricks)
    c.loop-done.invariant.swept.floor.small) c.loop-done.invariant.swept.floor.is c.loop-done.invariant.swept.layers
    c.loop-done.invariant.swept.last c.loop-done.invariant.better c.in-Some.ensures.better (hope g past.In-Some)
    (few g past.After-of-menu) c.loop-done.invariant.rising c.add_layer.ensures.rising counted
    c.loop-done.invariant.tried

-- and are no more than each sum has for each brick
is_counted : (g : _) (c : After-add_layer g) → c.add_layer.new.moves ≤ c.args.moves.now + (c.loop-done.done + 1)
    * (length c.args.fold.now.sums * length c.args.fold.now.sums)
is_counted g c =
    let past = goal.at.After-add_layer g c in
    let f = c.args.fold.now in
    let round = count_round c.loop-done.moves c.add_layer.new.moves (length c.of-menu.result.now) (length f.sums)
    (subst (λ (s : List Sum). c.add_layer.new.moves ≤ c.loop-done.moves + length c.of-menu.result.now * length s)
    c.requires.targets c.add_layer.ensures.counted) (few g past.After-of-menu) in
    count_more c.args.moves.now c.loop-done.moves c.add_layer.new.moves (length f.sums * length f.sums)
    c.loop-done.done c.loop-done.invariant.counted round

-- the new layer and its bounds stand in their lists
layer_written : (g : _) (c : After-add_layer g) → take c.loop-done.layer.len (c.add_layer.new.layer ++ drop
    (length c.add_layer.new.layer) c.loop-done.layer.items) ≡ c.add_layer.new.layer
layer_written g c =
    buffer c.add_layer.new.layer c.loop-done.layer.items c.loop-done.layer.len
    (omega (arith, c.add_layer.auto.layer, c.deref_mut-else-is_idle_block.ensures.len, c.loop-done.layer.ok.0))
    c.loop-done.layer.ok.0

-- the sweep is one brick further
swept_next : (g : _) (c : In_ok-add_layer g) → IsSwept c.args.fold.now c.args.point.now c.args.k (c.loop-done.done + 1)
    (g.B.Bound.last c.limit_under.new.bound) c.add_layer.new.layers c.add_layer.new.layer
    (to_z w128 c.loop-done.floor-bits -ℤ c.least.result)
swept_next g c =
    let past = goal.at.In_ok-add_layer g c in
    let f = c.args.fold.now in
    let limit : FitsSigned w128 c.in-Some.limit = search rules in
    let over : IsLayerOver (vectors f.sums) c.of-menu.result.now (live c.in-Some.limit c.loop-done.layer.items)
    c.loop-done.layer.items c.add_layer.new.layer =
    subst (λ (l : Layer). IsLayerOver (vectors f.sums) c.of-menu.result.now (live c.in-Some.limit l) l
    c.add_layer.new.layer) c.deref_mut-else-is_idle_block.ensures.value
    (subst (λ (s : List Sum). IsLayerOver (vectors s) c.of-menu.result.now
    (live c.in-Some.limit c.deref_mut-else-is_idle_block.result.now) c.deref_mut-else-is_idle_block.result.now
    c.add_layer.new.layer) c.requires.targets (simp to_z-of_z at c.in_ok-add_layer.ensures.over)) in
    swept_over f c.args.point.now c.args.k c.loop-done.done (g.B.Bound.last c.loop-done.bound)
    (g.B.Bound.last c.limit_under.new.bound) c.loop-done.layers c.loop-done.layer.items
    (to_z w128 c.loop-done.floor-bits) (most g past.After-n-bricks) c.loop-done.invariant.swept
    c.in-Some.ensures.better c.add_layer.new.layers c.add_layer.new.layer c.of-menu.result.now c.least.result
    c.in-Some.limit (is_low g past.After-of-menu) (brick_at g past.After-of-menu) (is_least g past.After-least)
    c.requires.zero (here g past.In-Some) c.in_ok-add_layer.ensures.added over

-- and so are the bounds for the moves over the new layer
tops_next : (g : _) (c : In_ok-add_layer g) → AreTopsUnder c.args.fold.now c.args.point.now c.args.k
    (length c.args.fold.now.program.bricks - (c.loop-done.done + 1)) (g.B.Bound.last c.limit_under.new.bound)
    c.add_layer.new.layer c.add_layer.new.tops
tops_next g c =
    let past = goal.at.In_ok-add_layer g c in
    let f = c.args.fold.now in
    let floor = to_z w128 c.loop-done.floor-bits in
    let limit : FitsSigned w128 c.in-Some.limit = search rules in
    let lowest = is_least g past.After-least in
    let tops : AreTops (vectors f.sums) (live c.in-Some.limit c.add_layer.new.layer) c.add_layer.new.layer
    c.add_layer.new.tops =
    subst (λ (s : List Sum). AreTops (vectors s) (live c.in-Some.limit c.add_layer.new.layer) c.add_layer.new.layer
    c.add_layer.new.tops) c.requires.targets (simp to_z-of_z at c.in_ok-add_layer.ensures.tops) in
    tops_later f c.args.point.now c.args.k c.loop-done.done (c.loop-done.done + 1)
    (g.B.Bound.last c.limit_under.new.bound) c.loop-done.layers c.loop-done.layer.items c.add_layer.new.layer floor
    (floor -ℤ c.least.result) c.in-Some.limit c.add_layer.new.tops (here g past.In-Some)
    c.loop-done.invariant.swept.floor (swept_next g c).floor (omega (arith, ints, lowest.below_zero)) tops

-- and stand in their list
tops_written : (g : _) (c : After-add_layer g) → take c.loop-done.tops.len (c.add_layer.new.tops ++ drop
    (length c.add_layer.new.tops) (take c.loop-done.tops.len (c.is_idle_block.new.tops ++ drop
    (length c.is_idle_block.new.tops) c.loop-done.tops.items))) ≡ c.add_layer.new.tops
tops_written g c =
    let noted = tops_noted g (goal.at.After-add_layer g c).After-is_idle_block in
    ap (λ (ts : List (Option ℤ)). take c.loop-done.tops.len (c.add_layer.new.tops ++ drop
    (length c.add_layer.new.tops) ts)) noted ∙ buffer c.add_layer.new.tops c.is_idle_block.new.tops c.loop-done.tops.len
    (omega (arith, c.add_layer.auto.tops, ap length (c.deref_mut-else-is_idle_block-2.ensures.value ∙ noted)))
    (omega (arith, c.is_idle_block.auto.tops, c.deref_mut.ensures.len, c.loop-done.tops.ok.0))

pub last_layer-requires-clause-shape : goal.last_layer-requires-clause-shape
last_layer-requires-clause-shape g c =
    let past = goal.at.last_layer-requires-clause-shape g c in
    shape_of c.args.fold.now.program c.args.point.now (is_program g past.After-n-bricks) c.requires.within

pub loop-done-init : goal.loop-done-init
loop-done-init g c =
    let f = c.args.fold.now in
    let x = c.args.point.now in
    let is = c.in_ok-layers.ensures ∙ ap (λ (l : Layer). l ∷ []) c.deref.ensures.value in
    let first : length f.program.bricks ≡ length f.program.bricks - 0 = omega arith in
    let fresh : c.in_ok-tops.tops.items ≡ replicate c.len.result None = search rules in
    let size : c.len.result ≡ length (vectors f.sums) =
    c.len.ensures ∙ ap length c.sums.ensures.sums ∙ sym (length-map {A = Sum} {B = Vector} f.sums (λ s. s.vector)) in
    let fits : FitsSigned w128 c.floor-floor.result = search rules in
    simp to_z-of_z (record {
      inside = omega arith;
      swept = record {
        layers = λ now need better needed.
            layers_one f x c.args.k c.in_ok-layer.layer.items c.in_ok-layers.layers
            (point-length f.program.bricks x c.requires.within) is c.in_ok-layer.ensures need;
        last = ap (λ (ls : List Layer). slice_get ls 0) is;
        floor = record {
          is = c.floor-floor.ensures.floor ∙ ap (least_before f.program f.phase (vectors f.sums) x c.args.k) first;
          small = omega (arith, c.floor-floor.ensures.small);
        };
      };
      tops = λ now need better needed.
          tops_fresh (vectors f.sums) (live (limit_at f x c.args.k need (length f.program.bricks - 0))
          c.in_ok-layer.layer.items) c.in_ok-layer.layer.items c.in_ok-tops.tops.items c.len.result fresh size;
      kept = g.met.B.Bound.stays c.args.bound.now;
      better = no_worse_itself (g.B.Bound.last c.args.bound.now);
      tried =
          let none : 0 ≡ c.args.moves.now - c.args.moves.now = omega arith in
          subst (TriedBehind f.program f.phase (vectors f.sums) x c.args.k (g.B.Bound.last c.args.bound.now)
          (length f.program.bricks - 0)) none
          (tried_none f.program f.phase (vectors f.sums) x c.args.k (g.B.Bound.last c.args.bound.now)
          (length f.program.bricks - 0));
      untried = λ none. (refl, refl);
      rising = omega arith;
      counted = omega arith;
    })

pub limit_under-requires : goal.limit_under-requires
limit_under-requires g c =
    let past = goal.at.limit_under-requires g c in
    let f = c.args.fold.now in
    let few = floor_fits f (length f.program.bricks - c.loop-done.done) (to_z w128 c.loop-done.floor-bits)
    (most g past.After-n-bricks) c.loop-done.invariant.swept.floor.small in
    record { small = omega (arith, few) }

pub returns-in_default-clause-layers : goal.returns-in_default-clause-layers
returns-in_default-clause-layers g c =
    let past = goal.at.returns-in_default-clause-layers g c in
    let old = g.B.Bound.last c.loop-done.bound in
    let now = g.B.Bound.last c.limit_under.new.bound in
    let floor = to_z w128 c.loop-done.floor-bits in
    let told : AreBeaten c.args.k now c.loop-done.layer.items floor =
    subst (λ (l : Layer). AreBeaten c.args.k now l floor) c.deref-in-loop-done.ensures.value
    c.in_default.ensures.limit in
    swept_beaten c.args.fold.now c.args.point.now c.args.k c.loop-done.done old now c.loop-done.layers
    c.loop-done.layer.items floor (most g past.After-n-bricks) c.loop-done.invariant.swept c.in_default.ensures.better
    c.requires.zero told

pub returns-in_default-clause-kept : goal.returns-in_default-clause-kept
returns-in_default-clause-kept g c =
    g.met.B.Bound.goes_on c.args.bound.now c.loop-done.bound c.limit_under.new.bound c.loop-done.invariant.kept
    c.in_default.ensures.kept

pub is_idle_block-requires-clause-size : goal.is_idle_block-requires-clause-size
is_idle_block-requires-clause-size g c =
    let past = goal.at.is_idle_block-requires-clause-size g c in
    ap length c.deref-in-loop-done-2.ensures.value ∙ sums_are g past.In-Some

pub is_idle_block-requires-clause-small : goal.is_idle_block-requires-clause-small
is_idle_block-requires-clause-small g c =
    let past = goal.at.is_idle_block-requires-clause-small g c in
    subst (AreAtMost (2 ^ 122)) (sym c.deref-in-loop-done-2.ensures.value) (here g past.In-Some).small

pub is_idle_block-requires-clause-tops : goal.is_idle_block-requires-clause-tops
is_idle_block-requires-clause-tops g c =
    let past = goal.at.is_idle_block-requires-clause-tops g c in
    let f = c.args.fold.now in
    let limit : FitsSigned w128 c.in-Some.limit = search rules in
    let tops = tops_now f c.args.point.now c.args.k c.loop-done.done (g.B.Bound.last c.loop-done.bound)
    (g.B.Bound.last c.limit_under.new.bound) c.loop-done.layers c.loop-done.layer.items c.in-Some.limit
    c.loop-done.tops.items (here g past.In-Some) c.in-Some.ensures.better c.loop-done.invariant.tops in
    simp to_z-of_z (
    subst (λ (s : List Sum). AreTops (vectors s) (live c.in-Some.limit c.deref-in-loop-done-2.result.now)
    c.deref-in-loop-done-2.result.now c.deref_mut.result.now) (sym c.requires.targets)
    (tops_same (vectors f.sums) c.in-Some.limit c.loop-done.layer.items c.deref-in-loop-done-2.result.now
    c.loop-done.tops.items c.deref_mut.result.now c.deref-in-loop-done-2.ensures.value c.deref_mut.ensures.value tops)
    )

pub pass_block-requires-clause-swept : goal.pass_block-requires-clause-swept
pass_block-requires-clause-swept g c =
    let past = goal.at.pass_block-requires-clause-swept g c in
    let f = c.args.fold.now in
    let x = c.args.point.now in
    let old = g.B.Bound.last c.loop-done.bound in
    let now = g.B.Bound.last c.limit_under.new.bound in
    let floor = to_z w128 c.loop-done.floor-bits in
    subst (λ (l : Layer). IsSwept f x c.args.k c.loop-done.done now c.loop-done.layers l floor)
    (sym c.deref-then-is_idle_block.ensures.value)
    (swept_later f x c.args.k c.loop-done.done old now c.loop-done.layers c.loop-done.layer.items floor
    (most g past.After-n-bricks) c.loop-done.invariant.swept c.in-Some.ensures.better)

pub pass_block-requires-clause-hope : goal.pass_block-requires-clause-hope
pass_block-requires-clause-hope g c =
    let past = goal.at.pass_block-requires-clause-hope g c in
    let limit : FitsSigned w128 c.in-Some.limit = search rules in
    simp to_z-of_z (subst (λ (l : Layer). HasHope c.args.k (g.B.Bound.last c.limit_under.new.bound) l
    (to_z w128 c.loop-done.floor-bits) c.in-Some.limit) (sym c.deref-then-is_idle_block.ensures.value)
    (hope g past.In-Some))

pub pass_block-requires-clause-idle : goal.pass_block-requires-clause-idle
pass_block-requires-clause-idle g c =
    let past = goal.at.pass_block-requires-clause-idle g c in
    let f = c.args.fold.now in
    let limit : FitsSigned w128 c.in-Some.limit = search rules in
    let told : AreIdleFrom (vectors c.args.targets.now) (live c.in-Some.limit c.deref-in-loop-done-2.result.now)
    c.deref-in-loop-done-2.result.now c.args.menus.now (c.n-bricks.result - c.loop-done.done - 16)
    (c.n-bricks.result - c.loop-done.done) =
    OnTrue_at c.if-is_idle_block.true (simp to_z-of_z at c.is_idle_block.ensures.idle) in
    let same : c.deref-in-loop-done-2.result.now ≡ c.deref-then-is_idle_block.result.now =
    c.deref-in-loop-done-2.ensures.value ∙ sym c.deref-then-is_idle_block.ensures.value in
    simp to_z-of_z (
    subst (λ n. AreIdleFrom (vectors f.sums) (live c.in-Some.limit c.deref-then-is_idle_block.result.now)
    c.deref-then-is_idle_block.result.now c.args.menus.now (n - c.loop-done.done - 16) (n - c.loop-done.done))
    (bricks_are g past.After-n-bricks) (
    subst (λ (l : Layer). AreIdleFrom (vectors f.sums) (live c.in-Some.limit l) l c.args.menus.now
    (c.n-bricks.result - c.loop-done.done - 16) (c.n-bricks.result - c.loop-done.done)) same (
    subst (λ (s : List Sum). AreIdleFrom (vectors s) (live c.in-Some.limit c.deref-in-loop-done-2.result.now)
    c.deref-in-loop-done-2.result.now c.args.menus.now (c.n-bricks.result - c.loop-done.done - 16)
    (c.n-bricks.result - c.loop-done.done)) c.requires.targets told
    )
    )
    )

pub returns-in_err-pass_block-clause-kept : goal.returns-in_err-pass_block-clause-kept
returns-in_err-pass_block-clause-kept g c =
    g.met.B.Bound.goes_on c.args.bound.now c.loop-done.bound c.limit_under.new.bound c.loop-done.invariant.kept
    c.in-Some.ensures.kept

pub returns-in_err-pass_block-clause-counted : goal.returns-in_err-pass_block-clause-counted
returns-in_err-pass_block-clause-counted g c =
    let f = c.args.fold.now in
    count_all c.args.moves.now c.loop-done.moves c.loop-done.done (length f.program.bricks)
    (length f.sums * length f.sums) c.loop-done.invariant.counted c.loop-done.invariant.inside

pub loop-done-preserved-then-is_idle_block : goal.loop-done-preserved-then-is_idle_block
loop-done-preserved-then-is_idle_block g c =
    let past = goal.at.loop-done-preserved-then-is_idle_block g c in
    let f = c.args.fold.now in
    let x = c.args.point.now in
    let old = g.B.Bound.last c.loop-done.bound in
    let now = g.B.Bound.last c.limit_under.new.bound in
    let floor = to_z w128 c.loop-done.floor-bits in
    let limit : FitsSigned w128 c.in-Some.limit = search rules in
    let whole : 16 ≤ c.n-bricks.result - c.loop-done.done =
    OnTrue_at c.if-is_idle_block.true c.is_idle_block.ensures.whole in
    let swept : IsSwept f x c.args.k (c.loop-done.done + 16) now c.pass_block.new.layers c.loop-done.layer.items
    c.pass_block.new.floor =
    subst (λ (l : Layer). IsSwept f x c.args.k (c.loop-done.done + 16) now c.pass_block.new.layers l
    c.pass_block.new.floor) c.deref-then-is_idle_block.ensures.value
    c.in_ok-pass_block.ensures.swept in
    let after : FitsSigned w128 c.pass_block.new.floor =
    fits_signed_from_abs w128 c.pass_block.new.floor (omega (
      arith,
      floor_fits f (length f.program.bricks - (c.loop-done.done + 16)) c.pass_block.new.floor
          (most g past.After-n-bricks) swept.floor.small,
    )) in
    simp to_z-of_z (record {
      inside = omega (arith, bricks_are g past.After-n-bricks, whole);
      swept = swept;
      tops =
          subst (AreTopsUnder f x c.args.k (length f.program.bricks - (c.loop-done.done + 16)) now
          c.loop-done.layer.items) (sym (tops_noted g past.After-is_idle_block))
          (tops_later f x c.args.k c.loop-done.done (c.loop-done.done + 16) now c.loop-done.layers
          c.loop-done.layer.items c.loop-done.layer.items floor c.pass_block.new.floor c.in-Some.limit
          c.is_idle_block.new.tops (here g past.In-Some) c.loop-done.invariant.swept.floor swept.floor
          c.in_ok-pass_block.ensures.rises (tops_kept g past.After-is_idle_block));
      kept = g.met.B.Bound.goes_on c.args.bound.now c.loop-done.bound c.limit_under.new.bound
          c.loop-done.invariant.kept c.in-Some.ensures.kept;
      better = no_worse_through (g.B.Bound.last c.args.bound.now) old now c.loop-done.invariant.better
          c.in-Some.ensures.better;
      tried = tried_less f.program f.phase (vectors f.sums) x c.args.k (g.B.Bound.last c.args.bound.now)
          (length f.program.bricks - c.loop-done.done) (c.loop-done.moves - c.args.moves.now)
          c.loop-done.invariant.tried
          (length f.program.bricks - (c.loop-done.done + 16)) (omega arith);
      untried = λ none. absurd (some_lives g past.In-Some none);
      rising = c.loop-done.invariant.rising;
      counted = count_most c.args.moves.now c.loop-done.moves (length f.sums * length f.sums) c.loop-done.done
          (c.loop-done.done + 16) c.loop-done.invariant.counted (omega arith);
    })

pub overflow_sub-floor : goal.overflow_sub-floor
overflow_sub-floor g c =
    let past = goal.at.overflow_sub-floor g c in
    let found : FitsSigned w128 c.least.result = search rules in
    let fits : FitsSigned w128 (to_z w128 c.loop-done.floor-bits -ℤ c.least.result) = next_fits g past.After-least in
    simp to_z-of_z fits

pub add_layer-requires-clause-fair : goal.add_layer-requires-clause-fair
add_layer-requires-clause-fair g c =
    let past = goal.at.add_layer-requires-clause-fair g c in
    let f = c.args.fold.now in
    let at = brick_at g past.After-of-menu in
    subst (λ (s : List Sum). All (IsFair (length s)) c.of-menu.result.now) (sym c.requires.targets)
    (fair_menu f c.args.k (length f.program.bricks - c.loop-done.done - 1) at.brick at.vector c.of-menu.result.now
    (most g past.After-n-bricks) at.brick_there at.menu_is)

pub add_layer-requires-clause-size : goal.add_layer-requires-clause-size
add_layer-requires-clause-size g c =
    let past = goal.at.add_layer-requires-clause-size g c in
    ap length c.deref_mut-else-is_idle_block.ensures.value ∙ sums_are g past.In-Some

pub add_layer-requires-clause-small : goal.add_layer-requires-clause-small
add_layer-requires-clause-small g c =
    let past = goal.at.add_layer-requires-clause-small g c in
    subst (AreAtMost (2 ^ 122)) (sym c.deref_mut-else-is_idle_block.ensures.value) (here g past.In-Some).small

pub add_layer-requires-clause-stays : goal.add_layer-requires-clause-stays
add_layer-requires-clause-stays g c =
    let past = goal.at.add_layer-requires-clause-stays g c in
    let f = c.args.fold.now in
    let x = c.args.point.now in
    let at = brick_at g past.After-of-menu in
    let zero = place_of (vectors f.sums) (zeros f.program.brick.cols) c.requires.zero in
    subst (λ (l : Layer). MayStay (vectors c.args.targets.now) c.of-menu.result.now l)
    (sym c.deref_mut-else-is_idle_block.ensures.value) (
    subst (λ (s : List Sum). MayStay (vectors s) c.of-menu.result.now c.loop-done.layer.items) (sym c.requires.targets)
    (stays f x c.args.k (point-length f.program.bricks x c.requires.within) f.program.brick.cols zero.0
    (length f.program.bricks - c.loop-done.done - 1) at.brick at.vector c.of-menu.result.now c.loop-done.layer.items
    zero.1 c.sums.ensures.fold.widths at.width at.within (here g past.In-Some).is.under.size at.menu_is)
    )

pub add_layer-requires-clause-count : goal.add_layer-requires-clause-count
add_layer-requires-clause-count g c =
    let past = goal.at.add_layer-requires-clause-count g c in
    (here g past.In-Some).count

pub add_layer-requires-clause-tops : goal.add_layer-requires-clause-tops
add_layer-requires-clause-tops g c =
    let past = goal.at.add_layer-requires-clause-tops g c in
    let f = c.args.fold.now in
    let limit : FitsSigned w128 c.in-Some.limit = search rules in
    simp to_z-of_z (
    subst (λ (s : List Sum). AreTops (vectors s) (live c.in-Some.limit c.deref_mut-else-is_idle_block.result.now)
    c.deref_mut-else-is_idle_block.result.now c.deref_mut-else-is_idle_block-2.result.now) (sym c.requires.targets)
    (tops_same (vectors f.sums) c.in-Some.limit c.loop-done.layer.items c.deref_mut-else-is_idle_block.result.now
    c.is_idle_block.new.tops c.deref_mut-else-is_idle_block-2.result.now c.deref_mut-else-is_idle_block.ensures.value
    (c.deref_mut-else-is_idle_block-2.ensures.value ∙ tops_noted g past.After-is_idle_block)
    (tops_kept g past.After-is_idle_block))
    )

pub returns-in_err-add_layer-clause-kept : goal.returns-in_err-add_layer-clause-kept
returns-in_err-add_layer-clause-kept g c =
    g.met.B.Bound.goes_on c.args.bound.now c.loop-done.bound c.limit_under.new.bound c.loop-done.invariant.kept
    c.in-Some.ensures.kept

pub returns-in_err-add_layer-clause-tried : goal.returns-in_err-add_layer-clause-tried
returns-in_err-add_layer-clause-tried g c =
    let past = goal.at.returns-in_err-add_layer-clause-tried g c in
    let f = c.args.fold.now in
    tried_all f.program f.phase (vectors f.sums) c.args.point.now c.args.k (g.B.Bound.last c.args.bound.now)
    (length f.program.bricks - (c.loop-done.done + 1)) (c.add_layer.new.moves - c.args.moves.now)
    (is_tried g past.After-add_layer)

pub returns-in_err-add_layer-clause-untried : goal.returns-in_err-add_layer-clause-untried
returns-in_err-add_layer-clause-untried g c =
    let past = goal.at.returns-in_err-add_layer-clause-untried g c in
    λ none. absurd (some_lives g past.In-Some none)

pub returns-in_err-add_layer-clause-counted : goal.returns-in_err-add_layer-clause-counted
returns-in_err-add_layer-clause-counted g c =
    let past = goal.at.returns-in_err-add_layer-clause-counted g c in
    let f = c.args.fold.now in
    count_all c.args.moves.now c.add_layer.new.moves (c.loop-done.done + 1) (length f.program.bricks)
    (length f.sums * length f.sums) (is_counted g past.After-add_layer) (omega (arith, is_low g past.After-of-menu))

pub loop-done-preserved : goal.loop-done-preserved
loop-done-preserved g c =
    let past = goal.at.loop-done-preserved g c in
    let f = c.args.fold.now in
    let x = c.args.point.now in
    let old = g.B.Bound.last c.loop-done.bound in
    let now = g.B.Bound.last c.limit_under.new.bound in
    let floor = to_z w128 c.loop-done.floor-bits in
    let limit : FitsSigned w128 c.in-Some.limit = search rules in
    let found : FitsSigned w128 c.least.result = search rules in
    let fits : FitsSigned w128 (floor -ℤ c.least.result) = next_fits g past.After-least in
    simp to_z-of_z (record {
      inside = omega (arith, is_low g past.After-of-menu);
      swept = subst (λ (l : Layer). IsSwept f x c.args.k (c.loop-done.done + 1) now c.add_layer.new.layers l
          (floor -ℤ c.least.result)) (sym (layer_written g past.After-add_layer)) (swept_next g past.In_ok-add_layer);
      tops = λ later need worse asked.
          tops_same (vectors f.sums) (limit_at f x c.args.k need (length f.program.bricks - (c.loop-done.done + 1)))
          c.add_layer.new.layer _ c.add_layer.new.tops _ (layer_written g past.After-add_layer)
          (tops_written g past.After-add_layer) (tops_next g past.In_ok-add_layer later need worse asked);
      kept = g.met.B.Bound.goes_on c.args.bound.now c.loop-done.bound c.limit_under.new.bound
          c.loop-done.invariant.kept c.in-Some.ensures.kept;
      better = no_worse_through (g.B.Bound.last c.args.bound.now) old now c.loop-done.invariant.better
          c.in-Some.ensures.better;
      tried = is_tried g past.After-add_layer;
      untried = λ none. absurd (some_lives g past.In-Some none);
      rising = omega (arith, c.loop-done.invariant.rising, c.in_ok-add_layer.ensures.rising);
      counted = is_counted g past.After-add_layer;
    })

pub returns-clause-layers : goal.returns-clause-layers
returns-clause-layers g c =
    let past = goal.at.returns-clause-layers g c in
    let f = c.args.fold.now in
    let all : c.loop-done.done ≡ length f.program.bricks =
    omega (arith, bricks_are g past.After-n-bricks, c.loop-done-test.false, c.loop-done.invariant.inside) in
    subst (λ n. AreLayersUnder f c.args.point.now c.args.k (n + 1) (g.B.Bound.last c.loop-done.bound)
    c.loop-done.layers) all c.loop-done.invariant.swept.layers
