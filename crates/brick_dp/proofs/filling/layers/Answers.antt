use Rattle.std.proofs.Common.{◌≡◌, ◌<◌, ◌∙◌, ◌+◌, ◌-◌, ◌*◌, ◌≤◌, ◌^◌, pos, ap, sym, arith, rules, length, subst}
use Rattle.std.proofs.Common.{slice_get, Some, None, ◌∷◌, [], ◌++◌, List, All, replicate}
use Rattle.std.proofs.lemmas.Int.{ints}
use Rattle.std.proofs.lemmas.List.{length-map}
use Rattle.lattice_theory.specs.SignedSums.{Sum, vectors}
use Rattle.lattice_theory.specs.Vectors.{Vector, zeros}
use Rattle.fold_theory.specs.Programs.{Program, IsProgram}
use Rattle.lattice_laws.proofs.Places.{place_of}
use Rattle.fold_laws.proofs.Points.{point-length}
use Rattle.fold_program.specs.Refusals.{total_magnitude}
use Rattle.fold_program.proofs.PointLaws.{shape_of}
use Rattle.sieve_laws.specs.Sieve.{Layer, AreTops, IsLayerOver, MayStay, live}
use Rattle.layer_sieve.specs.Reaching.{AreAtMost, IsFair}
use Rattle.layer_sieve.proofs.FlagLaws.{count_more}
use Rattle.brick_dp.specs.Tables.{AreLeastLayers, IsLayer}
use Rattle.brick_dp.proofs.MenuLaws.{menu_short, slice_get-last}
use Rattle.brick_dp.proofs.FillLaws.{stays, most_small, cells_small, fair_menu, at_brick, AtBrick, buffer, tops_fresh}
use Rattle.brick_dp.proofs.FillLaws.{tops_same}
use Rattle.brick_dp.proofs.UnderLaws.{layers_one, layers_over-least}
use Rattle.brick_dp.proofs.LayerLaws.{count_round, count_all}
use Rattle.brick_dp.proofs.filling.layers.Goals as goal
use Rattle.brick_dp.proofs.filling.layers.Goals.{After-n-bricks, After-of-menu, After-add_layer, In_ok-add_layer}

-- the bricks are counted
bricks_are : (c : After-n-bricks) → c.n-bricks.result ≡ length c.args.fold.now.program.bricks
bricks_are c = c.n-bricks.ensures.bricks ∙ ap (λ (p : Program). length p.bricks) c.program.ensures

-- of a program
is_program : (c : After-n-bricks) → IsProgram c.args.fold.now.program
is_program c = subst IsProgram c.program.ensures c.n-bricks.ensures.program

-- whose numbers are small
most : (c : After-n-bricks) → total_magnitude c.args.fold.now.program ≤ 2 ^ 120
most c = subst (λ p. total_magnitude p ≤ 2 ^ 120) c.program.ensures c.n-bricks.ensures.magnitude

-- one more is left
low : (c : After-of-menu) → c.loop-done.done < length c.args.fold.now.program.bricks
low c = omega (arith, bricks_are (goal.at.After-of-menu c).After-n-bricks, c.loop-done-test.true)

-- its vector and its menu
here : (c : After-of-menu) → AtBrick c.args.fold.now c.args.point.now c.args.k
    (length c.args.fold.now.program.bricks - c.loop-done.done - 1) c.of-menu.result.now
here c =
    let past = goal.at.After-of-menu c in
    let n = length c.args.fold.now.program.bricks in
    let place : n - c.loop-done.done - 1 ≡ c.n-bricks.result - c.loop-done.done - 1 =
    omega (arith, bricks_are past.After-n-bricks) in
    at_brick c.args.fold.now c.args.point.now c.args.k (n - c.loop-done.done - 1) c.args.menus.now c.of-menu.result.now
    (is_program past.After-n-bricks) c.requires.within c.requires.menus (omega (arith, low c))
    (ap (slice_get c.args.menus.now) place ∙ c.of-menu.ensures)

-- the layer before it
layer_is : (c : After-of-menu) → IsLayer c.args.fold.now c.args.point.now c.args.k
    (length c.args.fold.now.program.bricks - c.loop-done.done) (pos 0) c.loop-done.layer.items
layer_is c =
    (c.loop-done.invariant.layers (pos 0)).each c.loop-done.done c.loop-done.layer.items c.loop-done.invariant.last

-- its moves are counted
counted : (c : After-add_layer) → c.add_layer.new.moves ≤ c.args.moves.now + (c.loop-done.done + 1)
    * (length c.args.fold.now.sums * length c.args.fold.now.sums)
counted c =
    let f = c.args.fold.now in
    let here = here (goal.at.After-add_layer c).After-of-menu in
    let few = menu_short f c.args.k here.brick here.vector c.of-menu.result.now here.menu_is in
    let round = count_round c.loop-done.moves c.add_layer.new.moves (length c.of-menu.result.now) (length f.sums)
    (subst (λ (s : List Sum). c.add_layer.new.moves ≤ c.loop-done.moves + length c.of-menu.result.now * length s)
    c.requires.targets c.add_layer.ensures.counted) few in
    count_more c.args.moves.now c.loop-done.moves c.add_layer.new.moves (length f.sums * length f.sums)
    c.loop-done.done c.loop-done.invariant.counted round

-- they lead to the new layer
over : (c : In_ok-add_layer) → IsLayerOver (vectors c.args.fold.now.sums) c.of-menu.result.now
    (live (pos (2 ^ 127 - 1)) c.loop-done.layer.items) c.loop-done.layer.items c.add_layer.new.layer
over c =
    subst (λ (l : Layer). IsLayerOver (vectors c.args.fold.now.sums) c.of-menu.result.now
    (live (pos (2 ^ 127 - 1)) l) l c.add_layer.new.layer) c.deref_mut.ensures.value (
    subst (λ (s : List Sum). IsLayerOver (vectors s) c.of-menu.result.now
    (live (pos (2 ^ 127 - 1)) c.deref_mut.result.now) c.deref_mut.result.now c.add_layer.new.layer)
    c.requires.targets c.in_ok-add_layer.ensures.over
    )

pub last_layer-requires-clause-shape : goal.last_layer-requires-clause-shape
last_layer-requires-clause-shape c =
    shape_of c.args.fold.now.program c.args.point.now
    (is_program (goal.at.last_layer-requires-clause-shape c).After-n-bricks) c.requires.within

pub loop-done-init : goal.loop-done-init
loop-done-init c =
    let is = c.in_ok-layers.ensures ∙ ap (λ (l : Layer). l ∷ []) c.deref.ensures.value in
    record {
      layers =
          layers_one c.args.fold.now c.args.point.now c.args.k c.in_ok-layer.layer.items c.in_ok-layers.layers
          (point-length c.args.fold.now.program.bricks c.args.point.now c.requires.within) is c.in_ok-layer.ensures;
      last = ap (λ (ls : List Layer). slice_get ls 0) is;
      tops =
          let fresh : c.in_ok-tops.tops.items ≡ replicate c.len.result None = search rules in
          let size : c.len.result ≡ length (vectors c.args.fold.now.sums) =
          c.len.ensures ∙ ap length c.sums.ensures.sums ∙ sym
          (length-map {A = Sum} {B = Vector} c.args.fold.now.sums (λ s. s.vector)) in
          tops_fresh (vectors c.args.fold.now.sums) (live (pos (2 ^ 127 - 1)) c.in_ok-layer.layer.items)
          c.in_ok-layer.layer.items c.in_ok-tops.tops.items c.len.result fresh size;
      rising = omega arith;
      counted = omega arith;
    }

pub add_layer-requires-clause-fair : goal.add_layer-requires-clause-fair
add_layer-requires-clause-fair c =
    let past = goal.at.add_layer-requires-clause-fair c in
    let f = c.args.fold.now in
    let here = here past.After-of-menu in
    subst (λ (s : List Sum). All (IsFair (length s)) c.of-menu.result.now) (sym c.requires.targets) (
    fair_menu f c.args.k (length f.program.bricks - c.loop-done.done - 1) here.brick here.vector c.of-menu.result.now
    (most past.After-n-bricks) here.brick_there here.menu_is
    )

pub add_layer-requires-clause-small : goal.add_layer-requires-clause-small
add_layer-requires-clause-small c =
    let past = goal.at.add_layer-requires-clause-small c in
    let f = c.args.fold.now in
    subst (AreAtMost (2 ^ 122)) (sym c.deref_mut.ensures.value) (
    most_small f.program (length f.program.bricks - c.loop-done.done) c.loop-done.layer.items
    (most past.After-n-bricks) (cells_small f c.args.point.now c.args.k (length f.program.bricks - c.loop-done.done)
    (pos 0) c.loop-done.layer.items (layer_is past.After-of-menu))
    )

pub add_layer-requires-clause-stays : goal.add_layer-requires-clause-stays
add_layer-requires-clause-stays c =
    let past = goal.at.add_layer-requires-clause-stays c in
    let f = c.args.fold.now in
    let here = here past.After-of-menu in
    let zero = place_of (vectors f.sums) (zeros f.program.brick.cols) c.requires.zero in
    subst (λ (l : Layer). MayStay (vectors c.args.targets.now) c.of-menu.result.now l) (sym c.deref_mut.ensures.value) (
    subst (λ (s : List Sum). MayStay (vectors s) c.of-menu.result.now c.loop-done.layer.items)
    (sym c.requires.targets) (
    stays f c.args.point.now c.args.k (point-length f.program.bricks c.args.point.now c.requires.within)
    f.program.brick.cols zero.0
    (length f.program.bricks - c.loop-done.done - 1) here.brick here.vector c.of-menu.result.now
    c.loop-done.layer.items zero.1 c.sums.ensures.fold.widths here.width here.within
    (layer_is past.After-of-menu).under.size here.menu_is
    )
    )

pub returns-in_err-add_layer-clause-counted : goal.returns-in_err-add_layer-clause-counted
returns-in_err-add_layer-clause-counted c =
    let past = goal.at.returns-in_err-add_layer-clause-counted c in
    let f = c.args.fold.now in
    count_all c.args.moves.now c.add_layer.new.moves (c.loop-done.done + 1) (length f.program.bricks)
    (length f.sums * length f.sums) (counted past.After-add_layer) (omega (arith, low past.After-of-menu))

pub loop-done-preserved : goal.loop-done-preserved
loop-done-preserved c =
    let past = goal.at.loop-done-preserved c in
    let f = c.args.fold.now in
    let x = c.args.point.now in
    let written = buffer c.add_layer.new.layer c.loop-done.layer.items c.loop-done.layer.len
    (omega (arith, c.add_layer.auto.layer, c.deref_mut.ensures.len, c.loop-done.layer.ok.0)) c.loop-done.layer.ok.0 in
    let noted = buffer c.add_layer.new.tops c.loop-done.tops.items c.loop-done.tops.len
    (omega (arith, c.add_layer.auto.tops, c.deref_mut-in-loop-done.ensures.len, c.loop-done.tops.ok.0))
    c.loop-done.tops.ok.0 in
    record {
      layers =
          layers_over-least f x c.args.k c.loop-done.done c.loop-done.layers c.add_layer.new.layers
          c.loop-done.layer.items c.add_layer.new.layer c.of-menu.result.now
          (low past.After-of-menu) (here past.After-of-menu) c.loop-done.invariant.last
          c.in_ok-add_layer.ensures.added (pos (2 ^ 127 - 1)) (most past.After-n-bricks) (omega (arith, ints))
          c.loop-done.invariant.layers (over past.In_ok-add_layer);
      last =
          ap (λ (ls : List Layer). slice_get ls (c.loop-done.done + 1)) c.in_ok-add_layer.ensures.added
          ∙ ap (slice_get (c.loop-done.layers ++ c.add_layer.new.layer ∷ []))
          (sym (c.loop-done.invariant.layers (pos 0)).size)
          ∙ slice_get-last c.loop-done.layers c.add_layer.new.layer ∙ ap Some (sym written);
      tops =
          tops_same (vectors f.sums) (pos (2 ^ 127 - 1)) c.add_layer.new.layer _ c.add_layer.new.tops _ written noted (
          subst (λ (s : List Sum). AreTops (vectors s) (live (pos (2 ^ 127 - 1)) c.add_layer.new.layer)
          c.add_layer.new.layer c.add_layer.new.tops) c.requires.targets c.in_ok-add_layer.ensures.tops
          );
      rising = omega (arith, c.loop-done.invariant.rising, c.in_ok-add_layer.ensures.rising);
      counted = counted past.After-add_layer;
    }

pub add_layer-requires-clause-size : goal.add_layer-requires-clause-size
add_layer-requires-clause-size c =
    let layer = layer_is (goal.at.add_layer-requires-clause-size c).After-of-menu in
    ap length c.deref_mut.ensures.value ∙ layer.under.size
    ∙ length-map {A = Sum} {B = Vector} c.args.fold.now.sums (λ s. s.vector) ∙ sym (ap length c.requires.targets)

pub add_layer-requires-clause-count : goal.add_layer-requires-clause-count
add_layer-requires-clause-count c = (c.loop-done.invariant.layers (pos 0)).size

pub returns-clause-layers : goal.returns-clause-layers
returns-clause-layers c =
    let past = goal.at.returns-clause-layers c in
    let f = c.args.fold.now in
    let all : c.loop-done.done ≡ length f.program.bricks =
    omega (arith, bricks_are past.After-n-bricks, c.loop-done-test.false, c.loop-done.auto.done-end) in
    subst (λ n. AreLeastLayers f c.args.point.now c.args.k (n + 1) c.loop-done.layers) all c.loop-done.invariant.layers
