use Rattle.std.proofs.Common.{◌≡◌, ◌<◌, ◌∙◌, ◌+◌, ◌≤◌, ◌^◌, ◌≤ℤ◌, ◌<ℤ◌, ◌-ℤ◌, pos, ap, sym, subst, arith, rules, length}
use Rattle.std.proofs.Common.{slice_get, Some, None, FitsSigned}
use Rattle.std.specs.Int.{w128}
use Rattle.std.proofs.lemmas.Int.{ints, to_z-of_z, fits_signed_from_abs}
use Rattle.std.proofs.lemmas.Option.{slice_get_within}
use Rattle.lattice_theory.specs.SignedSums.{vectors}
use Rattle.lattice_theory.specs.Vectors.{zeros}
use Rattle.fold_theory.specs.Programs.{Program, IsProgram}
use Rattle.fold_program.specs.Refusals.{total_magnitude}
use Rattle.layer_sieve.proofs.ReachLaws.{read_at}
use Rattle.brick_dp.specs.Tables.{IsFirstCost}
use Rattle.brick_dp.proofs.FillLaws.{most_small, cells_small}
use Rattle.brick_dp.proofs.BestLaws.{first_walk, none_walks, none_lowers, found_gain, zero_of}
use Rattle.brick_dp.proofs.UnderLaws.{layers_less}
use Rattle.brick_dp.proofs.best.step_under.Goals as goal
use Rattle.brick_dp.proofs.best.step_under.Goals.{After-get, In-Some}

-- the place of the zero vector
zero_is : (c : After-get) → slice_get (vectors c.args.fold.now.sums) c.zero-zero.result ≡
    Some (zeros c.args.fold.now.program.brick.cols)
zero_is c =
    zero_of c.args.fold.now.sums _ c.args.fold.now.program.brick.cols c.zero-zero.result c.sums.ensures.fold.widths
    c.sums.ensures.sums c.zero-zero.ensures

-- the layer before all bricks
layer_is : (c : After-get) → slice_get c.args.layers.now (length c.args.fold.now.program.bricks) ≡ Some c.get.result.now
layer_is c =
    let bricks : c.n.result ≡ length c.args.fold.now.program.bricks =
    c.n.ensures.bricks ∙ ap (λ (p : Program). length p.bricks) c.program.ensures in
    ap (slice_get c.args.layers.now) (sym bricks) ∙ c.get.ensures

-- which has a cell for the zero vector
low : (c : After-get) → c.zero-zero.result < length c.get.result.now
low c =
    let size = (c.requires.layers.each (length c.args.fold.now.program.bricks) c.get.result.now (layer_is c)).under.size
    in
    omega (arith, slice_get_within (vectors c.args.fold.now.sums) c.zero-zero.result _ (zero_is c), size)

-- it is the total
cell_is : (c : In-Some) → slice_get c.get.result.now c.zero-zero.result ≡ Some (Some c.in-Some.total)
cell_is c =
    read_at c.get.result.now c.zero-zero.result None (Some c.in-Some.total) (low (goal.at.In-Some c).After-get)
    c.in-Some.is

pub returns-in_default : goal.returns-in_default
returns-in_default c =
    let past = (goal.at.returns-in_default c).After-get in
    let cell = read_at c.get.result.now c.zero-zero.result None None (low past) c.in_default.is in
    none_walks c.args.fold.now c.args.point.now c.args.k c.args.need c.args.layers.now c.requires.layers
    c.zero-zero.result c.get.result.now (zero_is past) (layer_is past) cell

pub returns-then-total-need : goal.returns-then-total-need
returns-then-total-need c =
    let past = goal.at.returns-then-total-need c in
    let total : FitsSigned w128 c.in-Some.total = search rules in
    let need : FitsSigned w128 c.args.need = search rules in
    let less : FitsSigned w128 (pos 0 -ℤ c.args.need) = fits_signed_from_abs w128 _
    (omega (arith, ints, c.requires.least, c.requires.most)) in
    let told = simp to_z-of_z at c.if-total-need.true in
    let high : (pos 0 -ℤ c.args.need) <ℤ c.in-Some.total = grind (arith, ints) in
    none_lowers c.args.fold.now c.args.point.now c.args.k c.args.need c.args.layers.now c.requires.layers
    c.zero-zero.result c.get.result.now (zero_is past.After-get) (layer_is past.After-get) c.in-Some.total
    (cell_is past.In-Some) high

pub step_from-requires-clause-first : goal.step_from-requires-clause-first
step_from-requires-clause-first c =
    let past = goal.at.step_from-requires-clause-first c in
    let total : FitsSigned w128 c.in-Some.total = search rules in
    let is : IsFirstCost c.args.fold.now c.args.layers.now c.in-Some.total = record {
      at = c.zero-zero.result;
      zero = zero_is past.After-get;
      layer = c.get.result.now;
      there = layer_is past.After-get;
      cell = cell_is past.In-Some;
    } in
    simp to_z-of_z is

pub returns : goal.returns
returns c =
    let past = goal.at.returns c in
    let f = c.args.fold.now in
    let program : IsProgram f.program = subst IsProgram c.program.ensures c.n.ensures.program in
    let magnitude : total_magnitude f.program ≤ 2 ^ 120 = subst (λ p. total_magnitude p ≤ 2 ^ 120) c.program.ensures
    c.n.ensures.magnitude in
    let layer = c.requires.layers.each (length f.program.bricks) c.get.result.now (layer_is past.After-get) in
    let total : FitsSigned w128 c.in-Some.total = search rules in
    let need : FitsSigned w128 c.args.need = search rules in
    let less : FitsSigned w128 (pos 0 -ℤ c.args.need) = fits_signed_from_abs w128 _
    (omega (arith, ints, c.requires.least, c.requires.most)) in
    let told = simp to_z-of_z at c.if-total-need.false in
    let lowers : c.in-Some.total ≤ℤ (pos 0 -ℤ c.args.need) = grind (arith, ints) in
    let small = most_small f.program _ c.get.result.now magnitude
    (cells_small f c.args.point.now c.args.k _ c.args.need c.get.result.now layer) c.zero-zero.result
    c.in-Some.total (cell_is past.In-Some) in
    let gains = found_gain f c.args.point.now c.args.k program c.requires.within program.brick_shape.width
    c.sums.ensures.fold.widths c.requires.rising
    c.requires.length c.in_ok-step_from.field-0 c.in-Some.total (omega (arith, ints, lowers, c.requires.least))
    c.in_ok-step_from.ensures
    (first_walk f c.args.point.now c.args.k c.args.need c.args.layers.now c.requires.layers c.zero-zero.result
    c.get.result.now (zero_is past.After-get) (layer_is past.After-get) c.in-Some.total (cell_is past.In-Some)
    lowers) in (
      c.in_ok-step_from.ensures,
      omega (arith, ints, gains, lowers, c.requires.least),
      omega (arith, gains, small),
    )

pub step_from-requires-clause-layers : goal.step_from-requires-clause-layers
step_from-requires-clause-layers c =
    let f = c.args.fold.now in
    let total : FitsSigned w128 c.in-Some.total = search rules in
    let need : FitsSigned w128 c.args.need = search rules in
    let less : FitsSigned w128 (pos 0 -ℤ c.args.need) = fits_signed_from_abs w128 _
    (omega (arith, ints, c.requires.least, c.requires.most)) in
    let told = simp to_z-of_z at c.if-total-need.false in
    let lowers : c.in-Some.total ≤ℤ (pos 0 -ℤ c.args.need) = grind (arith, ints) in
    simp to_z-of_z (
    layers_less f c.args.point.now c.args.k (length f.program.bricks + 1) c.args.need (pos 0 -ℤ c.in-Some.total)
    c.args.layers.now (omega (arith, ints, lowers)) c.requires.layers
    )
