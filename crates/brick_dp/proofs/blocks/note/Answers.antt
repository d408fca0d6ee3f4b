use Rattle.std.proofs.Common.{◌≡◌, ◌<◌, rules, pos, None, Some, FitsSigned, get_or, length, arith}
use Rattle.std.specs.Int.{w128}
use Rattle.std.proofs.lemmas.Int.{to_z-of_z}
use Rattle.std.proofs.lemmas.Option.{slice_get-get_or}
use Rattle.sieve_laws.specs.declared.PricedMove.{PricedMove}
use Rattle.sieve_laws.specs.Sieve.{lesser}
use Rattle.brick_dp.proofs.BlockLaws.{kept_on, below_more, below_all, lowered_cell}
use Rattle.brick_dp.proofs.blocks.note.Goals as goal

pub loop-m-preserved : goal.loop-m-preserved
loop-m-preserved c =
    let m : PricedMove = get_or c.args.menu.now c.loop-m.m-index (record { place = 0; change = pos 0 }) in
    let fits : FitsSigned w128 m.change = search rules in
    let low : m.place < length c.loop-m.changes =
    omega (
      arith,
      c.requires.low c.loop-m.m-index (record { place = 0; change = pos 0 }) c.loop-m-test.true,
      c.loop-m.auto.changes,
    ) in
    let told : c.lower_cell.new.cell ≡ lesser (get_or c.loop-m.changes m.place None) (Some m.change) =
    simp to_z-of_z at c.lower_cell.ensures.lesser in
    let (kept, new) = lowered_cell c.loop-m.changes m.place None c.lower_cell.new.cell m.change low told in
    record {
      below = below_more c.loop-m.changes _ c.args.menu.now c.loop-m.m-index m
          (slice_get-get_or c.args.menu.now c.loop-m.m-index _ c.loop-m-test.true) kept new c.loop-m.invariant.below;
      kept = kept_on c.args.changes.now c.loop-m.changes _ c.loop-m.invariant.kept kept;
    }

pub returns-clause-below : goal.returns-clause-below
returns-clause-below c =
    below_all c.loop-m.changes c.args.menu.now c.loop-m.m-index c.loop-m-test.false c.loop-m.invariant.below
