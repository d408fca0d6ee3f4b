use Rattle.std.proofs.Common.{◌≡◌, ◌∙◌, arith, ap, length, pos, set}
use Rattle.lattice_theory.specs.Matrices.{unit_vector}
use Rattle.lattice_laws.proofs.UnitVectors.{length-first_units}
use Rattle.pottier.proofs.RowLaws.{unit_set, units_even, units_push}
use Rattle.pottier.proofs.slack.unit_vectors.Goals as goal

pub push-requires-clause-width : goal.push-requires-clause-width
push-requires-clause-width c =
    let unit : c.deref.result.now ≡ unit_vector c.args.cols c.loop-col.col =
    c.deref.ensures.value ∙ ap (λ v. set v c.loop-col.col (pos 1))
    (c.in_ok-unit.ensures.items_if_clones_equal (λ y e. e))
    ∙ unit_set c.args.cols c.loop-col.col c.loop-col-test.true in
    units_even c.args.cols c.loop-col.col c.loop-col.units _ c.loop-col.invariant unit

pub push-requires-clause-room : goal.push-requires-clause-room
push-requires-clause-room c =
    omega (
      arith,
      c.requires,
      c.loop-col-test.true,
      ap length c.loop-col.invariant,
      length-first_units c.args.cols c.loop-col.col,
    )

pub loop-col-preserved : goal.loop-col-preserved
loop-col-preserved c =
    let unit : c.deref.result.now ≡ unit_vector c.args.cols c.loop-col.col =
    c.deref.ensures.value ∙ ap (λ v. set v c.loop-col.col (pos 1))
    (c.in_ok-unit.ensures.items_if_clones_equal (λ y e. e))
    ∙ unit_set c.args.cols c.loop-col.col c.loop-col-test.true in
    units_push c.args.cols c.loop-col.col c.loop-col.units c.push.new.self _ c.loop-col.invariant c.in_ok-push.ensures
    unit
