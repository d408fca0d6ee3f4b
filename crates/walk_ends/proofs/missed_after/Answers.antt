use Rattle.std.proofs.Common.{◌≡◌, ◌+◌, ◌-◌, ◌∙◌, ap, sym, arith, rules, refl, slice_get, Some, FitsSigned, pos, get_or}
use Rattle.std.specs.Int.{w128}
use Rattle.std.proofs.lemmas.Int.{to_z-of_z}
use Rattle.lattice_theory.specs.Matrices.{Matrix}
use Rattle.walk_ends.proofs.EndLaws.{missed-more, missed-all, step-at}
use Rattle.walk_ends.proofs.missed_after.Goals as goal

pub left-requires-clause-step : goal.left-requires-clause-step
left-requires-clause-step c =
    step-at c.args.program.now c.args.k c.args.sum.now c.row.result.now (c.loop-at.at + 1 - 1) c.requires.step
    (ap (λ (m : Matrix). slice_get m.rows (c.loop-at.at + 1 - 1)) (sym c.link.ensures.link) ∙ c.row.ensures.entries)

pub loop-at-preserved : goal.loop-at-preserved
loop-at-preserved c =
    let rest : FitsSigned w128 (get_or c.args.rests.now c.loop-at.at (pos 0)) = search rules in
    let left : FitsSigned w128 c.left.result = search rules in
    let value = simp to_z-of_z at c.left.ensures.left in
    let missed = simp to_z-of_z at c.missed.ensures in
    let place : c.loop-at.at + 1 - 1 ≡ c.loop-at.at = omega arith in
    let rows : slice_get c.args.program.now.link.rows c.loop-at.at ≡ Some c.row.result.now =
    ap (slice_get c.args.program.now.link.rows) (sym place)
    ∙ ap (λ (m : Matrix). slice_get m.rows (c.loop-at.at + 1 - 1)) (sym c.link.ensures.link) ∙ c.row.ensures.entries in
    record {
      so_far =
          missed-more c.args.program.now c.args.k c.args.rests.now c.args.sum.now c.row.result.now c.loop-at.at
          c.loop-at.missed _ c.missed.result c.left.result
          (omega arith) c.requires.rests rows value missed.missed refl c.loop-at.invariant.so_far;
      small = omega (arith, missed.small, c.left.ensures.small);
    }

pub returns-clause-missed : goal.returns-clause-missed
returns-clause-missed c =
    missed-all c.args.program.now c.args.k c.args.rests.now c.args.sum.now c.loop-at.at c.loop-at.missed
    c.requires.rests
    (omega (arith, c.loop-at-test.false)) c.loop-at.invariant.so_far
