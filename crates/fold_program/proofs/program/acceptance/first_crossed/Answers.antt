use Rattle.std.proofs.Common.{rules, arith, ◌<◌, get_or, length, pos, ◌≤ℤ◌, FitsSigned, w64}
use Rattle.std.proofs.lemmas.Int.{ints, to_z-of_z}
use Rattle.fold_program.proofs.ScanLaws.{uncrossed_more}
use Rattle.fold_program.proofs.program.acceptance.first_crossed.Goals as goal

pub loop-at-preserved : goal.loop-at-preserved
loop-at-preserved c =
    let low : FitsSigned w64 (get_or c.args.lower.now c.loop-at.at (pos 0)) = search rules in
    let high : FitsSigned w64 (get_or c.args.upper.now c.loop-at.at (pos 0)) = search rules in
    let test = simp to_z-of_z at c.if-upper-at.false in
    let here : get_or c.args.lower.now c.loop-at.at (pos 0) ≤ℤ get_or c.args.upper.now c.loop-at.at (pos 0) =
    grind (arith, ints) in
    let second : c.loop-at.at < length c.args.upper.now = omega (arith, c.requires) in
    uncrossed_more c.args.lower.now c.args.upper.now c.loop-at.at (pos 0)
    (pos 0) c.loop-at-test.true second c.loop-at.invariant here
