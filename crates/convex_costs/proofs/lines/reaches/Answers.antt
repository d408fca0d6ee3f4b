use Rattle.std.proofs.Common.{◌-◌, length, get_or, FitsSigned, w64, ◌≤ℤ◌, arith, rules}
use Rattle.std.proofs.lemmas.Int.{ints, to_z-of_z}
use Rattle.convex_costs.proofs.Neighbours.{origin}
use Rattle.convex_costs.proofs.Segments.{covers-read}
use Rattle.convex_costs.proofs.lines.reaches.Goals as goal

pub returns-then-first-lower : goal.returns-then-first-lower
returns-then-first-lower c =
    let ps = c.args.points.now in
    let fits_hi = c.ranges.upper in
    let fits_last : FitsSigned w64 (get_or ps (length ps - 1) origin).at = search rules in
    let fits_first : FitsSigned w64 (get_or ps 0 origin).at = search rules in
    let begins : (get_or ps 0 origin).at ≤ℤ c.args.lower = omega (arith, ints, c.if-first-lower.true) in
    simp to_z-of_z (covers-read ps c.args.lower c.args.upper origin c.in-len1-up.len_at_least begins)
