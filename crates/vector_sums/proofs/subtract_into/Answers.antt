use Rattle.std.proofs.Common.{rules, arith, ◌≤◌, ◌<◌, ◌^◌, ◌-ℤ◌, ◌∙◌, refl, pos, length, get_or, unsigned_abs, w64}
use Rattle.std.proofs.Common.{FitsSigned}
use Rattle.std.proofs.lemmas.Int.{ints, to_z-of_z, fits_signed_from_abs}
use Rattle.vector_sums.proofs.SumLaws.{zip-more, zip-all}
use Rattle.vector_sums.proofs.subtract_into.Goals as goal

pub loop-at-preserved : goal.loop-at-preserved
loop-at-preserved c =
    let u = c.args.u.now in
    let v = c.args.v.now in
    let at = c.loop-at.at in
    let a = get_or u at (pos 0) in
    let b = get_or v at (pos 0) in
    let low : at < length u = omega (arith, c.requires.room, c.loop-at-test.true) in
    let low_too : at < length v = omega (arith, c.requires.same, low) in
    let bounded : unsigned_abs a ≤ 2 ^ 62 = c.requires.bounded at (pos 0) low in
    let small : unsigned_abs b < 2 ^ 62 = c.requires.small at (pos 0) low_too in
    let first : FitsSigned w64 a = search rules in
    let second : FitsSigned w64 b = search rules in
    let both : FitsSigned w64 (a -ℤ b) = fits_signed_from_abs w64 _ (omega (arith, ints, bounded, small)) in
    let room : at < length c.loop-at.difference = omega (arith, c.loop-at.auto.difference, c.loop-at-test.true) in
    zip-more (◌-ℤ◌) c.loop-at.difference u v at _ c.requires.same low room (simp to_z-of_z refl) c.loop-at.invariant

pub returns : goal.returns
returns c =
    let past : length c.loop-at.difference ≤ c.loop-at.at = omega (
      arith,
      c.loop-at.auto.difference,
      c.loop-at-test.false,
    ) in
    zip-all (◌-ℤ◌) c.loop-at.difference c.args.u.now c.args.v.now c.loop-at.at c.requires.same
    (c.loop-at.auto.difference ∙ c.requires.room) past c.loop-at.invariant
