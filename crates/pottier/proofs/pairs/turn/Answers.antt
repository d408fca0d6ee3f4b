use Rattle.std.proofs.Common.{◌≡◌, ◌<◌, ◌^◌, ◌∙◌, ap, sym, set, subst, get_or, arith, pos, neg_ℤ, ◌-ℤ◌, unsigned_abs}
use Rattle.std.proofs.Common.{to_z, of_z}
use Rattle.std.specs.Int.{w64}
use Rattle.std.proofs.lemmas.Int.{ints, to_z-of_z, fits_signed_from_abs}
use Rattle.std.proofs.lemmas.List.{get_or_default}
use Rattle.std.proofs.lemmas.List.Edits.{map_over_more}
use Rattle.pottier.proofs.PairLaws.{unturned}
use Rattle.pottier.proofs.pairs.turn.Goals as goal

pub loop-x-preserved : goal.loop-x-preserved
loop-x-preserved c =
    let z = c.args.z.now in
    let xs = c.loop-x.z in
    let i = c.loop-x.x-index in
    let x = get_or xs i (pos 0) in
    let low = c.loop-x-test.true in
    let small : unsigned_abs x < 2 ^ 62 = subst (λ y. unsigned_abs y < 2 ^ 62)
    (sym (unturned z xs i (pos 0) c.loop-x.invariant low)) (c.requires i (pos 0) low) in
    let read : to_z w64 (of_z w64 x) ≡ x = to_z-of_z w64 x (fits_signed_from_abs w64 x (omega (arith, small))) in
    let written : to_z w64 (of_z w64 (pos 0 -ℤ x)) ≡ neg_ℤ x =
    to_z-of_z w64 (pos 0 -ℤ x) (fits_signed_from_abs w64 (pos 0 -ℤ x) (omega (arith, ints, small)))
    ∙ omega (arith, ints) in
    ap (λ y. set xs i (to_z w64 (of_z w64 (pos 0 -ℤ y)))) read ∙ ap (set xs i) written
    ∙ map_over_more neg_ℤ z xs i x low c.loop-x.invariant
    (get_or_default xs i (pos 0) x (omega (arith, low, c.loop-x.auto.z)))
