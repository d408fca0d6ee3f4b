use Rattle.std.proofs.Common.{◌≤◌, ◌∙◌, arith, ap, length, subst, sym, IsSome}
use Rattle.std.specs.Prelude.{position}
use Rattle.lattice_theory.specs.Vectors.{is_zero}
use Rattle.lattice_theory.specs.SignedSums.{Sum}
use Rattle.brick_sums.proofs.ListedLaws.{AreSums-position, AreSums-AreListed}
use Rattle.brick_sums.proofs.growth.sums.Goals as goal

pub unwrap-zero-requires : goal.unwrap-zero-requires
unwrap-zero-requires c =
    let found = c.place_of_zero.ensures ∙ ap (position (λ (s : Sum). is_zero s.vector)) c.deref.ensures.value in
    subst IsSome (sym found) (AreSums-position _ _ c.args.g _ c.in_ok-members.ensures.sums)

pub new-requires : goal.new-requires
new-requires c =
    let found = c.place_of_zero.ensures ∙ ap (position (λ (s : Sum). is_zero s.vector)) c.deref.ensures.value in
    let few : length c.in_ok-members.members.items ≤ 20000 = omega (
      arith,
      c.in_ok-members.ensures.few,
      c.requires.greatest,
    ) in
    AreSums-AreListed _ _ c.args.g _ c.in_ok-members.ensures.sums c.in_ok-members.ensures.even _ few
    (sym found ∙ c.unwrap-zero.ensures)
