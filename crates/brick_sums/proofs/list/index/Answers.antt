use Rattle.std.proofs.Common.{◌≡◌, arith, length, Some, slice_get}
use Rattle.std.proofs.lemmas.Grind.{common_steps}
use Rattle.std.proofs.lemmas.List.{length-map}
use Rattle.std.proofs.lemmas.Option.{gets}
use Rattle.lattice_theory.specs.Vectors.{Vector}
use Rattle.lattice_theory.specs.SignedSums.{Sum, vectors}
use Rattle.brick_sums.proofs.IndexLaws.{index_none, index_more, index_all}
use Rattle.brick_sums.proofs.list.index.Goals as goal

pub loop-at-init : goal.loop-at-init
loop-at-init c = index_none _ _ c.in_ok-places.ensures.empty

pub loop-at-preserved : goal.loop-at-preserved
loop-at-preserved c =
    let there : slice_get (vectors c.args.members.now) c.loop-at.at ≡ Some c.in_ok-from_slice.field-0.items =
    grind (arith, common_steps, gets) in
    index_more _ _ _ c.loop-at.at c.in_ok-from_slice.field-0 c.in_ok-insert.field-0 c.requires.rising there
    c.in_ok-insert.ensures.old c.in_ok-insert.ensures.entries c.loop-at.invariant

-- all of them have an entry
pub returns : goal.returns
returns c =
    let size : length (vectors c.args.members.now) ≡ length c.args.members.now =
    length-map {A = Sum} {B = Vector} c.args.members.now (λ s. s.vector) in
    index_all _ _ c.loop-at.at (omega (arith, size, c.loop-at-test.false)) c.loop-at.invariant
