use Rattle.std.proofs.Common.{arith, ◌≡◌, length, Some, slice_get}
use Rattle.std.proofs.lemmas.Grind.{common_steps}
use Rattle.std.proofs.lemmas.Option.{gets}
use Rattle.lattice_theory.specs.SignedSums.{vectors}
use Rattle.lattice_laws.proofs.Places.{slice_get-All}
use Rattle.brick_sums.specs.Places.{width}
use Rattle.brick_sums.proofs.list.Sums.get.Goals as goal

pub returns-clause-width : goal.returns-clause-width
returns-clause-width c =
    let read : slice_get (vectors c.args.self.now) c.args.i ≡ Some c.vector.result.now =
    grind (arith, common_steps, gets) in
    slice_get-All (λ v. length v ≡ width c.args.self.now) _ _ _ read (rw c.self.view_is at c.self.invariant.0.widths)
