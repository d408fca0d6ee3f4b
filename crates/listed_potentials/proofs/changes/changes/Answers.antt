use Rattle.std.proofs.Common.{arith, ◌≡◌, ◌≤◌, ◌^◌, ◌∙◌, ap, length, unsigned_abs, IfSome}
use Rattle.lattice_theory.specs.Vectors.{add}
use Rattle.listed_sums.specs.Places.{vectors_of}
use Rattle.listed_sums.proofs.RowLaws.{length-vectors_of}
use Rattle.listed_potentials.specs.Moves.{change_of}
use Rattle.fold_program.proofs.PlaceLaws.{brick_there, for_brick}
use Rattle.listed_potentials.proofs.RowLaws.{next-image, all-images, all-next}
use Rattle.listed_potentials.proofs.changes.changes.Goals as goal

pub loop-place-preserved : goal.loop-place-preserved
loop-place-preserved c =
    let zs = vectors_of c.args.sums.now.rows in
    let at = c.args.at.now in
    record {
      are = λ b here.
          next-image (λ h. change_of c.args.phase b at (add at h)) zs c.loop-place.place c.vector_of.result.now
          c.loop-place.changes.items c.push.new.self.items c.change.result c.vector_of.ensures.sum
          (c.loop-place.invariant.are b here) c.in_ok-push.ensures.items
          (for_brick c.args.program.now c.args.brick
          (λ d. c.change.result ≡ change_of c.args.phase d at c.add_into.new.sum) c.change.ensures.change b here
          ∙ ap (change_of c.args.phase b at) c.add_into.ensures);
      small = all-next (λ d. IfSome d (λ a. unsigned_abs a ≤ 2 ^ 121)) c.loop-place.changes.items
          c.push.new.self.items c.change.result c.in_ok-push.ensures.items c.loop-place.invariant.small
          c.change.ensures.small;
    }

pub returns-clause-changes : goal.returns-clause-changes
returns-clause-changes c =
    let zs = vectors_of c.args.sums.now.rows in
    let at = c.args.at.now in
    let found = brick_there c.args.program.now c.args.brick c.n.ensures.program c.requires.from c.requires.last in
    let past : length zs ≤ c.loop-place.place =
    omega (arith, length-vectors_of c.args.sums.now.rows, c.rows-place-end.ensures, c.loop-place-test.false) in (
      found.0,
      found.1,
      all-images (λ h. change_of c.args.phase found.0 at (add at h)) zs c.loop-place.place c.loop-place.changes.items
          (c.loop-place.invariant.are found.0 found.1) past,
    )
