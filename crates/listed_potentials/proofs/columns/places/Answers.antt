use Rattle.std.proofs.Common.{◌<◌, ◌∙◌, ap, length, IfSome}
use Rattle.lattice_theory.specs.Vectors.{add}
use Rattle.listed_sums.specs.Places.{vectors_of, place_in}
use Rattle.listed_potentials.proofs.RowLaws.{next-image, all-next}
use Rattle.listed_potentials.proofs.columns.places.Goals as goal

pub loop-place-preserved : goal.loop-place-preserved
loop-place-preserved c =
    let zs = vectors_of c.args.sums.now.rows in
    record {
      are = next-image (λ h. place_in zs (add c.args.w.now h)) zs c.loop-place.place c.vector_of.result.now
          c.loop-place.places.items c.push.new.self.items c.place_of.result c.vector_of.ensures.sum
          c.loop-place.invariant.are
          c.in_ok-push.ensures.items (c.place_of.ensures.place ∙ ap (place_in zs) c.add_into.ensures);
      inside = all-next (λ p. IfSome p (λ at. at < length c.args.sums.now.rows)) c.loop-place.places.items
          c.push.new.self.items c.place_of.result c.in_ok-push.ensures.items c.loop-place.invariant.inside
          c.place_of.ensures.inside;
    }
