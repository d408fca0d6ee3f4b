use Rattle.std.proofs.Common.{◌≡◌, ◌+◌, ◌-◌, ◌∙◌, max, map, unsigned_abs, ap, sym, arith, rules, refl, slice_get, Some}
use Rattle.std.proofs.Common.{FitsSigned}
use Rattle.std.specs.Int.{w128}
use Rattle.std.proofs.lemmas.Int.{to_z-of_z}
use Rattle.lattice_theory.specs.Lists.{greatest}
use Rattle.lattice_theory.specs.Vectors.{dot}
use Rattle.lattice_theory.specs.Matrices.{Matrix, product}
use Rattle.phase_run.proofs.FactorLaws.{greatest_rest, greatest_last, greatest_both, image_there, image_small}
use Rattle.phase_run.proofs.FactorLaws.{length-product}
use Rattle.phase_run.proofs.factor.widest_of.Goals as goal

pub loop-row-preserved : goal.loop-row-preserved
loop-row-preserved c =
    let p = c.args.program.now in
    let w = c.args.sum.now in
    let place : c.loop-row.row + 1 - 1 ≡ c.loop-row.row = omega arith in
    let row : slice_get p.link.rows c.loop-row.row ≡ Some c.row.result.now =
    ap (slice_get p.link.rows) (sym place) ∙ ap (λ (m : Matrix). slice_get m.rows (c.loop-row.row + 1 - 1))
    (sym c.link.ensures.link) ∙ c.row.ensures.entries in
    let there = image_there p w c.row.result.now c.loop-row.row row in
    let image : FitsSigned w128 c.image.result = search rules in
    let value = simp to_z-of_z at c.unsigned_abs-in-loop-row.ensures.value in
    let entry : c.unsigned_abs-in-loop-row.result ≡ unsigned_abs (dot c.row.result.now w) =
    value ∙ ap unsigned_abs c.image.ensures in
    let low = image_small p w c.loop-row.row (dot c.row.result.now w) c.requires.image there in
    record {
      so_far =
          greatest_rest unsigned_abs (product p.link w) c.loop-row.row c.loop-row.widest c.max-widest-in-loop-row.result
          (dot c.row.result.now w)
          (max (greatest (map unsigned_abs w)) (greatest (map unsigned_abs (product p.link w)))) there
          (c.max-widest-in-loop-row.ensures ∙ ap (λ n. max n c.loop-row.widest) entry) c.loop-row.invariant.so_far;
      small = omega (arith, c.max-widest-in-loop-row.ensures, entry, low);
    }

pub returns-clause-widest : goal.returns-clause-widest
returns-clause-widest c =
    let p = c.args.program.now in
    let w = c.args.sum.now in
    greatest_both w (product p.link w) (greatest (map unsigned_abs w)) c.loop-row.widest refl
    (sym (greatest_last unsigned_abs (product p.link w) c.loop-row.row c.loop-row.widest
    (max (greatest (map unsigned_abs w)) (greatest (map unsigned_abs (product p.link w))))
    (omega (arith, c.loop-row-test.false, c.r-row-end.ensures.rows, length-product p w)) c.loop-row.invariant.so_far))
