use Rattle.std.proofs.Common.{◌≡◌, ◌++◌, ◌∙◌, max, map, length, unsigned_abs, ap, sym, subst, arith, slice_get, List}
use Rattle.lattice_theory.specs.Lists.{greatest}
use Rattle.lattice_theory.specs.Vectors.{Vector}
use Rattle.lattice_theory.specs.Matrices.{product}
use Rattle.lattice_theory.specs.SignedSums.{Sum, vectors}
use Rattle.fold_theory.specs.Programs.{Program, IsProgram}
use Rattle.run_theory.specs.Folds.{IsSmallImage}
use Rattle.lattice_laws.proofs.Places.{slice_get-All}
use Rattle.phase_run.proofs.FactorLaws.{greatest_more}
use Rattle.phase_run.proofs.factor.widest_entry.Goals as goal

pub widest_of-requires-clause-width : goal.widest_of-requires-clause-width
widest_of-requires-clause-width c =
    let f = c.args.fold.now in
    let program : IsProgram f.program = subst IsProgram c.program-program.ensures c.n.ensures.program in
    let there = ap (λ (s : List Sum). slice_get (vectors s) c.loop-i.i) (sym c.sums-sums.ensures.sums)
    ∙ c.get.ensures.vector in
    slice_get-All (λ (w : Vector). length w ≡ f.program.brick.cols)
    (vectors f.sums) c.loop-i.i c.get.result.now there c.sums-sums.ensures.fold.widths
    ∙ program.brick_shape.width ∙ ap (λ (p : Program). p.link.cols) (sym c.program-program.ensures)

pub widest_of-requires-clause-image : goal.widest_of-requires-clause-image
widest_of-requires-clause-image c =
    let f = c.args.fold.now in
    let there = ap (λ (s : List Sum). slice_get (vectors s) c.loop-i.i) (sym c.sums-sums.ensures.sums)
    ∙ c.get.ensures.vector in
    subst (λ (p : Program). IsSmallImage p c.get.result.now) (sym c.program-program.ensures)
    (slice_get-All (IsSmallImage f.program) (vectors f.sums) c.loop-i.i c.get.result.now there
    c.sums-sums.ensures.fold.images)

pub loop-i-preserved : goal.loop-i-preserved
loop-i-preserved c =
    let f = c.args.fold.now in
    let there = ap (λ (s : List Sum). slice_get (vectors s) c.loop-i.i) (sym c.sums-sums.ensures.sums)
    ∙ c.get.ensures.vector in
    let entry : c.widest_of.result ≡ greatest (map unsigned_abs
    (c.get.result.now ++ product f.program.link c.get.result.now)) =
    c.widest_of.ensures.widest
    ∙ ap (λ (p : Program). greatest (map unsigned_abs (c.get.result.now ++ product p.link c.get.result.now)))
    c.program-program.ensures in
    record {
      so_far =
          greatest_more (λ (w : Vector). greatest (map unsigned_abs (w ++ product f.program.link w)))
          (vectors f.sums) c.loop-i.i c.loop-i.widest c.max-widest.result
          c.get.result.now there (c.max-widest.ensures ∙ ap (λ n. max n c.loop-i.widest) entry)
          c.loop-i.invariant.so_far;
      small = omega (arith, c.max-widest.ensures, c.widest_of.ensures.small);
    }
