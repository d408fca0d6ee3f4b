use Rattle.std.proofs.Common.{rules, arith, ◌≡◌, ◌+◌, ◌-◌, ◌<◌, ◌^◌, ◌++◌, ◌∷◌, [], ◌∙◌, sym, ap, map, take, subst}
use Rattle.std.proofs.Common.{unsigned_abs, w64, FitsSigned}
use Rattle.std.proofs.lemmas.Int.{to_z-of_z}
use Rattle.std.proofs.lemmas.List.Elements.{All-push}
use Rattle.lattice_theory.specs.Vectors.{dot}
use Rattle.lattice_theory.specs.BasisLimits.{IsNarrow}
use Rattle.listed_links.proofs.ImageLaws.{images-more, not-narrow}
use Rattle.listed_links.proofs.images.images.Goals as goal

pub returns-in_default : goal.returns-in_default
returns-in_default c =
    let place : c.loop-generator.generator + 1 - 1 ≡ c.loop-generator.generator = omega arith in
    let there = rw place at c.row.ensures.entries in
    not-narrow c.args.generators.now.rows c.args.row.now c.loop-generator.generator c.row.result.now there
    c.in_default.ensures

pub loop-generator-preserved : goal.loop-generator-preserved
loop-generator-preserved c =
    let place : c.loop-generator.generator + 1 - 1 ≡ c.loop-generator.generator = omega arith in
    let there = rw place at c.row.ensures.entries in
    let i = c.loop-generator.generator in
    let row = c.args.row.now in
    let gens = c.args.generators.now.rows in
    let small : unsigned_abs c.in-Some.image < 2 ^ 31 = c.in-Some.ensures.1 in
    let fits : FitsSigned w64 c.in-Some.image = search rules in
    let pushed = simp to_z-of_z at c.in_ok-push.ensures.items in
    record {
      are = pushed ∙ ap (λ v. v ++ c.in-Some.image ∷ []) c.loop-generator.invariant.are
          ∙ ap (λ a. map (dot row) (take i gens) ++ a ∷ []) c.in-Some.ensures.0
          ∙ sym (images-more (dot row) gens i c.row.result.now there);
      narrow = subst IsNarrow (sym pushed)
          (All-push (λ a. unsigned_abs a < 2 ^ 31) c.loop-generator.images.items c.in-Some.image
          c.loop-generator.invariant.narrow small);
    }
