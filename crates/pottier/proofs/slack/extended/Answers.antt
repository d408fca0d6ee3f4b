use Rattle.std.proofs.Common.{◌∙◌, sym, subst}
use Rattle.std.specs.List.{All}
use Rattle.std.proofs.lemmas.List.Elements.{All-push}
use Rattle.lattice_theory.specs.BasisLimits.{IsNarrow}
use Rattle.pottier.proofs.RowLaws.{product_widths, products_more}
use Rattle.pottier.proofs.slack.extended.Goals as goal

pub push-requires-clause-width : goal.push-requires-clause-width
push-requires-clause-width c =
    product_widths c.args.row.now c.get.result.now c.deref.result.now c.args.members.now c.loop-place.extended
    c.loop-place.place c.get.ensures.width c.loop-place.invariant.products
    (c.deref.ensures.value ∙ c.in_ok-longer.ensures.product)

pub loop-place-preserved : goal.loop-place-preserved
loop-place-preserved c = record {
  products = products_more c.args.row.now c.get.result.now c.deref.result.now c.args.members.now c.loop-place.extended
      c.push.new.self c.loop-place.place c.loop-place.invariant.products c.get.ensures.member
      (c.deref.ensures.value ∙ c.in_ok-longer.ensures.product) c.in_ok-push.ensures;
  narrow = subst (All IsNarrow) (sym c.in_ok-push.ensures)
      (All-push IsNarrow c.loop-place.extended c.deref.result.now c.loop-place.invariant.narrow
      (subst IsNarrow (sym c.deref.ensures.value) c.in_ok-longer.ensures.narrow));
}
