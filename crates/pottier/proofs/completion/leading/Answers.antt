use Rattle.std.proofs.Common.{rules, arith, ◌≡◌, ap, sym, ◌∙◌, drop, length, neg_ℤ}
use Rattle.std.proofs.lemmas.List.{length-map, take-append-le, take_all}
use Rattle.lattice_theory.specs.Vectors.{opposite, leads_positive}
use Rattle.lattice_laws.proofs.Conformal.{leads_other}
use Rattle.pottier.proofs.completion.leading.Goals as goal

pub returns-else-leads_positive-clause-leads : goal.returns-else-leads_positive-clause-leads
returns-else-leads_positive-clause-leads c = λ n.
    let z = c.args.z.items in
    let turned = c.turn.new.z in
    let is : turned ≡ opposite z = c.turn.ensures ∙ ap opposite c.deref_mut.ensures.value in
    let len : c.args.z.len ≡ length z = search rules in
    let size : c.args.z.len ≡ length turned = omega (arith, len, ap length is, length-map z neg_ℤ) in
    let whole = take-append-le c.args.z.len turned (drop (length turned) z) (omega (arith, size))
    ∙ take_all c.args.z.len turned (omega (arith, size)) in
    ap leads_positive whole ∙ leads_other z turned is n
    (ap leads_positive (sym c.deref.ensures.value) ∙ sym c.leads_positive.ensures ∙ c.if-leads_positive.false)
