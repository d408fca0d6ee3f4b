use Rattle.std.proofs.Common.{◌∙◌, ◌++◌, sym, ap, subst, All, flat_map, take, [], ◌∷◌, List}
use Rattle.std.proofs.lemmas.List.Elements.{All-push}
use Rattle.fold_theory.specs.declared.Cost.{Cost}
use Rattle.convex_costs.specs.Bounds.{AreBounded}
use Rattle.fold_gen.specs.Transports.{brick_of}
use Rattle.fold_gen.proofs.TransportLaws.{flat_map_more, three_pushes, no_customer}
use Rattle.fold_gen.proofs.programs.costs.Goals as goal

pub loop-customer-preserved : goal.loop-customer-preserved
loop-customer-preserved c =
    let a = c.cost.result in
    let b = c.cost-in-loop-customer.result in
    let d = c.cost-in-loop-customer-2.result in
    let before = c.loop-customer.costs.items in
    let items = c.in_ok-push-3.ensures.items
    ∙ ap (λ (xs : List Cost). xs ++ d ∷ []) (c.in_ok-push-2.ensures.items
    ∙ ap (λ (xs : List Cost). xs ++ b ∷ []) c.in_ok-push.ensures.items) in
    let more = flat_map_more c.args.customers.now c.loop-customer.customer-index no_customer c.loop-customer-test.true
    (λ c. (brick_of c).costs) in
    record {
      made =
          items ∙ three_pushes before a b d
          ∙ rw (
            c.cost.ensures.cost,
            c.cost-in-loop-customer.ensures.cost,
            c.cost-in-loop-customer-2.ensures.cost,
            c.loop-customer.invariant.made,
          ) (sym more);
      numbers = subst (All AreBounded) (sym items)
          (All-push AreBounded ((before ++ a ∷ []) ++ b ∷ []) d
          (All-push AreBounded (before ++ a ∷ []) b
          (All-push AreBounded before a c.loop-customer.invariant.numbers c.cost.ensures.numbers)
          c.cost-in-loop-customer.ensures.numbers)
          c.cost-in-loop-customer-2.ensures.numbers);
    }
