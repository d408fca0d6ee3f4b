use Rattle.std.proofs.Common.{◌≡◌, ◌+◌, ◌-◌, ◌∷◌, ◌++◌, [], ◌∙◌, sym, ap, arith, append_assoc}
use Rattle.fold_gen.specs.Draws.{after, demand, customer, customers}
use Rattle.fold_gen.proofs.DrawLaws.{customers_step}
use Rattle.fold_gen.proofs.customers.customers.Goals as goal

pub loop-customer-preserved : goal.loop-customer-preserved
loop-customer-preserved c =
    let step = customers_step c.args.count c.loop-customer._customer c.loop-customer.draws.z
    c.loop-customer-test.true in
    record {
      all = rw (c.in_ok-push.ensures.items, c.draw_customer.ensures.customer, c.draw_customer.ensures.turned)
          (append_assoc c.loop-customer.all.items (customer c.loop-customer.draws.z ∷ [])
          (customers (c.args.count - (c.loop-customer._customer + 1))
          (after (demand c.loop-customer.draws.z) (after 7 c.loop-customer.draws.z)))
          ∙ sym (ap (λ cs. c.loop-customer.all.items ++ cs) step) ∙ c.loop-customer.invariant.all);
      small = c.draw_customer.ensures.small;
    }
