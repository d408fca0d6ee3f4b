use Rattle.std.proofs.Common.{rules, arith, ◌∙◌, ◌++◌, sym, ap, subst, IsTrue, flat_map, take, [], ◌∷◌, FitsSigned, w64}
use Rattle.std.proofs.lemmas.Int.{to_z-of_z}
use Rattle.std.proofs.lemmas.List.Elements.{All-append}
use Rattle.lattice_theory.specs.Vectors.{is_bounded, IsBoundedRow}
use Rattle.fold_gen.specs.Transports.{brick_of}
use Rattle.fold_gen.proofs.TransportLaws.{flat_map_more, no_customer, three_bounded}
use Rattle.fold_gen.proofs.programs.uppers.Goals as goal

pub loop-customer-preserved : goal.loop-customer-preserved
loop-customer-preserved c =
    let fits : FitsSigned w64 c.whole-demand.result = search rules in
    let items = simp to_z-of_z at c.in_ok-extend_from_slice.ensures.items in
    let more = flat_map_more c.args.customers.now c.loop-customer.customer-index no_customer c.loop-customer-test.true
    (λ c. (brick_of c).upper) in
    let here = c.whole-demand.ensures.bounded in
    record {
      made =
          items ∙ ap (λ us. us ++ c.whole-demand.result ∷ c.whole-demand.result ∷ c.whole-demand.result ∷ [])
          c.loop-customer.invariant.made
          ∙ ap (λ d. flat_map (λ c. (brick_of c).upper)
          (take c.loop-customer.customer-index c.args.customers.now) ++ d ∷ d ∷ d ∷ []) c.whole-demand.ensures.value
          ∙ sym more;
      bounded =
          subst IsBoundedRow (sym items)
          (All-append (λ a. IsTrue (is_bounded a)) c.loop-customer.uppers.items
          (c.whole-demand.result ∷ c.whole-demand.result ∷ c.whole-demand.result ∷ [])
          c.loop-customer.invariant.bounded (three_bounded c.whole-demand.result here));
    }
