use Rattle.std.proofs.Common.{rules, ◌∙◌, ◌++◌, sym, ap, subst, IsTrue, map, take, pos, [], ◌∷◌, append_assoc}
use Rattle.std.proofs.Common.{FitsSigned, w64}
use Rattle.std.proofs.lemmas.Int.{to_z-of_z}
use Rattle.std.proofs.lemmas.List.Elements.{All-push}
use Rattle.lattice_theory.specs.Vectors.{is_bounded, IsBoundedRow}
use Rattle.fold_gen.specs.Transports.{sent}
use Rattle.fold_gen.proofs.TransportLaws.{map_more, no_customer}
use Rattle.fold_gen.proofs.programs.rights.Goals as goal

pub loop-customer-preserved : goal.loop-customer-preserved
loop-customer-preserved c =
    let fits : FitsSigned w64 c.whole.result = search rules in
    let items = simp to_z-of_z at c.in_ok-push.ensures.items in
    let cs = c.args.customers.now in
    let i = c.loop-customer.customer-index in
    let more = map_more cs i no_customer c.loop-customer-test.true (λ c. pos c.demand) in
    record {
      made =
          items ∙ ap (λ us. us ++ c.whole.result ∷ []) c.loop-customer.invariant.made
          ∙ append_assoc (sent cs) (map (λ c. pos c.demand) (take i cs)) (c.whole.result ∷ [])
          ∙ ap (λ d. sent cs ++ (map (λ c. pos c.demand) (take i cs) ++ d ∷ [])) c.whole.ensures.value
          ∙ ap (λ ds. sent cs ++ ds) (sym more);
      bounded =
          subst IsBoundedRow (sym items)
          (All-push (λ a. IsTrue (is_bounded a)) c.loop-customer.rights.items c.whole.result
          c.loop-customer.invariant.bounded c.whole.ensures.bounded);
    }
