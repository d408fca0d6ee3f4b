-- Costs that are bound to their bounds, one after the other.
use Rattle.std.proofs.Common.{◌≡◌, ◌+◌, ◌<◌, pos, List, [], ◌∷◌, ◌++◌, length, map, take, refl, ap, arith, sym, ◌∙◌}
use Rattle.std.proofs.Common.{Some, append_assoc, length-append, get_or, slice_get, All}
use Rattle.std.proofs.lemmas.List.{take_more, map-append, length-map}
use Rattle.std.proofs.lemmas.List.Elements.{All-push}
use Rattle.lattice_theory.specs.Vectors.{Vector}
use Rattle.fold_theory.specs.declared.Cost.{Cost}
use Rattle.fold_theory.specs.Costs.{BoundedCost}
use Rattle.convex_costs.specs.declared.CostFault.{CostFault}
use Rattle.convex_costs.specs.Faults.{cost_fault}
use Rattle.fold_program.specs.Bounds.{IsGood, IsFirstRefused}

-- what was bound so far, and what is left
pub record IsBoundSoFar (costs rest : List Cost) (lower upper : Vector) (bound : List BoundedCost) : Type 0 where
  pub items : map (λ c. c.cost) bound ++ rest ≡ costs
  pub lower_is : map (λ c. c.lower) bound ≡ take (length bound) lower
  pub upper_is : map (λ c. c.upper) bound ≡ take (length bound) upper
  pub good : All IsGood bound

module _ (costs before rest : List Cost) (cost : Cost) (lower upper : Vector) (bound : List BoundedCost)
    (next : before ≡ cost ∷ rest)
    (so_far : IsBoundSoFar costs before lower upper bound) where
  items_are : map (λ (c : BoundedCost). c.cost) bound ++ (cost ∷ rest) ≡ costs
  items_are = ap (λ xs. map (λ (c : BoundedCost). c.cost) bound ++ xs) (sym next) ∙ so_far.items

  -- the next cost has bounds
  pub bound_inside : length bound < length costs
  bound_inside =
      omega (
        arith,
        ap length items_are,
        length-append (map (λ (c : BoundedCost). c.cost) bound) (cost ∷ rest),
        length-map bound (λ (c : BoundedCost). c.cost),
      )

  -- and may be the first that is refused
  pub refused_here : (fault : CostFault) →
      cost_fault cost (get_or lower (length bound) (pos 0)) (get_or upper (length bound) (pos 0)) ≡ Some fault →
      IsFirstRefused costs lower upper (length bound) fault
  refused_here fault refused = record {
    before = (
      bound,
      record {
        costs_are = sym (ap (take (length bound)) (sym items_are) ∙ first_part bound (cost ∷ rest));
        lower_is = so_far.lower_is;
        upper_is = so_far.upper_is;
        good = so_far.good;
      },
    );
    cost = cost;
    there = ap (λ xs. slice_get xs (length bound)) (sym items_are) ∙ next_part bound cost rest;
    refused = refused;
  }
    where
      first_part : (cs : List BoundedCost) (ds : List Cost) →
          take (length cs) (map (λ c. c.cost) cs ++ ds) ≡ map (λ c. c.cost) cs
      first_part [] ds = refl
      first_part (c ∷ cs) ds = ap (λ xs. c.cost ∷ xs) (first_part cs ds)

      next_part : (cs : List BoundedCost) (d : Cost) (ds : List Cost) →
          slice_get (map (λ c. c.cost) cs ++ d ∷ ds) (length cs) ≡ Some d
      next_part [] d ds = refl
      next_part (c ∷ cs) d ds = next_part cs d ds

  -- or one more that is bound
  pub bound_more : (c : BoundedCost) → length bound < length lower → length bound < length upper →
      c ≡ record {
        cost = cost;
        lower = get_or lower (length bound) (pos 0);
        upper = get_or upper (length bound) (pos 0);
      } → IsGood c →
      IsBoundSoFar costs rest lower upper (bound ++ c ∷ [])
  bound_more c low high is good =
      let size : length (bound ++ c ∷ []) ≡ length bound + 1 = simp length-append (omega arith) in
      let cost_is : c.cost ≡ cost = ap (λ (d : BoundedCost). d.cost) is in
      let lower_is : c.lower ≡ get_or lower (length bound) (pos 0) = ap (λ (d : BoundedCost). d.lower) is in
      let upper_is : c.upper ≡ get_or upper (length bound) (pos 0) = ap (λ (d : BoundedCost). d.upper) is in
      record {
        items =
            ap (λ xs. xs ++ rest) (map-append (λ (d : BoundedCost). d.cost) bound (c ∷ []))
            ∙ append_assoc (map (λ (d : BoundedCost). d.cost) bound) (c.cost ∷ []) rest
            ∙ ap (λ x. map (λ (d : BoundedCost). d.cost) bound ++ (x ∷ rest)) cost_is
            ∙ items_are;
        lower_is =
            map-append (λ (d : BoundedCost). d.lower) bound (c ∷ [])
            ∙ ap (λ xs. xs ++ c.lower ∷ []) so_far.lower_is
            ∙ ap (λ x. take (length bound) lower ++ x ∷ []) lower_is
            ∙ sym (take_more lower (length bound) (pos 0) low)
            ∙ ap (λ n. take n lower) (sym size);
        upper_is =
            map-append (λ (d : BoundedCost). d.upper) bound (c ∷ [])
            ∙ ap (λ xs. xs ++ c.upper ∷ []) so_far.upper_is
            ∙ ap (λ x. take (length bound) upper ++ x ∷ []) upper_is
            ∙ sym (take_more upper (length bound) (pos 0) high)
            ∙ ap (λ n. take n upper) (sym size);
        good = All-push IsGood bound c so_far.good good;
      }
