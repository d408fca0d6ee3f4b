use Rattle.std.proofs.Common.{◌≡◌, ◌∙◌, ◌-◌, ap, sym, subst, rules, length, slice_get, FitsSigned}
use Rattle.std.specs.Int.{w128}
use Rattle.std.proofs.lemmas.Int.{to_z-of_z}
use Rattle.lattice_theory.specs.SignedSums.{vectors}
use Rattle.lattice_laws.proofs.Places.{same_value}
use Rattle.sieve_laws.specs.Sieve.{Layer, MayStay, AreTops, IsLayerOver, live}
use Rattle.layer_sieve.specs.Tried.{IsTried}
use Rattle.brick_dp.proofs.filling.add_layer.Goals as goal
use Rattle.brick_dp.proofs.filling.add_layer.Goals.{After-get, After-lower_by}

-- the layer that stands in the list is the last one
layer_is : (c : After-get) → c.get.result.now ≡ c.args.layer.now
layer_is c =
    same_value (slice_get c.args.layers.now c.args.last) c.get.result.now c.args.layer.now c.get.ensures
    c.requires.last

-- so the moves lead over it
over : (c : After-lower_by) → IsLayerOver (vectors c.args.targets.now) c.args.menu.now
    (live c.args.limit c.args.layer.now) c.args.layer.now c.lower_by.new.layer
over c =
    let limit : FitsSigned w128 c.args.limit = search rules in
    let told = simp to_z-of_z at c.lower_by.ensures.over in
    subst (λ (l : Layer). IsLayerOver (vectors c.args.targets.now) c.args.menu.now (live c.args.limit l) l
    c.lower_by.new.layer) (layer_is (goal.at.After-lower_by c).After-get) told

-- and were tried at its live cells
tried : (c : After-lower_by) → IsTried (length c.args.menu.now) c.args.layer.now c.args.limit
    (c.lower_by.new.moves - c.args.moves.now)
tried c =
    let limit : FitsSigned w128 c.args.limit = search rules in
    let told = simp to_z-of_z at c.lower_by.ensures.tried in
    subst (λ (l : Layer). IsTried (length c.args.menu.now) l c.args.limit (c.lower_by.new.moves - c.args.moves.now))
    (layer_is (goal.at.After-lower_by c).After-get) told

pub lower_by-requires-clause-stays : goal.lower_by-requires-clause-stays
lower_by-requires-clause-stays c =
    let same : c.args.layer.now ≡ c.get.result.now =
    sym (layer_is (goal.at.lower_by-requires-clause-stays c).After-get) in
    subst (λ (l : Layer). MayStay (vectors c.args.targets.now) c.args.menu.now l) same c.requires.stays

pub lower_by-requires-clause-tops : goal.lower_by-requires-clause-tops
lower_by-requires-clause-tops c =
    let limit : FitsSigned w128 c.args.limit = search rules in
    let same : c.args.layer.now ≡ c.get.result.now =
    sym (layer_is (goal.at.lower_by-requires-clause-tops c).After-get) in
    simp to_z-of_z (subst (λ (l : Layer). AreTops (vectors c.args.targets.now) (live c.args.limit l) l
    c.args.tops.now) same c.requires.tops)

pub widen-requires-clause-kept : goal.widen-requires-clause-kept
widen-requires-clause-kept c = λ w cost cell.
    let read = slice_get c.args.layers.now c.args.last in
    let same : c.get-then-lower_by.result.now ≡ c.get.result.now =
    same_value read c.get-then-lower_by.result.now c.get.result.now c.get-then-lower_by.ensures c.get.ensures in
    c.lower_by.ensures.over.kept w cost (ap (λ (l : Layer). slice_get l w) (sym same) ∙ cell)

pub returns-then-lower_by-clause-over : goal.returns-then-lower_by-clause-over
returns-then-lower_by-clause-over c =
    over (goal.at.returns-then-lower_by-clause-over c).After-lower_by

pub returns-then-lower_by-clause-tried : goal.returns-then-lower_by-clause-tried
returns-then-lower_by-clause-tried c =
    tried (goal.at.returns-then-lower_by-clause-tried c).After-lower_by

pub returns-else-lower_by-clause-over : goal.returns-else-lower_by-clause-over
returns-else-lower_by-clause-over c =
    over (goal.at.returns-else-lower_by-clause-over c).After-lower_by

pub returns-else-lower_by-clause-tried : goal.returns-else-lower_by-clause-tried
returns-else-lower_by-clause-tried c =
    tried (goal.at.returns-else-lower_by-clause-tried c).After-lower_by
