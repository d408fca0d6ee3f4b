use Rattle.std.proofs.Common.{rules, FitsSigned}
use Rattle.std.specs.Int.{w128}
use Rattle.std.proofs.lemmas.Int.{to_z-of_z}
use Rattle.layer_sieve.specs.Falls.{FallsMost}
use Rattle.layer_sieve.proofs.WiderLaws.{spread_some}
use Rattle.layer_sieve.proofs.tops.spread.Goals as goal

pub returns : goal.returns
returns c =
    let limit : FitsSigned w128 c.args.limit = search rules in
    let most : FitsSigned w128 c.in_ok-most_fall.field-0 = search rules in
    let least : FitsSigned w128 c.in_ok-least_fall.field-0 = search rules in
    let told = simp to_z-of_z at c.checked_sub.ensures in
    let falls : FallsMost c.args.next.now c.args.limit c.args.layer.now c.in_ok-most_fall.field-0 =
    simp to_z-of_z at c.in_ok-most_fall.ensures in
    spread_some c.checked_sub.result _ c.args.next.now c.args.limit c.args.layer.now c.in_ok-least_fall.field-0
    c.in_ok-most_fall.field-0 told c.in_ok-least_fall.ensures falls
