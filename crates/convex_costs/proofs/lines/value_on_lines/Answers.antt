use Rattle.std.proofs.Common.{int_lt, FitsSigned, arith, rules, sym, ◌∙◌}
use Rattle.std.specs.Int.{w128}
use Rattle.std.proofs.lemmas.Int.{to_z-of_z}
use Rattle.std.proofs.lemmas.List.Sorted.{IsPartitionPoint-from_clause}
use Rattle.convex_costs.proofs.Neighbours.{origin, rising_to}
use Rattle.convex_costs.proofs.Numbers.{narrow_is}
use Rattle.convex_costs.proofs.Segments.{parted, on_lines-found, on_lines-beyond}
use Rattle.convex_costs.proofs.lines.value_on_lines.Goals as goal

pub value_on_line-requires-clause-order : goal.value_on_line-requires-clause-order
value_on_line-requires-clause-order c =
    rising_to c.args.points.now c.max-next.result origin c.requires.rising (omega arith) c.if-next-points.true

pub returns-then-next-points : goal.returns-then-next-points
returns-then-next-points c =
    let ps = c.args.points.now in
    let left = c.partition_point.ensures.partitioned in
    let rising = parted ps c.args.v c.requires.rising in
    let some = c.requires.numbers.some in
    let point = IsPartitionPoint-from_clause (λ p. int_lt p.at c.args.v) _ _ left rising (λ a r q k. search rules) in
    let line = on_lines-found ps _ c.max-next.result c.args.v origin some point c.max-next.ensures
    c.if-next-points.true in
    let reach = c.ranges.v in
    let fits : FitsSigned w128 c.value_on_line.result = search rules in
    to_z-of_z w128 c.value_on_line.result fits ∙ (simp to_z-of_z at c.value_on_line.ensures) ∙ sym line

pub returns-else-next-points : goal.returns-else-next-points
returns-else-next-points c =
    let ps = c.args.points.now in
    let left = c.partition_point.ensures.partitioned in
    let rising = parted ps c.args.v c.requires.rising in
    let some = c.requires.numbers.some in
    let point = IsPartitionPoint-from_clause (λ p. int_lt p.at c.args.v) _ _ left rising (λ a r q k. search rules) in
    let last = on_lines-beyond ps _ c.max-next.result c.args.v origin some point c.max-next.ensures
    c.if-next-points.false in
    narrow_is _ (search rules) ∙ sym last
