use Rattle.std.proofs.Common.{arith, ◌≡◌, ◌+◌, ◌-◌, ◌∙◌, ap, sym, Some, length, drop, length-drop}
use Rattle.std.proofs.lemmas.List.{take_all}
use Rattle.listed_sums.proofs.RowLaws.{vector-at}
use Rattle.listed_sums.proofs.places.vector_of.Goals as goal

pub returns-clause-sum : goal.returns-clause-sum
returns-clause-sum c =
    let place : c.args.place + 1 - 1 ≡ c.args.place = omega arith in
    let there = rw place at c.row.ensures.entries in
    let row = c.row.result.now in
    let all = take_all (length row - 1) (drop 1 row) (omega (arith, length-drop 1 row)) in
    vector-at c.args.sums.now.rows c.args.place row there ∙ ap Some (sym all)
