use Rattle.std.proofs.Common.{arith, ◌<◌, sym, length}
use Rattle.std.proofs.lemmas.List.{length-map}
use Rattle.run_theory.specs.Certificates.{sum_of_row}
use Rattle.listed_sums.specs.Places.{sums_of}
use Rattle.listed_sums.proofs.LevelLaws.{within-none, level-decides}
use Rattle.listed_sums.proofs.closure.is_listed.Goals as goal

pub returns-in-Some : goal.returns-in-Some
returns-in-Some c =
    let low : c.in-Some.place < length (sums_of c.args.sums.now.rows) =
    omega (arith, length-map c.args.sums.now.rows sum_of_row, c.in-Some.ensures.inside) in
    level-decides (sums_of c.args.sums.now.rows) c.args.level c.args.w.now c.in-Some.place c.level_of.result
    c.requires.rising c.in-Some.ensures.place low c.level_of.ensures

pub returns-in-None : goal.returns-in-None
returns-in-None c =
    sym (within-none (sums_of c.args.sums.now.rows) c.args.level c.args.w.now (sym c.in-None.ensures.place))
