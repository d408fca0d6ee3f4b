use Rattle.std.proofs.Common.{arith, ◌≡◌, ◌<◌, ◌∙◌, sym, length, true, false}
use Rattle.std.proofs.lemmas.List.{length-map}
use Rattle.run_theory.specs.Certificates.{sum_of_row}
use Rattle.complete_lists.proofs.ScanLaws.{list_all-at}
use Rattle.listed_sums.specs.Places.{sums_of}
use Rattle.listed_sums.specs.Closure.{is_closed_at}
use Rattle.listed_sums.proofs.LevelLaws.{sum-read}
use Rattle.listed_sums.proofs.closure.neighbours_are_listed.Goals as goal

pub returns-then-not-is_closed_at : goal.returns-then-not-is_closed_at
returns-then-not-is_closed_at c =
    let sums = sums_of c.args.sums.now.rows in
    let low : c.loop-place.place < length sums =
    omega (arith, length-map c.args.sums.now.rows sum_of_row, c.rows-place-end.ensures, c.loop-place-test.true) in
    let test = is_closed_at sums c.args.generators.now.rows c.args.bound in
    let read = sum-read sums c.loop-place.place (λ s. c.is_closed_at.result ≡ test s) low c.is_closed_at.ensures in
    sym (list_all-at test sums c.loop-place.place read.0 false read.1 (sym read.2 ∙ c.if-not-is_closed_at.true))
    ∙ c.loop-place.invariant

pub loop-place-preserved : goal.loop-place-preserved
loop-place-preserved c =
    let sums = sums_of c.args.sums.now.rows in
    let low : c.loop-place.place < length sums =
    omega (arith, length-map c.args.sums.now.rows sum_of_row, c.rows-place-end.ensures, c.loop-place-test.true) in
    let test = is_closed_at sums c.args.generators.now.rows c.args.bound in
    let read = sum-read sums c.loop-place.place (λ s. c.is_closed_at.result ≡ test s) low c.is_closed_at.ensures in
    sym (list_all-at test sums c.loop-place.place read.0 true read.1 (sym read.2 ∙ c.if-not-is_closed_at.false))
    ∙ c.loop-place.invariant
