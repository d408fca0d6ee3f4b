use Rattle.std.proofs.Common.{arith, ◌≡◌, ◌<◌, ◌+◌, ◌-◌, ◌^◌, ◌&&◌, ◌∙◌, sym, ap, unsigned_abs, true, false}
use Rattle.std.proofs.lemmas.List.Elements.{All-weaker}
use Rattle.lattice_theory.specs.Vectors.{add, sub}
use Rattle.lattice_theory.specs.BasisLimits.{IsNarrow}
use Rattle.run_theory.specs.Checker.{is_sum_within}
use Rattle.lattice_laws.proofs.Places.{slice_get-All}
use Rattle.complete_lists.proofs.ScanLaws.{list_all-at}
use Rattle.listed_sums.specs.Places.{sums_of}
use Rattle.listed_sums.proofs.closure.are_listed.Goals as goal

pub subtract_into-requires-clause-small : goal.subtract_into-requires-clause-small
subtract_into-requires-clause-small c =
    All-weaker (λ a. unsigned_abs a < 2 ^ 31) (λ a. unsigned_abs a < 2 ^ 62) (λ a narrow. omega arith)
    c.row-generator.result.now
    (slice_get-All IsNarrow c.args.generators.now.rows (c.loop-row.row + 1 - 1) c.row-generator.result.now
    c.row-generator.ensures.entries c.requires.narrow)

pub returns-then-not-is_listed : goal.returns-then-not-is_listed
returns-then-not-is_listed c =
    let place : c.loop-row.row + 1 - 1 ≡ c.loop-row.row = omega arith in
    let there = rw place at c.row-generator.ensures.entries in
    let within = is_sum_within (sums_of c.args.sums.now.rows) c.args.level in
    let e = c.row-generator.result.now in
    let sum = c.args.sum.now in
    let up = ap within (sym c.add_into.ensures) ∙ sym c.is_listed.ensures ∙ c.if-not-is_listed.true in
    sym (list_all-at (λ e. within (add sum e) && within (sub sum e)) c.args.generators.now.rows
    c.loop-row.row e false there (ap (λ t. t && within (sub sum e)) up)) ∙ c.loop-row.invariant

pub returns-then-not-is_listed-2 : goal.returns-then-not-is_listed-2
returns-then-not-is_listed-2 c =
    let place : c.loop-row.row + 1 - 1 ≡ c.loop-row.row = omega arith in
    let there = rw place at c.row-generator.ensures.entries in
    let within = is_sum_within (sums_of c.args.sums.now.rows) c.args.level in
    let e = c.row-generator.result.now in
    let sum = c.args.sum.now in
    let up = ap within (sym c.add_into.ensures) ∙ sym c.is_listed.ensures ∙ c.if-not-is_listed.false in
    let down = ap within (sym c.subtract_into.ensures) ∙ sym c.is_listed-in-loop-row.ensures
    ∙ c.if-not-is_listed-2.true in
    sym (list_all-at (λ e. within (add sum e) && within (sub sum e)) c.args.generators.now.rows
    c.loop-row.row e false there (λ i. up i && down i)) ∙ c.loop-row.invariant

pub loop-row-preserved : goal.loop-row-preserved
loop-row-preserved c =
    let place : c.loop-row.row + 1 - 1 ≡ c.loop-row.row = omega arith in
    let there = rw place at c.row-generator.ensures.entries in
    let within = is_sum_within (sums_of c.args.sums.now.rows) c.args.level in
    let e = c.row-generator.result.now in
    let sum = c.args.sum.now in
    let up = ap within (sym c.add_into.ensures) ∙ sym c.is_listed.ensures ∙ c.if-not-is_listed.false in
    let down = ap within (sym c.subtract_into.ensures) ∙ sym c.is_listed-in-loop-row.ensures
    ∙ c.if-not-is_listed-2.false in
    sym (list_all-at (λ e. within (add sum e) && within (sub sum e)) c.args.generators.now.rows
    c.loop-row.row e true there (λ i. up i && down i)) ∙ c.loop-row.invariant
