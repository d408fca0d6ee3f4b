use Rattle.std.proofs.Common.{arith, ◌≡◌, ◌+◌, ◌-◌, ◌<◌, ◌^◌, ◌∙◌, ap, take, unsigned_abs}
use Rattle.std.proofs.lemmas.List.Elements.{All-weaker}
use Rattle.lattice_theory.specs.Vectors.{add, sub}
use Rattle.cert_checker.proofs.StepLaws.{Kept-forward, Kept-back, Kept-more, narrow-part}
use Rattle.cert_checker.proofs.steps.steps_keep.Goals as goal

pub subtract_into-requires-clause-small : goal.subtract_into-requires-clause-small
subtract_into-requires-clause-small c =
    All-weaker (λ a. unsigned_abs a < 2 ^ 31) (λ a. unsigned_abs a < 2 ^ 62) (λ a narrow. omega arith)
    (take c.t-cols.result c.row.result.now)
    (narrow-part c.args.basis.now.rows (c.loop-row.row + 1 - 1) c.t-cols.result c.row.result.now
    c.row.ensures.entries c.requires.narrow)

pub returns-then-is_better : goal.returns-then-is_better
returns-then-is_better c =
    let place : c.loop-row.row + 1 - 1 ≡ c.loop-row.row = omega arith in
    let there = rw place at c.row.ensures.entries in
    let to = c.add_into.ensures
    ∙ ap (λ k. add c.args.x.now (take k c.row.result.now)) c.t-cols.ensures.brick_cols in
    Kept-forward c.args.program.now c.args.brick c.args.x.now c.args.basis.now.rows c.residual-least.result
    c.loop-row.row c.loop-row.invariant
    c.row.result.now there (rw to at c.if-is_better.ensures)

pub returns-then-is_better-2 : goal.returns-then-is_better-2
returns-then-is_better-2 c =
    let place : c.loop-row.row + 1 - 1 ≡ c.loop-row.row = omega arith in
    let there = rw place at c.row.ensures.entries in
    let to = c.add_into.ensures
    ∙ ap (λ k. add c.args.x.now (take k c.row.result.now)) c.t-cols.ensures.brick_cols in
    let fro = c.subtract_into.ensures
    ∙ ap (λ k. sub c.args.x.now (take k c.row.result.now)) c.t-cols.ensures.brick_cols in
    Kept-back c.args.program.now c.args.brick c.args.x.now c.args.basis.now.rows c.residual-least.result
    c.loop-row.row c.loop-row.invariant
    c.row.result.now there (rw to at c.if-is_better.ensures) (rw fro at c.if-is_better-2.ensures)

pub loop-row-preserved : goal.loop-row-preserved
loop-row-preserved c =
    let place : c.loop-row.row + 1 - 1 ≡ c.loop-row.row = omega arith in
    let there = rw place at c.row.ensures.entries in
    let to = c.add_into.ensures
    ∙ ap (λ k. add c.args.x.now (take k c.row.result.now)) c.t-cols.ensures.brick_cols in
    let fro = c.subtract_into.ensures
    ∙ ap (λ k. sub c.args.x.now (take k c.row.result.now)) c.t-cols.ensures.brick_cols in
    Kept-more c.args.program.now c.args.brick c.args.x.now c.args.basis.now.rows c.residual-least.result
    c.loop-row.row c.loop-row.invariant
    c.row.result.now there (rw to at c.if-is_better.ensures) (rw fro at c.if-is_better-2.ensures)
