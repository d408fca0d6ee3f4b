use Rattle.std.proofs.Common.{◌≡◌, nat_eq, true, false, arith, ap, ◌∙◌}
use Rattle.std.proofs.lemmas.Bool.Decides.{nat_tests}
use Rattle.fold_theory.specs.Programs.{brick_residual}
use Rattle.cert_checker.proofs.PointLaws.{row-passes, row-fails}
use Rattle.cert_checker.proofs.points.meet_brick_rows.Goals as goal

pub returns-then-residual-ne0 : goal.returns-then-residual-ne0
returns-then-residual-ne0 c =
    let p = c.args.program.now in
    let misses : nat_eq c.residual.result 0 ≡ false = grind (arith, nat_tests, c.if-residual-ne0.true) in
    let found = c.residual.ensures.value in
    row-fails (λ b v. nat_eq (brick_residual p b v) 0) p c.args.point.now.rows c.loop-before.before c.row.result.now
    (nat_eq c.residual.result 0) (found.0, found.1, ap (λ n. nat_eq n 0) found.2) c.row.ensures.entries misses
    c.loop-before.invariant

pub loop-before-preserved : goal.loop-before-preserved
loop-before-preserved c =
    let p = c.args.program.now in
    let meets : nat_eq c.residual.result 0 ≡ true = grind (arith, nat_tests, c.if-residual-ne0.false) in
    let found = c.residual.ensures.value in
    row-passes (λ b v. nat_eq (brick_residual p b v) 0) p c.args.point.now.rows c.loop-before.before c.row.result.now
    (nat_eq c.residual.result 0) (found.0, found.1, ap (λ n. nat_eq n 0) found.2) c.row.ensures.entries meets
    ∙ c.loop-before.invariant
