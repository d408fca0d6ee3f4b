use Rattle.std.proofs.Common.{arith, ◌≡◌, ◌≤◌, ◌+◌, ◌-◌, ◌∙◌, sym, ap, length, drop, ◌++◌}
use Rattle.fold_theory.specs.Programs.{Brick}
use Rattle.fold_theory.specs.Breaks.{bound_breaks, over_bricks, first_of}
use Rattle.fold_program.proofs.ViewLaws.{same_some}
use Rattle.fold_program.proofs.BreakLaws.{from_brick, first_of_some, first_of_none, over_bricks_end}
use Rattle.fold_program.proofs.program.Program.broken_bound.Goals as goal
use Rattle.fold_program.proofs.program.Program.broken_bound.Goals.{After-broken_bound_of}

-- what this brick and those after it break
step : (c : After-broken_bound_of) →
    first_of (bound_breaks c.loop-brick.brick 1 c.lower_row-lower.result.now c.upper_row-upper.result.now
    c.brick.result.now
    ++ over_bricks (λ i b v. bound_breaks i 1 b.lower b.upper v) (c.loop-brick.brick + 1)
    (drop (c.loop-brick.brick + 1 - 1) c.args.self.now.bricks) (drop (c.loop-brick.brick + 1 - 1) c.args.p.now))
    ≡ first_of (over_bricks (λ i b v. bound_breaks i 1 b.lower b.upper v) 1 c.args.self.now.bricks c.args.p.now)
step c =
    let l = c.lower_row-lower.ensures.bounds in
    let u = c.upper_row-upper.ensures.bounds in
    let same : l.0 ≡ u.0 = same_some _ _ (sym l.1 ∙ u.1) in
    let upper : c.upper_row-upper.result.now ≡ (l.0).upper = u.2 ∙ ap (λ (b : Brick). b.upper) (sym same) in
    let here = from_brick (λ i b v. bound_breaks i 1 b.lower b.upper v) c.loop-brick.brick c.args.self.now.bricks
    c.args.p.now l.0 c.brick.result.now c.loop-brick.invariant.from l.1 c.brick.ensures.vector in
    rw (l.2, upper) (sym (ap first_of here)) ∙ c.loop-brick.invariant.rest

pub returns-in-Some : goal.returns-in-Some
returns-in-Some c = sym (first_of_some _ _ _ (sym c.in-Some.ensures)) ∙ step c.before

pub loop-brick-preserved : goal.loop-brick-preserved
loop-brick-preserved c =
    record { from = omega arith; rest = sym (first_of_none _ _ (sym c.in_default.ensures)) ∙ step c.before.before }

pub returns-in_default : goal.returns-in_default
returns-in_default c =
    let all : length c.args.self.now.bricks ≤ c.loop-brick.brick + 1 - 1 =
    omega (arith, c.n-brick-end.ensures.bricks) in
    let none = over_bricks_end (λ i b v. bound_breaks i 1 b.lower b.upper v) (c.loop-brick.brick + 1)
    (c.loop-brick.brick + 1 - 1) c.args.self.now.bricks c.args.p.now all in
    sym (ap first_of none) ∙ sym (first_of_none _ _ (sym c.in_default.ensures)) ∙ step c.before.before
