use Rattle.std.proofs.Common.{arith, ◌≡◌, ◌≤◌, ◌+◌, ◌-◌, ◌∙◌, sym, ap, length, drop, map, unsigned_abs, ◌++◌}
use Rattle.fold_theory.specs.declared.Broken.TheVariants.{BrickRow}
use Rattle.lattice_theory.specs.Vectors.{sub}
use Rattle.lattice_theory.specs.Matrices.{product}
use Rattle.fold_theory.specs.Programs.{brick_rests}
use Rattle.fold_theory.specs.Breaks.{row_breaks, over_bricks, first_of}
use Rattle.fold_program.proofs.ViewLaws.{brick_rows_are}
use Rattle.fold_program.proofs.BreakLaws.{from_brick, first_of_some, first_of_none, over_bricks_end}
use Rattle.fold_program.proofs.program.Program.missed_brick_row.Goals as goal
use Rattle.fold_program.proofs.program.Program.missed_brick_row.Goals.{After-missed_row_of}

-- what this brick and those after it miss
step : (c : After-missed_row_of) →
    first_of (row_breaks (BrickRow c.loop-brick.brick) 1
    (map unsigned_abs (sub c.right_row-right.result.now (product c.self.inside.brick c.brick.result.now)))
    ++ over_bricks (λ i b v. row_breaks (BrickRow i) 1 (map unsigned_abs (brick_rests c.args.self.now b v)))
    (c.loop-brick.brick + 1) (drop (c.loop-brick.brick + 1 - 1) c.args.self.now.bricks)
    (drop (c.loop-brick.brick + 1 - 1) c.args.p.now))
    ≡ first_of (over_bricks (λ i b v. row_breaks (BrickRow i) 1 (map unsigned_abs (brick_rests c.args.self.now b v))) 1
    c.args.self.now.bricks c.args.p.now)
step c =
    let r = c.right_row-right.ensures.rights in
    let here = from_brick (λ i b v. row_breaks (BrickRow i) 1 (map unsigned_abs (brick_rests c.args.self.now b v)))
    c.loop-brick.brick c.args.self.now.bricks c.args.p.now r.0 c.brick.result.now c.loop-brick.invariant.from r.1
    c.brick.ensures.vector in
    let rows = ap
    (λ m. first_of
    (row_breaks (BrickRow c.loop-brick.brick) 1 (map unsigned_abs (sub (r.0).right (product m c.brick.result.now)))
    ++ over_bricks (λ i b v. row_breaks (BrickRow i) 1 (map unsigned_abs (brick_rests c.args.self.now b v)))
    (c.loop-brick.brick + 1) (drop (c.loop-brick.brick + 1 - 1) c.args.self.now.bricks)
    (drop (c.loop-brick.brick + 1 - 1) c.args.p.now)))
    (brick_rows_are _ _ c.self.invariant c.self.view_is) in
    rw r.2 (sym rows ∙ sym (ap first_of here)) ∙ c.loop-brick.invariant.rest

pub returns-in-Some : goal.returns-in-Some
returns-in-Some c = sym (first_of_some _ _ _ (sym c.in-Some.ensures)) ∙ step c.before

pub loop-brick-preserved : goal.loop-brick-preserved
loop-brick-preserved c =
    record { from = omega arith; rest = sym (first_of_none _ _ (sym c.in_default.ensures)) ∙ step c.before.before }

pub returns-in_default : goal.returns-in_default
returns-in_default c =
    let all : length c.args.self.now.bricks ≤ c.loop-brick.brick + 1 - 1 =
    omega (arith, c.n-brick-end.ensures.bricks) in
    let none = over_bricks_end (λ i b v. row_breaks (BrickRow i) 1 (map unsigned_abs (brick_rests c.args.self.now b v)))
    (c.loop-brick.brick + 1) (c.loop-brick.brick + 1 - 1) c.args.self.now.bricks c.args.p.now all in
    sym (ap first_of none) ∙ sym (first_of_none _ _ (sym c.in_default.ensures)) ∙ step c.before.before
