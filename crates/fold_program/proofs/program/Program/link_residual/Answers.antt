use Rattle.std.proofs.Common.{rules, arith, ◌≡◌, ◌≤◌, ◌-◌, ◌^◌, unsigned_abs, Some, slice_get, length, FitsSigned}
use Rattle.std.specs.Int.{w128}
use Rattle.std.proofs.lemmas.Int.{to_z-of_z}
use Rattle.fold_theory.specs.Programs.{link_misses, link_rests}
use Rattle.fold_program.proofs.MissLaws.{miss_there, misses_step, misses_none, misses_end, few_misses}
use Rattle.fold_program.proofs.program.Program.link_residual.Goals as goal
use Rattle.fold_program.proofs.program.Program.link_residual.Goals.{After-missed-residual}

-- what this row misses
here : (c : After-missed-residual) →
    slice_get (link_misses c.args.self.now (link_rests c.args.self.now c.args.p.now)) (c.loop-row.row - 1)
    ≡ Some c.missed-residual.result
here c =
    let fits : FitsSigned w128 c.rest.result = search rules in
    let missed = simp to_z-of_z at c.missed-residual.ensures.missed in
    miss_there c.args.self.now (link_rests c.args.self.now c.args.p.now) c.loop-row.row c.rest.result
    c.missed-residual.result missed c.rest.ensures.rest

-- is small
small : (c : After-missed-residual) → c.missed-residual.result ≤ 2 ^ 113
small c =
    let fits : FitsSigned w128 c.rest.result = search rules in
    let less : c.missed-residual.result ≤ unsigned_abs c.rest.result =
    simp to_z-of_z at c.missed-residual.ensures.small in
    omega (arith, less, c.rest.ensures.small)

pub loop-row-preserved : goal.loop-row-preserved
loop-row-preserved c =
    let step = misses_step (link_misses c.args.self.now (link_rests c.args.self.now c.args.p.now)) c.loop-row.row
    c.missed-residual.result c.loop-row.invariant.from (here c.before) in
    record {
      from = omega arith;
      to = omega (arith, c.loop-row-test.true, c.r-row-end.ensures.to);
      so_far = omega (arith, step, c.loop-row.invariant.so_far);
      small = omega (arith, small c.before, c.loop-row.invariant.small, c.loop-row.invariant.from);
    }

pub returns-clause-residual : goal.returns-clause-residual
returns-clause-residual c =
    let misses = link_misses c.args.self.now (link_rests c.args.self.now c.args.p.now) in
    let few : length misses ≤ c.loop-row.row - 1 =
    omega (
      arith,
      few_misses c.args.self.now c.args.p.now,
      c.r-row-end.ensures.rows,
      c.loop-row-test.false,
      c.loop-row.auto.row-end,
    ) in
    omega (arith, misses_none misses c.loop-row.row few, c.loop-row.invariant.so_far)

pub returns-clause-small : goal.returns-clause-small
returns-clause-small c = omega (arith, c.loop-row.invariant.small, c.loop-row.invariant.to)

pub returns-2-clause-residual : goal.returns-2-clause-residual
returns-2-clause-residual c =
    let misses = link_misses c.args.self.now (link_rests c.args.self.now c.args.p.now) in
    let step = misses_step misses c.loop-row.row c.missed-residual.result c.loop-row.invariant.from (here c.before) in
    let few : length misses ≤ c.loop-row.row =
    omega (arith, few_misses c.args.self.now c.args.p.now, c.r-row-end.ensures.rows) in
    omega (arith, step, misses_end misses c.loop-row.row few, c.loop-row.invariant.so_far)
