use Rattle.std.proofs.Common.{◌≡◌, ◌+◌, ◌-◌, ◌∙◌, ap, sym, arith, rules, length, slice_get, FitsSigned}
use Rattle.std.specs.Int.{w128}
use Rattle.std.proofs.lemmas.Int.{to_z-of_z}
use Rattle.std.proofs.lemmas.List.{take_all}
use Rattle.fold_theory.specs.Programs.{link_rests}
use Rattle.fold_program.proofs.RestLaws.{take_next, length-rests, all_next}
use Rattle.fold_program.proofs.program.Program.rests.Goals as goal

pub loop-row-preserved : goal.loop-row-preserved
loop-row-preserved c =
    let rest : FitsSigned w128 c.rest.result = search rules in
    let place : c.loop-row.row + 1 - 1 ≡ c.loop-row.row = omega arith in
    let rests = link_rests c.args.self.now c.args.p.now in
    let pushed = simp to_z-of_z at c.in_ok-push.ensures.items in
    record {
      so_far =
          take_next rests c.loop-row.rests.items c.push.new.self.items c.loop-row.row c.rest.result
          (ap (slice_get rests) (sym place) ∙ c.rest.ensures.rest) pushed c.loop-row.invariant.so_far;
      small =
          all_next c.loop-row.rests.items c.push.new.self.items c.rest.result pushed c.loop-row.invariant.small
          c.rest.ensures.small;
    }

pub returns-clause-rests : goal.returns-clause-rests
returns-clause-rests c =
    c.loop-row.invariant.so_far
    ∙ take_all c.loop-row.row (link_rests c.args.self.now c.args.p.now) (
    omega (
      arith,
      length-rests c.args.self.now c.args.p.now c.n.ensures.program.right_size,
      c.loop-row-test.false,
      c.r-row-end.ensures.rows,
    )
    )

pub returns-clause-count : goal.returns-clause-count
returns-clause-count c =
    ap length (returns-clause-rests c) ∙ length-rests c.args.self.now c.args.p.now c.n.ensures.program.right_size
