use Rattle.std.proofs.Common.{rules, arith, FitsSigned, ◌≡◌, ◌≤◌, ◌+◌, ◌-◌, ◌∙◌, sym, ap, length, drop, nat_eq, Bool}
use Rattle.std.proofs.Common.{true, false, [], ◌∷◌, ◌++◌, cond}
use Rattle.std.specs.Int.{w128}
use Rattle.std.proofs.lemmas.Bool.Decides.{nat_tests}
use Rattle.std.proofs.lemmas.Int.{to_z-of_z}
use Rattle.std.proofs.lemmas.List.{drop_all}
use Rattle.fold_theory.specs.declared.Broken.TheVariants.{LinkRow}
use Rattle.fold_theory.specs.Programs.{link_rests, link_misses}
use Rattle.fold_theory.specs.Breaks.{row_breaks, first_of}
use Rattle.fold_program.proofs.BreakLaws.{from_row, row_breaks_end}
use Rattle.fold_program.proofs.MissLaws.{miss_there, few_misses}
use Rattle.fold_program.proofs.program.Program.missed_link_row.Goals as goal
use Rattle.fold_program.proofs.program.Program.missed_link_row.Goals.{After-missed}

-- the first row from this one on
step : (c : After-missed) (b : Bool) → nat_eq c.missed.result 0 ≡ b →
    first_of (cond b [] (LinkRow c.loop-row.row ∷ []) ++ row_breaks LinkRow (c.loop-row.row + 1)
    (drop (c.loop-row.row + 1 - 1) (link_misses c.args.self.now (link_rests c.args.self.now c.args.p.now))))
    ≡ first_of (row_breaks LinkRow 1 (link_misses c.args.self.now (link_rests c.args.self.now c.args.p.now)))
step c b is =
    let fits : FitsSigned w128 c.rest.result = search rules in
    let missed = simp to_z-of_z at c.missed.ensures.missed in
    let there = miss_there c.args.self.now (link_rests c.args.self.now c.args.p.now) c.loop-row.row c.rest.result
    c.missed.result missed c.rest.ensures.rest in
    let here = from_row LinkRow c.loop-row.row (link_misses c.args.self.now (link_rests c.args.self.now c.args.p.now))
    c.missed.result c.loop-row.invariant.from there in
    sym (ap first_of here
    ∙ ap (λ t. first_of
    (cond t [] (LinkRow c.loop-row.row ∷ []) ++ row_breaks LinkRow (c.loop-row.row + 1)
    (drop (c.loop-row.row + 1 - 1) (link_misses c.args.self.now (link_rests c.args.self.now c.args.p.now))))) is)
    ∙ c.loop-row.invariant.rest

pub returns-then-missed-ne0 : goal.returns-then-missed-ne0
returns-then-missed-ne0 c = step c.before false (grind (arith, nat_tests))

pub loop-row-preserved : goal.loop-row-preserved
loop-row-preserved c = record { from = omega arith; rest = step c.before.before true (grind (arith, nat_tests)) }

pub returns-else-missed-ne0 : goal.returns-else-missed-ne0
returns-else-missed-ne0 c =
    let few = few_misses c.args.self.now c.args.p.now in
    let none = row_breaks_end LinkRow c.loop-row.row
    (link_misses c.args.self.now (link_rests c.args.self.now c.args.p.now))
    (omega (arith, few, c.r-row-end.ensures.rows)) in
    sym (ap first_of none) ∙ step c.before.before true (grind (arith, nat_tests))

pub returns : goal.returns
returns c =
    let misses = link_misses c.args.self.now (link_rests c.args.self.now c.args.p.now) in
    let few : length misses ≤ c.loop-row.row - 1 =
    omega (
      arith,
      few_misses c.args.self.now c.args.p.now,
      c.r-row-end.ensures.rows,
      c.loop-row-test.false,
      c.loop-row.auto.row-end,
    ) in
    sym (ap (λ ms. first_of (row_breaks LinkRow c.loop-row.row ms)) (drop_all (c.loop-row.row - 1) misses few))
    ∙ c.loop-row.invariant.rest
