use Rattle.std.proofs.Common.{rules, arith, ◌≡◌, ◌+◌, ◌-◌, ◌-ℤ◌, ◌∙◌, sym, ap, pos, get_or, map, nat_eq, unsigned_abs}
use Rattle.std.proofs.Common.{Bool, true, false, [], ◌∷◌, ◌++◌, cond, FitsSigned, w64}
use Rattle.std.specs.Int.{w128}
use Rattle.std.proofs.lemmas.Int.{to_z-of_z}
use Rattle.lattice_theory.specs.Vectors.{dot}
use Rattle.fold_theory.specs.declared.Broken.TheVariants.{BrickRow}
use Rattle.fold_theory.specs.Breaks.{row_breaks, first_of}
use Rattle.fold_program.proofs.BreakLaws.{rests_from, row_breaks_step}
use Rattle.fold_program.proofs.program.breaks.missed_row_of.Goals as goal
use Rattle.fold_program.proofs.program.breaks.missed_row_of.Goals.{After-is_met}

-- what the test of the row says
test : (c : After-is_met) →
    c.is_met.result
    ≡ nat_eq (unsigned_abs (get_or c.args.right.now c.loop-at.at (pos 0) -ℤ dot c.row.result.now c.args.vector.now)) 0
test c =
    let right : FitsSigned w64 (get_or c.args.right.now c.loop-at.at (pos 0)) = search rules in
    let product : FitsSigned w128 c.dot.result = search rules in
    simp to_z-of_z at c.is_met.ensures
    ∙ ap (λ d. nat_eq (unsigned_abs (get_or c.args.right.now c.loop-at.at (pos 0) -ℤ d)) 0) c.dot.ensures.value

-- the first row from here on
step : (c : After-is_met) (b : Bool) → c.is_met.result ≡ b →
    first_of (row_breaks (BrickRow c.args.brick) (c.loop-at.at + 1)
    (map unsigned_abs (rests_from c.loop-at.at c.args.right.now c.args.matrix.now.rows c.args.vector.now)))
    ≡ first_of (cond b [] (BrickRow c.args.brick (c.loop-at.at + 1) ∷ [])
    ++ row_breaks (BrickRow c.args.brick) (c.loop-at.at + 1 + 1)
    (map unsigned_abs (rests_from (c.loop-at.at + 1) c.args.right.now c.args.matrix.now.rows c.args.vector.now)))
step c b is =
    let at : c.loop-at.at + 1 - 1 ≡ c.loop-at.at = omega arith in
    ap first_of (row_breaks_step (BrickRow c.args.brick) c.loop-at.at c.args.right.now c.args.matrix.now.rows
    c.args.vector.now c.row.result.now (search rules) (rw at at c.row.ensures.entries))
    ∙ ap (λ t. first_of (cond t [] (BrickRow c.args.brick (c.loop-at.at + 1) ∷ [])
    ++ row_breaks (BrickRow c.args.brick) (c.loop-at.at + 1 + 1)
    (map unsigned_abs (rests_from (c.loop-at.at + 1) c.args.right.now c.args.matrix.now.rows c.args.vector.now))))
    (sym (test c) ∙ is)

pub returns-then-not-is_met : goal.returns-then-not-is_met
returns-then-not-is_met c = sym (step c.before false c.if-not-is_met.true) ∙ c.loop-at.invariant

pub loop-at-preserved : goal.loop-at-preserved
loop-at-preserved c = sym (step c.before true c.if-not-is_met.false) ∙ c.loop-at.invariant
