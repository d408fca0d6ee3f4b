use Rattle.std.proofs.Common.{◌≡◌, ◌+◌, subst, rules, true, length, FitsSigned, Option}
use Rattle.std.specs.Int.{w128}
use Rattle.std.proofs.lemmas.Int.{to_z-of_z}
use Rattle.std.proofs.lemmas.Option.{MatchOption-at_none, MatchOption-at_some}
use Rattle.lattice_theory.specs.SignedSums.{vectors}
use Rattle.lattice_theory.specs.Vectors.{is_rising}
use Rattle.fold_theory.specs.Programs.{IsProgram}
use Rattle.run_theory.specs.declared.Key.{Key}
use Rattle.run_theory.specs.Keys.{IsNoWorse}
use Rattle.brick_dp.specs.Needs.{IsNeeded, IsHopeless, AreLayersUnder}
use Rattle.brick_dp.proofs.BestLaws.{zero_listed, unbeaten, under_some, under_none}
use Rattle.brick_dp.proofs.NeedLaws.{beaten_by_need}
use Rattle.brick_dp.proofs.best.best_step_with.Goals as goal

pub layers_under-requires-clause-zero : goal.layers_under-requires-clause-zero
layers_under-requires-clause-zero g c =
    zero_listed c.args.fold.now.sums _ c.args.fold.now.program.brick.cols c.zero.result c.sums.ensures.fold.widths
    c.sums.ensures.sums c.zero.ensures

pub returns-in_default-clause-answer : goal.returns-in_default-clause-answer
returns-in_default-clause-answer g c =
    let f = c.args.fold.now in
    let program : IsProgram f.program = subst IsProgram c.program-2.ensures c.n.ensures.program in
    let rising : is_rising (vectors f.sums) ≡ true = search rules in
    let hopeless : IsHopeless f c.args.point.now c.args.k (g.B.Bound.last c.layers_under.new.bound) =
    MatchOption-at_none (IsHopeless f c.args.point.now c.args.k (g.B.Bound.last c.layers_under.new.bound))
    (AreLayersUnder f c.args.point.now c.args.k (length f.program.bricks + 1)
    (g.B.Bound.last c.layers_under.new.bound)) c.in_default.is c.in_ok-layers.ensures.layers in
    beaten_by_need f c.args.point.now c.args.k program c.requires.start.within program.brick_shape.width
    c.sums.ensures.fold.widths
    (g.B.Bound.last c.layers_under.new.bound) hopeless.0 rising c.requires.length hopeless.1 hopeless.2

pub returns-in-Some-2-clause-answer : goal.returns-in-Some-2-clause-answer
returns-in-Some-2-clause-answer g c =
    let f = c.args.fold.now in
    let need : FitsSigned w128 c.needed-need.result = search rules in
    let needed : IsNeeded c.args.k (g.B.Bound.last c.now.new.self) c.needed-need.result =
    subst (λ (b : Option Key). IsNeeded c.args.k b c.needed-need.result) c.now.ensures.answer c.needed-need.ensures in
    let under = simp to_z-of_z at c.in_ok-step.ensures in
    let (found, enough, small) = under_some f c.args.point.now c.args.k c.needed-need.result c.in_ok-step.field-0
    c.in-Some-2.step under c.in-Some-2.is in (
      found,
      unbeaten f c.args.point.now c.args.k c.in-Some-2.step (g.B.Bound.last c.now.new.self) found
          (needed.enough c.in-Some-2.step.gain small enough),
    )

pub returns-clause-answer : goal.returns-clause-answer
returns-clause-answer g c =
    let f = c.args.fold.now in
    let program : IsProgram f.program = subst IsProgram c.program-2.ensures c.n.ensures.program in
    let rising : is_rising (vectors f.sums) ≡ true = search rules in
    let need : FitsSigned w128 c.needed-need.result = search rules in
    let needed : IsNeeded c.args.k (g.B.Bound.last c.now.new.self) c.needed-need.result =
    subst (λ (b : Option Key). IsNeeded c.args.k b c.needed-need.result) c.now.ensures.answer c.needed-need.ensures in
    let under = simp to_z-of_z at c.in_ok-step.ensures in
    let none = under_none f c.args.point.now c.args.k c.needed-need.result c.in_ok-step.field-0 under c.in-None.is in
    beaten_by_need f c.args.point.now c.args.k program c.requires.start.within program.brick_shape.width
    c.sums.ensures.fold.widths
    (g.B.Bound.last c.now.new.self) c.needed-need.result rising c.requires.length needed none

pub step_under-requires-clause-layers : goal.step_under-requires-clause-layers
step_under-requires-clause-layers g c =
    let f = c.args.fold.now in
    let need : FitsSigned w128 c.needed-need.result = search rules in
    let needed : IsNeeded c.args.k (g.B.Bound.last c.now.new.self) c.needed-need.result =
    subst (λ (b : Option Key). IsNeeded c.args.k b c.needed-need.result) c.now.ensures.answer c.needed-need.ensures in
    let under : AreLayersUnder f c.args.point.now c.args.k (length f.program.bricks + 1)
    (g.B.Bound.last c.layers_under.new.bound) c.in-Some.layers =
    MatchOption-at_some (IsHopeless f c.args.point.now c.args.k (g.B.Bound.last c.layers_under.new.bound))
    (AreLayersUnder f c.args.point.now c.args.k (length f.program.bricks + 1)
    (g.B.Bound.last c.layers_under.new.bound)) c.in-Some.layers c.in-Some.is c.in_ok-layers.ensures.layers in
    let better : IsNoWorse (g.B.Bound.last c.layers_under.new.bound) (g.B.Bound.last c.now.new.self) =
    subst (λ (b : Option Key). IsNoWorse (g.B.Bound.last c.layers_under.new.bound) b) c.now.ensures.answer
    c.now.ensures.better in
    simp to_z-of_z (under (g.B.Bound.last c.now.new.self) c.needed-need.result better needed)

pub returns-in-Some-2-clause-kept : goal.returns-in-Some-2-clause-kept
returns-in-Some-2-clause-kept g c =
    g.met.B.Bound.goes_on c.args.bound.now c.layers_under.new.bound c.now.new.self c.in_ok-layers.ensures.kept
    c.now.ensures.kept
