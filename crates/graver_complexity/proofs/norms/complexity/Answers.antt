use Rattle.std.proofs.Common.{◌≤◌, ◌+◌, ◌∙◌, arith, ap, sym, subst, length, take}
use Rattle.lattice_theory.specs.Vectors.{norm1}
use Rattle.run_theory.specs.Links.{counts_in}
use Rattle.lattice_laws.proofs.Elements.{width}
use Rattle.lattice_laws.proofs.SlackBases.{length-basis_element}
use Rattle.graver_complexity.proofs.NormLaws.{IsGreatest, greatest_none, greatest_counted, greatest_left, greatest_all}
use Rattle.graver_complexity.proofs.NormLaws.{cols-few}
use Rattle.graver_complexity.proofs.norms.complexity.Goals as goal
use Rattle.graver_complexity.proofs.norms.complexity.Goals.{then-counts, else-counts}

pub loop-i-init : goal.loop-i-init
loop-i-init c = greatest_none c.args.phase c.args.relations.now c.args.m.now c.args.b.now.elements _
    c.least_complexity-greatest.ensures

pub loop-i-preserved : goal.loop-i-preserved
loop-i-preserved c =
    let m = c.args.m.now in
    let elements = c.args.b.now.elements in
    let i = c.loop-i.i in
    let z = c.element-z.result.now in
    let cols = c.cols-cols.ensures.cols in
    let counts = ap (λ n. counts_in c.args.phase c.args.relations.now n z) (sym cols) ∙ sym c.counts.ensures in
    elim c.if-counts.branch [
      | then-counts w ↦
          subst (IsGreatest c.args.phase c.args.relations.now m elements (i + 1))
          (sym (w.greatest-is ∙ w.max-greatest.ensures))
          (greatest_counted c.args.phase c.args.relations.now m elements i z c.element-z.ensures.element
          c.loop-i.greatest
          w.first_norm.result (counts ∙ w.if-counts.true) (w.first_norm.ensures.norm ∙ ap (λ n. norm1 (take n z)) cols)
          w.first_norm.ensures.small c.loop-i.invariant)
      | else-counts w ↦
          subst (IsGreatest c.args.phase c.args.relations.now m elements (i + 1)) (sym w.greatest-is)
          (greatest_left c.args.phase c.args.relations.now m elements i z c.element-z.ensures.element c.loop-i.greatest
          (counts ∙ w.if-counts.false) c.loop-i.invariant)
    ]

pub counts-requires : goal.counts-requires
counts-requires c =
    omega (
      arith,
      c.requires.rows,
      c.cols-cols.ensures.cols,
      length-basis_element c.args.m.now c.args.b.now.elements c.loop-i.i c.element-z.result.now c.requires.basis
          c.element-z.ensures.element,
    )

pub first_norm-requires-clause-few : goal.first_norm-requires-clause-few
first_norm-requires-clause-few c =
    let few : length c.args.b.now.elements ≤ 2000 = omega (arith, c.len-i-end.ensures.len, c.len-i-end.ensures.few) in
    omega (
      arith,
      c.cols-cols.ensures.cols,
      cols-few c.args.m.now c.args.b.now.elements (width c.args.b.now.matrix) c.requires.basis c.len-i-end.ensures.each
          few,
    )

pub first_norm-requires-clause-within : goal.first_norm-requires-clause-within
first_norm-requires-clause-within c =
    omega (
      arith,
      c.cols-cols.ensures.cols,
      length-basis_element c.args.m.now c.args.b.now.elements c.loop-i.i c.element-z.result.now c.requires.basis
          c.element-z.ensures.element,
    )

pub returns : goal.returns
returns c =
    let all : length c.args.b.now.elements ≤ c.loop-i.i = omega (arith, c.loop-i-test.false, c.len-i-end.ensures.len) in
    record {
      complexity =
          greatest_all c.args.phase c.args.relations.now c.args.m.now c.args.b.now.elements c.loop-i.i c.loop-i.greatest
          all c.loop-i.invariant;
      from = c.loop-i.invariant.from;
      small = c.loop-i.invariant.small;
    }
