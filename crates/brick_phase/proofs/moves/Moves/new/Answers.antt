use Rattle.std.proofs.Common.{◌≡◌, arith, refl, sym, subst, ◌∙◌}
use Rattle.lattice_laws.proofs.SlackBases.{length-basis_element}
use Rattle.brick_phase.proofs.MoveLaws.{ArePartsOf, ArePartsOf-more, AreMoves-all}
use Rattle.brick_phase.proofs.moves.Moves.new.Goals as goal

pub loop-i-preserved : goal.loop-i-preserved
loop-i-preserved c =
    let size = length-basis_element c.args.program.now.brick c.args.basis.now.elements c.loop-i.i c.element.result.now
    c.requires c.element.ensures.element in
    ArePartsOf-more c.t-cols.result c.args.basis.now.elements c.loop-i.i c.element.result.now _
    c.in_ok-from_slice.field-0 c.in_ok-opposite.field-0
    c.loop-i.vectors.items c.push.new.self.items c.push-in-loop-i.new.self.items c.element.ensures.element
    (omega (arith, size, c.t-cols.ensures.brick_cols))
    c.element.ensures.narrow refl c.in_ok-from_slice.ensures.items c.in_ok-opposite.ensures c.in_ok-push.ensures.items
    c.in_ok-push-2.ensures.items c.loop-i.invariant

pub returns : goal.returns
returns c =
    let cols : c.t-cols.result ≡ c.args.program.now.link.cols = c.t-cols.ensures.cols in
    AreMoves-all c.args.program.now c.args.basis.now.elements c.loop-i.i _ c.widest.result
    (sym c.t-cols.ensures.brick_cols ∙ cols)
    (omega (arith, c.len-i-end.ensures.len, c.loop-i-test.false))
    (subst (λ n. ArePartsOf n c.args.basis.now.elements c.loop-i.i c.loop-i.vectors.items) cols c.loop-i.invariant)
    c.widest.ensures.widest c.count.ensures.lengths c.count.ensures.few
