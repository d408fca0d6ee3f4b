use Rattle.std.proofs.Common.{rules, arith, ◌≡◌, ◌<◌, ◌&&◌, ◌∙◌, sym, ap, not, pos, length, take, get_or, true, w64}
use Rattle.std.proofs.Common.{FitsSigned}
use Rattle.std.proofs.lemmas.Int.{to_z-of_z}
use Rattle.std.proofs.lemmas.List.{take_all}
use Rattle.std.proofs.lemmas.Bool.{not-false}
use Rattle.lattice_laws.proofs.Signs.{agrees}
use Rattle.lattice_laws.proofs.Conformal.{agree}
use Rattle.lattice_laws.proofs.Completion.{counts}
use Rattle.criterion_laws.proofs.Clashes.{counts_clash}
use Rattle.criterion_laws.proofs.Turned.{agree_clash}
use Rattle.complete_lists.proofs.ClashLaws.{agree-more}
use Rattle.complete_lists.proofs.clashes.first_clash.Goals as goal

pub returns-then-clashes-clause-first : goal.returns-then-clashes-clause-first
returns-then-clashes-clause-first c =
    let f = c.args.f.now in
    let g = c.args.g.now in
    let at = c.loop-at.at in
    let low : at < length f = omega arith in
    let entry : FitsSigned w64 (get_or f at (pos 0)) = search rules in
    let other : FitsSigned w64 (get_or g at (pos 0)) = search rules in
    let test = simp to_z-of_z at c.clashes.ensures in
    let counted : counts at f g ≡ true =
    ap (λ t. t && not (agrees (get_or f at (pos 0)) (get_or g at (pos 0)))) c.loop-at.invariant
    ∙ sym test ∙ c.if-clashes.true in
    sym (counts_clash at f g counted)

pub loop-at-preserved : goal.loop-at-preserved
loop-at-preserved c =
    let f = c.args.f.now in
    let g = c.args.g.now in
    let at = c.loop-at.at in
    let low : at < length f = omega arith in
    let entry : FitsSigned w64 (get_or f at (pos 0)) = search rules in
    let other : FitsSigned w64 (get_or g at (pos 0)) = search rules in
    let test = simp to_z-of_z at c.clashes.ensures in
    agree-more f g at low (omega (arith, c.requires.same)) c.loop-at.invariant
    (not-false (agrees (get_or f at (pos 0)) (get_or g at (pos 0))) (sym test ∙ c.if-clashes.false))

pub returns-clause-first : goal.returns-clause-first
returns-clause-first c =
    let f = c.args.f.now in
    let g = c.args.g.now in
    let at = c.loop-at.at in
    let all : take at f ≡ f = take_all at f (omega arith) in
    let others : take at g ≡ g = take_all at g (omega (arith, c.requires.same)) in
    sym (agree_clash f g (sym (λ i. agree (all i) (others i)) ∙ c.loop-at.invariant))
