use Rattle.std.proofs.Common.{None, arith, get_or, refl, rules, FitsSigned}
use Rattle.std.specs.Prelude.{IfSome}
use Rattle.std.specs.Int.{w128}
use Rattle.std.proofs.lemmas.Int.{to_z-of_z}
use Rattle.std.proofs.lemmas.Option.{slice_get-get_or}
use Rattle.lattice_theory.specs.SignedSums.{vectors}
use Rattle.layer_sieve.specs.Falls.{IsSpread}
use Rattle.layer_sieve.proofs.WiderLaws.{wider_none, wider_more, wider_all}
use Rattle.layer_sieve.proofs.tops.widen.Goals as goal

pub loop-h-init : goal.loop-h-init
loop-h-init c = wider_none c.args.tops.now c.spread-spread.result

pub loop-h-preserved : goal.loop-h-preserved
loop-h-preserved c =
    wider_more c.args.tops.now c.spread-spread.result c.loop-h.tops _ c.loop-h.h
    (get_or c.loop-h.tops c.loop-h.h None) c.wider.result
    (slice_get-get_or c.loop-h.tops c.loop-h.h None (omega (arith, c.loop-h-test.true, c.loop-h.auto.tops)))
    c.wider.ensures refl c.loop-h.invariant

pub returns : goal.returns
returns c =
    let limit : FitsSigned w128 c.args.limit = search rules in
    let spread : IfSome c.spread-spread.result (IsSpread c.args.next.now c.args.limit c.args.layer.now) =
    simp to_z-of_z at c.spread-spread.ensures in
    wider_all (vectors c.args._targets.now) c.args.limit c.args.next.now c.args.layer.now c.args.tops.now c.loop-h.tops
    c.spread-spread.result c.loop-h.h c.loop-h-test.false
    c.requires.kept spread c.requires.tops c.loop-h.invariant
