use Rattle.std.proofs.Common.{pos, get_or, arith, rules, w64, FitsSigned, refl}
use Rattle.std.proofs.lemmas.Int.{to_z-of_z}
use Rattle.layer_sieve.proofs.SumLaws.{written_more, written_all, wide_entry}
use Rattle.layer_sieve.proofs.targets.write_sum.Goals as goal

pub returns-in_default-clause-wide : goal.returns-in_default-clause-wide
returns-in_default-clause-wide c =
    let first : FitsSigned w64 (get_or c.args.first.now c.loop-at.at (pos 0)) = search rules in
    let second : FitsSigned w64 (get_or c.args.second.now c.loop-at.at (pos 0)) = search rules in
    let wide = simp to_z-of_z at c.in_default.ensures in
    wide_entry c.args.first.now c.args.second.now c.loop-at.at (omega (arith, c.requires.first, c.requires.second))
    (omega (arith, c.requires.first)) wide

pub loop-at-preserved : goal.loop-at-preserved
loop-at-preserved c =
    let first : FitsSigned w64 (get_or c.args.first.now c.loop-at.at (pos 0)) = search rules in
    let second : FitsSigned w64 (get_or c.args.second.now c.loop-at.at (pos 0)) = search rules in
    let entry : FitsSigned w64 c.in-Some.entry = search rules in
    let told = simp to_z-of_z at c.in-Some.ensures in
    simp to_z-of_z (
    written_more c.loop-at.into _ c.args.first.now c.args.second.now c.loop-at.at c.in-Some.entry
    (omega (arith, c.loop-at.auto.into)) refl told.1
    c.loop-at.invariant
    )

pub returns-clause-held : goal.returns-clause-held
returns-clause-held c =
    written_all c.loop-at.into c.args.first.now c.args.second.now c.loop-at.at
    (omega (arith, c.requires.first, c.requires.second))
    (omega (arith, c.requires.first)) c.loop-at.invariant
