use Rattle.std.proofs.Common.{rules, FitsSigned, w64, get_or, pos, below_more, arith, subst}
use Rattle.std.proofs.lemmas.List.{get_or_default}
use Rattle.layer_sieve.specs.Targets.{IsWord}
use Rattle.layer_sieve.proofs.SumLaws.{word_of}
use Rattle.layer_sieve.proofs.targets.words.Goals as goal

pub loop-entry-preserved : goal.loop-entry-preserved
loop-entry-preserved c =
    let word : FitsSigned w64 (get_or c.args.vector.now c.loop-entry.entry-index (pos 0)) = search rules in
    below_more _ _ c.loop-entry.invariant (word_of (get_or c.args.vector.now c.loop-entry.entry-index (pos 0)) word)

pub returns : goal.returns
returns c = λ k d low. subst IsWord (get_or_default c.args.vector.now k (pos 0) d low)
    (c.loop-entry.invariant k (omega arith))
