use Rattle.std.proofs.Common.{◌+◌, ◌-◌, ◌/◌, ◌∙◌, sym}
use Rattle.listed_sums.specs.Places.{vectors_of}
use Rattle.listed_sums.proofs.PlaceLaws.{between-less, between-greater, found_there, found_nowhere}
use Rattle.listed_sums.proofs.places.place_of.Goals as goal

pub loop-low-preserved-in-Less : goal.loop-low-preserved-in-Less
loop-low-preserved-in-Less c =
    between-less (vectors_of c.args.sums.now.rows) c.args.w.now c.loop-low.low c.loop-low.high
    (c.loop-low.low + (c.loop-low.high - c.loop-low.low) / 2) c.vector_of.result.now c.requires.rising
    c.loop-low.invariant c.vector_of.ensures.sum (sym c.cmp_lex.ensures ∙ c.in-Less.is)

pub loop-low-preserved : goal.loop-low-preserved
loop-low-preserved c =
    between-greater (vectors_of c.args.sums.now.rows) c.args.w.now c.loop-low.low c.loop-low.high
    (c.loop-low.low + (c.loop-low.high - c.loop-low.low) / 2) c.vector_of.result.now c.requires.rising
    c.loop-low.invariant c.vector_of.ensures.sum (sym c.cmp_lex.ensures ∙ c.in-Greater.is)

pub returns-in-Equal-clause-place : goal.returns-in-Equal-clause-place
returns-in-Equal-clause-place c =
    found_there (vectors_of c.args.sums.now.rows) c.args.w.now
    (c.loop-low.low + (c.loop-low.high - c.loop-low.low) / 2) c.vector_of.result.now c.requires.rising
    c.vector_of.ensures.sum (sym c.cmp_lex.ensures ∙ c.in-Equal.is)

pub returns-clause-place : goal.returns-clause-place
returns-clause-place c =
    found_nowhere (vectors_of c.args.sums.now.rows) c.args.w.now c.loop-low.low c.loop-low.high c.loop-low.invariant
    c.loop-low-test.false
