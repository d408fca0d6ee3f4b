use Rattle.std.proofs.Common.{arith, ◌≡◌, ◌≤◌, ◌+◌, ◌-◌, ◌∙◌, sym, ap, length, drop, true, false}
use Rattle.lattice_theory.specs.Vectors.{is_rising}
use Rattle.complete_lists.proofs.ScanLaws.{is_rising-at, is_rising-end}
use Rattle.listed_sums.specs.Places.{vectors_of}
use Rattle.listed_sums.proofs.RowLaws.{length-vectors_of}
use Rattle.listed_sums.proofs.closure.is_rising.Goals as goal

pub returns-then-not-is_less : goal.returns-then-not-is_less
returns-then-not-is_less c =
    let place : c.loop-place.place ≡ c.loop-place.place - 1 + 1 = omega (arith, c.loop-place.invariant.from) in
    let next = rw place at c.vector_of-in-loop-place.ensures.sum in
    sym (is_rising-at (vectors_of c.args.sums.now.rows) (c.loop-place.place - 1) c.vector_of.result.now
    c.vector_of-in-loop-place.result.now false c.vector_of.ensures.sum next
    (sym c.is_less.ensures ∙ c.if-not-is_less.true)) ∙ c.loop-place.invariant.rest

pub loop-place-preserved : goal.loop-place-preserved
loop-place-preserved c =
    let place : c.loop-place.place ≡ c.loop-place.place - 1 + 1 = omega (arith, c.loop-place.invariant.from) in
    let after : c.loop-place.place + 1 - 1 ≡ c.loop-place.place - 1 + 1 = omega (arith, c.loop-place.invariant.from) in
    let next = rw place at c.vector_of-in-loop-place.ensures.sum in
    record {
      from = omega arith;
      rest = ap (λ i. is_rising (drop i (vectors_of c.args.sums.now.rows))) after
          ∙ sym (is_rising-at (vectors_of c.args.sums.now.rows) (c.loop-place.place - 1) c.vector_of.result.now
          c.vector_of-in-loop-place.result.now true c.vector_of.ensures.sum next
          (sym c.is_less.ensures ∙ c.if-not-is_less.false)) ∙ c.loop-place.invariant.rest;
    }

pub returns : goal.returns
returns c =
    let past : length (vectors_of c.args.sums.now.rows) ≤ c.loop-place.place - 1 + 1 =
    omega (
      arith,
      length-vectors_of c.args.sums.now.rows,
      c.rows-place-end.ensures,
      c.loop-place-test.false,
      c.loop-place.invariant.from,
    ) in
    sym (is_rising-end (vectors_of c.args.sums.now.rows) (c.loop-place.place - 1) past) ∙ c.loop-place.invariant.rest
