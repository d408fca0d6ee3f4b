use Rattle.std.proofs.Common.{◌≡◌, ◌+◌, ◌-◌, ◌^◌, arith, length, sym, ◌∙◌, take, suc, inl, inr}
use Rattle.std.proofs.lemmas.List.{take_all}
use Rattle.lattice_theory.specs.BasisLimits.{IsNarrow}
use Rattle.lattice_laws.proofs.Places.{contains_at, slice_get-All}
use Rattle.vector_sums.proofs.CallerLemmas.{IsSmall-below, IsBounded-below}
use Rattle.brick_sums.specs.Levels.{sums_of, HasBoth}
use Rattle.brick_sums.proofs.SumLaws.{IsSignedSum-width, IsSignedSum-small, All-take_more}
use Rattle.brick_sums.proofs.LevelLaws.{AreGrown-itself, AreGrown-trans, AreGrown-neighbours, HasNeighbours-kept}
use Rattle.brick_sums.proofs.FoundLaws.{AreLast-found}
use Rattle.brick_sums.proofs.growth.add_neighbours.Goals as goal

pub sum-requires-clause-same : goal.sum-requires-clause-same
sum-requires-clause-same c =
    c.row-e.ensures.width
    ∙ sym (IsSignedSum-width c.args.gens.now.cols c.args.gens.now.rows c.requires.even c.args.level _ c.requires.sum)

pub sum-requires-clause-bounded : goal.sum-requires-clause-bounded
sum-requires-clause-bounded c =
    IsBounded-below (2 ^ 46) _ (omega arith)
    (IsSignedSum-small c.args.gens.now.cols c.args.gens.now.rows c.requires.narrow c.args.level _ c.requires.low
    c.requires.sum)

pub sum-requires-clause-small : goal.sum-requires-clause-small
sum-requires-clause-small c =
    IsSmall-below (2 ^ 31) _ (omega arith)
    (slice_get-All IsNarrow c.args.gens.now.rows _ _ c.row-e.ensures.entries c.requires.narrow)

pub difference-requires-clause-same : goal.difference-requires-clause-same
difference-requires-clause-same c =
    c.row-e.ensures.width
    ∙ sym (IsSignedSum-width c.args.gens.now.cols c.args.gens.now.rows c.requires.even c.args.level _ c.requires.sum)

pub difference-requires-clause-bounded : goal.difference-requires-clause-bounded
difference-requires-clause-bounded c =
    IsBounded-below (2 ^ 46) _ (omega arith)
    (IsSignedSum-small c.args.gens.now.cols c.args.gens.now.rows c.requires.narrow c.args.level _ c.requires.low
    c.requires.sum)

pub difference-requires-clause-small : goal.difference-requires-clause-small
difference-requires-clause-small c =
    IsSmall-below (2 ^ 31) _ (omega arith)
    (slice_get-All IsNarrow c.args.gens.now.rows _ _ c.row-e.ensures.entries c.requires.narrow)

pub loop-row-init : goal.loop-row-init
loop-row-init c = record {
  grown = AreGrown-itself _ _ _ _ c.requires.so_far;
  last = c.requires.last;
  done = λ k d none. absurd (omega (arith, none));
}

-- the sum and the difference with this generator were offered
pub loop-row-preserved : goal.loop-row-preserved
loop-row-preserved c =
    let gens = c.args.gens.now.rows in
    let old = sums_of c.loop-row.found.levels.entries in
    let mid = sums_of c.offer.new.found.levels.entries in
    let new = sums_of c.offer-in-loop-row.new.found.levels.entries in
    let next : c.args.level + 1 ≡ suc c.args.level = omega arith in
    let place : c.loop-row.row + 1 - 1 ≡ c.loop-row.row = omega arith in
    let here = rw place at c.row-e.ensures.entries in
    let e = contains_at gens _ _ here in
    let both = AreGrown-neighbours c.args.gens.now.cols gens c.args.level _ next _ _ _ _ old mid new c.requires.sum
    e c.in_ok-sum.ensures c.in_ok-difference.ensures c.loop-row.invariant.grown.so_far
    c.in_ok-offer.ensures.offered c.in_ok-offer-2.ensures.offered in
    record {
      grown = AreGrown-trans _ _ _ _ _ _ c.loop-row.invariant.grown both.grew;
      last = AreLast-found c.args.gens.now.cols gens (suc c.args.level) _ _ mid new _ _ next
          (AreLast-found c.args.gens.now.cols gens (suc c.args.level) _ _ old mid _ _ next c.loop-row.invariant.last
          (c.args.before.now, c.row-e.result.now, c.requires.sum, e, inl c.in_ok-sum.ensures) c.in_ok-offer.ensures)
          (c.args.before.now, c.row-e.result.now, c.requires.sum, e, inr c.in_ok-difference.ensures)
          c.in_ok-offer-2.ensures;
      done = All-take_more (HasBoth new c.args.before.now) gens _ _ here
          (HasNeighbours-kept (take c.loop-row.row gens) _ old new both.grew.kept c.loop-row.invariant.done) both.there;
    }

pub returns-clause-done : goal.returns-clause-done
returns-clause-done c =
    let all : length c.args.gens.now.rows ≡ c.loop-row.row =
    omega (arith, c.rows-row-end.ensures, c.loop-row.auto.row-end, c.loop-row-test.false) in
    rw (take_all c.loop-row.row c.args.gens.now.rows (omega (arith, all))) at c.loop-row.invariant.done
