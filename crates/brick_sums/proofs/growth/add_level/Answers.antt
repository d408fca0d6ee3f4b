use Rattle.std.proofs.Common.{◌<◌, ◌≤◌, ◌∙◌, arith, ap, sym, subst, length, suc}
use Rattle.std.proofs.lemmas.List.{take_all, length-map}
use Rattle.std.proofs.lemmas.List.Elements.{All-weaker}
use Rattle.lattice_theory.specs.SignedSums.{Sum, IsSignedSum}
use Rattle.lattice_laws.proofs.Places.{slice_get-All}
use Rattle.brick_sums.specs.Levels.{sums_of, kept, AreLast, HasNeighbours}
use Rattle.brick_sums.proofs.SumLaws.{slice_get-map_read, All-take_more}
use Rattle.brick_sums.proofs.LevelLaws.{AreSums-so_far, AreSumsSoFar-exceeds, AreSums-next, AreGrown-itself}
use Rattle.brick_sums.proofs.LevelLaws.{AreGrown-trans, HasNeighbours-kept}
use Rattle.brick_sums.proofs.FoundLaws.{AreLast-none}
use Rattle.brick_sums.proofs.growth.add_level.Goals as goal

pub loop-before-init : goal.loop-before-init
loop-before-init c = record {
  grown = AreGrown-itself _ _ _ _ (AreSums-so_far _ _ _ _ c.requires.listed);
  last = subst (λ vs. AreLast c.args.gens.now.cols c.args.gens.now.rows (suc c.args.level)
      (sums_of c.args.found.now.levels.entries) (kept vs)) (sym (ap (λ v. v.items) c.replace-last.ensures.after
      ∙ c.new.ensures.items))
      (AreLast-none _ _ _ _ c.requires.listed);
  few = c.requires.few;
  done = λ k d none. absurd (omega (arith, none));
}

-- the vector is one of the last level
pub add_neighbours-requires-clause-sum : goal.add_neighbours-requires-clause-sum
add_neighbours-requires-clause-sum c =
    let here = slice_get-map_read (λ v. v.items) c.deref-before-items.result.now c.loop-before.before-index
    c.before-item.result c.loop-before-test.true c.before-item.is in
    let same = ap kept (c.deref-before-items.ensures.value ∙ ap (λ v. v.items) c.replace-last.ensures.value) in
    rw c.deref.ensures.value
    (slice_get-All (IsSignedSum c.args.gens.now.cols c.args.gens.now.rows c.args.level)
    (kept c.args.found.now.last.items) _ _ (rw same at here) c.requires.last.sound)

-- its sums with each generator came to those of the vectors before
pub loop-before-preserved : goal.loop-before-preserved
loop-before-preserved c =
    let gens = c.args.gens.now.rows in
    let now = sums_of c.loop-before.found.levels.entries in
    let new = sums_of c.add_neighbours.new.found.levels.entries in
    let here = slice_get-map_read (λ v. v.items) c.deref-before-items.result.now c.loop-before.before-index
    c.before-item.result c.loop-before-test.true c.before-item.is in
    let grown = c.in_ok-add_neighbours.ensures.grown in
    let few : length new ≤ c.args.most = omega (
      arith,
      c.len.ensures.len,
      c.if-len-most.false,
      length-map {B = Sum} c.add_neighbours.new.found.levels.entries (λ e. record {
        level = e.1;
        vector = e.0.items;
      }),
    ) in
    record {
      grown = AreGrown-trans _ _ _ _ _ _ c.loop-before.invariant.grown grown;
      last = c.in_ok-add_neighbours.ensures.last;
      few = few;
      done = All-take_more (HasNeighbours gens new) (kept c.deref-before-items.result.now) _ _ here
          (All-weaker (HasNeighbours gens now) (HasNeighbours gens new)
          (λ v done. HasNeighbours-kept gens v now new grown.kept done) _ c.loop-before.invariant.done)
          (rw c.deref.ensures.value at c.in_ok-add_neighbours.ensures.done);
    }

-- they are more than the limit
pub returns-then-len-most-clause-refused : goal.returns-then-len-most-clause-refused
returns-then-len-most-clause-refused c =
    let many : c.args.most < length (sums_of c.add_neighbours.new.found.levels.entries) =
    omega (
      arith,
      c.len.ensures.len,
      c.if-len-most.true,
      length-map {B = Sum} c.add_neighbours.new.found.levels.entries
          (λ e. record { level = e.1; vector = e.0.items }),
    ) in
    AreSumsSoFar-exceeds _ _ c.args.level c.args.most _ c.in_ok-add_neighbours.ensures.grown.so_far many

-- every vector of the last level was taken
pub returns-clause-sums : goal.returns-clause-sums
returns-clause-sums c =
    let gens = c.args.gens.now.rows in
    let same = ap kept (c.deref-before-items.ensures.value ∙ ap (λ v. v.items) c.replace-last.ensures.value) in
    let all : length (kept c.deref-before-items.result.now) ≤ c.loop-before.before-index =
    omega (arith, c.loop-before-test.false, length-map c.deref-before-items.result.now (λ v. v.items)) in
    AreSums-next _ _ c.args.level _ _ (kept c.args.found.now.last.items) c.requires.listed c.requires.last
    c.loop-before.invariant.grown
    (rw same at (rw (take_all _ _ all) at c.loop-before.invariant.done))

pub returns-clause-last : goal.returns-clause-last
returns-clause-last c = c.loop-before.invariant.last
