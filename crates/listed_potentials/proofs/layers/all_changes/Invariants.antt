use Rattle.std.proofs.Common.{◌≡◌, ◌^◌, map, take, All}
use Rattle.listed_sums.specs.Places.{vectors_of}
use Rattle.listed_potentials.specs.Moves as moves
use Rattle.listed_potentials.specs.Sizes.{AreSmall}
use Rattle.listed_potentials.proofs.layers.all_changes.Given as goal

abbrev pub invariant-loop-before : goal.invariant-loop-before
invariant-loop-before l = record {
  are : map (λ cs. cs.items) l.all.items
      ≡ take l.before (moves.all_changes l.phase (vectors_of l.sums.rows) l.program.bricks l.point);
  small : All (λ cs. AreSmall (2 ^ 121) cs.items) l.all.items;
}
