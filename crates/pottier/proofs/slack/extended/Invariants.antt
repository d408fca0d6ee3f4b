use Rattle.std.proofs.Common.{◌≡◌, map, take}
use Rattle.std.specs.List.{All}
use Rattle.lattice_theory.specs.BasisLimits.{IsNarrow}
use Rattle.pottier.specs.Stages.{with_product}
use Rattle.pottier.proofs.slack.extended.Given as goal

abbrev pub invariant-loop-place : goal.invariant-loop-place
invariant-loop-place l = record {
  products : l.extended ≡ map (with_product l.row) (take l.place l.members);
  narrow : All IsNarrow l.extended;
}
