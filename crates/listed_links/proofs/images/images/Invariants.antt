use Rattle.std.proofs.Common.{◌≡◌, map, take}
use Rattle.lattice_theory.specs.Vectors.{dot}
use Rattle.lattice_theory.specs.BasisLimits.{IsNarrow}
use Rattle.listed_links.proofs.images.images.Given as goal

abbrev pub invariant-loop-generator : goal.invariant-loop-generator
invariant-loop-generator l = record {
  are : l.images.items ≡ map (dot l.row) (take l.generator l.generators.rows);
  narrow : IsNarrow l.images.items;
}
