use Rattle.std.proofs.Common.{length, map, take}
use Rattle.std.specs.List.{All}
use Rattle.lattice_theory.specs.Vectors.{dot}
use Rattle.lattice_theory.specs.BasisLimits.{IsNarrow}
use Rattle.listed_links.proofs.RowLaws.{Stands}
use Rattle.listed_links.proofs.images.link_matrix.Given as goal

abbrev pub invariant-loop-row : goal.invariant-loop-row
invariant-loop-row l = record {
  stands : Stands (length l.generators.rows) (map (λ row. map (dot row) l.generators.rows) (take l.row l.link.rows))
      l.row l.entries.items;
  narrow : All IsNarrow (map (λ row. map (dot row) l.generators.rows) (take l.row l.link.rows));
}
