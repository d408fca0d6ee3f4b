use Rattle.listed_links.proofs.RowLaws.{AreRead}
use Rattle.listed_links.proofs.kernels.generators.Given as goal

abbrev pub invariant-loop-row : goal.invariant-loop-row
invariant-loop-row l = AreRead l.cols l.basis.rows l.row l.count l.entries.items
