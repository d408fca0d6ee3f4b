use Rattle.std.proofs.Common.{◌≡◌}
use Rattle.lattice_laws.proofs.UnitVectors.{first_units}
use Rattle.pottier.proofs.slack.unit_vectors.Given as goal

abbrev pub invariant-loop-col : goal.invariant-loop-col
invariant-loop-col l = l.units ≡ first_units l.cols l.col
