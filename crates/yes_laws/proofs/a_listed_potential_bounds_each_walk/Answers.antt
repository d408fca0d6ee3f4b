use Rattle.yes_laws.proofs.Layers.{walk_bound}
use Rattle.yes_laws.proofs.a_listed_potential_bounds_each_walk.Goals as goal

pub returns : goal.returns
returns c = walk_bound
