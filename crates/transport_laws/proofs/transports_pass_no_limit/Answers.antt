use Rattle.transport_laws.proofs.NoLimit.{none_passed}
use Rattle.transport_laws.proofs.transports_pass_no_limit.Goals as goal

pub returns : goal.returns
returns c =
    λ number bricks caps f few basis_room sums_room is. none_passed number bricks caps few basis_room sums_room f is
