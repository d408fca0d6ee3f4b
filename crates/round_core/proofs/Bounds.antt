-- What a sound round counts stays small.
use Rattle.std.proofs.Common.{◌+◌, ◌≤◌, List, [], ◌∷◌, length, sum_by, arith}
use Rattle.std.proofs.lemmas.List.Sums.{sum_by-cons}
use Rattle.round_core.specs.declared.parts.Worker.{Worker}
use Rattle.round_core.specs.Rounds.{Round}
use Rattle.round_core.proofs.Stands.{ended_once}
use Rattle.round_core.specs.Sound.{ended, IsSound}

ended_few : (ws : List Worker) → sum_by ended ws ≤ length ws
ended_few [] = omega arith
ended_few (w ∷ ws) =
    let a = sum_by-cons ended w ws in
    let b = ended_few ws in
    let d = ended_once w in
    omega (arith, a, b, d)

-- no more claims than lengths and workers
pub claims_few : (r : Round) → IsSound r → r.claims ≤ length r.lengths + length r.workers
claims_few r h = let a = h.counted in let b = ended_few r.workers in omega (arith, a, b)
