use Rattle.std.proofs.Common.{◌≡◌, max, map, drop, unsigned_abs}
use Rattle.lattice_theory.specs.Lists.{greatest}
use Rattle.convex_costs.proofs.lines.greatest_value.Given as goal

abbrev pub invariant-loop-p : goal.invariant-loop-p
invariant-loop-p l =
    max l.most (greatest (map (λ p. unsigned_abs p.value) (drop l.p-index l.points)))
    ≡ greatest (map (λ p. unsigned_abs p.value) l.points)
