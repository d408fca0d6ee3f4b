use Rattle.std.proofs.Common.{◌≡◌, ◌-ℤ◌, unsigned_abs, max}
use Rattle.lattice_theory.specs.Lists.{greatest, zip_with}
use Rattle.fold_program.proofs.program.sums.widest_of.Given as goal

abbrev pub invariant-loop-low : goal.invariant-loop-low
invariant-loop-low l =
    max l.widest (greatest
    (zip_with (λ a b. unsigned_abs (b -ℤ a)) l.low-iterator.a.rest.now l.low-iterator.b.rest.now))
    ≡ greatest (zip_with (λ a b. unsigned_abs (b -ℤ a)) l.lower l.upper)
