use Rattle.std.proofs.Common.{◌≡◌, ◌≤◌, ◌+◌, ◌-◌, ◌*◌, ◌^◌, ◌-ℤ◌, unsigned_abs, drop, map}
use Rattle.lattice_theory.specs.Lists.{total}
use Rattle.lattice_theory.specs.Vectors.{dot}
use Rattle.fold_program.proofs.program.Program.rest.Given as goal

abbrev pub invariant-loop-brick : goal.invariant-loop-brick
invariant-loop-brick l = record {
  from : 1 ≤ l.brick;
  left : l.rest -ℤ total (map (dot l.coefficients) (drop (l.brick - 1) l.p))
      ≡ l.initial.rest -ℤ total (map (dot l.coefficients) l.p);
  small : unsigned_abs l.rest ≤ 2 ^ 63 + 2 ^ 99 * (l.brick - 1);
}
