use Rattle.std.proofs.Common.{◌≡◌, ◌≤◌, ◌-◌, drop}
use Rattle.fold_theory.specs.Breaks.{bound_breaks, over_bricks, first_of}
use Rattle.fold_program.proofs.program.Program.broken_bound.Given as goal

abbrev pub invariant-loop-brick : goal.invariant-loop-brick
invariant-loop-brick l = record {
  from : 1 ≤ l.brick;
  rest : first_of
      (over_bricks (λ i b v. bound_breaks i 1 b.lower b.upper v) l.brick (drop (l.brick - 1) l.self.bricks)
      (drop (l.brick - 1) l.p))
      ≡ first_of (over_bricks (λ i b v. bound_breaks i 1 b.lower b.upper v) 1 l.self.bricks l.p);
}
