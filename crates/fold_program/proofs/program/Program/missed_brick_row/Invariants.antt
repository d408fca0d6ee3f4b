use Rattle.std.proofs.Common.{◌≡◌, ◌≤◌, ◌-◌, drop, map, unsigned_abs}
use Rattle.fold_theory.specs.declared.Broken.TheVariants.{BrickRow}
use Rattle.fold_theory.specs.Programs.{brick_rests}
use Rattle.fold_theory.specs.Breaks.{row_breaks, over_bricks, first_of}
use Rattle.fold_program.proofs.program.Program.missed_brick_row.Given as goal

abbrev pub invariant-loop-brick : goal.invariant-loop-brick
invariant-loop-brick l = record {
  from : 1 ≤ l.brick;
  rest : first_of
      (over_bricks (λ i b v. row_breaks (BrickRow i) 1 (map unsigned_abs (brick_rests l.self b v))) l.brick
      (drop (l.brick - 1) l.self.bricks) (drop (l.brick - 1) l.p))
      ≡ first_of (over_bricks (λ i b v. row_breaks (BrickRow i) 1 (map unsigned_abs (brick_rests l.self b v))) 1
      l.self.bricks l.p);
}
