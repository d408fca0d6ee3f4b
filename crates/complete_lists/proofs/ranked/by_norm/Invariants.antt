use Rattle.std.proofs.Common.{◌≡◌, length, take}
use Rattle.std.specs.List.{All}
use Rattle.complete_lists.specs.Ranks.{rows_in}
use Rattle.complete_lists.proofs.ranked.by_norm.Given as goal

abbrev pub invariant-loop-place : goal.invariant-loop-place
invariant-loop-place l = record {
  rows : rows_in l.ranked.items ≡ take l.place l.basis.rows;
  widths : All (λ v. length v ≡ l.basis.cols) (rows_in l.ranked.items);
}
