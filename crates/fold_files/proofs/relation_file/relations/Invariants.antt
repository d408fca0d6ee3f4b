use Rattle.std.proofs.Common.{◌≡◌, Ok, length}
use Rattle.mat_files.specs.Reading.{repeated}
use Rattle.fold_files.specs.RelationText.{next_relation}
use Rattle.fold_files.proofs.relation_file.relations.Given as goal

abbrev pub invariant-loop : goal.invariant-loop
invariant-loop l = record {
  read : repeated next_relation l.counter l.fn.tokens ≡ Ok (l.relations.items, l.tokens);
  many : length l.relations.items ≡ l.counter;
}
