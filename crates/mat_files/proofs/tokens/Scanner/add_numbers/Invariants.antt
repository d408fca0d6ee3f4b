use Rattle.mat_files.specs.Reading.{repeated, next_number, IsAdded}
use Rattle.mat_files.proofs.tokens.Scanner.add_numbers.Given as goal

abbrev pub invariant-loop : goal.invariant-loop
invariant-loop l = IsAdded (repeated (next_number l.largest) l.counter l.fn.self) l.fn.numbers.items l.numbers.items
    l.self
