-- Cost files: the costs that the tokens spell, or the place of the first token that cannot stand in its place.
use Rattle.std.specs.Prelude.{◌≡◌, ℕ, ◌*◌, ◌^◌, List, cond, Result, Ok, Err, bytes_eq, codes}
use Rattle.fold_theory.specs.declared.Cost.{Cost}
use Rattle.fold_theory.specs.declared.Cost.TheVariants.{Quadratic, Points}
use Rattle.fold_theory.specs.declared.Breakpoint.{Breakpoint}
use Rattle.mat_files.specs.declared.FaultKind.{FaultKind}
use Rattle.mat_files.specs.declared.FaultKind.TheVariants as kind
use Rattle.mat_files.specs.declared.TokenFault.{TokenFault}
use Rattle.mat_files.specs.Tokens.{Token, Left, and_then}
use Rattle.mat_files.specs.Reading.{Read, refused, next_token, next_number, next_count, repeated, only}
use Rattle.fold_files.specs.declared.fault.CostFileFault.{CostFileFault}
use Rattle.fold_files.specs.declared.fault.CostFileFault.TheVariants.{Syntax, Memory}

-- a place and the value there
abbrev pub next_breakpoint : Left → Read Breakpoint
next_breakpoint left =
    and_then (next_number (2 ^ 62) left) (λ at. and_then (next_number (2 ^ 62) at.1) (λ value.
    Ok (record { at = at.0; value = value.0 }, value.1)))

-- three numbers
abbrev pub next_quadratic : Left → Read Cost
next_quadratic left =
    and_then (next_number (2 ^ 62) left) (λ a. and_then (next_number (2 ^ 62) a.1) (λ b.
    and_then (next_number (2 ^ 62) b.1) (λ c. Ok (Quadratic a.0 b.0 c.0, c.1))))

-- a count of 1 to 1,000, and so many breakpoints
abbrev pub next_points : Left → Read Cost
next_points left =
    and_then (next_count 1 1000 kind.TooMany left) (λ m.
    and_then (repeated next_breakpoint m.0 m.1) (λ ps. Ok (Points ps.0, ps.1)))

-- the cost after its first token, which says of which form it is
abbrev pub cost_after : Token → Left → Read Cost
cost_after t left =
    cond (bytes_eq t.text (codes "q")) (next_quadratic left)
    (cond (bytes_eq t.text (codes "p")) (next_points left) (refused t.at kind.Word))

-- a cost
abbrev pub next_cost : Left → Read Cost
next_cost left = and_then (next_token left) (λ t. cost_after t.0 t.1)

-- the counts n and t, and then the costs of n bricks of t columns, brick by brick
abbrev pub next_costs : ℕ → ℕ → Left → Read (List Cost)
next_costs n t left =
    and_then (next_count n n kind.TooMany left) (λ bricks. and_then (next_count t t kind.TooMany bricks.1) (λ cols.
    repeated next_cost (n * t) cols.1))

-- of a fault its place alone is told, and whether memory ran out
abbrev pub cost_file_fault_of : ℕ → FaultKind → CostFileFault
cost_file_fault_of at kind.Memory = Memory
cost_file_fault_of at k = Syntax at

abbrev pub cost_file_fault : TokenFault → CostFileFault
cost_file_fault f = cost_file_fault_of f.at f.kind

abbrev pub cost_answer : {A : Type 0} → Result A TokenFault → Result A CostFileFault
cost_answer (Ok a) = Ok a
cost_answer (Err f) = Err (cost_file_fault f)

-- the costs that the bytes spell, or the place of the first token that is refused: the end where they end early
abbrev pub parsed_costs : ℕ → ℕ → List ℕ → Result (List Cost) CostFileFault
parsed_costs n t bytes = cost_answer (only (next_costs n t) bytes)

-- the fault is that of reading; want of memory may come at any time
abbrev pub IsCostFileFault : {A : Type 0} → Result A CostFileFault → CostFileFault → Type 0
IsCostFileFault read Memory = Unit {0}
IsCostFileFault read f = read ≡ Err f
