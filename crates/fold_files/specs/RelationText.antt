-- Relation files: the relations that the tokens spell, or the place of the first token that cannot stand in its place.
use Rattle.std.specs.Prelude.{◌≡◌, ℕ, List, cond, Result, Ok, Err, bytes_eq, codes}
use Rattle.fold_theory.specs.declared.Relation.{Relation}
use Rattle.fold_theory.specs.declared.Relation.TheVariants.{Equal, Less, Greater}
use Rattle.mat_files.specs.declared.FaultKind.{FaultKind}
use Rattle.mat_files.specs.declared.FaultKind.TheVariants as kind
use Rattle.mat_files.specs.declared.TokenFault.{TokenFault}
use Rattle.mat_files.specs.Tokens.{Token, Left, and_then}
use Rattle.mat_files.specs.Reading.{Read, refused, next_by, next_size, repeated, only}
use Rattle.fold_files.specs.declared.fault.RelationFault.{RelationFault}
use Rattle.fold_files.specs.declared.fault.RelationFault.TheVariants.{Syntax, Memory}

-- the relation whose sign the token is
abbrev pub relation_at : Token → Result Relation TokenFault
relation_at t =
    cond (bytes_eq t.text (codes "=")) (Ok Equal)
    (cond (bytes_eq t.text (codes "<")) (Ok Less)
    (cond (bytes_eq t.text (codes ">")) (Ok Greater) (refused t.at kind.Word)))

abbrev pub next_relation : Left → Read Relation
next_relation left = next_by relation_at left

-- the numbers 1 and r, and then a relation for each of r rows
abbrev pub next_relations : ℕ → Left → Read (List Relation)
next_relations r left =
    and_then (next_size 1 1 left) (λ one. and_then (next_size r r one.1) (λ rows. repeated next_relation r rows.1))

-- of a fault its place alone is told, and whether memory ran out
abbrev pub relation_fault_of : ℕ → FaultKind → RelationFault
relation_fault_of at kind.Memory = Memory
relation_fault_of at k = Syntax at

abbrev pub relation_fault : TokenFault → RelationFault
relation_fault f = relation_fault_of f.at f.kind

abbrev pub relation_answer : {A : Type 0} → Result A TokenFault → Result A RelationFault
relation_answer (Ok a) = Ok a
relation_answer (Err f) = Err (relation_fault f)

-- the relations of r rows that the bytes spell, or the place of the first token that is refused: the end where they end
-- early
abbrev pub parsed_relations : ℕ → List ℕ → Result (List Relation) RelationFault
parsed_relations r bytes = relation_answer (only (next_relations r) bytes)

-- the fault is that of reading; want of memory may come at any time
abbrev pub IsRelationFault : {A : Type 0} → Result A RelationFault → RelationFault → Type 0
IsRelationFault read Memory = Unit {0}
IsRelationFault read f = read ≡ Err f
