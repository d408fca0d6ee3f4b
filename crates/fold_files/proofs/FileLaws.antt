-- The files of a folder by their names, and the folder without one of them.
use Rattle.std.proofs.Common.{◌≡◌, ℕ, ◌^◌, Bool, false, true, List, [], ◌∷◌, ◌++◌, Option, Some, None, Result, Err}
use Rattle.std.proofs.Common.{cond, refl, ap, ◌∙◌, inl, inr, eq-eqb}
use Rattle.std.specs.Str.{bytes_eq}
use Rattle.std.proofs.lemmas.Bool.{cases_Bool}
use Rattle.std.proofs.lemmas.Slice.Eq.{bytes_eq-Decides}
use Rattle.mat_files.specs.declared.Shape.{Shape}
use Rattle.mat_files.specs.Tokens.{and_then}
use Rattle.mat_files.specs.MatrixText.{parsed_matrix}
use Rattle.fold_shelf.specs.Outside.{File, file_named, without}
use Rattle.fold_program.specs.declared.FileKind.{FileKind}
use Rattle.fold_program.specs.declared.FileKind.TheVariants as file
use Rattle.fold_program.specs.Files.{suffix_of}
use Rattle.fold_files.specs.declared.fault.ReadFault.{ReadFault}
use Rattle.fold_files.specs.declared.fault.ReadFault.TheVariants as read
use Rattle.fold_files.specs.CostText.{parsed_costs}
use Rattle.fold_files.specs.RelationText.{parsed_relations}
use Rattle.fold_files.specs.Reading.{bytes_of, as_form, matrix_of, as_relations, relations_of, as_costs, costs_of}

-- ---- names

same_front : (front a b : List ℕ) → bytes_eq (front ++ a) (front ++ b) ≡ bytes_eq a b
same_front [] a b = refl
same_front (x ∷ front) a b = rw (eq-eqb x x refl) (same_front front a b)

same_bytes : (a b : List ℕ) → bytes_eq a b ≡ true → a ≡ b
same_bytes a b same = (bytes_eq-Decides a b).0 same

-- a folder lacks the file that was taken out
lacks_removed : (files : List File) (name : List ℕ) → file_named (without files name) name ≡ None
lacks_removed [] name = refl
lacks_removed (f ∷ files) name =
    elim (cases_Bool (bytes_eq f.name name)) [
      | inl same ↦ rw same (lacks_removed files name)
      | inr other ↦ rw (other, other) (lacks_removed files name)
    ]

-- and has each other file
keeps_others : (files : List File) (removed name : List ℕ) → bytes_eq removed name ≡ false →
    file_named (without files removed) name ≡ file_named files name
keeps_others [] removed name differ = refl
keeps_others (f ∷ files) removed name differ =
    elim (cases_Bool (bytes_eq f.name removed)) [
      | inl same ↦
          let other : bytes_eq f.name name ≡ false =
          ap (λ (n : List ℕ). bytes_eq n name) (same_bytes f.name removed same) ∙ differ in
          rw (same, other) (keeps_others files removed name differ)
      | inr kept ↦ rw kept (ap (λ (found : Option (List ℕ)). cond (bytes_eq f.name name) (Some f.bytes) found)
          (keeps_others files removed name differ))
    ]

-- ---- files by their kinds

-- two kinds whose names have different ends
abbrev pub Differ : FileKind → FileKind → Type 0
Differ a b = bytes_eq (suffix_of a) (suffix_of b) ≡ false

module _ (files : List File) (prefix : List ℕ) (kind : FileKind) (most : ℕ) where
  -- reading stops at a file that was taken out
  pub bytes_of_removed : bytes_of (without files (prefix ++ suffix_of kind)) prefix kind most ≡ Err (read.Shelf kind)
  bytes_of_removed = rw (lacks_removed files (prefix ++ suffix_of kind), bytes_of) refl

  -- and at no other
  pub bytes_of_others : (other : FileKind) → Differ other kind →
      bytes_of (without files (prefix ++ suffix_of other)) prefix kind most ≡ bytes_of files prefix kind most
  bytes_of_others other differ =
      let kept : file_named (without files (prefix ++ suffix_of other)) (prefix ++ suffix_of kind) ≡ file_named files
      (prefix ++ suffix_of kind) =
      keeps_others files (prefix ++ suffix_of other) (prefix ++ suffix_of kind)
      (same_front prefix (suffix_of other) (suffix_of kind) ∙ differ) in
      rw (kept, bytes_of) refl

pub matrix_of_others : (files : List File) (prefix : List ℕ) (kind : FileKind) (shape : Shape) (other : FileKind) →
    Differ other kind
    → matrix_of (without files (prefix ++ suffix_of other)) prefix kind shape ≡ matrix_of files prefix kind shape
matrix_of_others files prefix kind shape other differ =
    ap (λ (read : Result (List ℕ) ReadFault). and_then read (λ bytes. as_form kind (parsed_matrix shape bytes)))
    (bytes_of_others files prefix kind (2 ^ 26) other differ)

module _ (files : List File) (prefix : List ℕ) (other : FileKind) where
  -- so of the costs
  pub costs_of_others : (n t : ℕ) → Differ other file.Costs →
      costs_of (without files (prefix ++ suffix_of other)) prefix n t ≡ costs_of files prefix n t
  costs_of_others n t differ =
      ap (λ (read : Result (List ℕ) ReadFault). and_then read (λ bytes. as_costs (parsed_costs n t bytes)))
      (bytes_of_others files prefix file.Costs (2 ^ 26) other differ)

  -- and of the relations
  pub relations_of_others : (asked : Bool) (r : ℕ) → Differ other file.Relations →
      relations_of (without files (prefix ++ suffix_of other)) prefix asked r ≡ relations_of files prefix asked r
  relations_of_others false r differ = refl
  relations_of_others true r differ =
      ap (λ (read : Result (List ℕ) ReadFault). and_then read (λ bytes. as_relations (parsed_relations r bytes)))
      (bytes_of_others files prefix file.Relations (2 ^ 26) other differ)
