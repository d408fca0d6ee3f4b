-- Reading a program, and then another file.
use Rattle.std.proofs.Common.{◌≡◌, ℕ, ◌++◌, Bool, List, Result, Ok, Err, refl}
use Rattle.fold_theory.specs.Programs.{Program}
use Rattle.fold_shelf.specs.Outside.{File, Folder, without, ForTold}
use Rattle.mat_files.specs.Tokens.{and_then}
use Rattle.fold_program.specs.declared.FileKind.{FileKind}
use Rattle.fold_program.specs.declared.FileKind.TheVariants as file
use Rattle.fold_program.specs.Files.{suffix_of}
use Rattle.fold_files.specs.declared.ReadFault.{ReadFault}
use Rattle.fold_files.specs.Reading.{program_in}
use Rattle.fold_files.specs.Causes.{IsReadCause, IsOfFile}
use Rattle.fold_files.proofs.FileLaws.{Differ, matrix_of_others, relations_of_others, costs_of_others}
use Rattle.fold_files.proofs.CauseLaws.{cause_first, cause_rest}

-- the same first, and then the same
and_then_same : {A B : Type 0} (r s : Result A ReadFault) (f g : A → Result B ReadFault) → r ≡ s → ((a : A) → f a ≡ g a)
    → and_then r f ≡ and_then s g
and_then_same r (Ok a) f g same each = rw same (each a)
and_then_same r (Err e) f g same each = rw same refl

-- a kind of file of which a program does not depend
pub record IsBesideProgram (kind : FileKind) : Type 0 where
  pub link : Differ kind file.Link
  pub brick : Differ kind file.Brick
  pub lower : Differ kind file.Lower
  pub upper : Differ kind file.Upper
  pub right : Differ kind file.Right
  pub relations : Differ kind file.Relations
  pub costs : Differ kind file.Costs

pub point_is_beside : IsBesideProgram file.Point
point_is_beside = record {
  link = refl;
  brick = refl;
  lower = refl;
  upper = refl;
  right = refl;
  relations =
      refl;
  costs = refl;
}

pub certificate_is_beside : IsBesideProgram file.Cert
certificate_is_beside = record {
  link = refl;
  brick = refl;
  lower = refl;
  upper = refl;
  right = refl;
  relations =
      refl;
  costs = refl;
}

module _ (files : List File) (prefix : List ℕ) (kind : FileKind) (beside : IsBesideProgram kind) where
  program_without : (asked : Bool) → program_in (without files (prefix ++ suffix_of kind)) prefix asked ≡ program_in
      files prefix asked
  program_without asked =
      and_then_same _ _ _ _ (matrix_of_others files prefix file.Link _ kind beside.link) (λ link.
      and_then_same _ _ _ _ (matrix_of_others files prefix file.Brick _ kind beside.brick) (λ brick.
      and_then_same _ _ _ _ (matrix_of_others files prefix file.Lower _ kind beside.lower) (λ lower.
      and_then_same _ _ _ _ (matrix_of_others files prefix file.Upper _ kind beside.upper) (λ upper.
      and_then_same _ _ _ _ (matrix_of_others files prefix file.Right _ kind beside.right) (λ right.
      and_then_same _ _ _ _ (relations_of_others files prefix kind asked _ beside.relations) (λ relations.
      and_then_same _ _ _ _ (costs_of_others files prefix kind _ _ beside.costs) (λ costs. refl)))))))

-- where the program is read, the first fault of what is read after it is that of both
pub after_program : {A B : Type 0} (second : Program → List File → Result A ReadFault) (both : Program → A → B)
    (asked : Bool)
    (before now : Folder) (prefix : List ℕ) (f : ReadFault) (kind : FileKind) (p : Program) → IsBesideProgram kind
    → ForTold before.files (λ fs. program_in fs prefix asked ≡ Ok p) → IsOfFile kind f
    → IsReadCause (second p) before now prefix f
    → IsReadCause (λ fs. and_then (program_in fs prefix asked) (λ p. and_then (second p fs) (λ a. Ok (both p a))))
    before now prefix f
after_program second both asked before now prefix f kind p beside told same cause =
    cause_rest (λ fs. program_in fs prefix asked) (λ p fs. and_then (second p fs) (λ a. Ok (both p a))) before now
    prefix kind p
    (record { told = told; others = λ fs. program_without fs prefix kind beside asked }) f same
    (cause_first (second p) (λ a fs. Ok (both p a)) before now prefix f cause)
