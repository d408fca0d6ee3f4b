-- What the cause of a fault of one call is to its caller.
use Rattle.std.proofs.Common.{◌≡◌, ℕ, List, ◌++◌, length, Option, Result, Ok, Err, IfErr, IsErrAnd, refl, ap, sym}
use Rattle.std.proofs.Common.{subst, ◌∙◌, inr}
use Rattle.std.proofs.lemmas.Bool.{lt-ltb}
use Rattle.lattice_theory.specs.Matrices.{Matrix}
use Rattle.fold_shelf.specs.declared.LoadFault.{LoadFault}
use Rattle.fold_shelf.specs.declared.LoadFault.TheVariants as loading
use Rattle.fold_shelf.specs.Outside.{File, Folder, file_named, without, ForTold, ReadFailed, OnlyReads, IsMissing}
use Rattle.fold_shelf.specs.Outside.{IsLoadCause}
use Rattle.fold_shelf.proofs.Counts.{rose_since, missing_as}
use Rattle.fold_shelf.proofs.Reading.{ForTold-both}
use Rattle.fold_files.proofs.ToldLaws.{ForTold-all, ForTold-weaker}
use Rattle.mat_files.specs.declared.MatFault.{MatFault}
use Rattle.mat_files.specs.declared.MatFault.TheVariants as mat
use Rattle.mat_files.specs.Tokens.{and_then}
use Rattle.mat_files.specs.MatrixText.{IsMatFault}
use Rattle.fold_program.specs.declared.FileKind.{FileKind}
use Rattle.fold_program.specs.Files.{suffix_of}
use Rattle.fold_files.specs.declared.fault.CostFileFault.{CostFileFault}
use Rattle.fold_files.specs.declared.fault.CostFileFault.TheVariants as cost
use Rattle.fold_files.specs.declared.fault.RelationFault.{RelationFault}
use Rattle.fold_files.specs.declared.fault.RelationFault.TheVariants as relation
use Rattle.fold_files.specs.declared.fault.ReadFault.{ReadFault}
use Rattle.fold_files.specs.declared.fault.ReadFault.TheVariants as read
use Rattle.fold_files.specs.CostText.{IsCostFileFault}
use Rattle.fold_files.specs.RelationText.{IsRelationFault}
use Rattle.fold_files.specs.Reading.{bytes_of, as_form}
use Rattle.fold_files.specs.Faults.{load_fault, form_fault, costs_fault, relations_fault}
use Rattle.fold_files.specs.Causes.{IsReadCause, IsOfFile}
use Rattle.fold_files.proofs.FileLaws.{bytes_of_removed}

-- ---- a call after others that only read

module _ (before mid : Folder) (reads : OnlyReads before mid) where
  -- the same is told before them
  pub told_before : (P : List File → Type 0) → ForTold mid.files P → ForTold before.files P
  told_before P told = subst (λ (o : Option (List File)). ForTold o P) reads.files told

  module _ (now : Folder) where
    missing_before : (name : List ℕ) → IsMissing mid.files name (ReadFailed mid now) →
        IsMissing before.files name (ReadFailed before now)
    missing_before name missing =
        subst (λ (o : Option (List File)). IsMissing o name (ReadFailed before now)) reads.files
        (missing_as mid.files name (ReadFailed mid now) (ReadFailed before now)
        (rose_since before.read_faults mid.read_faults now.read_faults reads.later) missing)

    -- and a fault has the same cause
    pub cause_before : {A : Type 0} (found : List File → Result A ReadFault) (prefix : List ℕ) (f : ReadFault) →
        IsReadCause found mid now prefix f → IsReadCause found before now prefix f
    cause_before found prefix (read.Shelf kind) (missing, reaches) =
        (missing_before (prefix ++ suffix_of kind) missing, told_before _ reaches)
    cause_before found prefix read.Memory cause = tt
    cause_before found prefix (read.TooLong kind) (content, stops) = (content, told_before _ stops)
    cause_before found prefix (read.Form kind fault) (content, stops) = (content, told_before _ stops)
    cause_before found prefix (read.Costs at) (content, stops) = (content, told_before _ stops)
    cause_before found prefix (read.Relations at) (content, stops) = (content, told_before _ stops)
    cause_before found prefix (read.Program fault) (content, stops) = (content, told_before _ stops)

-- ---- one thing read after the other

module _ {A B : Type 0} (first : List File → Result A ReadFault) (rest : A → List File → Result B ReadFault) where
  -- first the one, and then the other on what that gives
  abbrev pub both : List File → Result B ReadFault
  both files = and_then (first files) (λ a. rest a files)

  stops_first : (files : Option (List File)) (f : ReadFault) → ForTold files (λ fs. first fs ≡ Err f) →
      ForTold files (λ fs. both fs ≡ Err f)
  stops_first files f stops = ForTold-weaker files _ _ (λ fs e. rw e refl) stops

  module _ (before now : Folder) (prefix : List ℕ) where
    -- the first fault of the first is that of both
    pub cause_first : (f : ReadFault) → IsReadCause first before now prefix f → IsReadCause both before now prefix f
    cause_first (read.Shelf kind) (missing, reaches) =
        (missing, ForTold-weaker before.files _ _ (λ fs e. rw e refl) reaches)
    cause_first read.Memory cause = tt
    cause_first (read.TooLong kind) (content, stops) = (content, stops_first before.files _ stops)
    cause_first (read.Form kind fault) (content, stops) = (content, stops_first before.files _ stops)
    cause_first (read.Costs at) (content, stops) = (content, stops_first before.files _ stops)
    cause_first (read.Relations at) (content, stops) = (content, stops_first before.files _ stops)
    cause_first (read.Program fault) (content, stops) = (content, stops_first before.files _ stops)

  -- the first gives this, also without a file of this kind
  pub record Passes (files : Option (List File)) (prefix : List ℕ) (kind : FileKind) (a : A) : Type 0 where
    pub told : ForTold files (λ fs. first fs ≡ Ok a)
    pub others : (fs : List File) → first (without fs (prefix ++ suffix_of kind)) ≡ first fs

  module _ (before now : Folder) (prefix : List ℕ) (kind : FileKind) (a : A)
      (passes : Passes before.files prefix kind a) where
    stops_rest : (f : ReadFault) → ForTold before.files (λ fs. rest a fs ≡ Err f)
        → ForTold before.files (λ fs. both fs ≡ Err f)
    stops_rest f stops = ForTold-both before.files _ _ _ (λ fs e r. rw e r) passes.told stops

    -- where the first gives something, the first fault of the other on it is that of both
    pub cause_rest : (f : ReadFault) → IsOfFile kind f → IsReadCause (rest a) before now prefix f →
        IsReadCause both before now prefix f
    cause_rest (read.Shelf k) same (missing, reaches) = (
      missing,
      ForTold-both before.files _ _ _ (λ fs e r.
          let there : first (without fs (prefix ++ suffix_of k)) ≡ Ok a =
          ap (λ (k : FileKind). first (without fs (prefix ++ suffix_of k))) same ∙ passes.others fs ∙ e in
          rw there r) passes.told reaches,
    )
    cause_rest read.Memory same cause = tt
    cause_rest (read.TooLong k) same (content, stops) = (content, stops_rest _ stops)
    cause_rest (read.Form k fault) same (content, stops) = (content, stops_rest _ stops)
    cause_rest (read.Costs at) same (content, stops) = (content, stops_rest _ stops)
    cause_rest (read.Relations at) same (content, stops) = (content, stops_rest _ stops)
    cause_rest (read.Program fault) same (content, stops) = (content, stops_rest _ stops)

-- ---- the faults of the calls below

-- why a file is not loaded is why its bytes are not read
pub load_refused : (before now : Folder) (prefix name : List ℕ) (kind : FileKind) (most : ℕ) (fault : LoadFault)
    → name ≡ prefix ++ suffix_of kind → IsLoadCause before now name most fault
    → IsReadCause (λ fs. bytes_of fs prefix kind most) before now prefix (load_fault kind fault)
load_refused before now prefix name kind most loading.Missing is cause = (
  subst (λ (n : List ℕ). IsMissing before.files n (ReadFailed before now)) is cause,
  ForTold-all before.files _ (λ fs. bytes_of_removed fs prefix kind most),
)
load_refused before now prefix name kind most loading.Failed is cause =
    (inr cause, ForTold-all before.files _ (λ fs. bytes_of_removed fs prefix kind most))
load_refused before now prefix name kind most loading.TooLong is cause = (
  tt,
  ForTold-weaker before.files _ _ (λ fs long.
      let there = ap (λ (n : List ℕ). file_named fs n) (sym is) ∙ long.1 in
      rw (there, lt-ltb most (length long.0) long.2, bytes_of) refl) cause,
)
load_refused before now prefix name kind most loading.Memory is cause = tt

-- what the bytes of a file spell is refused
module _ (before now : Folder) (prefix : List ℕ) (found : List File → Result (List ℕ) ReadFault) (bytes : List ℕ)
    (told : ForTold before.files (λ fs. found fs ≡ Ok bytes)) where
  stops_then : {A : Type 0} (next : List ℕ → Result A ReadFault) (f : ReadFault) → next bytes ≡ Err f →
      ForTold before.files (λ fs. and_then (found fs) next ≡ Err f)
  stops_then next f stops = ForTold-weaker before.files _ _ (λ fs e. rw e stops) told

  module _ (kind : FileKind) (parsed : List ℕ → Result Matrix MatFault) where
    -- the matrix that the bytes make
    abbrev pub formed : List ℕ → Result Matrix ReadFault
    formed b = as_form kind (parsed b)

    stops_form : (f : MatFault) → parsed bytes ≡ Err f
        → ForTold before.files (λ fs. and_then (found fs) formed ≡ Err (read.Form kind f))
    stops_form f refused = stops_then formed (read.Form kind f) (ap (as_form kind) refused)

    -- why a matrix file is refused is why no matrix is read
    pub form_refused : (fault : MatFault) → IsMatFault (parsed bytes) fault →
        IsReadCause (λ fs. and_then (found fs) formed) before now prefix (form_fault kind fault)
    form_refused mat.Memory is = tt
    form_refused (mat.NotNumber at) is = (tt, stops_form (mat.NotNumber at) is)
    form_refused (mat.NoBound at) is = (tt, stops_form (mat.NoBound at) is)
    form_refused (mat.TooBig at) is = (tt, stops_form (mat.TooBig at) is)
    form_refused (mat.EndsEarly at) is = (tt, stops_form (mat.EndsEarly at) is)
    form_refused (mat.Extra at) is = (tt, stops_form (mat.Extra at) is)
    form_refused (mat.Shape at got from to) is = (tt, stops_form (mat.Shape at got from to) is)

  -- why the cost file is refused is why no costs are read
  pub costs_refused : {A : Type 0} (parsed : List ℕ → Result A CostFileFault)
      (kept : Result A CostFileFault → Result A ReadFault)
      → ((f : CostFileFault) → kept (Err f) ≡ Err (costs_fault f)) → (fault : CostFileFault)
      → IsCostFileFault (parsed bytes) fault
      → IsReadCause (λ fs. and_then (found fs) (λ b. kept (parsed b))) before now prefix (costs_fault fault)
  costs_refused parsed kept stays cost.Memory is = tt
  costs_refused parsed kept stays (cost.Syntax at) is =
      (tt, stops_then (λ b. kept (parsed b)) (read.Costs at) (ap kept is ∙ stays (cost.Syntax at)))

  -- and so of the relation file
  pub relations_refused : {A : Type 0} (parsed : List ℕ → Result A RelationFault)
      (kept : Result A RelationFault → Result A ReadFault)
      → ((f : RelationFault) → kept (Err f) ≡ Err (relations_fault f)) → (fault : RelationFault)
      → IsRelationFault (parsed bytes) fault
      → IsReadCause (λ fs. and_then (found fs) (λ b. kept (parsed b))) before now prefix (relations_fault fault)
  relations_refused parsed kept stays relation.Memory is = tt
  relations_refused parsed kept stays (relation.Syntax at) is =
      (tt, stops_then (λ b. kept (parsed b)) (read.Relations at) (ap kept is ∙ stays (relation.Syntax at)))

-- what holds of a fault holds of the error of a call that answers it
pub of_error : {A F : Type 0} (r : Result A F) (f : F) (P : F → Type 0) → IsErrAnd r (λ e. e ≡ f) → P f → IfErr r P
of_error (Ok a) f P is p = tt
of_error (Err e) f P is p = subst P (sym is) p

-- ---- the same is looked for, in the same folder

module _ {A : Type 0} {got found : List File → Result A ReadFault} (same : got ≡ found) (before mid : Folder)
    (reads : OnlyReads before mid) where
  pub read_as : (a : A) → ForTold mid.files (λ fs. got fs ≡ Ok a) → ForTold before.files (λ fs. found fs ≡ Ok a)
  read_as a told = told_before before mid reads _
      (subst (λ (r : List File → Result A ReadFault). ForTold mid.files (λ fs. r fs ≡ Ok a)) same told)

  pub refused_as : (now : Folder) (prefix : List ℕ) (f : ReadFault) → IsReadCause got mid now prefix f →
      IsReadCause found before now prefix f
  refused_as now prefix f cause = cause_before before mid reads now found prefix f
      (subst (λ (r : List File → Result A ReadFault). IsReadCause r mid now prefix f) same cause)
