-- The file of a name among other files.
use Rattle.std.proofs.Common.{◌≡◌, ◌≢◌, ℕ, suc, Bool, true, false, cond, List, [], ◌∷◌, ◌++◌, take, drop, Option, Some}
use Rattle.std.proofs.Common.{None, get_or, set, refl, sym, ap, ◌∙◌, bytes_eq}
use Rattle.std.proofs.lemmas.List.{append-nil, take-append-drop, set_split}
use Rattle.std.proofs.Math.Seq.{drop-cons}
use Rattle.std.proofs.lemmas.Slice.Eq.{bytes_eq-Decides}
use Rattle.std.proofs.lemmas.Bool.{false_from_ne_true}
use Rattle.fold_shelf.specs.Outside.{File, file_named, Lacks, FileHolds, FileGains}
use Rattle.fold_shelf.specs.MemFolder.{IsPlace}

-- a file of this name at the front counts
pub file_named-here : (f : File) (files : List File) (name : List ℕ) → f.name ≡ name →
    file_named (f ∷ files) name ≡ Some f.bytes
file_named-here f files name same = rw ((bytes_eq-Decides f.name name).1 same) refl

-- a file of another name at the front does not
pub file_named-other : (f : File) (files : List File) (name : List ℕ) → f.name ≢ name →
    file_named (f ∷ files) name ≡ file_named files name
file_named-other f files name other =
    let test : bytes_eq f.name name ≡ false = false_from_ne_true _
    (λ yes. other ((bytes_eq-Decides f.name name).0 yes)) in
    rw test refl

passed_over : (b : Bool) (x : List ℕ) (found rest goal : Option (List ℕ)) → cond b (Some x) found ≡ None →
    (found ≡ None → rest ≡ goal) → cond b (Some x) rest ≡ goal
passed_over true x found rest goal none step = cc
passed_over false x found rest goal none step = step none

-- files that lack the name are passed over
pub file_named-after : (front files : List File) (name : List ℕ) → Lacks front name →
    file_named (front ++ files) name ≡ file_named files name
file_named-after [] files name none = refl
file_named-after (f ∷ front) files name none =
    passed_over (bytes_eq f.name name) f.bytes _ _ _ none (file_named-after front files name)

-- one more file of another name
pub Lacks-push : (files : List File) (f : File) (name : List ℕ) → Lacks files name → bytes_eq f.name name ≡ false →
    Lacks (files ++ f ∷ []) name
Lacks-push files f name none test = file_named-after files (f ∷ []) name none ∙ rw test refl

-- what stands before does not tell two ends apart that are alike
file_named-alike : (front xs ys : List File) (name : List ℕ) → file_named xs name ≡ file_named ys name →
    file_named (front ++ xs) name ≡ file_named (front ++ ys) name
file_named-alike [] xs ys name same = same
file_named-alike (f ∷ front) xs ys name same =
    ap (λ found. cond (bytes_eq f.name name) (Some f.bytes) found) (file_named-alike front xs ys name same)

module _ (files : List File) (name : List ℕ) (at : ℕ) (place : IsPlace files name at) where
  split_there : (d : File) → files ≡ take at files ++ get_or files at d ∷ drop (suc at) files
  split_there d = sym (take-append-drop at files) ∙ ap (λ rest. take at files ++ rest)
      (drop-cons files at d place.inside)

  -- the file at its place is the named one
  pub file_named-there : (d : File) → file_named files name ≡ Some (get_or files at d).bytes
  file_named-there d =
      ap (λ fs. file_named fs name) (split_there d)
      ∙ file_named-after (take at files) _ name place.first
      ∙ file_named-here (get_or files at d) _ name (place.named d)

  skips : (f : File) (other : List ℕ) → other ≢ name → f.name ≡ name → (rest : List File) →
      file_named (f ∷ rest) other ≡ file_named rest other
  skips f other apart same rest = file_named-other f rest other (λ e. apart (sym e ∙ same))

  -- other bytes at its place change that file alone
  pub FileHolds-set : (f : File) (bytes : List ℕ) → f.name ≡ name → f.bytes ≡ bytes →
      FileHolds name bytes files (set files at f)
  FileHolds-set f bytes same holds =
      let now = set_split files at f place.inside in
      record {
        named =
            ap (λ fs. file_named fs name) now
            ∙ file_named-after (take at files) _ name place.first
            ∙ file_named-here f _ name same
            ∙ ap Some holds;
        others = λ other apart.
            ap (λ fs. file_named fs other) now
            ∙ file_named-alike (take at files) _ _ other
            (skips f other apart same _ ∙ sym (skips (get_or files at f) other apart (place.named f) _))
            ∙ ap (λ fs. file_named fs other) (sym (split_there f));
      }

  -- the name of the file at its place
  pub name_there : (d : File) → d ≡ get_or files at d → d.name ≡ name
  name_there d is = ap (λ f. f.name) is ∙ place.named d

  -- a piece at the end of the file at its place
  pub FileGains-set : (d : File) → d ≡ get_or files at d → (f : File) (piece : List ℕ) →
      f.name ≡ d.name → f.bytes ≡ d.bytes ++ piece → FileGains name piece files (set files at f)
  FileGains-set d is f piece same gains = (
    d.bytes,
    file_named-there d ∙ ap (λ file. Some file.bytes) (sym is),
    FileHolds-set f (d.bytes ++ piece) (same ∙ name_there d is) gains,
  )

-- a new file changes none of another name
pub FileHolds-push : (files : List File) (f : File) (name bytes : List ℕ) → Lacks files name → f.name ≡ name
    → f.bytes ≡ bytes →
    FileHolds name bytes files (files ++ f ∷ [])
FileHolds-push files f name bytes none same holds = record {
  named = file_named-after files (f ∷ []) name none ∙ file_named-here f [] name same ∙ ap Some holds;
  others = λ other apart.
      file_named-alike files (f ∷ []) [] other (file_named-other f [] other (λ e. apart (sym e ∙ same)))
      ∙ ap (λ fs. file_named fs other) (append-nil files);
}
