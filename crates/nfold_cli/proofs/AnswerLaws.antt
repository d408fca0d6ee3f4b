-- The answer to a form is its ending, or names a file that could not be read.
use Rattle.std.proofs.Common.{◌≡◌, ◌≢◌, ℕ, ◌⊎◌, Bool, List, [], ◌∷◌, ◌++◌, cond, Option, Some, None, Result, Ok, Err}
use Rattle.std.proofs.Common.{IfOk, refl, ap, sym, subst, ◌∙◌, inl, inr}
use Rattle.std.specs.Str.{bytes_eq}
use Rattle.std.proofs.lemmas.Bool.{cases_Bool}
use Rattle.fold_shelf.specs.Outside.{File, Folder, file_named, without, ForTold, IsTold, ReadFailed, IsMissing}
use Rattle.fold_program.specs.declared.FileKind.{FileKind}
use Rattle.fold_program.specs.Files.{suffix_of}
use Rattle.fold_files.specs.declared.ReadFault.{ReadFault}
use Rattle.fold_files.specs.declared.ReadFault.TheVariants as read
use Rattle.fold_files.specs.Causes.{ReachesFile, IsReadCause}
use Rattle.fold_files.proofs.ToldLaws.{ForTold-all, ForTold-weaker}
use Rattle.nfold_cli.specs.declared.status.Status.{Status}
use Rattle.nfold_cli.specs.declared.status.Status.TheVariants as status
use Rattle.nfold_cli.specs.Texts.{usage_text}
use Rattle.nfold_cli.specs.Words.{FormValue}
use Rattle.nfold_cli.specs.Endings.{Ending, ending, IsWritten, input_ending, read_ending, fault_file, fault_text}
use Rattle.nfold_cli.specs.Endings.{fault_ending, IsEndingOf}
use Rattle.nfold_cli.specs.Forms.{IsFormEnding, IsTrueEnd, stored_by}
use Rattle.nfold_cli.specs.Answers.{IsToldAnswer, IsOfCommand, IsStoredAs, IsAnswer, IsRefusalOf}

-- a folder without a file that it lacks is the same
without_lacking : (files : List File) (name : List ℕ) → file_named files name ≡ None → without files name ≡ files
without_lacking [] name lacks = refl
without_lacking (f ∷ files) name lacks =
    elim (cases_Bool (bytes_eq f.name name)) [
      | inl same ↦
          let there = sym (ap (λ (b : Bool). cond b (Some f.bytes) (file_named files name)) same) ∙ lacks in
          absurd (cc)
      | inr other ↦
          let rest = sym (ap (λ (b : Bool). cond b (Some f.bytes) (file_named files name)) other) ∙ lacks in
          rw other (ap (λ (fs : List File). f ∷ fs) (without_lacking files name rest))
    ]

missing_read : (files : Option (List File)) (name : List ℕ) (Failed : Type 0) → IsMissing files name Failed →
    IsTold files (λ fs. Unit {0}) ⊎ Failed
missing_read None name Failed (inl lacks) = absurd lacks
missing_read None name Failed (inr failed) = inr failed
missing_read (Some fs) name Failed (inl lacks) = inl tt
missing_read (Some fs) name Failed (inr failed) = inr failed

-- ---- statuses

-- one that a command answers on what was read
abbrev pub IsPlain : Status → Type 0
IsPlain status.Done = Unit {0}
IsPlain status.No = Unit {0}
IsPlain status.Input = Unit {0}
IsPlain status.Limit = Unit {0}
IsPlain s = ⊥

plain_is_no_read_fault : (s : Status) → IsPlain s → s ≢ status.ReadFault
plain_is_no_read_fault s plain same = absurd (subst IsPlain same plain)

plain_of_command : (s : Status) → IsPlain s → IsOfCommand s
plain_of_command status.Done plain = tt
plain_of_command status.No plain = tt
plain_of_command status.Input plain = tt
plain_of_command status.Limit plain = tt
plain_of_command status.Usage plain = absurd plain
plain_of_command status.ReadFault plain = absurd plain
plain_of_command status.WriteFault plain = absurd plain
plain_of_command status.Memory plain = absurd plain

-- ---- the answer to a form that reads this, and has these endings on what was read

module _ {A : Type 0} (form : FormValue) (prefix : List ℕ) (found : List File → Result A ReadFault)
    (Ends Holds : A → Ending → Type 0)
    (ends_so : (fs : List File) (e : Ending) → IsEndingOf prefix Ends (found fs) e → IsFormEnding (Some form) fs e)
    (holds_so : (fs : List File) (a : A) (e : Ending) → found fs ≡ Ok a → Holds a e → IsTrueEnd (Some form) fs e) where
  ending_found : (fs : List File) (a : A) (e : Ending) → found fs ≡ Ok a → Ends a e → IsFormEnding (Some form) fs e
  ending_found fs a e there ends =
      ends_so fs e (subst (λ (r : Result A ReadFault). IsEndingOf prefix Ends r e) (sym there) ends)

  ending_refused : (fs : List File) (f : ReadFault) (e : Ending) → found fs ≡ Err f → e ≡ fault_ending prefix f →
      IsFormEnding (Some form) fs e
  ending_refused fs f e stops is =
      ends_so fs e (subst (λ (r : Result A ReadFault). IsEndingOf prefix Ends r e) (sym stops) is)

  module _ (before now : Folder) where
    -- all was read, and the answer is an ending on it
    made : (a : A) (e : Ending) → ForTold before.files (λ fs. found fs ≡ Ok a) → IsPlain e.status
        → IsStoredAs (stored_by (Some form)) e.stored
        → Ends a e → Holds a e → IsAnswer (Some form) before now e
    made a e told plain stored ends holds = record {
      told = ForTold-weaker before.files _ _ (λ fs there.
          inl (
            plain_is_no_read_fault e.status plain,
            ending_found fs a e there ends,
            λ written. holds_so fs a e there
                holds,
          )) told;
      read = λ same. absurd (plain_is_no_read_fault e.status plain same);
      status = plain_of_command e.status plain;
      stored = stored;
    }

    -- what was read is refused
    stopped : (f : ReadFault) (e : Ending) → e ≡ fault_ending prefix f → e.status ≡ status.Input → e.stored ≡ None
        → ForTold before.files (λ fs. found fs ≡ Err f) → IsAnswer (Some form) before now e
    stopped f e is input none stops =
        let plain : IsPlain e.status = subst IsPlain (sym input) tt in record {
          told = ForTold-weaker before.files _ _ (λ fs stop. inl (
            plain_is_no_read_fault e.status plain,
            ending_refused fs f e stop is,
            λ written. absurd (subst IsWritten input written),
          )) stops;
          read = λ same. absurd (plain_is_no_read_fault e.status plain same);
          status = plain_of_command e.status plain;
          stored = subst (λ (o : Option File). IsStoredAs (stored_by (Some form)) o) (sym none) tt;
        }

    unread_told : (files : Option (List File)) (Failed : Type 0) (kind : FileKind) (e : Ending)
        → e ≡ read_ending (prefix ++ suffix_of kind)
        → IsMissing files (prefix ++ suffix_of kind) Failed → ForTold files (ReachesFile found prefix kind)
        → ForTold files (IsToldAnswer (Some form) Failed e)
    unread_told None Failed kind e is missing reaches = tt
    unread_told (Some fs) Failed kind e is missing reaches =
        let name = prefix ++ suffix_of kind in
        let ends : IsFormEnding (Some form) (without fs name) (read_ending name) =
        ending_refused (without fs name) (read.Shelf kind) (read_ending name) reaches refl in
        inr (
          name,
          is,
          (
            ends,
            missing,
            elim missing [
              | inl lacks ↦ inr (subst (λ (f : List File). IsFormEnding (Some form) f (read_ending name))
                  (without_lacking fs name lacks) ends)
              | inr failed ↦ inl failed
            ],
          ),
        )

    -- a file could not be read
    unread : (kind : FileKind) (e : Ending) → e ≡ read_ending (prefix ++ suffix_of kind)
        → IsMissing before.files (prefix ++ suffix_of kind) (ReadFailed before now)
        → ForTold before.files (ReachesFile found prefix kind)
        → IsAnswer (Some form) before now e
    unread kind e is missing reaches = record {
      told = unread_told before.files (ReadFailed before now) kind e is missing reaches;
      read = λ same. missing_read before.files (prefix ++ suffix_of kind) (ReadFailed before now) missing;
      status = subst (λ (e : Ending). IsOfCommand e.status) (sym is) tt;
      stored = subst (λ (e : Ending). IsStoredAs (stored_by (Some form)) e.stored) (sym is) tt;
    }

    refused : (f : ReadFault) (e : Ending) → IsRefusalOf prefix f e → IsReadCause found before now prefix f
        → IsAnswer (Some form) before now e
    refused (read.Shelf kind) e of_fault (missing, reaches) = unread kind e of_fault.ending missing reaches
    refused read.Memory e of_fault cause = absurd (of_fault.found refl)
    refused (read.TooLong kind) e of_fault (content, stops) =
        stopped (read.TooLong kind) e of_fault.ending (ap (λ (e : Ending). e.status) of_fault.ending)
        (ap (λ (e : Ending). e.stored) of_fault.ending) stops
    refused (read.Form kind fault) e of_fault (content, stops) =
        stopped (read.Form kind fault) e of_fault.ending (ap (λ (e : Ending). e.status) of_fault.ending)
        (ap (λ (e : Ending). e.stored) of_fault.ending) stops
    refused (read.Costs at) e of_fault (content, stops) =
        stopped (read.Costs at) e of_fault.ending (ap (λ (e : Ending). e.status) of_fault.ending)
        (ap (λ (e : Ending). e.stored) of_fault.ending) stops
    refused (read.Relations at) e of_fault (content, stops) =
        stopped (read.Relations at) e of_fault.ending (ap (λ (e : Ending). e.status) of_fault.ending)
        (ap (λ (e : Ending). e.stored) of_fault.ending) stops
    refused (read.Program fault) e of_fault (content, stops) =
        stopped (read.Program fault) e of_fault.ending (ap (λ (e : Ending). e.status) of_fault.ending)
        (ap (λ (e : Ending). e.stored) of_fault.ending) stops

    -- the same of the answer of a call
    pub answer_made : {E : Type 0} (r : Result Ending E) (a : A) → ForTold before.files (λ fs. found fs ≡ Ok a)
        → ((e : Ending) → Ends a e → IsPlain e.status × IsStoredAs (stored_by (Some form)) e.stored)
        → IfOk r (Ends a) → IfOk r (Holds a) → IfOk r (IsAnswer (Some form) before now)
    answer_made (Err x) a told plain ends holds = tt
    answer_made (Ok e) a told plain ends holds = made a e told (plain e ends).0 (plain e ends).1 ends holds

    pub answer_refused : {E : Type 0} (r : Result Ending E) (f : ReadFault) → IfOk r (IsRefusalOf prefix f)
        → IsReadCause found before now prefix f → IfOk r (IsAnswer (Some form) before now)
    answer_refused (Err x) f of_fault cause = tt
    answer_refused (Ok e) f of_fault cause = refused f e of_fault cause

-- words that are no form have one answer
pub no_form : (before now : Folder) (form : Option FormValue) (e : Ending) → form ≡ None
    → e ≡ ending status.Usage usage_text →
    IsAnswer form before now e
no_form before now form e none is =
    subst (λ (f : Option FormValue). IsAnswer f before now e) (sym none)
    (subst (IsAnswer None before now) (sym is) (record {
      told = ForTold-all before.files _ (λ fs. inl ((λ same. absurd (cc)), refl, (λ written. absurd written)));
      read = λ same. absurd (cc);
      status = refl;
      stored = tt;
    }))

-- the answer to a form is one to the words that are it
pub by_form : {E : Type 0} (r : Result Ending E) (before now : Folder) (form : Option FormValue) (f : FormValue)
    → form ≡ Some f
    → IfOk r (IsAnswer (Some f) before now) → IfOk r (IsAnswer form before now)
by_form r before now form f is answer = subst (λ (f : Option FormValue). IfOk r (IsAnswer f before now)) (sym is) answer

-- ---- a fault of content ends in the refusal of a file

pub fault_is_input : (prefix : List ℕ) (f : ReadFault) → f ≢ read.Memory → ((kind : FileKind) → f ≢ read.Shelf kind)
    → fault_ending prefix f ≡ input_ending prefix (fault_file f) (fault_text f)
fault_is_input prefix (read.Shelf kind) found other = absurd (other kind refl)
fault_is_input prefix read.Memory found other = absurd (found refl)
fault_is_input prefix (read.TooLong kind) found other = refl
fault_is_input prefix (read.Form kind fault) found other = refl
fault_is_input prefix (read.Costs at) found other = refl
fault_is_input prefix (read.Relations at) found other = refl
fault_is_input prefix (read.Program fault) found other = refl
