-- What a run that made an answer and gave it has to say.
use Rattle.std.proofs.Common.{◌≡◌, ◌≢◌, ℕ, ◌⊎◌, List, Option, Some, None, refl, ap, sym, subst, ◌∙◌, inl, inr}
use Rattle.fold_shelf.specs.Outside.{File, file_named, without, ReadFailed, WriteFailed, SinkFailed, ForTold, IsTold}
use Rattle.fold_shelf.specs.Outside.{ForBoth, Took, TookPart}
use Rattle.fold_files.proofs.ToldLaws.{ForTold-all, ForTold-weaker}
use Rattle.nfold_cli.specs.declared.status.Status.{Status}
use Rattle.nfold_cli.specs.declared.status.Status.TheVariants as status
use Rattle.nfold_cli.specs.Words.{Word, FormValue, form_of}
use Rattle.nfold_cli.specs.Endings.{Ending, IsWritten, IsRefusal, read_ending}
use Rattle.nfold_cli.specs.Forms.{IsFormEnding, IsTrueEnd, stored_by}
use Rattle.nfold_cli.specs.Running.{SomeEnding, EndsWith, AnswersForm, FailsReading, FailsWriting, Stores, StoresPart}
use Rattle.nfold_cli.specs.Running.{ChangesOnly, GivesWhole, GivesPart, Leaves, GivesTruth, IsMessage, Said}
use Rattle.nfold_cli.specs.Running.{StopsReading, SaysOf}
use Rattle.nfold_cli.specs.Answers.{IsToldAnswer, IsOfCommand, IsOfForm, IsStoredAs, IsAnswer, Scene, IsUntouched}
use Rattle.nfold_cli.specs.Answers.{IsPart, IsLineOf, Runs}
use Rattle.nfold_cli.proofs.GiveLaws.{both_weaker}

-- ---- statuses

written_or_refused : (s : Status) → IsWritten s → IsRefusal s → ⊥
written_or_refused status.Done written refusal = refusal
written_or_refused status.No written refusal = refusal
written_or_refused status.Usage written refusal = written
written_or_refused status.Input written refusal = written
written_or_refused status.Limit written refusal = written
written_or_refused status.ReadFault written refusal = written
written_or_refused status.WriteFault written refusal = written
written_or_refused status.Memory written refusal = written

status_answers : (form : Option FormValue) (s : Status) → IsOfForm form s → AnswersForm form s
status_answers None s usage = inl usage
status_answers (Some f) s of_command = λ usage. absurd (subst IsOfCommand usage of_command)

broken_answers : (form : Option FormValue) (s : Status) → IsOfForm form s → IsWritten s
    → AnswersForm form status.WriteFault
broken_answers None s usage written = absurd (subst IsWritten usage written)
broken_answers (Some f) s of_command written = λ usage. absurd (cc)

memory_answers : (form : Option FormValue) → AnswersForm form status.Memory
memory_answers None = inr refl
memory_answers (Some f) = λ usage. absurd (cc)

-- ---- what is told

module _ (form : Option FormValue) (Failed : Type 0) (e : Ending) (fs : List File) where
  -- an answer that is no fault of reading is the ending
  told_ending : IsToldAnswer form Failed e fs → e.status ≢ status.ReadFault → IsFormEnding form fs e
  told_ending (inl answer) other = answer.1
  told_ending (inr unread) other = absurd (other (ap (λ (e : Ending). e.status) unread.1))

  -- and says what is true
  told_truth : IsToldAnswer form Failed e fs → IsWritten e.status → IsTrueEnd form fs e
  told_truth (inl answer) written = answer.2 written
  told_truth (inr unread) written = absurd (subst IsWritten (ap (λ (e : Ending). e.status) unread.1) written)

written_is_no_read_fault : (s : Status) → IsWritten s → s ≢ status.ReadFault
written_is_no_read_fault s written same = subst IsWritten same written

-- ---- where both are told

same_told : {A : Type 0} (before now : Option A) → now ≡ before → ForBoth before now (λ a b. b ≡ a)
same_told None now same = subst (λ o. ForBoth None o (λ a b. b ≡ a)) (sym same) tt
same_told (Some a) now same = subst (λ o. ForBoth (Some a) o (λ a b. b ≡ a)) (sym same) refl

told_same : {A : Type 0} (before now : Option A) → ForBoth before now (λ a b. b ≡ a) → now ≡ before
told_same None None same = refl
told_same (Some a) (Some b) same = ap Some same
told_same None (Some b) same = absurd same
told_same (Some a) None same = absurd same

-- what follows from what is told of the files, of the files before and after, and of the output
both_told : {A B : Type 0} (a a' : Option A) (b b' : Option B) (T : A → Type 0) (P : A → A → Type 0)
    (Q : B → B → Type 0) (R : A → A → B → B → Type 0)
    → ForTold a T → ForBoth a a' P → ForBoth b b' Q → ((x x' : A) (y y' : B) → T x → P x x' → Q y y' → R x x' y y')
    → ForBoth a a' (λ x x'. ForBoth b b' (λ y y'. R x x' y y'))
both_told None None b b' T P Q R t p q follows = tt
both_told (Some x) (Some x') None None T P Q R t p q follows = tt
both_told (Some x) (Some x') (Some y) (Some y') T P Q R t p q follows = follows x x' y y' t p q
both_told (Some x) (Some x') None (Some y') T P Q R t p q follows = absurd q
both_told (Some x) (Some x') (Some y) None T P Q R t p q follows = absurd q
both_told None (Some x') b b' T P Q R t p q follows = absurd p
both_told (Some x) None b b' T P Q R t p q follows = absurd p

-- ---- what is stored

changes_stored : (name : Option Word) (stored : Option File) (before now : List File) → IsStoredAs name stored
    → Stores stored before now → ChangesOnly name before now
changes_stored None None before now kind stored = stored
changes_stored (Some name) None before now kind stored =
    λ other apart. ap (λ (fs : List File). file_named fs other) stored
changes_stored (Some name) (Some f) before now kind stored =
    λ other apart. stored.others other (λ same. apart (same ∙ kind))
changes_stored None (Some f) before now kind stored = absurd kind

changes_part : (name : Option Word) (stored : Option File) (before now : List File) → IsStoredAs name stored
    → StoresPart stored before now → ChangesOnly name before now
changes_part None None before now kind part = part
changes_part (Some name) None before now kind part = λ other apart. ap (λ (fs : List File). file_named fs other) part
changes_part (Some name) (Some f) before now kind (inl same) =
    λ other apart. ap (λ (fs : List File). file_named fs other) same
changes_part (Some name) (Some f) before now kind (inr (part, rest, is, holds)) =
    λ other apart. holds.others other (λ same. apart (same ∙ kind))
changes_part None (Some f) before now kind part = absurd kind

changes_nothing : (name : Option Word) (before now : List File) → now ≡ before → ChangesOnly name before now
changes_nothing None before now same = same
changes_nothing (Some name) before now same = λ other apart. ap (λ (fs : List File). file_named fs other) same

some_stored : (name : Option Word) (stored : Option File) → IsStoredAs name stored → stored ≢ None → name ≢ None
some_stored name None kind some = λ same. some refl
some_stored None (Some f) kind some = absurd kind
some_stored (Some name) (Some f) kind some = λ same. absurd (cc)

no_write_fault : (form : Option FormValue) (s : Status) → IsOfForm form s → s ≢ status.WriteFault
no_write_fault None s usage = λ same. absurd (cc)
no_write_fault (Some f) s of_command = λ same. absurd (subst IsOfCommand same of_command)

-- ---- the clauses of a run

module _ (words : List Word) (before now : Scene) (s : Status) where
  abbrev form : Option FormValue
  form = form_of words

  abbrev Failed : Type 0
  Failed = ReadFailed before.folder now.folder

  abbrev IsToldAs : Ending → List File → Type 0
  IsToldAs e fs = IsToldAnswer form Failed e fs

  -- a form is not answered as no form is
  pub form_answered : Runs words before now s → AnswersForm form s
  form_answered (inl (e, answer, inl given)) = subst (AnswersForm form) (sym given.status)
      (status_answers form e.status answer.status)
  form_answered (inl (e, answer, inr (inl refused))) =
      subst (AnswersForm form) (sym refused.status) (status_answers form e.status answer.status)
  form_answered (inl (e, answer, inr (inr (inl broken)))) =
      subst (AnswersForm form) (sym broken.status) (broken_answers form e.status answer.status broken.written)
  form_answered (inl (e, answer, inr (inr (inr (memory, left))))) =
      subst (AnswersForm form) (sym memory.status) (memory_answers form)
  form_answered (inr (memory, untouched)) = subst (AnswersForm form) (sym memory.status) (memory_answers form)

  ends_as : (fs : List File) (e : Ending) (t : Status) → e.status ≡ t → t ≢ status.WriteFault → IsToldAs e fs
      → EndsWith words fs t
  ends_as fs e status.Done is other told = (e, told_ending form Failed e fs told (λ unread. absurd (cc)), is)
  ends_as fs e status.No is other told = (e, told_ending form Failed e fs told (λ unread. absurd (cc)), is)
  ends_as fs e status.Usage is other told = (e, told_ending form Failed e fs told (λ unread. absurd (cc)), is)
  ends_as fs e status.Input is other told = (e, told_ending form Failed e fs told (λ unread. absurd (cc)), is)
  ends_as fs e status.Limit is other told = (e, told_ending form Failed e fs told (λ unread. absurd (cc)), is)
  ends_as fs e status.ReadFault is other told = tt
  ends_as fs e status.WriteFault is other told = absurd (other refl)
  ends_as fs e status.Memory is other told = tt

  -- the ending of an answer that was begun
  ending_begun : (fs : List File) (e : Ending) → IsWritten e.status → IsToldAs e fs → IsFormEnding form fs e
  ending_begun fs e written told = told_ending form Failed e fs told (written_is_no_read_fault e.status written)

  abbrev Ends : Status → Type 0
  Ends t = ForTold before.folder.files (λ fs. EndsWith words fs t)

  ends_answered : (e : Ending) → IsAnswer form before.folder now.folder e → s ≡ e.status → Ends s
  ends_answered e answer same =
      subst Ends (sym same)
      (ForTold-weaker before.folder.files _ _ (λ fs told. ends_as fs e e.status refl
      (no_write_fault form e.status answer.status) told) answer.told)

  -- the status is that of the ending
  pub ends : Runs words before now s → Ends s
  ends (inl (e, answer, inl given)) = ends_answered e answer given.status
  ends (inl (e, answer, inr (inl refused))) = ends_answered e answer refused.status
  ends (inl (e, answer, inr (inr (inl broken)))) =
      subst Ends (sym broken.status)
      (ForTold-weaker before.folder.files _ _ (λ fs told. (e, ending_begun fs e broken.written told, broken.written))
      answer.told)
  ends (inl (e, answer, inr (inr (inr (memory, left))))) =
      subst Ends (sym memory.status) (ForTold-all before.folder.files _ (λ fs. tt))
  ends (inr (memory, untouched)) = subst Ends (sym memory.status) (ForTold-all before.folder.files _ (λ fs. tt))

  reading_fails : (files : Option (List File)) (e : Ending) → IsTold files (λ fs. Unit {0}) ⊎ Failed
      → ForTold files (IsToldAs e) →
      e.status ≡ status.ReadFault → FailsReading words files Failed
  reading_fails None e (inl there) told is = absurd there
  reading_fails None e (inr failed) told is = inl failed
  reading_fails (Some fs) e why (inl answer) is = absurd (answer.0 is)
  reading_fails (Some fs) e why (inr (name, same, (gone, missing, inl failed))) is = inl failed
  reading_fails (Some fs) e why (inr (name, same, (gone, missing, inr there))) is = inr (read_ending name, there, refl)

  -- a fault of reading has its cause
  pub reads_fail : Runs words before now s → s ≡ status.ReadFault → FailsReading words before.folder.files Failed
  reads_fail (inl (e, answer, inl given)) is = absurd (subst IsWritten (sym given.status ∙ is) given.written)
  reads_fail (inl (e, answer, inr (inl refused))) is =
      reading_fails before.folder.files e (answer.read (sym refused.status ∙ is)) answer.told (sym refused.status ∙ is)
  reads_fail (inl (e, answer, inr (inr (inl broken)))) is = absurd (cc)
  reads_fail (inl (e, answer, inr (inr (inr (memory, left))))) is = absurd (cc)
  reads_fail (inr (memory, untouched)) is = absurd (cc)

  -- and so has one of writing
  pub writes_fail : Runs words before now s → s ≡ status.WriteFault →
      FailsWriting (stored_by form) (SinkFailed before.out now.out) (WriteFailed before.folder now.folder)
  writes_fail (inl (e, answer, inl given)) is = absurd (subst IsWritten (sym given.status ∙ is) given.written)
  writes_fail (inl (e, answer, inr (inl refused))) is =
      absurd (subst IsRefusal (sym refused.status ∙ is) refused.refusal)
  writes_fail (inl (e, answer, inr (inr (inl broken)))) is =
      elim broken.cause [
        | inl failed ↦ inl failed
        | inr shelf ↦ inr (some_stored (stored_by form) e.stored answer.stored shelf.0, shelf.1)
      ]
  writes_fail (inl (e, answer, inr (inr (inr (memory, left))))) is = absurd (cc)
  writes_fail (inr (memory, untouched)) is = absurd (cc)

  -- ---- the files and the output

  module _ (b n : List File) (tb tn : List ℕ) where
    leaves_given : (t : Status) → IsWritten t → SomeEnding words b (λ e. (e.status ≡ t) × GivesWhole e b n tb tn)
        → Leaves words b n tb tn t
    leaves_given status.Done written given = given
    leaves_given status.No written given = given
    leaves_given status.Usage written given = absurd written
    leaves_given status.Input written given = absurd written
    leaves_given status.Limit written given = absurd written
    leaves_given status.ReadFault written given = absurd written
    leaves_given status.WriteFault written given = absurd written
    leaves_given status.Memory written given = absurd written

    leaves_kept : (t : Status) → IsRefusal t → n ≡ b → tn ≡ tb → Leaves words b n tb tn t
    leaves_kept status.Usage refusal same kept = (same, kept)
    leaves_kept status.Input refusal same kept = (same, kept)
    leaves_kept status.Limit refusal same kept = (same, kept)
    leaves_kept status.ReadFault refusal same kept = (same, kept)
    leaves_kept status.Done refusal same kept = absurd refusal
    leaves_kept status.No refusal same kept = absurd refusal
    leaves_kept status.WriteFault refusal same kept = absurd refusal
    leaves_kept status.Memory refusal same kept = absurd refusal

  abbrev AreLeft : Status → Type 0
  AreLeft t = ForBoth before.folder.files now.folder.files
      (λ b n. ForBoth before.out.taken now.out.taken (λ tb tn. Leaves words b n tb tn t))

  abbrev Same : {A : Type 0} → A → A → Type 0
  Same a b = b ≡ a

  -- an answer that was begun leaves a part
  leaves_part : (e : Ending) → IsAnswer form before.folder now.folder e → IsWritten e.status
      → IsPart e before.folder now.folder before.out now.out
      → (t : Status) → ((b n : List File) (tb tn : List ℕ)
      → SomeEnding words b (λ e. IsWritten e.status × GivesPart e b n tb tn) → Leaves words b n tb tn t)
      → AreLeft t
  leaves_part e answer written (inl part) t follows =
      both_told before.folder.files now.folder.files before.out.taken now.out.taken (IsToldAs e)
      (StoresPart e.stored) Same _
      answer.told part.stored (same_told before.out.taken now.out.taken part.taken)
      (λ b n tb tn told stored kept. follows b n tb tn
      (e, ending_begun b e written told, (written, inl (stored, kept))))
  leaves_part e answer written (inr part) t follows =
      both_told before.folder.files now.folder.files before.out.taken now.out.taken (IsToldAs e) (Stores e.stored)
      (TookPart e.text) _
      answer.told part.stored part.took
      (λ b n tb tn told stored took. follows b n tb tn
      (e, ending_begun b e written told, (written, inr (stored, took))))

  leaves_untouched : IsUntouched before now → (t : Status)
      → ((b n : List File) (tb tn : List ℕ) → n ≡ b → tn ≡ tb → Leaves words b n tb tn t) → AreLeft t
  leaves_untouched untouched t follows =
      both_told before.folder.files now.folder.files before.out.taken now.out.taken (λ fs. Unit {0}) Same Same _
      (ForTold-all before.folder.files _ (λ fs. tt)) (same_told before.folder.files now.folder.files untouched.files)
      (same_told before.out.taken now.out.taken untouched.taken)
      (λ b n tb tn told same kept. follows b n tb tn same kept)

  -- what is stored and written
  pub leaves : Runs words before now s → AreLeft s
  leaves (inl (e, answer, inl given)) =
      subst AreLeft (sym given.status)
      (both_told before.folder.files now.folder.files before.out.taken now.out.taken (IsToldAs e) (Stores e.stored)
      (Took e.text) _
      answer.told given.whole.stored given.whole.took
      (λ b n tb tn told stored took. leaves_given b n tb tn e.status given.written
      (e, ending_begun b e given.written told, (refl, record { stored = stored; took = took }))))
  leaves (inl (e, answer, inr (inl refused))) =
      subst AreLeft (sym refused.status)
      (leaves_untouched refused.untouched e.status (λ b n tb tn same kept. leaves_kept b n tb tn e.status
      refused.refusal same kept))
  leaves (inl (e, answer, inr (inr (inl broken)))) =
      subst AreLeft (sym broken.status) (leaves_part e answer broken.written broken.part status.WriteFault
      (λ b n tb tn part. part))
  leaves (inl (e, answer, inr (inr (inr (memory, inl untouched))))) =
      subst AreLeft (sym memory.status) (leaves_untouched untouched status.Memory
      (λ b n tb tn same kept. inl (same, kept)))
  leaves (inl (e, answer, inr (inr (inr (memory, inr (written, part)))))) =
      subst AreLeft (sym memory.status) (leaves_part e answer written part status.Memory (λ b n tb tn part. inr part))
  leaves (inr (memory, untouched)) =
      subst AreLeft (sym memory.status) (leaves_untouched untouched status.Memory
      (λ b n tb tn same kept. inl (same, kept)))

  abbrev Changes : Type 0
  Changes = ForBoth before.folder.files now.folder.files (ChangesOnly (stored_by form))

  changes_whole : (e : Ending) → IsAnswer form before.folder now.folder e
      → ForBoth before.folder.files now.folder.files (Stores e.stored) → Changes
  changes_whole e answer stored =
      both_weaker before.folder.files now.folder.files _ _
      (λ b n. changes_stored (stored_by form) e.stored b n answer.stored) stored

  changes_broken : (e : Ending) → IsAnswer form before.folder now.folder e
      → IsPart e before.folder now.folder before.out now.out → Changes
  changes_broken e answer (inl part) =
      both_weaker before.folder.files now.folder.files _ _
      (λ b n. changes_part (stored_by form) e.stored b n answer.stored) part.stored
  changes_broken e answer (inr part) = changes_whole e answer part.stored

  changes_untouched : IsUntouched before now → Changes
  changes_untouched untouched =
      both_weaker before.folder.files now.folder.files _ _ (λ b n. changes_nothing (stored_by form) b n)
      (same_told before.folder.files now.folder.files untouched.files)

  -- no file changes but the one that the form stores
  pub changes : Runs words before now s → Changes
  changes (inl (e, answer, inl given)) = changes_whole e answer given.whole.stored
  changes (inl (e, answer, inr (inl refused))) = changes_untouched refused.untouched
  changes (inl (e, answer, inr (inr (inl broken)))) = changes_broken e answer broken.part
  changes (inl (e, answer, inr (inr (inr (memory, inl untouched))))) = changes_untouched untouched
  changes (inl (e, answer, inr (inr (inr (memory, inr (written, part)))))) = changes_broken e answer part
  changes (inr (memory, untouched)) = changes_untouched untouched

  -- a refusal leaves all as it was
  pub keeps : Runs words before now s → IsRefusal s → (now.folder.files ≡ before.folder.files)
      × (now.out.taken ≡ before.out.taken)
  keeps (inl (e, answer, inl given)) refusal =
      absurd (written_or_refused e.status given.written (subst IsRefusal given.status refusal))
  keeps (inl (e, answer, inr (inl refused))) refusal = (refused.untouched.files, refused.untouched.taken)
  keeps (inl (e, answer, inr (inr (inl broken)))) refusal = absurd (subst IsRefusal broken.status refusal)
  keeps (inl (e, answer, inr (inr (inr (memory, left))))) refusal = absurd (subst IsRefusal memory.status refusal)
  keeps (inr (memory, untouched)) refusal = absurd (subst IsRefusal memory.status refusal)

  -- what was written is true
  pub tells_truth : Runs words before now s → IsWritten s →
      ForBoth before.folder.files now.folder.files (λ b n. ForBoth before.out.taken now.out.taken
      (λ tb tn. GivesTruth form b n tb tn s))
  tells_truth (inl (e, answer, inl given)) written =
      both_told before.folder.files now.folder.files before.out.taken now.out.taken (IsToldAs e) (Stores e.stored)
      (Took e.text) _
      answer.told given.whole.stored given.whole.took
      (λ b n tb tn told stored took. (
        e,
        sym given.status,
        record { stored = stored; took = took },
        told_truth form
            Failed e b told given.written,
      ))
  tells_truth (inl (e, answer, inr (inl refused))) written =
      absurd (written_or_refused e.status (subst IsWritten refused.status written) refused.refusal)
  tells_truth (inl (e, answer, inr (inr (inl broken)))) written = absurd (subst IsWritten broken.status written)
  tells_truth (inl (e, answer, inr (inr (inr (memory, left))))) written = absurd (subst IsWritten memory.status written)
  tells_truth (inr (memory, untouched)) written = absurd (subst IsWritten memory.status written)

  -- ---- the errors

  -- nothing is said where a text was written
  pub is_quiet : Runs words before now s → IsWritten s → now.err.taken ≡ before.err.taken
  is_quiet (inl (e, answer, inl given)) written = given.quiet
  is_quiet (inl (e, answer, inr (inl refused))) written =
      absurd (written_or_refused e.status (subst IsWritten refused.status written) refused.refusal)
  is_quiet (inl (e, answer, inr (inr (inl broken)))) written = absurd (subst IsWritten broken.status written)
  is_quiet (inl (e, answer, inr (inr (inr (memory, left))))) written = absurd (subst IsWritten memory.status written)
  is_quiet (inr (memory, untouched)) written = absurd (subst IsWritten memory.status written)

  abbrev SaysAs : List File → Status → Type 0
  SaysAs fs t = SaysOf words fs Failed before.err now.err t

  says_nothing : (fs : List File) (t : Status) → IsWritten t → now.err.taken ≡ before.err.taken → SaysAs fs t
  says_nothing fs status.Done written quiet = quiet
  says_nothing fs status.No written quiet = quiet
  says_nothing fs status.Usage written quiet = absurd written
  says_nothing fs status.Input written quiet = absurd written
  says_nothing fs status.Limit written quiet = absurd written
  says_nothing fs status.ReadFault written quiet = absurd written
  says_nothing fs status.WriteFault written quiet = absurd written
  says_nothing fs status.Memory written quiet = absurd written

  says_unread : (fs : List File) (e : Ending) → e.status ≡ status.ReadFault → IsToldAs e fs
      → Said before.err now.err e.text →
      StopsReading words fs Failed (Said before.err now.err)
  says_unread fs e is (inl answer) said = absurd (answer.0 is)
  says_unread fs e is (inr (name, same, (gone, missing, cause))) said =
      (name, gone, missing, cause, subst (Said before.err now.err) (ap (λ (e : Ending). e.text) same) said)

  says_refusal : (fs : List File) (e : Ending) (t : Status) → e.status ≡ t → IsRefusal t → IsToldAs e fs
      → Said before.err now.err e.text → SaysAs fs t
  says_refusal fs e status.Usage is refusal told said =
      (e, told_ending form Failed e fs told (λ unread. absurd (cc)), (is, said))
  says_refusal fs e status.Input is refusal told said =
      (e, told_ending form Failed e fs told (λ unread. absurd (cc)), (is, said))
  says_refusal fs e status.Limit is refusal told said =
      (e, told_ending form Failed e fs told (λ unread. absurd (cc)), (is, said))
  says_refusal fs e status.ReadFault is refusal told said = says_unread fs e is told said
  says_refusal fs e status.Done is refusal told said = absurd refusal
  says_refusal fs e status.No is refusal told said = absurd refusal
  says_refusal fs e status.WriteFault is refusal told said = absurd refusal
  says_refusal fs e status.Memory is refusal told said = absurd refusal

  message : (fs : List File) (e : Ending) (line : List ℕ) → IsLineOf e line → IsToldAs e fs → IsMessage line
  message fs e line (inl is) told = inl is
  message fs e line (inr (inl is)) told = inr (inl is)
  message fs e line (inr (inr (refusal, is))) (inl answer) = inr (inr (words, fs, (e, answer.1, (refusal, is))))
  message fs e line (inr (inr (refusal, is))) (inr (name, same, (gone, missing, cause))) =
      inr (inr (words, without fs name, (read_ending name, gone, (tt, is ∙ ap (λ (e : Ending). e.text) same))))

  abbrev IsSaidOf : Status → Type 0
  IsSaidOf t = ForTold before.folder.files (λ fs. SaysAs fs t)

  -- what is said is the line of the ending
  pub says : Runs words before now s → IsSaidOf s
  says (inl (e, answer, inl given)) =
      subst IsSaidOf (sym given.status) (ForTold-all before.folder.files _
      (λ fs. says_nothing fs e.status given.written given.quiet))
  says (inl (e, answer, inr (inl refused))) =
      subst IsSaidOf (sym refused.status)
      (ForTold-weaker before.folder.files _ _ (λ fs told. says_refusal fs e e.status refl refused.refusal told
      refused.said) answer.told)
  says (inl (e, answer, inr (inr (inl broken)))) =
      subst IsSaidOf (sym broken.status) (ForTold-all before.folder.files _ (λ fs. broken.said))
  says (inl (e, answer, inr (inr (inr (memory, left))))) =
      subst IsSaidOf (sym memory.status)
      (ForTold-weaker before.folder.files _ _ (λ fs told.
      (memory.line, message fs e memory.line memory.lines told, memory.said)) answer.told)
  says (inr (memory, untouched)) =
      subst IsSaidOf (sym memory.status)
      (ForTold-all before.folder.files _ (λ fs. (memory.line, inr (inl memory.lines), memory.said)))
