-- How an answer is given: stored and written, or said, or neither whole.
use Rattle.std.proofs.Common.{◌≡◌, ℕ, ◌⊎◌, List, [], Option, Some, None, refl, sym, subst, ◌∙◌, inl, inr}
use Rattle.std.proofs.lemmas.List.{append-nil}
use Rattle.fold_shelf.specs.Outside.{File, Folder, Stream, OnlyReads, Rose, ForTold, IsTold, ForBoth, Took, TookPart}
use Rattle.nfold_cli.specs.declared.status.Status.{Status}
use Rattle.nfold_cli.specs.declared.status.Status.TheVariants as status
use Rattle.nfold_cli.specs.Texts.{write_text, memory_text}
use Rattle.nfold_cli.specs.Words.{FormValue}
use Rattle.nfold_cli.specs.Endings.{Ending, IsWritten, IsRefusal}
use Rattle.nfold_cli.specs.Running.{Stores, StoresPart, Said}
use Rattle.nfold_cli.specs.Answers.{IsToldAnswer, IsAnswer, IsOfForm, IsOfEnding, Scene, IsUntouched, IsPart}
use Rattle.nfold_cli.specs.Answers.{FailsGiving, IsSaid, IsLineOf, IsOutOfMemory, Gives}

-- a line that was said whole was said in part
took_part : (text before now : List ℕ) → Took text before now → TookPart text before now
took_part text before now took = (text, [], sym (append-nil text), took)

pub both_weaker : {A : Type 0} (before now : Option A) (P Q : A → A → Type 0) → ((a b : A) → P a b → Q a b)
    → ForBoth before now P → ForBoth before now Q
both_weaker None None P Q follows p = tt
both_weaker (Some a) (Some b) P Q follows p = follows a b p
both_weaker None (Some b) P Q follows p = absurd p
both_weaker (Some a) None P Q follows p = absurd p

pub said_in_part : (before now : Stream) (line : List ℕ) → Said before now line
    → ForBoth before.taken now.taken (TookPart line)
said_in_part before now line (inl whole) = both_weaker before.taken now.taken (Took line) (TookPart line)
    (took_part line) whole
said_in_part before now line (inr (failed, part)) = part

-- an ending is written or refused
pub ending_of_form : (form : Option FormValue) (s : Status) → IsOfForm form s → IsOfEnding s
ending_of_form None s usage = inr (subst IsRefusal (sym usage) tt)
ending_of_form (Some form) status.Done of_command = inl tt
ending_of_form (Some form) status.No of_command = inl tt
ending_of_form (Some form) status.Input of_command = inr tt
ending_of_form (Some form) status.Limit of_command = inr tt
ending_of_form (Some form) status.ReadFault of_command = inr tt
ending_of_form (Some form) status.Usage of_command = absurd of_command
ending_of_form (Some form) status.WriteFault of_command = absurd of_command
ending_of_form (Some form) status.Memory of_command = absurd of_command

-- where the last line is that on want of memory, memory ran out
pub out_of_memory : (Lines : List ℕ → Type 0) (before now : Stream) (s : Status) → Lines memory_text
    → IsSaid before now memory_text status.Memory s → IsOutOfMemory Lines before now s
out_of_memory Lines before now s lines (inl (same, said)) =
    record { status = same; line = memory_text; lines = lines; said = said_in_part before now memory_text said }
out_of_memory Lines before now s lines (inr (same, part)) =
    record { status = same; line = memory_text; lines = lines; said = part }

module _ (e : Ending) (before now : Scene) where
  -- a refusal is said, or memory runs out
  pub gives_refusal : (s : Status) → IsRefusal e.status → IsUntouched before now
      → IsSaid before.err now.err e.text e.status s → Gives e before now s
  gives_refusal s refusal untouched (inl (same, said)) =
      inr (inl (record { refusal = refusal; status = same; untouched = untouched; said = said }))
  gives_refusal s refusal untouched (inr (same, part)) =
      inr (inr (inr (
        record { status = same; line = e.text; lines = inr (inr (refusal, refl)); said = part },
        inl
            untouched,
      )))

  -- what was begun is broken off, or memory runs out
  pub gives_broken : (s : Status) → IsWritten e.status → IsPart e before.folder now.folder before.out now.out
      → FailsGiving e before.folder now.folder before.out now.out
      → IsSaid before.err now.err write_text status.WriteFault s → Gives e before now s
  gives_broken s written part cause (inl (same, said)) =
      inr (inr (inl (record { written = written; status = same; part = part; cause = cause; said = said })))
  gives_broken s written part cause (inr (same, took)) =
      inr (inr (inr (record { status = same; line = write_text; lines = inl refl; said = took }, inr (written, part))))

  pub gives_nothing : (s : Status) → IsWritten e.status → IsPart e before.folder now.folder before.out now.out
      → IsSaid before.err now.err memory_text status.Memory s → Gives e before now s
  gives_nothing s written part said =
      inr (inr (inr (out_of_memory (IsLineOf e) before.err now.err s (inr (inl refl)) said, inr (written, part))))

-- ---- what was read before changes nothing

module _ (e : Ending) (before mid now : Folder) (out_before out_now err_before err_now : Stream)
    (reads : OnlyReads before mid) where
  from_files : (P : List File → List File → Type 0) → ForBoth mid.files now.files P → ForBoth before.files now.files P
  from_files P both = subst (λ (o : Option (List File)). ForBoth o now.files P) reads.files both

  untouched_before : now.files ≡ mid.files → now.files ≡ before.files
  untouched_before same = same ∙ reads.files

  part_before : IsPart e mid now out_before out_now → IsPart e before now out_before out_now
  part_before (inl part) = inl (record { stored = from_files (StoresPart e.stored) part.stored; taken = part.taken })
  part_before (inr part) = inr (record { stored = from_files (Stores e.stored) part.stored; took = part.took })

  cause_before : FailsGiving e mid now out_before out_now → FailsGiving e before now out_before out_now
  cause_before (inl failed) = inl failed
  cause_before (inr (some, failed)) = inr (some, subst (λ (n : ℕ). Rose n now.write_faults) reads.writes failed)

  abbrev scene : Folder → Stream → Stream → Scene
  scene folder out err = record { folder = folder; out = out; err = err }

  pub gives_before : (s : Status) → Gives e (scene mid out_before err_before) (scene now out_now err_now) s →
      Gives e (scene before out_before err_before) (scene now out_now err_now) s
  gives_before s (inl given) = inl (record {
    written = given.written;
    status = given.status;
    whole = record { stored = from_files (Stores e.stored) given.whole.stored; took = given.whole.took };
    quiet = given.quiet;
  })
  gives_before s (inr (inl refused)) = inr (inl (record {
    refusal = refused.refusal;
    status = refused.status;
    untouched = record { files = untouched_before refused.untouched.files; taken = refused.untouched.taken };
    said = refused.said;
  }))
  gives_before s (inr (inr (inl broken))) = inr (inr (inl (record {
    written = broken.written;
    status = broken.status;
    part = part_before broken.part;
    cause = cause_before broken.cause;
    said = broken.said;
  })))
  gives_before s (inr (inr (inr (memory, inl untouched)))) =
      inr (inr (inr (memory, inl (record { files = untouched_before untouched.files; taken = untouched.taken }))))
  gives_before s (inr (inr (inr (memory, inr (written, part))))) =
      inr (inr (inr (memory, inr (written, part_before part))))

-- what was written after is not looked at
pub answer_after : (form : Option FormValue) (before mid now : Folder) (e : Ending) → now.read_faults ≡ mid.read_faults
    → IsAnswer form before mid e
    → IsAnswer form before now e
answer_after form before mid now e same answer =
    let Failed : ℕ → Type 0 = λ n. Rose before.read_faults n in
    record {
      told = subst (λ (n : ℕ). ForTold before.files (IsToldAnswer form (Failed n) e)) (sym same) answer.told;
      read = subst (λ (n : ℕ). e.status ≡ status.ReadFault → IsTold before.files (λ files. Unit {0}) ⊎ Failed n)
          (sym same) answer.read;
      status = answer.status;
      stored = answer.stored;
    }
