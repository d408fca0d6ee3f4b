-- The statuses of the commands' endings, and what is stored.
use Rattle.std.proofs.Common.{◌≡◌, ℕ, List, [], Option, Some, None, Result, Ok, Err, IfOk, refl, sym, subst, inl, inr}
use Rattle.lattice_theory.specs.Matrices.{Matrix}
use Rattle.fold_theory.specs.declared.Broken.{Broken}
use Rattle.fold_theory.specs.Programs.{Program, Bricks}
use Rattle.fold_theory.specs.Breaks.{first_break}
use Rattle.run_theory.specs.Certificates.{Certificate}
use Rattle.run_theory.specs.Outcomes.{Outcome}
use Rattle.run_theory.specs.Limits.{Caps}
use Rattle.certificate.specs.declared.fault.CertFault.{CertFault}
use Rattle.certificate.specs.CertificateText.{parsed_certificate}
use Rattle.cert_checker.specs.declared.answer.Check.{Check}
use Rattle.cert_checker.specs.declared.answer.Check.TheVariants as check
use Rattle.cert_checker.specs.Answers.{checked}
use Rattle.fold_shelf.specs.Outside.{File, Folder}
use Rattle.fold_files.specs.declared.ReadFault.{ReadFault}
use Rattle.fold_files.proofs.ToldLaws.{ForTold-all}
use Rattle.fold_gen.specs.Transports.{transport}
use Rattle.nfold_cli.specs.declared.words.SolveOptions.{SolveOptions}
use Rattle.nfold_cli.specs.Words.{Word, TrialForm}
use Rattle.nfold_cli.specs.Endings.{Ending}
use Rattle.nfold_cli.specs.PointCommand.{broken_status, verdict_ending}
use Rattle.nfold_cli.specs.GraverCommand.{IsKernelEnding}
use Rattle.nfold_cli.specs.SolveCommand.{caps_of, certificate_name, limit_ending, solved_ending, IsEndingWithin}
use Rattle.nfold_cli.specs.SolveCommand.{IsSolveEnding}
use Rattle.nfold_cli.specs.TrialCommand.{trial_caps, tried_ending, IsTrialEnding, IsTrueTrial}
use Rattle.nfold_cli.specs.CheckCommand.{checked_status, parsed_ending, certificate_ending}
use Rattle.nfold_cli.specs.Answers.{IsStoredAs, IsAnswer}
use Rattle.nfold_cli.proofs.AnswerLaws.{IsPlain, answer_made}

-- a status of a command on what it read, and nothing to be stored
abbrev pub IsPlainEnding : Option Word → Ending → Type 0
IsPlainEnding name e = IsPlain e.status × IsStoredAs name e.stored

plain_as : (name : Option Word) (e f : Ending) → e ≡ f → IsPlainEnding name f → IsPlainEnding name e
plain_as name e f is plain = subst (IsPlainEnding name) (sym is) plain

-- where a command's text says nothing more
abbrev pub IsAnything : {A : Type 0} → A → Ending → Type 0
IsAnything a e = Unit {0}

pub anything : {E : Type 0} (r : Result Ending E) → IfOk r (λ e. Unit {0})
anything (Err x) = tt
anything (Ok e) = tt

broken_is_plain : (b : Option Broken) → IsPlain (broken_status b)
broken_is_plain None = tt
broken_is_plain (Some b) = tt

pub verdict_is_plain : (name : Option Word) (p : Program) (x : Bricks) (e : Ending) → e ≡ verdict_ending p x
    → IsPlainEnding name e
verdict_is_plain name p x e is = plain_as name e (verdict_ending p x) is (broken_is_plain (first_break p x), tt)

pub kernel_is_plain : (name : Option Word) (limit : ℕ) (m : Matrix) (e : Ending) → IsKernelEnding limit m e
    → IsPlainEnding name e
kernel_is_plain name limit m e (inl (exceeds, is)) = plain_as name e _ is (tt, tt)
kernel_is_plain name limit m e (inr (basis, within, is)) = plain_as name e _ is (tt, tt)

checked_is_plain : (a : Check) → IsPlain (checked_status a)
checked_is_plain (check.Yes v) = tt
checked_is_plain (check.No r) = tt

parsed_is_plain : (name : Option Word) (prefix : Word) (p : Program) (r : Result Certificate CertFault)
    → IsPlainEnding name (parsed_ending prefix p r)
parsed_is_plain name prefix p (Err f) = (tt, tt)
parsed_is_plain name prefix p (Ok c) = (checked_is_plain (checked p c), tt)

pub certificate_is_plain : (name : Option Word) (prefix : Word) (p : Program) (bytes : List ℕ) (e : Ending)
    → e ≡ certificate_ending prefix p bytes →
    IsPlainEnding name e
certificate_is_plain name prefix p bytes e is = plain_as name e (certificate_ending prefix p bytes) is
    (parsed_is_plain name prefix p (parsed_certificate bytes))

-- a limit stores nothing, and an outcome what this says
within_is_plain : (name : Option Word) (p : Program) (caps : Caps) (ending_of : Certificate → Outcome → Ending)
    → ((c : Certificate) (o : Outcome) → IsPlainEnding name (ending_of c o)) → (e : Ending)
    → IsEndingWithin p caps ending_of e
    → IsPlainEnding name e
within_is_plain name p caps ending_of plain e (inl (f, passed, is)) = plain_as name e (limit_ending f) is (tt, tt)
within_is_plain name p caps ending_of plain e (inr (o, c, reached, is)) = plain_as name e (ending_of c o) is (plain c o)

pub solve_is_plain : (prefix : Word) (options : SolveOptions) (p : Program) (e : Ending)
    → IsSolveEnding prefix options p e
    → IsPlainEnding (Some (certificate_name prefix)) e
solve_is_plain prefix options p e ends =
    within_is_plain (Some (certificate_name prefix)) p (caps_of options)
    (solved_ending prefix options.trace p.brick.cols) (λ c o. (tt, refl)) e ends

pub trial_is_plain : (number bricks : ℕ) (e : Ending) → IsTrialEnding number bricks e → IsPlainEnding None e
trial_is_plain number bricks e ends =
    within_is_plain None (transport number bricks) trial_caps (tried_ending number bricks (transport number bricks))
    (λ c o. (tt, tt)) e (inr ends)

-- ---- a trial reads nothing

abbrev nothing : List File → Result (Unit {0}) ReadFault
nothing files = Ok tt

pub trial_answered : {E : Type 0} (r : Result Ending E) (number bricks : ℕ) (before : Folder)
    → IfOk r (IsTrialEnding number bricks)
    → IfOk r (IsTrueTrial number bricks) → IfOk r (IsAnswer (Some (TrialForm number bricks)) before before)
trial_answered r number bricks before ends holds =
    answer_made (TrialForm number bricks) [] nothing (λ u. IsTrialEnding number bricks)
    (λ u. IsTrueTrial number bricks) (λ fs e is. is) (λ fs u e there holds. holds) before before r tt
    (ForTold-all before.files _ (λ fs. refl)) (λ e is. trial_is_plain number bricks e is) ends holds
