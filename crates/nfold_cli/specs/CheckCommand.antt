-- `check P [--rel]`: whether a certificate shows what it claims of a program.
use Rattle.std.specs.Prelude.{◌≡◌, ℕ, Bool, List, Result, Ok, Err}
use Rattle.fold_theory.specs.Programs.{Program}
use Rattle.fold_theory.specs.Verdicts.{Holds}
use Rattle.run_theory.specs.Certificates.{Certificate}
use Rattle.run_theory.specs.Checker.{Accept, claimed_verdict}
use Rattle.fold_shelf.specs.Outside.{File}
use Rattle.mat_files.specs.Tokens.{and_then}
use Rattle.fold_program.specs.declared.FileKind.TheVariants as file
use Rattle.fold_files.specs.declared.ReadFault.{ReadFault}
use Rattle.fold_files.specs.Reading.{program_in, certificate_in}
use Rattle.certificate.specs.declared.fault.CertFault.{CertFault}
use Rattle.certificate.specs.CertificateText.{parsed_certificate}
use Rattle.cert_checker.specs.declared.answer.Check.{Check}
use Rattle.cert_checker.specs.declared.answer.Check.TheVariants as check
use Rattle.cert_checker.specs.Answers.{checked}
use Rattle.nfold_cli.specs.declared.status.Status.{Status}
use Rattle.nfold_cli.specs.declared.status.Status.TheVariants as status
use Rattle.nfold_cli.specs.Texts.{cert_fault_text, check_text}
use Rattle.nfold_cli.specs.Words.{Word}
use Rattle.nfold_cli.specs.Endings.{Ending, ending, input_ending}

-- a program and the bytes of its certificate
pub record Claimed : Type 0 where
  pub program : Program
  pub bytes : List ℕ

-- the program and the bytes of the certificate in the files, or the first fault
abbrev pub claimed_in : Word → Bool → List File → Result Claimed ReadFault
claimed_in prefix relations files =
    and_then (program_in files prefix relations) (λ p. and_then (certificate_in files prefix)
    (λ bytes. Ok (record { program = p; bytes = bytes })))

abbrev pub checked_status : Check → Status
checked_status (check.Yes v) = status.Done
checked_status (check.No r) = status.No

-- whether the checker says yes, and its line
abbrev pub checked_ending : Check → Ending
checked_ending a = ending (checked_status a) (check_text a)

abbrev pub parsed_ending : Word → Program → Result Certificate CertFault → Ending
parsed_ending prefix p (Err f) = input_ending prefix file.Cert (cert_fault_text f)
parsed_ending prefix p (Ok c) = checked_ending (checked p c)

-- whether the certificate that the bytes spell shows what it claims of the program
abbrev pub certificate_ending : Word → Program → List ℕ → Ending
certificate_ending prefix p bytes = parsed_ending prefix p (parsed_certificate bytes)

abbrev pub IsCheckEnding : Word → Claimed → Ending → Type 0
IsCheckEnding prefix read e = e ≡ certificate_ending prefix read.program read.bytes

-- the certificate breaks no rule, what it claims is true of the program, and the text says it
pub record IsShown (p : Program) (c : Certificate) (text : List ℕ) : Type 0 where
  pub accepted : Accept p c
  pub holds : Holds p (claimed_verdict p c)
  pub line : text ≡ check_text (check.Yes (claimed_verdict p c))

-- so of the certificate that the bytes spell
abbrev pub Confirms : Program → List ℕ → List ℕ → Type 0
Confirms p bytes text = (c : Certificate) × (parsed_certificate bytes ≡ Ok c) × IsShown p c text

-- what is said of the certificate is true, where the answer is yes
abbrev pub IsTrueCheck : Claimed → Ending → Type 0
IsTrueCheck read e = e.status ≡ status.Done → Confirms read.program read.bytes e.text
