-- Words and files have at most one ending.
use Rattle.std.proofs.Common.{◌≡◌, ℕ, List, Option, Some, None, Result, Ok, Err, ap, sym, subst, ◌∙◌, inl, inr}
use Rattle.lattice_theory.specs.Vectors.{Vector}
use Rattle.lattice_theory.specs.Matrices.{Matrix}
use Rattle.lattice_theory.specs.Lattices.{kernel}
use Rattle.lattice_laws.proofs.SlackBases.{slack_basis_unique, within_or_exceeds}
use Rattle.fold_theory.specs.Programs.{Program}
use Rattle.run_theory.specs.Certificates.{Certificate}
use Rattle.run_theory.specs.Outcomes.{Outcome, IsCertificate}
use Rattle.run_theory.specs.Limits.{Caps}
use Rattle.outcome_laws.proofs.OneOutcome.{outcome_unique}
use Rattle.outcome_laws.proofs.OneCertificate.{certificate_unique}
use Rattle.outcome_laws.proofs.OneLimit.{limit_unique, within_excludes}
use Rattle.mat_files.specs.MatrixText.{matrix_text}
use Rattle.fold_shelf.specs.Outside.{File}
use Rattle.fold_files.specs.declared.ReadFault.{ReadFault}
use Rattle.fold_files.specs.Reading.{plain_in, program_in}
use Rattle.fold_gen.specs.Transports.{transport}
use Rattle.nfold_cli.specs.declared.status.Status.TheVariants as status
use Rattle.nfold_cli.specs.Words.{Word, FormValue, PointForm, GraverForm, SolveForm, CheckForm, TrialForm, form_of}
use Rattle.nfold_cli.specs.Endings.{Ending, ending, IsEndingOf}
use Rattle.nfold_cli.specs.PointCommand.{pointed_in, IsPointEnding}
use Rattle.nfold_cli.specs.GraverCommand.{IsKernelEnding}
use Rattle.nfold_cli.specs.SolveCommand.{caps_of, limit_ending, solved_ending, IsEndingWithin, IsSolveEnding}
use Rattle.nfold_cli.specs.CheckCommand.{claimed_in, IsCheckEnding}
use Rattle.nfold_cli.specs.TrialCommand.{trial_caps, tried_ending}
use Rattle.nfold_cli.specs.Forms.{IsFormEnding, IsEnding}

-- a matrix has one slack basis, and it is within the limit or not
kernel_ending : (limit : ℕ) (m : Matrix) (e f : Ending) → IsKernelEnding limit m e → IsKernelEnding limit m f → e ≡ f
kernel_ending limit m e f (inl (exceeds, is)) (inl (again, same)) = is ∙ sym same
kernel_ending limit m e f (inl (exceeds, is)) (inr (basis, within, same)) =
    absurd (within_or_exceeds m limit basis within exceeds)
kernel_ending limit m e f (inr (basis, within, is)) (inl (exceeds, same)) =
    absurd (within_or_exceeds m limit basis within exceeds)
kernel_ending limit m e f (inr (basis, within, is)) (inr (other, too, same)) =
    let one : basis ≡ other = slack_basis_unique m basis other within.slack too.slack in
    is ∙ ap (λ (zs : List Vector). ending status.Done (matrix_text (record { cols = m.cols; rows = kernel m.cols zs })))
    one ∙ sym same

-- one ending on what was read is one ending
ending_of : {A : Type 0} (prefix : List ℕ) (read : Result A ReadFault) (Ends : A → Ending → Type 0)
    → ((a : A) (e f : Ending) → Ends a e → Ends a f → e ≡ f)
    → (e f : Ending) → IsEndingOf prefix Ends read e → IsEndingOf prefix Ends read f → e ≡ f
ending_of prefix (Err stop) Ends one e f is same = is ∙ sym same
ending_of prefix (Ok a) Ends one e f is same = one a e f is same

-- a program passes one limit, or has one outcome with one certificate that is reached within the limits
ending_within : (p : Program) (caps : Caps) (ending_of : Certificate → Outcome → Ending) (e f : Ending)
    → IsEndingWithin p caps ending_of e → IsEndingWithin p caps ending_of f → e ≡ f
ending_within p caps ending_of e f (inl (g, passed, is)) (inl (h, also, same)) =
    is ∙ ap limit_ending (limit_unique p caps g h passed also) ∙ sym same
ending_within p caps ending_of e f (inl (g, passed, is)) (inr (o, c, reached, same)) =
    absurd (within_excludes p caps o reached.outcome reached.within g passed)
ending_within p caps ending_of e f (inr (o, c, reached, is)) (inl (g, passed, same)) =
    absurd (within_excludes p caps o reached.outcome reached.within g passed)
ending_within p caps ending_of e f (inr (o, c, reached, is)) (inr (q, d, again, same)) =
    let outcome : o ≡ q = outcome_unique p o q reached.outcome again.outcome in
    let first : IsCertificate p q c = subst (λ (r : Outcome). IsCertificate p r c) outcome reached.certificate in
    let certificate : c ≡ d = certificate_unique p q c d first again.certificate in
    is ∙ ap (ending_of c) outcome ∙ ap (λ (b : Certificate). ending_of b q) certificate ∙ sym same

form_ending : (form : Option FormValue) (files : List File) (e f : Ending) → IsFormEnding form files e
    → IsFormEnding form files f → e ≡ f
form_ending None files e f is same = is ∙ sym same
form_ending (Some (PointForm prefix relations)) files e f is same =
    ending_of prefix (pointed_in prefix relations files) IsPointEnding (λ a e f is same. is ∙ sym same) e f is same
form_ending (Some (GraverForm prefix limit)) files e f is same =
    ending_of prefix (plain_in files prefix) (IsKernelEnding limit) (λ m e f. kernel_ending limit m e f) e f is same
form_ending (Some (SolveForm prefix workers options)) files e f is same =
    ending_of prefix (program_in files prefix options.relations) (IsSolveEnding prefix options)
    (λ p e f. ending_within p (caps_of options) (solved_ending prefix options.trace p.brick.cols) e f) e f is same
form_ending (Some (TrialForm number bricks)) files e f is same =
    let p = transport number bricks in ending_within p trial_caps (tried_ending number bricks p) e f (inr is) (inr same)
form_ending (Some (CheckForm prefix relations)) files e f is same =
    ending_of prefix (claimed_in prefix relations files) (IsCheckEnding prefix) (λ a e f is same. is ∙ sym same) e f is
    same

pub ending_unique : (words : List Word) (files : List File) (e f : Ending) → IsEnding words files e
    → IsEnding words files f → e ≡ f
ending_unique words files e f is same = form_ending (form_of words) files e f is same
