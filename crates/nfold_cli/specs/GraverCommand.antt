-- `graver M [--max-basis B]`: the kernel of the slack basis of a matrix.
use Rattle.std.specs.Prelude.{◌≡◌, ℕ, ◌⊎◌, List}
use Rattle.lattice_theory.specs.Vectors.{Vector}
use Rattle.lattice_theory.specs.Matrices.{Matrix}
use Rattle.lattice_theory.specs.Lattices.{kernel}
use Rattle.lattice_theory.specs.BasisLimits.{ExceedsBasis, IsBasisWithin}
use Rattle.mat_files.specs.MatrixText.{matrix_text}
use Rattle.nfold_cli.specs.declared.status.Status.TheVariants as status
use Rattle.nfold_cli.specs.Texts.{basis_limit_text}
use Rattle.nfold_cli.specs.Endings.{Ending, ending}

-- the kernel of the matrix's slack basis as a matrix file, or that the basis passes its limit
abbrev pub IsKernelEnding : ℕ → Matrix → Ending → Type 0
IsKernelEnding limit m e =
    (ExceedsBasis m limit × (e ≡ ending status.Limit basis_limit_text))
    ⊎ ((basis : List Vector) × IsBasisWithin m limit basis
    × (e ≡ ending status.Done (matrix_text (record { cols = m.cols; rows = kernel m.cols basis }))))
