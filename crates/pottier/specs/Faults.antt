-- When a slack basis is refused.
use Rattle.std.specs.Prelude.{ℕ}
use Rattle.lattice_theory.specs.Matrices.{Matrix}
use Rattle.lattice_theory.specs.BasisLimits.{ExceedsBasis}
use Rattle.pottier.specs.declared.fault.BasisFault.{BasisFault}
use Rattle.pottier.specs.declared.fault.BasisFault.TheVariants.{Limit, Memory}

-- a limit is the cause only where this holds
abbrev pub LimitOnly : Type 0 → BasisFault → Type 0
LimitOnly P Limit = P
LimitOnly P Memory = Unit {0}

-- the basis of the matrix exceeds the limit, or memory ran out
abbrev pub IsBasisFault : Matrix → ℕ → BasisFault → Type 0
IsBasisFault m limit = LimitOnly (ExceedsBasis m limit)
