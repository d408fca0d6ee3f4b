-- What the answers of `Program::new` say of the parts.
use Rattle.std.specs.Prelude.{◌≡◌, Some, None, All}
use Rattle.lattice_theory.specs.Vectors.{IsBoundedRow}
use Rattle.lattice_theory.specs.BasisLimits.{IsNarrow}
use Rattle.convex_costs.specs.Bounds.{AreBounded}
use Rattle.fold_program.specs.declared.parts.Parts.{Parts}
use Rattle.fold_program.specs.declared.fault.ProgramFault.{ProgramFault}
use Rattle.fold_program.specs.declared.fault.ProgramFault.TheVariants as fault
use Rattle.fold_program.specs.Parts.{program_of}
use Rattle.fold_program.specs.Refusals.{first_misshaped, program_refusal}

-- the entries and the numbers of the costs are within their limits
pub record AreWithinLimits (p : Parts) : Type 0 where
  pub link : All IsNarrow p.link.rows
  pub brick : All IsNarrow p.brick.rows
  pub lower : All IsBoundedRow p.lower.rows
  pub upper : All IsBoundedRow p.upper.rows
  pub right : All IsBoundedRow p.right.rows
  pub costs : All AreBounded p.costs.items

-- the first part that is misshaped, or else the first refusal of the program that the parts make; want of memory may
-- come
-- at any time
abbrev pub IsProgramFault : Parts → ProgramFault → Type 0
IsProgramFault p (fault.Shape kind) = first_misshaped p ≡ Some kind
IsProgramFault p fault.Memory = Unit {0}
IsProgramFault p f = (first_misshaped p ≡ None) × (program_refusal (program_of p) ≡ Some f)

-- nothing is refused
abbrev pub AreAccepted : Parts → Type 0
AreAccepted p = (first_misshaped p ≡ None) × (program_refusal (program_of p) ≡ None)
