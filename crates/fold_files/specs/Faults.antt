-- What the faults of the calls below are to a caller who reads files.
use Rattle.fold_shelf.specs.declared.LoadFault.{LoadFault}
use Rattle.fold_shelf.specs.declared.LoadFault.TheVariants as loading
use Rattle.mat_files.specs.declared.MatFault.{MatFault}
use Rattle.mat_files.specs.declared.MatFault.TheVariants as mat
use Rattle.fold_program.specs.declared.FileKind.{FileKind}
use Rattle.fold_program.specs.declared.ProgramFault.{ProgramFault}
use Rattle.fold_program.specs.declared.ProgramFault.TheVariants as program
use Rattle.fold_files.specs.declared.fault.RelationFault.{RelationFault}
use Rattle.fold_files.specs.declared.fault.RelationFault.TheVariants as relation
use Rattle.fold_files.specs.declared.fault.CostFileFault.{CostFileFault}
use Rattle.fold_files.specs.declared.fault.CostFileFault.TheVariants as cost
use Rattle.fold_files.specs.declared.fault.ReadFault.{ReadFault}
use Rattle.fold_files.specs.declared.fault.ReadFault.TheVariants as read

-- of a file that is not loaded
abbrev pub load_fault : FileKind → LoadFault → ReadFault
load_fault kind loading.Missing = read.Shelf kind
load_fault kind loading.Failed = read.Shelf kind
load_fault kind loading.TooLong = read.TooLong kind
load_fault kind loading.Memory = read.Memory

-- of a matrix file
abbrev pub form_fault : FileKind → MatFault → ReadFault
form_fault kind mat.Memory = read.Memory
form_fault kind f = read.Form kind f

-- of the cost file
abbrev pub costs_fault : CostFileFault → ReadFault
costs_fault (cost.Syntax at) = read.Costs at
costs_fault cost.Memory = read.Memory

-- of the relation file
abbrev pub relations_fault : RelationFault → ReadFault
relations_fault (relation.Syntax at) = read.Relations at
relations_fault relation.Memory = read.Memory

-- of the program as a whole
abbrev pub whole_fault : ProgramFault → ReadFault
whole_fault program.Memory = read.Memory
whole_fault f = read.Program f
