-- The names of the files of a program.
use Rattle.std.specs.Prelude.{ℕ, List, codes}
use Rattle.fold_program.specs.declared.fault.FileKind.{FileKind}
use Rattle.fold_program.specs.declared.fault.FileKind.TheVariants as file

-- what follows the prefix in the name of the file
abbrev pub suffix_of : FileKind → List ℕ
suffix_of file.Link = codes ".link.mat"
suffix_of file.Brick = codes ".brick.mat"
suffix_of file.Lower = codes ".lb"
suffix_of file.Upper = codes ".ub"
suffix_of file.Right = codes ".rhs"
suffix_of file.Relations = codes ".rel"
suffix_of file.Costs = codes ".cost"
suffix_of file.Point = codes ".pt"
suffix_of file.Cert = codes ".cert"
suffix_of file.Plain = codes ".mat"
