-- The lines that the program prints.
use Rattle.std.specs.Prelude.{ℕ, ℤ, List, [], ◌++◌, Option, Some, None, codes}
use Rattle.std.specs.Fmt.{decimal, signed_decimal}
use Rattle.fold_theory.specs.declared.Broken.{Broken}
use Rattle.fold_theory.specs.declared.Broken.TheVariants.{Below, Above, BrickRow, LinkRow}
use Rattle.fold_theory.specs.declared.Verdict.{Verdict}
use Rattle.fold_theory.specs.declared.Verdict.TheVariants.{Optimal, InfeasibleBrick, InfeasibleLink}
use Rattle.run_theory.specs.declared.Rule.{Rule}
use Rattle.run_theory.specs.declared.Rule.TheVariants as rule
use Rattle.mat_files.specs.declared.fault.MatFault.{MatFault}
use Rattle.mat_files.specs.declared.fault.MatFault.TheVariants as mat
use Rattle.convex_costs.specs.declared.fault.CostFault.{CostFault}
use Rattle.convex_costs.specs.declared.fault.CostFault.TheVariants as cost
use Rattle.certificate.specs.declared.fault.CertKind.{CertKind}
use Rattle.certificate.specs.declared.fault.CertKind.TheVariants as kind
use Rattle.certificate.specs.declared.fault.CertFault.{CertFault}
use Rattle.cert_checker.specs.declared.answer.Check.{Check}
use Rattle.cert_checker.specs.declared.answer.Check.TheVariants as check

-- ---- on the output

-- what a point breaks
abbrev pub broken_text : Broken → List ℕ
broken_text (Below i j) = codes "broken below brick " ++ decimal i ++ codes " column " ++ decimal j
broken_text (Above i j) = codes "broken above brick " ++ decimal i ++ codes " column " ++ decimal j
broken_text (BrickRow i r) = codes "broken brick " ++ decimal i ++ codes " row " ++ decimal r
broken_text (LinkRow r) = codes "broken link row " ++ decimal r

-- the line on what a point breaks, or else the lines on a point that breaks nothing and has this cost
abbrev pub point_text : Option Broken → ℤ → List ℕ
point_text None c = codes "feasible\ncost " ++ signed_decimal c ++ codes "\n"
point_text (Some b) c = broken_text b ++ codes "\n"

-- a verdict
abbrev pub verdict_text : Verdict → List ℕ
verdict_text (Optimal c) = codes "optimal cost " ++ signed_decimal c
verdict_text (InfeasibleBrick i d) = codes "infeasible brick " ++ decimal i ++ codes " residual " ++ decimal d
verdict_text (InfeasibleLink d) = codes "infeasible link residual " ++ decimal d

-- the name of a rule of the checker
abbrev pub rule_text : Rule → List ℕ
rule_text rule.C1 = codes "C1"
rule_text rule.C2 = codes "C2"
rule_text rule.C3 = codes "C3"
rule_text rule.C4 = codes "C4"
rule_text rule.C5 = codes "C5"
rule_text rule.C6 = codes "C6"
rule_text rule.C7 = codes "C7"
rule_text rule.B1 = codes "B1"
rule_text rule.B2 = codes "B2"

-- the line on a certificate that shows this verdict, or breaks this rule
abbrev pub check_text : Check → List ℕ
check_text (check.Yes v) = codes "yes " ++ verdict_text v ++ codes "\n"
check_text (check.No r) = codes "no " ++ rule_text r ++ codes "\n"

-- ---- what is wrong with a file

-- a word, and the place of a byte
abbrev pub at_byte : List ℕ → ℕ → List ℕ
at_byte word at = word ++ codes " at " ++ decimal at

-- a word, and a coordinate
abbrev pub at_column : List ℕ → ℕ → ℕ → List ℕ
at_column word i j = word ++ codes " at brick " ++ decimal i ++ codes " column " ++ decimal j

-- a word, and a breakpoint of a coordinate
abbrev pub at_breakpoint : List ℕ → ℕ → ℕ → ℕ → List ℕ
at_breakpoint word i j q = at_column word i j ++ codes " point " ++ decimal q

-- what is wrong with a matrix file, and where; nothing where memory ran out
abbrev pub mat_fault_text : MatFault → List ℕ
mat_fault_text (mat.NotNumber at) = at_byte (codes "not-number") at
mat_fault_text (mat.NoBound at) = at_byte (codes "no-bound") at
mat_fault_text (mat.TooBig at) = at_byte (codes "too-big") at
mat_fault_text (mat.EndsEarly at) = at_byte (codes "ends-early") at
mat_fault_text (mat.Extra at) = at_byte (codes "extra") at
mat_fault_text (mat.Shape at got from to) = at_byte (codes "shape") at
mat_fault_text mat.Memory = []

-- what is wrong with the cost of a coordinate
abbrev pub cost_fault_text : ℕ → ℕ → CostFault → List ℕ
cost_fault_text i j (cost.NotRising q) = at_breakpoint (codes "not-rising") i j q
cost_fault_text i j (cost.SlopeNotWhole q) = at_breakpoint (codes "slope-not-whole") i j q
cost_fault_text i j (cost.NotConvex q) = at_breakpoint (codes "not-convex") i j q
cost_fault_text i j cost.NotCovered = at_column (codes "not-covered") i j
cost_fault_text i j cost.TooLarge = at_column (codes "too-large") i j

-- what is wrong with a certificate
abbrev pub cert_kind_text : CertKind → List ℕ
cert_kind_text kind.Word = codes "word"
cert_kind_text kind.NotNumber = codes "not-number"
cert_kind_text kind.TooBig = codes "too-big"
cert_kind_text kind.EndsEarly = codes "ends-early"
cert_kind_text kind.Extra = codes "extra"
cert_kind_text kind.TooMany = codes "too-many"
cert_kind_text kind.Memory = []

-- and where; nothing of use where memory ran out
abbrev pub cert_fault_text : CertFault → List ℕ
cert_fault_text f = at_byte (cert_kind_text f.kind) f.at

-- ---- lines on errors

-- the line on a file that is refused, and what is wrong with it
abbrev pub input_text : List ℕ → List ℕ → List ℕ
input_text file what = codes "input: " ++ file ++ codes ": " ++ what ++ codes "\n"

-- the line on a file that could not be read
abbrev pub read_text : List ℕ → List ℕ
read_text file = codes "read: " ++ file ++ codes "\n"

-- the line on a slack basis that passes its limit
abbrev pub basis_limit_text : List ℕ
basis_limit_text = codes "limit: basis\n"

-- the line on a write that failed
abbrev pub write_text : List ℕ
write_text = codes "write\n"

-- the line on want of memory
abbrev pub memory_text : List ℕ
memory_text = codes "memory\n"

-- the line on words that are no form
abbrev pub usage_text : List ℕ
usage_text = codes "usage: nfold point P, graver M, solve P, check P, trial NUMBER N\n"
