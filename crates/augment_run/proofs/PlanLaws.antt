-- What the tables of a solve are.
use Rattle.std.proofs.Common.{◌≡◌, ◌≤◌, List, length, map, ap, arith, ◌∙◌, subst, All}
use Rattle.std.proofs.lemmas.List.{length-map}
use Rattle.lattice_theory.specs.Vectors.{Vector, dot}
use Rattle.lattice_theory.specs.Matrices.{Matrix}
use Rattle.lattice_theory.specs.BasisLimits.{IsNarrow, IsBasisWithin}
use Rattle.lattice_theory.specs.SignedSums.{Sum}
use Rattle.fold_theory.specs.declared.Phase.{Phase}
use Rattle.fold_theory.specs.Programs.{Program, Bricks}
use Rattle.run_theory.specs.declared.SolveFault.TheVariants as fault
use Rattle.run_theory.specs.Links.{generators, links_of}
use Rattle.run_theory.specs.Limits.{BrickStageWithin, IsLimit, SumStageWithin, FitsTable}
use Rattle.run_theory.specs.BrickSums.{ExceedsSums}
use Rattle.lattice_laws.proofs.VectorLists.{length-kernel}
use Rattle.pottier.specs.Bases.{BasisValue}
use Rattle.augment_run.specs.declared.settings.Settings.{Settings}
use Rattle.augment_run.specs.declared.solving.plans.Plan.{Plan}
use Rattle.augment_run.specs.Solving.{caps_of}
use Rattle.augment_run.specs.Stages.{AreAllowed, bases_of, IsPlan, IsBegun}

-- the tables of a program whose bricks settle at x
pub plan_is : (p : Program) (s : Settings) (x : Bricks) (bricks basis : BasisValue) (kernel links : Matrix) →
    AreAllowed s →
    bricks.matrix ≡ p.brick → BrickStageWithin p (caps_of s) bricks.elements x →
    kernel ≡ record { cols = p.brick.cols; rows = generators p bricks.elements } → All IsNarrow kernel.rows →
    links ≡ links_of p bricks.elements → All IsNarrow links.rows →
    IsBasisWithin (links_of p bricks.elements) s.max_basis basis.elements → basis.matrix ≡ links_of p bricks.elements →
    IsPlan p x (record { settings = s; bricks = bricks; kernel = kernel; links = links; basis = basis })
plan_is p s x bricks basis kernel links limits of_bricks stage is_kernel narrow is_links small within of_links =
    record {
      limits = limits;
      stage = record {
        bricks = stage;
        entries = subst (λ (m : Matrix). All IsNarrow m.rows) is_links small;
        basis = within;
      };
      of_bricks = of_bricks;
      kernel = is_kernel;
      narrow = narrow;
      links = is_links;
      of_links = of_links;
    }

-- the link matrix has few columns and a row for each linking row
pub links_few : (p : Program) (s : Settings) (x : Bricks) (basis : List Vector) (links : Matrix) → AreAllowed s →
    BrickStageWithin p (caps_of s) basis x → links ≡ links_of p basis → links.cols ≤ 2000
links_few p s x basis links limits stage is =
    omega (
      arith,
      ap (λ (m : Matrix). m.cols) is,
      length-kernel p.brick.cols basis,
      stage.within.short,
      limits.small_basis,
    )

pub links_high : (p : Program) (basis : List Vector) (links : Matrix) → links ≡ links_of p basis →
    length links.rows ≡ length p.link.rows
links_high p basis links is =
    ap (λ (m : Matrix). length m.rows) is ∙ length-map p.link.rows (λ row. map (dot row) (generators p basis))

-- ---- the limits of the phases

-- there are more sums than are allowed
pub sums_limit : (p : Program) (phase : Phase) (plan : Plan) (x : Bricks) → IsBegun p phase plan x →
    ExceedsSums p phase (bases_of plan) plan.settings.max_sums → IsLimit p (caps_of plan.settings) (fault.Sums phase)
sums_limit p phase plan x begun exceeds =
    (bases_of plan, x, begun.tables.stage, begun.begins, begun.before, exceeds)

-- the table of all layers is too large
pub table_limit : (p : Program) (phase : Phase) (plan : Plan) (x : Bricks) (sums : List Sum) → IsBegun p phase plan x →
    SumStageWithin p (caps_of plan.settings) phase (bases_of plan) sums → (FitsTable p sums → ⊥) →
    IsLimit p (caps_of plan.settings) (fault.Table phase)
table_limit p phase plan x sums begun within large =
    (bases_of plan, x, sums, begun.tables.stage, begun.begins, begun.before, within, omega (arith, large))
