-- The tables of a program, which are made one after the other: the last one has its brick sums.
use Rattle.std.proofs.Common.{◌≡◌, ℕ, ◌≤◌, List, length, ap, sym, ◌∙◌, subst, All}
use Rattle.lattice_theory.specs.Vectors.{Vector}
use Rattle.lattice_theory.specs.Matrices.{Matrix}
use Rattle.lattice_theory.specs.Lattices.{IsSlackBasis, kernel}
use Rattle.lattice_theory.specs.BasisLimits.{IsNarrow}
use Rattle.lattice_theory.specs.SignedSums.{Sum, AreSums, vectors}
use Rattle.fold_theory.specs.declared.Relation.{Relation}
use Rattle.fold_theory.specs.declared.Phase.TheVariants.{Closed}
use Rattle.fold_theory.specs.Programs.{Program, Bricks, IsFeasible}
use Rattle.run_theory.specs.Starts.{IsStart}
use Rattle.run_theory.specs.Links.{Bases, AreBases, generators, links_of, link_matrix, complexity, fold_complexity}
use Rattle.run_theory.specs.BrickSums.{AreBrickSums}
use Rattle.run_theory.specs.Folds.{FoldValue, IsSmallImage, HasBrickSums}
use Rattle.round_workers.specs.declared.menus.RunMenus.{RunMenus}
use Rattle.round_workers.specs.Menus.{AreRunMenus}
use Rattle.round_workers.specs.Tasks.{IsTask}
use Rattle.sum_laws.proofs.FoldLaws.{sums_wide, sums_small}

-- the sums of a program in phase Closed make a fold
pub record IsClosedFold (p : Program) (sums : List Sum) : Type 0 where
  pub has : HasBrickSums (record { program = p; phase = Closed; sums = sums })
  pub wide : All (λ w. length w ≡ p.brick.cols) (vectors sums)
  pub small : All (IsSmallImage p) (vectors sums)

-- the slack basis of the bricks, the kernel, the link matrix and its slack basis, the complexity, and the sums
pub closed_fold : (p : Program) (brick of : Matrix) (bricks : List Vector) (gens : Matrix) (link links : Matrix)
    (basis : List Vector) (relations : List Relation) (bound : ℕ) (sums : List Sum)
    → brick ≡ p.brick → of ≡ brick → IsSlackBasis brick bricks
    → gens.rows ≡ kernel of.cols bricks → gens.cols ≡ of.cols
    → link ≡ p.link → links ≡ link_matrix link gens.rows → All IsNarrow links.rows → IsSlackBasis links basis
    → relations ≡ p.relations → bound ≡ complexity Closed relations links basis
    → AreSums gens.cols gens.rows bound sums → length sums ≤ 20000 → IsClosedFold p sums
closed_fold p brick of bricks gens link links basis relations bound sums brick_is of_is slack rows_are cols_are link_is
    links_are narrow link_slack relations_are bound_is all few =
    let matrix : of ≡ p.brick = of_is ∙ brick_is in
    let b : Bases = record { brick = bricks; links = basis } in
    let rows : gens.rows ≡ generators p bricks = rows_are ∙ ap (λ (m : Matrix). kernel m.cols bricks) matrix in
    let cols : gens.cols ≡ p.brick.cols = cols_are ∙ ap (λ (m : Matrix). m.cols) matrix in
    let links_is : links ≡ links_of p bricks =
    links_are ∙ ap (λ l. link_matrix l gens.rows) link_is ∙ ap (link_matrix p.link) rows in
    let bases : AreBases p b = record {
      brick = subst (λ (m : Matrix). IsSlackBasis m bricks) brick_is slack;
      links = subst (λ (m : Matrix). IsSlackBasis m basis) links_is link_slack;
    } in
    let bounds : bound ≡ fold_complexity p Closed b =
    bound_is ∙ ap (λ rs. complexity Closed rs links basis) relations_are
    ∙ ap (λ (m : Matrix). complexity Closed p.relations m basis) links_is in
    let are : AreBrickSums p Closed b sums =
    subst (λ g. AreSums p.brick.cols (generators p bricks) g sums) bounds
    (subst (λ rs. AreSums p.brick.cols rs bound sums) rows (subst (λ n. AreSums n gens.rows bound sums) cols all)) in
    record {
      has = (b, bases, are);
      wide = sums_wide p b bases Closed sums are;
      small = sums_small p b bases Closed sums are (subst (λ (m : Matrix). All IsNarrow m.rows) links_is narrow) few;
    }

-- a feasible point, the sums and the menus make a task
pub feasible_task : (f : FoldValue) (p : Program) (x : Bricks) (sums : List Sum) (kept : RunMenus)
    → f ≡ record { program = p; phase = Closed; sums = sums }
    → HasBrickSums (record { program = p; phase = Closed; sums = sums }) → IsFeasible p x → AreRunMenus f x kept
    → IsTask f x kept
feasible_task f p x sums kept is has feasible menus = record {
  sums = subst HasBrickSums (sym is) has;
  start = subst (λ (g : FoldValue). IsStart g.program g.phase x) (sym is)
      (record { within = feasible.within; brick_rows = feasible.brick_rows; end = feasible.link_rows });
  menus = menus;
}
