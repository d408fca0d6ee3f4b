-- The frame that pieces are found by: from complete lists and all sums of so many signed generators, and so from slack
-- bases and brick sums.
use Rattle.std.proofs.Common.{◌≡◌, ℕ, ◌<◌, ◌≤◌, true, List, length, arith, Contains}
use Rattle.fold_theory.specs.declared.Phase.{Phase}
use Rattle.lattice_theory.specs.Vectors.{Vector, norm1, zeros}
use Rattle.lattice_theory.specs.Matrices.{product}
use Rattle.lattice_theory.specs.Lattices.{is_complete_for}
use Rattle.lattice_theory.specs.SignedSums.{Sum, vectors, IsSignedSum}
use Rattle.lattice_laws.proofs.Members.{each_has}
use Rattle.cover_laws.proofs.Kernels.{IsGenerator, complete_generators, gens_sized}
use Rattle.cover_laws.proofs.SlackBases.{slack_basis_complete}
use Rattle.fold_theory.specs.Programs.{Program}
use Rattle.run_theory.specs.Links.{Bases, AreBases, complexity, generators, links_of, fold_complexity}
use Rattle.run_theory.specs.BrickSums.{AreBrickSums}
use Rattle.piece_laws.proofs.Generators.{written_of}
use Rattle.piece_laws.proofs.SignedSums.{combined_listed, IsQuiet, listed_quiet}
use Rattle.piece_laws.proofs.Complexities.{complexity_some, light_part}
use Rattle.piece_laws.proofs.OnePiece.{Frame}

-- lists that are complete for the two lattices, a bound no less than the complexity, and all sums of at most so many
-- signed generators
pub record AreFrameLists (p : Program) (phase : Phase) (bricks links zs : List Vector) (bound : ℕ) : Type 0 where
  pub bricks_complete : is_complete_for p.brick bricks ≡ true
  pub links_complete : is_complete_for (links_of p bricks) links ≡ true
  pub heavy : complexity phase p.relations (links_of p bricks) links ≤ bound
  pub sums : (n : ℕ) (w : Vector) → n ≤ bound → IsSignedSum p.brick.cols (generators p bricks) n w → Contains zs w

-- they find pieces
pub frame_of_lists : (p : Program) (phase : Phase) (bricks links zs : List Vector) (bound : ℕ) →
    AreFrameLists p phase bricks links zs bound → Frame p phase (generators p bricks) zs bound
frame_of_lists p phase bricks links zs bound are =
    let gens = generators p bricks in
    let each = complete_generators p.brick bricks are.bricks_complete in
    let sized = gens_sized p.brick bricks are.bricks_complete in
    record {
      some = omega (arith, complexity_some phase p.relations (links_of p bricks) links, are.heavy);
      sized = sized;
      nonzero = each_has (IsGenerator p.brick) (λ g. 0 < norm1 g) (λ g is. is.nonzero) gens each;
      still =
          each_has (IsGenerator p.brick) (λ g. product p.brick g ≡ zeros (length p.brick.rows)) (λ g is. is.still) gens
          each;
      writes = λ d size still. written_of p.brick bricks are.bricks_complete d size still;
      light = λ w size some tight.
          light_part phase p.relations (links_of p bricks) links are.links_complete bound are.heavy w size some tight;
      listed = λ count low. combined_listed p.brick.cols gens bound zs are.sums sized count low;
    }

-- slack bases are complete, and the brick sums are all there are
pub frame_of : (p : Program) (phase : Phase) (b : Bases) (sums : List Sum) → AreBases p b →
    AreBrickSums p phase b sums →
    Frame p phase (generators p b.brick) (vectors sums) (fold_complexity p phase b)
frame_of p phase b sums bases are =
    frame_of_lists p phase b.brick b.links (vectors sums) (fold_complexity p phase b) (record {
      bricks_complete = slack_basis_complete p.brick b.brick bases.brick;
      links_complete = slack_basis_complete (links_of p b.brick) b.links bases.links;
      heavy = omega arith;
      sums = are.complete;
    })

-- the listed sums have as many entries as a brick has columns, and change no brick row
pub sums_quiet : (p : Program) (phase : Phase) (b : Bases) (sums : List Sum) → AreBases p b →
    AreBrickSums p phase b sums → (w : Vector) → Contains (vectors sums) w → IsQuiet p.brick.cols p.brick.rows w
sums_quiet p phase b sums bases are w c =
    let gens = generators p b.brick in
    let quiet =
    each_has (IsGenerator p.brick) (IsQuiet p.brick.cols p.brick.rows)
    (λ g is. record { size = is.size; still = is.still }) gens
    (complete_generators p.brick b.brick (slack_basis_complete p.brick b.brick bases.brick)) in
    listed_quiet p.brick.cols gens p.brick.rows quiet (fold_complexity p phase b) sums are w c
