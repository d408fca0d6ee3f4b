-- Laws of the point of a certificate: its rows one after the other, and the entries that make it.
use Rattle.std.proofs.Common.{◌≡◌, ℕ, ◌+◌, ◌-◌, ◌*◌, ℤ, Bool, true, false, List, length, drop, flat_map, Option, Some}
use Rattle.std.proofs.Common.{None, arith, sym, ◌∙◌, subst, slice_get, All, IfSome, IsSome}
use Rattle.std.proofs.lemmas.List.Elements.{recursion_from_All}
use Rattle.lattice_theory.specs.Lists.{all_zip}
use Rattle.lattice_theory.specs.Vectors.{Vector}
use Rattle.lattice_theory.specs.Matrices.{rows_of}
use Rattle.fold_theory.specs.Programs.{Program, Brick, Bricks, AreWithin}
use Rattle.fold_program.specs.Places.{OfBrick}
use Rattle.fold_program.specs.Points.{IsPoint}
use Rattle.listed_links.proofs.RowLaws.{Stands, stands-length, stands-rows}
use Rattle.listed_potentials.proofs.RowLaws.{zip-at}
use Rattle.cert_checker.specs.Folds.{IsPointOf}

-- a row that passes the test is one fewer to test
pub row-passes : (test : Brick → Vector → Bool) (p : Program) (rows : Bricks) (i : ℕ) (v : Vector) (b : Bool)
    → OfBrick p (i + 1) (λ d. b ≡ test d v) → slice_get rows (i + 1 - 1) ≡ Some v → b ≡ true
    → all_zip test (drop (i + 1) p.bricks) (drop (i + 1) rows) ≡ all_zip test (drop i p.bricks) (drop i rows)
row-passes test p rows i v b found there passes =
    let same : i + 1 - 1 ≡ i = omega arith in
    sym (zip-at test p.bricks rows i found.0 v true
    (subst (λ k. slice_get p.bricks k ≡ Some found.0) same found.1) (subst (λ k. slice_get rows k ≡ Some v) same there)
    (sym found.2 ∙ passes))

-- a row that fails it decides
pub row-fails : (test : Brick → Vector → Bool) (p : Program) (rows : Bricks) (i : ℕ) (v : Vector) (b : Bool)
    → OfBrick p (i + 1) (λ d. b ≡ test d v) → slice_get rows (i + 1 - 1) ≡ Some v → b ≡ false
    → all_zip test (drop i p.bricks) (drop i rows) ≡ all_zip test p.bricks rows → false ≡ all_zip test p.bricks rows
row-fails test p rows i v b found there fails so_far =
    let same : i + 1 - 1 ≡ i = omega arith in
    sym (zip-at test p.bricks rows i found.0 v false
    (subst (λ k. slice_get p.bricks k ≡ Some found.0) same found.1) (subst (λ k. slice_get rows k ≡ Some v) same there)
    (sym found.2 ∙ fails))
    ∙ so_far

-- the entries of rows within the bounds make the point with these rows
pub point-made : (p : Program) (rows : Bricks) (entries : List ℤ) (o : Option Bricks) → length rows ≡ length p.bricks
    → All (λ row. length row ≡ p.link.cols) rows → entries ≡ flat_map (λ row. row) rows → AreWithin p.bricks rows
    → IfSome o (IsPoint p entries)
    → (length entries ≡ length p.bricks * p.link.cols → AreWithin p.bricks
    (rows_of (length p.bricks) p.link.cols entries)
    → IsSome o) → IsPointOf rows o
point-made p rows entries o bricks widths are within = by o
  where
    stands : Stands p.link.cols rows (length p.bricks) entries
    stands = record {
      count = sym bricks;
      entries_are = are;
      widths = recursion_from_All (λ row. length row ≡ p.link.cols) rows widths;
    }

    same : rows_of (length p.bricks) p.link.cols entries ≡ rows
    same = stands-rows p.link.cols rows (length p.bricks) entries stands

    by : (q : Option Bricks) → IfSome q (IsPoint p entries)
        → (length entries ≡ length p.bricks * p.link.cols
        → AreWithin p.bricks (rows_of (length p.bricks) p.link.cols entries) → IsSome q) → IsPointOf rows q
    by None made some =
        let there : IsSome {T = Bricks} None =
        some (stands-length p.link.cols rows (length p.bricks) entries stands)
        (subst (AreWithin p.bricks) (sym same) within) in
        absurd (cc)
    by (Some x) made some = made.value ∙ same
