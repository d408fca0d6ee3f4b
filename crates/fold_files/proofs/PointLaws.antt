-- A matrix with a row for each brick and an entry for each column is a point.
use Rattle.std.proofs.Common.{◌≡◌, ℕ, ◌*◌, ◌^◌, ◌≤◌, ℤ, unsigned_abs, true, List, [], ◌∷◌, length, All, IsTrue}
use Rattle.std.proofs.Common.{Contains, ap, sym, subst, ◌∙◌, inl, inr, arith}
use Rattle.std.specs.List.{AllByRecursion}
use Rattle.std.proofs.lemmas.Bool.{le-leb}
use Rattle.std.proofs.lemmas.List.Elements.{recursion_from_All, All-nil, All-head, All-tail, All-append, All-weaker}
use Rattle.std.proofs.lemmas.List.Elements.{All-contains}
use Rattle.lattice_theory.specs.Vectors.{Vector, is_bounded}
use Rattle.lattice_theory.specs.Matrices.{Matrix, rows_of}
use Rattle.fold_theory.specs.Programs.{Program, Bricks}
use Rattle.lattice_laws.proofs.VectorLists.{length-flat, rows_of-flat}
use Rattle.lattice_laws.specs.VectorLists.{flat}
use Rattle.mat_files.specs.MatrixText.{Admits}
use Rattle.fold_program.specs.Points.{HasPointShape, IsPoint, IsNoPoint}
use Rattle.fold_files.specs.Reading.{exactly}

-- what holds of the entries of each row holds of all
all_entries : (P : ℤ → Type 0) (rows : List Vector) → All (All P) rows → All P (flat rows)
all_entries P [] each = All-nil P
all_entries P (row ∷ rows) each =
    All-append P row (flat rows) (All-head (All P) row rows each)
    (all_entries P rows (All-tail (All P) row rows each))

-- a matrix of exactly the shape of a point
abbrev pub FitsPoint : Program → Matrix → Type 0
FitsPoint p m = Admits (exactly (length p.bricks) p.link.cols) m

module _ (p : Program) (m : Matrix) (fits : FitsPoint p m) where
  height : length m.rows ≡ length p.bricks
  height = omega (arith, fits.least_rows, fits.most_rows)

  width : m.cols ≡ p.link.cols
  width = omega (arith, fits.least_cols, fits.most_cols)

  -- its rows are a point in shape
  pub shape_fits : HasPointShape p m.rows
  shape_fits = record {
    bricks = height;
    widths =
        subst (λ (c : ℕ). All (λ row. length row ≡ c) m.rows) width fits.width;
  }

  widths : AllByRecursion (λ row. length row ≡ p.link.cols) m.rows
  widths = recursion_from_All _ m.rows shape_fits.widths

  size_fits : length (flat m.rows) ≡ length p.bricks * p.link.cols
  size_fits = length-flat p.link.cols m.rows widths ∙ ap (λ n. n * p.link.cols) height

  bounded : All (λ a. IsTrue (is_bounded a)) (flat m.rows)
  bounded =
      All-weaker (λ a. unsigned_abs a ≤ 2 ^ 62) (λ a. IsTrue (is_bounded a))
      (λ a small. le-leb (unsigned_abs a) (2 ^ 62) small) (flat m.rows)
      (all_entries (λ a. unsigned_abs a ≤ 2 ^ 62) m.rows fits.entries)

  -- its entries are a point
  pub is_point : (entries : Vector) → entries ≡ flat m.rows → IsNoPoint p entries → ⊥
  is_point entries are (inl other_size) = other_size (ap length are ∙ size_fits)
  is_point entries are (inr (a, there, large)) =
      let small : is_bounded a ≡ true = All-contains (λ (b : ℤ). IsTrue (is_bounded b)) (flat m.rows) a bounded
      (subst (λ (v : Vector). Contains v a) are there) in
      absurd (cc (small, large))

  -- which is its rows
  pub point_is : (entries : Vector) (x : Bricks) → entries ≡ flat m.rows → IsPoint p entries x → m.rows ≡ x
  point_is entries x are point =
      let made : x ≡ rows_of (length m.rows) p.link.cols (flat m.rows) =
      point.value ∙ (λ i. rows_of (sym height i) p.link.cols (are i)) in
      sym (made ∙ rows_of-flat p.link.cols m.rows widths)

  pub point_matrix_is : (entries : Vector) (x : Bricks) → entries ≡ flat m.rows → IsPoint p entries x →
      m ≡ record { cols = p.link.cols; rows = x }
  point_matrix_is entries x are point = λ i. record { cols = width i; rows = point_is entries x are point i }

  pub point_shape : (entries : Vector) (x : Bricks) → entries ≡ flat m.rows → IsPoint p entries x →
      HasPointShape p x
  point_shape entries x are point = subst (HasPointShape p) (point_is entries x are point) shape_fits
