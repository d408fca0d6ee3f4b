-- The elements of a lattice: they are known by their first parts, and the lattice is closed; one more row.
use Rattle.std.proofs.Common.{◌≡◌, ℕ, ◌+◌, false, List, ◌++◌, length, map, take, drop, ap, arith, sym, ◌∙◌, inl, inr}
use Rattle.std.proofs.Common.{subst, length-append, length-take, append_assoc, zero, suc, pos}
use Rattle.std.proofs.lemmas.List.{take-append-drop, take_at, drop_at, map-append, take-take}
use Rattle.lattice_theory.specs.Vectors.{Vector, ◌⊑◌, is_zero, add, sub, opposite, zeros, dot, scale}
use Rattle.lattice_theory.specs.Matrices.{Matrix, product, element}
use Rattle.lattice_theory.specs.Lattices.{InLattice, IsMinimal}
use Rattle.lattice_theory.specs.BasisLimits.{IsBasisElement}
use Rattle.lattice_laws.proofs.Tests.{true_or_false, not_both}
use Rattle.lattice_laws.proofs.Conformal.{conforms-take, conforms-opposite, opposite-opposite, opposite_nonzero}
use Rattle.lattice_laws.proofs.Conformal.{opposite-append, length-opposite, length-add, sub-opposite, nonzero_by_take}
use Rattle.lattice_laws.proofs.Conformal.{leads-append}
use Rattle.lattice_laws.proofs.Products.{rows-add, rows-opposite, rows-zeros, length-rows, add-append, zeros_is}
use Rattle.lattice_laws.proofs.Products.{zero-zeros, zeros-append, length-zeros}
use Rattle.lattice_laws.proofs.Multiples.{scale_zero, scale_suc}

module _ (m : Matrix) where
  pub element-add : (u v : Vector) → length u ≡ length v → element m (add u v) ≡ add (element m u) (element m v)
  element-add u v e = ap (λ t. add u v ++ t) (rows-add m.rows u v e)
      ∙ sym (add-append u v (product m u) (product m v) e)

  pub length-element : (v : Vector) → length v ≡ m.cols → length (element m v) ≡ m.cols + length m.rows
  length-element v l = omega (arith, length-append v (product m v), length-rows m.rows v)

  pub element_in : (v : Vector) → length v ≡ m.cols → InLattice m (element m v)
  element_in v l = record {
    size = length-element v l;
    image = drop_at v (product m v) m.cols l ∙ ap (product m) (sym (take_at v (product m v) m.cols l));
  }

  pub is_element : (z : Vector) → InLattice m z → z ≡ element m (take m.cols z)
  is_element z h = sym (take-append-drop m.cols z) ∙ ap (λ t. take m.cols z ++ t) h.image

  pub first_size : (z : Vector) → InLattice m z → length (take m.cols z) ≡ m.cols
  first_size z h = simp length-take (omega (arith, h.size))

  -- an element is known by its first part
  pub known_by_first : (y z : Vector) → InLattice m y → InLattice m z → take m.cols y ≡ take m.cols z → y ≡ z
  known_by_first y z h k e = is_element y h ∙ ap (element m) e ∙ sym (is_element z k)

  -- ---- sums, opposites and differences are elements

  pub closed_add : (y z : Vector) → InLattice m y → InLattice m z → InLattice m (add y z)
  closed_add y z h k =
      let same : length (take m.cols y) ≡ length (take m.cols z) = first_size y h ∙ sym (first_size z k) in
      subst (InLattice m)
      (element-add (take m.cols y) (take m.cols z) same ∙ (λ i. add (sym (is_element y h) i) (sym (is_element z k) i)))
      (element_in (add (take m.cols y) (take m.cols z)) (length-add (take m.cols y) (take m.cols z) m.cols
      (first_size y h) (first_size z k)))

  pub closed_opposite : (z : Vector) → InLattice m z → InLattice m (opposite z)
  closed_opposite z h =
      subst (InLattice m)
      (ap (λ t. opposite (take m.cols z) ++ t) (rows-opposite m.rows (take m.cols z))
      ∙ sym (opposite-append (take m.cols z) (product m (take m.cols z)))
      ∙ ap opposite (sym (is_element z h)))
      (element_in (opposite (take m.cols z)) (length-opposite (take m.cols z) ∙ first_size z h))

  pub closed_sub : (y z : Vector) → InLattice m y → InLattice m z → InLattice m (sub z y)
  closed_sub y z h k = subst (InLattice m) (sym (sub-opposite z y)) (closed_add z (opposite y) k (closed_opposite y h))

  -- the opposite of a minimal element is minimal
  pub minimal-opposite : (z : Vector) → IsMinimal m z → IsMinimal m (opposite z)
  minimal-opposite z h = record {
    member = closed_opposite z h.member;
    nonzero = opposite_nonzero z h.nonzero;
    least = λ u i n b.
        let back : opposite u ⊑ z = subst (λ t. opposite u ⊑ t) (opposite-opposite z)
        (conforms-opposite u (opposite z) b) in
        sym (opposite-opposite u) ∙ ap opposite (h.least (opposite u) (closed_opposite u i) (opposite_nonzero u n)
        back);
  }

  -- an element that is not 0 has a first part that is not 0
  pub first_nonzero : (z : Vector) → InLattice m z → is_zero z ≡ false → is_zero (take m.cols z) ≡ false
  first_nonzero z h n = elim (true_or_false (is_zero (take m.cols z))) [
    | inr e ↦ e
    | inl e ↦
        let v : take m.cols z ≡ zeros m.cols = zeros_is (take m.cols z) e ∙ ap zeros (first_size z h) in
        let all : z ≡ zeros (m.cols + length m.rows) =
        is_element z h ∙ ap (element m) v ∙ ap (λ t. zeros m.cols ++ t) (rows-zeros m.rows m.cols)
        ∙ zeros-append m.cols (length m.rows) in
        absurd (not_both (is_zero z) (ap is_zero all ∙ zero-zeros (m.cols + length m.rows)) n)
  ]

-- ---- zero and multiples are elements

pub closed_zeros : (m : Matrix) → InLattice m (zeros (m.cols + length m.rows))
closed_zeros m =
    subst (InLattice m)
    (ap (λ t. zeros m.cols ++ t) (rows-zeros m.rows m.cols) ∙ zeros-append m.cols (length m.rows))
    (element_in m (zeros m.cols) (length-zeros m.cols))

pub closed_times : (m : Matrix) (k : ℕ) (z : Vector) → InLattice m z → InLattice m (scale (pos k) z)
closed_times m zero z inside = subst (InLattice m) (ap zeros (sym inside.size) ∙ sym (scale_zero z)) (closed_zeros m)
closed_times m (suc k) z inside =
    subst (InLattice m) (sym (scale_suc k z)) (closed_add m z (scale (pos k) z) inside (closed_times m k z inside))

-- ---- more rows

-- the matrix with these rows below its own
abbrev pub with_rows : Matrix → List Vector → Matrix
with_rows m more = record { cols = m.cols; rows = m.rows ++ more }

-- the matrix with its first so many rows alone
abbrev pub first_rows : ℕ → Matrix → Matrix
first_rows n m = record { cols = m.cols; rows = take n m.rows }

pub rows_apart : (n : ℕ) (m : Matrix) → with_rows (first_rows n m) (drop n m.rows) ≡ m
rows_apart n m = ap (λ rows. record { cols = m.cols; rows = rows }) (take-append-drop n m.rows)

-- an element with its products with the further rows behind it
abbrev pub lifted : Matrix → List Vector → Vector → Vector
lifted m more z = z ++ map (λ row. dot row (take m.cols z)) more

-- the number of entries of an element
abbrev pub width : Matrix → ℕ
width m = m.cols + length m.rows

module _ (m : Matrix) (more : List Vector) where
  pub width-with_rows : width (with_rows m more) ≡ width m + length more
  width-with_rows = omega (arith, length-append m.rows more)

  lifted_is : (z : Vector) → InLattice m z → lifted m more z ≡ element (with_rows m more) (take m.cols z)
  lifted_is z h =
      ap (λ t. t ++ map (λ row. dot row (take m.cols z)) more) (is_element m z h)
      ∙ append_assoc (take m.cols z) (product m (take m.cols z)) (map (λ row. dot row (take m.cols z)) more)
      ∙ ap (λ t. take m.cols z ++ t) (sym (map-append (λ row. dot row (take m.cols z)) m.rows more))

  pub lifted_in : (z : Vector) → InLattice m z → InLattice (with_rows m more) (lifted m more z)
  lifted_in z h = subst (InLattice (with_rows m more)) (sym (lifted_is z h))
      (element_in (with_rows m more) (take m.cols z) (first_size m z h))

  -- the entries of an element before the further ones
  pub cut-lifted : (z : Vector) → InLattice m z → take (width m) (lifted m more z) ≡ z
  cut-lifted z h = take_at z (map (λ row. dot row (take m.cols z)) more) (width m) h.size

  cut_is : (y : Vector) → InLattice (with_rows m more) y → take (width m) y ≡ element m (take m.cols y)
  cut_is y h =
      let v = take m.cols y in
      let rest = map (λ row. dot row v) more in
      let whole : y ≡ element m v ++ rest =
      is_element (with_rows m more) y h ∙ ap (λ t. v ++ t) (map-append (λ row. dot row v) m.rows more)
      ∙ sym (append_assoc v (product m v) rest) in
      ap (take (width m)) whole ∙ take_at (element m v) rest (width m)
      (length-element m v (first_size (with_rows m more) y h))

  pub cut_in : (y : Vector) → InLattice (with_rows m more) y → InLattice m (take (width m) y)
  cut_in y h = subst (InLattice m) (sym (cut_is y h)) (element_in m (take m.cols y) (first_size (with_rows m more) y h))

  first-cut : (y : Vector) → take m.cols (take (width m) y) ≡ take m.cols y
  first-cut y = take-take m.cols (width m) y (omega arith)

  pub is_lifted : (y : Vector) → InLattice (with_rows m more) y → y ≡ lifted m more (take (width m) y)
  is_lifted y h =
      is_element (with_rows m more) y h
      ∙ ap (element (with_rows m more)) (sym (first-cut y))
      ∙ sym (lifted_is (take (width m) y) (cut_in y h))

  pub cut_nonzero : (y : Vector) → InLattice (with_rows m more) y → is_zero y ≡ false →
      is_zero (take (width m) y) ≡ false
  cut_nonzero y h n =
      nonzero_by_take m.cols (take (width m) y) (ap is_zero (first-cut y) ∙ first_nonzero (with_rows m more) y h n)

  -- a minimal element stays minimal under more rows
  pub minimal-lifted : (z : Vector) → IsMinimal m z → IsMinimal (with_rows m more) (lifted m more z)
  minimal-lifted z h = record {
    member = lifted_in z h.member;
    nonzero = nonzero_by_take (width m) (lifted m more z) (ap is_zero (cut-lifted z h.member) ∙ h.nonzero);
    least = λ y i n b.
        let cut : take (width m) y ⊑ z = subst (λ t. take (width m) y ⊑ t) (cut-lifted z h.member)
        (conforms-take (width m) y (lifted m more z) b) in
        is_lifted y i ∙ ap (lifted m more) (h.least (take (width m) y) (cut_in y i) (cut_nonzero y i n) cut);
  }

  pub element-lifted : (z : Vector) → IsBasisElement m z → IsBasisElement (with_rows m more) (lifted m more z)
  element-lifted z h = (minimal-lifted z h.0, leads-append z (map (λ row. dot row (take m.cols z)) more) h.1)
