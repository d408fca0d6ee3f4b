-- Laws of the size of signed sums, and of their products with rows.
use Rattle.std.proofs.Common.{◌≡◌, ℕ, zero, suc, ◌+◌, ◌-◌, ◌*◌, ◌<◌, ◌≤◌, ◌^◌, pos, ◌+ℤ◌, neg_ℤ, unsigned_abs, List, []}
use Rattle.std.proofs.Common.{◌∷◌, length, map, get_or, ap, arith, sym, ◌∙◌, subst, inl, inr, Contains}
use Rattle.std.specs.List.{All, AllByRecursion}
use Rattle.std.proofs.lemmas.Int.{ints}
use Rattle.std.proofs.lemmas.List.{length-map, get_or-map}
use Rattle.std.proofs.lemmas.List.Elements.{All-contains, All-weaker, All-from_recursion, recursion_from_All}
use Rattle.lattice_theory.specs.Vectors.{Vector, add, sub, dot, opposite}
use Rattle.lattice_theory.specs.Matrices.{Matrix, product}
use Rattle.lattice_theory.specs.BasisLimits.{IsNarrow}
use Rattle.lattice_theory.specs.SignedSums.{IsSignedSum}
use Rattle.run_theory.specs.Links.{link_matrix}
use Rattle.lattice_laws.proofs.Signs.{abs_opposite, abs_sum}
use Rattle.lattice_laws.proofs.Conformal.{sub-opposite, length-opposite}
use Rattle.lattice_laws.proofs.Products.{dot-add, dot-opposite, dot-zeros}
use Rattle.brick_sums.proofs.SumLaws.{IsSignedSum-width, IsWithin-zeros}

-- every entry is at most this in absolute value
abbrev IsWithin : ℕ → Vector → Type 0
IsWithin most v = AllByRecursion (λ a. unsigned_abs a ≤ most) v

add-IsWithin : (m n : ℕ) (u v : Vector) → IsWithin m u → IsWithin n v → IsWithin (n + m) (add u v)
add-IsWithin m n [] v left right = tt
add-IsWithin m n (a ∷ u) [] left right = tt
add-IsWithin m n (a ∷ u) (b ∷ v) left right = (
  omega (arith, ints, left.0, right.0),
  add-IsWithin m n u v left.1 right.1,
)

sub-IsWithin : (m n : ℕ) (u v : Vector) → IsWithin m u → IsWithin n v → IsWithin (n + m) (sub u v)
sub-IsWithin m n [] v left right = tt
sub-IsWithin m n (a ∷ u) [] left right = tt
sub-IsWithin m n (a ∷ u) (b ∷ v) left right = (
  omega (arith, ints, left.0, right.0),
  sub-IsWithin m n u v left.1 right.1,
)

narrow-IsWithin : (v : Vector) → IsNarrow v → IsWithin (2 ^ 31 - 1) v
narrow-IsWithin v narrow =
    recursion_from_All (λ a. unsigned_abs a ≤ 2 ^ 31 - 1) v
    (All-weaker (λ a. unsigned_abs a < 2 ^ 31) (λ a. unsigned_abs a ≤ 2 ^ 31 - 1) (λ a small. omega (arith, small)) v
    narrow)

one_more : (n most : ℕ) → most + n * most ≡ suc n * most
one_more n most = omega arith

-- ---- sums

module _ (t most : ℕ) (gens : List Vector) (each : (e : Vector) → Contains gens e → IsWithin most e) where
  -- an entry of a sum of n generators is at most n times that of a generator
  sum-IsWithin : (n : ℕ) (w : Vector) → IsSignedSum t gens n w → IsWithin (n * most) w
  sum-IsWithin zero w sum = subst (IsWithin (zero * most)) (sym sum) (IsWithin-zeros (zero * most) t)
  sum-IsWithin (suc n) w (before, e, sum, listed, inl plus) =
      subst (IsWithin (suc n * most)) (sym plus)
      (subst (λ k. IsWithin k (add before e)) (one_more n most)
      (add-IsWithin (n * most) most before e (sum-IsWithin n before sum) (each e listed)))
  sum-IsWithin (suc n) w (before, e, sum, listed, inr minus) =
      subst (IsWithin (suc n * most)) (sym minus)
      (subst (λ k. IsWithin k (sub before e)) (one_more n most)
      (sub-IsWithin (n * most) most before e (sum-IsWithin n before sum) (each e listed)))

pub IsSignedSum-entries : (t n : ℕ) (gens : List Vector) (w : Vector) → All IsNarrow gens → IsSignedSum t gens n w →
    All (λ a. unsigned_abs a ≤ n * (2 ^ 31 - 1)) w
IsSignedSum-entries t n gens w narrow sum =
    All-from_recursion (λ a. unsigned_abs a ≤ n * (2 ^ 31 - 1)) w
    (sum-IsWithin t (2 ^ 31 - 1) gens (λ e listed. narrow-IsWithin e (All-contains IsNarrow gens e narrow listed))
    n w sum)

-- ---- products with a row

dot-sub : (row u v : Vector) → length u ≡ length v → dot row (sub u v) ≡ dot row u +ℤ neg_ℤ (dot row v)
dot-sub row u v same =
    ap (dot row) (sub-opposite u v) ∙ dot-add row u (opposite v) (same ∙ sym (length-opposite v))
    ∙ ap (λ b. dot row u +ℤ b) (dot-opposite row v)

module _ (t most : ℕ) (gens : List Vector) (even : All (λ e. length e ≡ t) gens) (row : Vector)
    (each : (e : Vector) → Contains gens e → unsigned_abs (dot row e) ≤ most) where
  same_size : (n : ℕ) (before e : Vector) → IsSignedSum t gens n before → Contains gens e → length before ≡ length e
  same_size n before e sum listed =
      IsSignedSum-width t gens even n before sum ∙ sym (All-contains (λ (v : Vector). length v ≡ t) gens e even listed)

  -- so is its product with the row
  dot-sum : (n : ℕ) (w : Vector) → IsSignedSum t gens n w → unsigned_abs (dot row w) ≤ n * most
  dot-sum zero w sum =
      let none : dot row w ≡ pos 0 = ap (dot row) sum ∙ dot-zeros row t in
      omega (arith, ap unsigned_abs none)
  dot-sum (suc n) w (before, e, sum, listed, inl plus) =
      let is : dot row w ≡ dot row before +ℤ dot row e =
      ap (dot row) plus ∙ dot-add row before e (same_size n before e sum listed) in
      omega (
        arith,
        ap unsigned_abs is,
        abs_sum (dot row before) (dot row e),
        dot-sum n before sum,
        each e listed,
        one_more n most,
      )
  dot-sum (suc n) w (before, e, sum, listed, inr minus) =
      let is : dot row w ≡ dot row before +ℤ neg_ℤ (dot row e) =
      ap (dot row) minus ∙ dot-sub row before e (same_size n before e sum listed) in
      omega (
        arith,
        ap unsigned_abs is,
        abs_sum (dot row before) (neg_ℤ (dot row e)),
        abs_opposite (dot row e),
        dot-sum n before sum,
        each e listed,
        one_more n most,
      )

-- a member's product with a row whose products are narrow
narrow_product : (gens : List Vector) (row e : Vector) → IsNarrow (map (dot row) gens) → Contains gens e →
    unsigned_abs (dot row e) ≤ 2 ^ 31 - 1
narrow_product gens row e narrow (k, below, at) =
    let there : get_or (map (dot row) gens) k (pos 0) ≡ dot row e =
    get_or-map (dot row) gens k e (pos 0) below ∙ ap (dot row) at in
    let small = narrow k (pos 0) (omega (arith, below, length-map gens (dot row))) in
    omega (arith, ap unsigned_abs there, small)

images-IsWithin : (t n : ℕ) (gens rows : List Vector) (w : Vector) → All (λ e. length e ≡ t) gens →
    AllByRecursion IsNarrow (map (λ row. map (dot row) gens) rows) → IsSignedSum t gens n w →
    IsWithin (n * (2 ^ 31 - 1)) (map (λ row. dot row w) rows)
images-IsWithin t n gens [] w even narrow sum = tt
images-IsWithin t n gens (row ∷ rows) w even narrow sum = (
  dot-sum t (2 ^ 31 - 1) gens even row (λ e listed. narrow_product gens row e narrow.0 listed) n w sum,
  images-IsWithin t n gens rows w even narrow.1 sum,
)

pub IsSignedSum-images : (t n : ℕ) (a1 : Matrix) (gens : List Vector) (w : Vector) → All (λ e. length e ≡ t) gens →
    All IsNarrow (link_matrix a1 gens).rows → IsSignedSum t gens n w →
    All (λ a. unsigned_abs a ≤ n * (2 ^ 31 - 1)) (product a1 w)
IsSignedSum-images t n a1 gens w even narrow sum =
    All-from_recursion (λ a. unsigned_abs a ≤ n * (2 ^ 31 - 1)) (product a1 w)
    (images-IsWithin t n gens a1.rows w even (recursion_from_All IsNarrow (link_matrix a1 gens).rows narrow) sum)
