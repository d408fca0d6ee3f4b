-- The kernel of a list: the first parts of its members without products with the rows, which generate all such vectors.
use Rattle.std.proofs.Common.{◌≡◌, ℕ, ◌<◌, true, List, length, take, drop, ap, sym, ◌∙◌, Contains, subst, All}
use Rattle.std.specs.List.{AllByRecursion, filter}
use Rattle.lattice_theory.specs.Vectors.{Vector, is_zero, norm1, zeros}
use Rattle.lattice_theory.specs.Matrices.{Matrix, product}
use Rattle.lattice_theory.specs.Lattices.{is_complete_for, kernel}
use Rattle.lattice_laws.proofs.Conformal.{norm_some}
use Rattle.lattice_laws.proofs.Products.{length-rows, zeros_is}
use Rattle.lattice_laws.proofs.Elements.{first_size}
use Rattle.cover_laws.specs.Elements.{IsNonzeroElement}
use Rattle.lattice_laws.specs.VectorLists.{AreSized}
use Rattle.cover_laws.proofs.CompleteLists.{complete_elements}
use Rattle.std.proofs.lemmas.List.Elements.{All-contains}
use Rattle.lattice_laws.proofs.Members.{each_has, filtered, filtered_from, mapped, mapped_from, each_member}

-- a vector that is not 0 and has no products with the rows
pub record IsGenerator (m : Matrix) (g : Vector) : Type 0 where
  pub size : length g ≡ m.cols
  pub nonzero : 0 < norm1 g
  pub still : product m g ≡ zeros (length m.rows)

generator : (m : Matrix) (z : Vector) → IsNonzeroElement m z → is_zero (drop m.cols z) ≡ true →
    IsGenerator m (take m.cols z)
generator m z is none = record {
  size = first_size m z is.member;
  nonzero = norm_some (take m.cols z) is.nonzero;
  still =
      zeros_is (product m (take m.cols z)) (ap is_zero (sym is.member.image) ∙ none)
      ∙ ap zeros (length-rows m.rows (take m.cols z));
}

-- a member without products has its first part among the generators
pub in_kernel : (cols : ℕ) (basis : List Vector) (z : Vector) → Contains basis z → is_zero (drop cols z) ≡ true →
    Contains (kernel cols basis) (take cols z)
in_kernel cols basis z listed none =
    mapped (take cols) (filter (λ y. is_zero (drop cols y)) basis) z
    (filtered (λ y. is_zero (drop cols y)) basis z listed none)

-- each vector of the kernel of a list of elements is a generator
pub kernel_generators : (m : Matrix) (basis : List Vector) → All (IsNonzeroElement m) basis →
    AllByRecursion (IsGenerator m) (kernel m.cols basis)
kernel_generators m basis elements = each_member (IsGenerator m) (kernel m.cols basis) (λ v listed.
    let z = mapped_from (take m.cols) (filter (λ y. is_zero (drop m.cols y)) basis) v listed in
    let kept = filtered_from (λ y. is_zero (drop m.cols y)) basis z.0 z.1 in
    let element = All-contains (IsNonzeroElement m) basis z.0 elements kept.0 in
    subst (IsGenerator m) z.2 (generator m z.0 element kept.1))

-- the generators of a complete list
pub complete_generators : (m : Matrix) (basis : List Vector) → is_complete_for m basis ≡ true →
    AllByRecursion (IsGenerator m) (kernel m.cols basis)
complete_generators m basis complete = kernel_generators m basis (complete_elements m basis complete)

-- the generators of a complete list have an entry for each column
pub gens_sized : (m : Matrix) (basis : List Vector) → is_complete_for m basis ≡ true →
    AreSized m.cols (kernel m.cols basis)
gens_sized m basis complete =
    each_has (IsGenerator m) (λ v. length v ≡ m.cols) (λ v g. g.size) (kernel m.cols basis)
    (complete_generators m basis complete)
