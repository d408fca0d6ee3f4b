-- What a brick misses of its rows, and what single linking rows miss, each by its relation.
use Rattle.std.proofs.Common.{◌≡◌, ℕ, zero, suc, ◌<◌, ◌≤◌, pos, List, [], ◌∷◌, length, get_or, ap, arith, Some}
use Rattle.std.proofs.Common.{slice_get, sym, ◌∙◌}
use Rattle.lattice_theory.specs.Lists.{zip_with}
use Rattle.lattice_theory.specs.Vectors.{Vector, sub}
use Rattle.lattice_theory.specs.Matrices.{product}
use Rattle.fold_theory.specs.declared.Relation.{Relation}
use Rattle.fold_theory.specs.Programs.{dist, Program, Brick, brick_residual}
use Rattle.lattice_laws.proofs.Products.{length-rows}
use Rattle.lattice_laws.proofs.Conformal.{norm_none}
use Rattle.lattice_laws.proofs.Sums.{same_vector}

-- a vector that misses nothing meets the rows of its brick
pub met : (p : Program) (b : Brick) (v : Vector) → length b.right ≡ length p.brick.rows → brick_residual p b v ≡ 0 →
    product p.brick v ≡ b.right
met p b v right none =
    same_vector (product p.brick v) b.right (length-rows p.brick.rows v ∙ sym right)
    (norm_none (sub b.right (product p.brick v)) none)

-- what the row at this place misses
pub misses-at : (relations : List Relation) (lefts : Vector) (at : ℕ) (relation : Relation) →
    slice_get relations at ≡ Some relation → at < length lefts →
    (at < length (zip_with dist relations lefts))
    × (get_or (zip_with dist relations lefts) at 0 ≡ dist relation (get_or lefts at (pos 0)))
misses-at [] lefts at relation there low = absurd (cc)
misses-at (r ∷ relations) [] at relation there low = absurd (omega (arith, low))
misses-at (r ∷ relations) (l ∷ lefts) zero relation there low =
    let same : r ≡ relation = cc in (omega arith, ap (λ s. dist s l) same)
misses-at (r ∷ relations) (l ∷ lefts) (suc at) relation there low =
    let more = misses-at relations lefts at relation there (omega (arith, low)) in
    (omega (arith, more.0), more.1)

-- no more rows miss something than there are
pub few_misses : (relations : List Relation) (lefts : Vector) → length (zip_with dist relations lefts) ≤ length lefts
few_misses [] lefts = omega arith
few_misses (r ∷ relations) [] = omega arith
few_misses (r ∷ relations) (l ∷ lefts) = omega (arith, few_misses relations lefts)
