-- Narrow vectors, whose entries are of magnitude below 2^31: unit vectors, opposites, rows, and the 1-norm.
use Rattle.std.proofs.Common.{ℕ, zero, suc, ◌*◌, ◌<◌, ◌≤◌, ◌^◌, pos, neg_ℤ, unsigned_abs, [], ◌∷◌, length, take, drop}
use Rattle.std.proofs.Common.{arith, sym, subst, All}
use Rattle.std.specs.List.{AllByRecursion}
use Rattle.std.proofs.lemmas.List.Elements.{All-nil, All-cons, All-map, All-weaker, All-take, All-drop, All-replicate}
use Rattle.lattice_theory.specs.Vectors.{Vector, zeros, opposite, norm1}
use Rattle.lattice_theory.specs.Matrices.{unit_vector, rows_of}
use Rattle.lattice_theory.specs.BasisLimits.{IsNarrow}
use Rattle.lattice_laws.proofs.Signs.{abs_opposite}
use Rattle.lattice_laws.proofs.Conformal.{norm1-cons}

pub narrow-unit : (t j : ℕ) → IsNarrow (unit_vector t j)
narrow-unit zero j = All-nil (λ a. unsigned_abs a < 2 ^ 31)
narrow-unit (suc t) zero = All-cons (λ a. unsigned_abs a < 2 ^ 31) (pos 1) (zeros t) (omega arith)
    (All-replicate (λ a. unsigned_abs a < 2 ^ 31) t (pos 0) (omega arith))
narrow-unit (suc t) (suc j) = All-cons (λ a. unsigned_abs a < 2 ^ 31) (pos 0) (unit_vector t j) (omega arith)
    (narrow-unit t j)

pub narrow-opposite : (v : Vector) → IsNarrow v → IsNarrow (opposite v)
narrow-opposite v narrow =
    All-map (λ a. unsigned_abs a < 2 ^ 31) neg_ℤ v
    (All-weaker (λ a. unsigned_abs a < 2 ^ 31) (λ a. unsigned_abs (neg_ℤ a) < 2 ^ 31)
    (λ a small. subst (λ n. n < 2 ^ 31) (sym (abs_opposite a)) small) v narrow)

-- rows made of narrow entries are narrow
pub narrow-rows_of : (n cols : ℕ) (entries : Vector) → IsNarrow entries → All IsNarrow (rows_of n cols entries)
narrow-rows_of zero cols entries narrow = All-nil IsNarrow
narrow-rows_of (suc n) cols entries narrow =
    All-cons IsNarrow (take cols entries) (rows_of n cols (drop cols entries))
    (All-take (λ a. unsigned_abs a < 2 ^ 31) cols entries narrow)
    (narrow-rows_of n cols (drop cols entries) (All-drop (λ a. unsigned_abs a < 2 ^ 31) cols entries narrow))

-- the norm of a narrow vector
pub norm1-narrow : (v : Vector) → AllByRecursion (λ a. unsigned_abs a < 2 ^ 31) v → norm1 v ≤ 2 ^ 31 * length v
norm1-narrow [] each = omega arith
norm1-narrow (a ∷ v) each = omega (arith, norm1-cons a v, each.0, norm1-narrow v each.1)
