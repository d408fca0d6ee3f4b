-- The first wide entry of a matrix at values worked by hand: past 2 ^ 31 - 1 in absolute value, row by row.
use Rattle.std.specs.Prelude.{◌≡◌, ℕ, zero, suc, ◌+◌, ◌<◌, ◌^◌, ℤ, pos, unsigned_abs, [], ◌∷◌, Some, slice_get, refl}
use Rattle.std.proofs.Common.{arith, lit<, lit≤, subst}
use Rattle.std.proofs.lemmas.List.Elements.{All-from_recursion}
use Rattle.lattice_theory.specs.Vectors.{Vector}
use Rattle.lattice_theory.specs.Matrices.{Matrix}
use Rattle.lattice_theory.specs.BasisLimits.{IsNarrow}
use Rattle.lattice_theory.proofs.KnownValues.{minus, two}
use Rattle.run_theory.specs.Limits.{IsFirstWide}

-- the greatest that is narrow, then the least that is not, then another that is not
abbrev narrow_row : Vector
narrow_row = two (pos 1) (pos 2147483647)

abbrev wide_row : Vector
wide_row = two (minus 2147483647) (minus 2147483648)

abbrev wider_row : Vector
wider_row = two (pos 2147483648) (pos 0)

abbrev entries : Matrix
entries = record { cols = 2; rows = narrow_row ∷ wide_row ∷ wider_row ∷ [] }

pub second_of_second : IsFirstWide entries 2 2
second_of_second = record {
  i = 1;
  j = 1;
  numbered = (refl, refl);
  entries = wide_row;
  entry = minus 2147483648;
  there = (refl, refl);
  wide = lit≤ tt;
  above = above;
  before = before;
}
  where
    above : (k : ℕ) (v : Vector) → k < 1 → slice_get entries.rows k ≡ Some v → IsNarrow v
    above zero v low there =
        let same : narrow_row ≡ v = cc in
        subst IsNarrow same (All-from_recursion (λ a. unsigned_abs a < 2 ^ 31) narrow_row (lit< tt, (lit< tt, tt)))
    above (suc k) v low there = absurd (omega (arith, low))

    before : (k : ℕ) (a : ℤ) → k < 1 → slice_get wide_row k ≡ Some a → unsigned_abs a < 2 ^ 31
    before zero a low there =
        let same : minus 2147483647 ≡ a = cc in subst (λ b. unsigned_abs b < 2 ^ 31) same (lit< tt)
    before (suc k) a low there = absurd (omega (arith, low))

-- the third row begins with a wide entry, and it is not the first of the matrix
pub not_the_third : IsFirstWide entries 3 1 → ⊥
not_the_third first = by first.i first.numbered.0 first.above
  where
    by : (i : ℕ) → 3 ≡ i + 1 → ((k : ℕ) (v : Vector) → k < i → slice_get entries.rows k ≡ Some v → IsNarrow v) → ⊥
    by i at above =
        let narrow : unsigned_abs (minus 2147483648) < 2 ^ 31 =
        above 1 wide_row (omega (arith, at)) refl 1 (minus 2147483648) (omega arith) in
        absurd (omega (arith, narrow))
