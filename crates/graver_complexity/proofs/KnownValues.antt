-- The words at values worked by hand: two rows with one entry each that is one too large.
use Rattle.std.proofs.Common.{◌≡◌, ℕ, zero, suc, ◌<◌, ◌^◌, ℤ, pos, unsigned_abs, [], ◌∷◌, refl, ap, arith, Some}
use Rattle.std.proofs.Common.{slice_get}
use Rattle.lattice_theory.specs.Vectors.{Vector}
use Rattle.lattice_theory.specs.Matrices.{Matrix}
use Rattle.graver_complexity.specs.declared.fault.LinkFault.TheVariants.{WideEntry, Memory}
use Rattle.graver_complexity.specs.Refusals.{IsWideEntry, IsWideInRow}

abbrev pub first_row : Vector
first_row = pos 2147483647 ∷ pos 2147483648 ∷ []

abbrev pub wide_links : Matrix
wide_links = record { cols = 2; rows = first_row ∷ (pos 2147483648 ∷ pos 0 ∷ []) ∷ [] }

before_it : (k : ℕ) (a : ℤ) → k < 1 → slice_get first_row k ≡ Some a → unsigned_abs a < 2 ^ 31
before_it zero a low there = let it : pos 2147483647 ≡ a = cc in omega (arith, ap unsigned_abs it)
before_it (suc k) a low there = absurd (omega arith)

pub the_first_is_named : IsWideEntry wide_links (WideEntry 1 2)
the_first_is_named = record {
  i = 0;
  j = 1;
  numbered = (refl, refl);
  entries = first_row;
  entry = pos 2147483648;
  there = (refl, refl);
  wide = omega arith;
  above = λ k v low there. absurd (omega (arith, low));
  before = before_it;
}

pub the_next_is_not : IsWideEntry wide_links (WideEntry 2 1) → ⊥
the_next_is_not wide =
    let narrow = wide.above 0 first_row (omega (arith, wide.numbered.0)) refl in
    absurd (omega (arith, narrow 1 (pos 0) (omega arith)))

pub want_of_memory_may_come : IsWideInRow 1 first_row Memory
want_of_memory_may_come = tt
