-- When a list of sums is closed at one of them.
use Rattle.std.specs.Prelude.{ℕ, suc, nat_le, Bool, ◌&&◌, ◌||◌, List}
use Rattle.std.specs.List.{list_all}
use Rattle.lattice_theory.specs.Vectors.{Vector, add, sub}
use Rattle.lattice_theory.specs.SignedSums.{Sum}
use Rattle.run_theory.specs.Checker.{is_sum_within}

-- the sum's level is not below the bound, or each generator added to it and taken away gives a sum whose level is at
-- most greater by 1
abbrev pub is_closed_at : List Sum → List Vector → ℕ → Sum → Bool
is_closed_at sums gens bound s =
    nat_le bound s.level
    || list_all (λ e. is_sum_within sums (suc s.level) (add s.vector e) && is_sum_within sums (suc s.level)
    (sub s.vector e)) gens
