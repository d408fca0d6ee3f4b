-- Pairs of vectors, of which the second is taken with the one sign with which the new entries can clash.
use Rattle.std.specs.Prelude.{ℕ, ℤ, Bool, cond, take, neg_ℤ}
use Rattle.lattice_theory.specs.Lists.{all_zip}
use Rattle.lattice_theory.specs.Vectors.{Vector, norm1, add, opposite}
use Rattle.lattice_laws.proofs.Signs.{agrees}
use Rattle.lattice_laws.proofs.Completion.{counts, new_entry}

-- the second vector with this sign
abbrev pub partner : ℕ → Vector → Vector → Vector
partner at p q = cond (agrees (new_entry at p) (new_entry at q)) (opposite q) q

-- the two agree before the new entry and clash there
abbrev pub pair_counts : ℕ → Vector → Vector → Bool
pair_counts at p q = counts at p (partner at p q)

abbrev pub sum_of_pair : ℕ → Vector → Vector → Vector
sum_of_pair at p q = add p (partner at p q)

-- the norm of the sum before the new entry
abbrev pub norm_of_sum : ℕ → Vector → Vector → ℕ
norm_of_sum at p q = norm1 (take at (sum_of_pair at p q))

-- neither number has the sign of the other: they do not clash once the second is turned
abbrev pub agrees_turned : ℤ → ℤ → Bool
agrees_turned x y = agrees x (neg_ℤ y)

-- the same at each place
abbrev pub agree_turned : Vector → Vector → Bool
agree_turned u v = all_zip agrees_turned u v
