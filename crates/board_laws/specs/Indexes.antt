-- The lengths and their keys by the list of their gains. An index is 0, for none, or k + 1, for length k.
use Rattle.std.specs.Prelude.{◌≡◌, ℕ, zero, suc, Bool, ◌||◌, ◌⊎◌, cond, List, Option, Some, None, IsTrue, is_none}
use Rattle.std.specs.Prelude.{slice_index_or}
use Rattle.std.specs.Option.{option_map}
use Rattle.run_theory.specs.declared.Key.{Key}
use Rattle.run_theory.specs.Keys.{beaten}
use Rattle.round_core.specs.Rounds.{outranks}

-- the gain of length k; none past the last length
abbrev pub gain_of : List (Option ℕ) → ℕ → Option ℕ
gain_of gains k = slice_index_or gains k None

-- the key of length k, where it has a gain
abbrev pub length_key : List (Option ℕ) → ℕ → Option Key
length_key gains k = option_map (λ g. record { gain = g; k = k }) (gain_of gains k)

-- the key of the length that the index stands for
abbrev pub index_key : List (Option ℕ) → ℕ → Option Key
index_key gains zero = None
index_key gains (suc k) = length_key gains k

-- the index of the length that the key is of
abbrev pub index_of : Option Key → ℕ
index_of None = 0
index_of (Some key) = suc key.k

-- the length that the index stands for
abbrev pub length_of : ℕ → Option ℕ
length_of zero = None
length_of (suc k) = Some k

-- the index is 0, or that of a length that has a gain
abbrev pub IsIndex : List (Option ℕ) → ℕ → Type 0
IsIndex gains zero = Unit {0}
IsIndex gains (suc k) = (g : ℕ) × (gain_of gains k ≡ Some g)

-- the better of two indexes
abbrev pub better : List (Option ℕ) → ℕ → ℕ → ℕ
better gains i j = cond (outranks (index_key gains j) (index_key gains i)) j i

-- whether length k has no gain, or the index beats it
abbrev pub is_beaten_by : List (Option ℕ) → ℕ → ℕ → Bool
is_beaten_by gains index k = is_none (gain_of gains k) || outranks (index_key gains index) (length_key gains k)

-- length k has no gain, or the bound beats it
abbrev pub IsOutdone : List (Option ℕ) → ℕ → Option Key → Type 0
IsOutdone gains k bound =
    (gain_of gains k ≡ None) ⊎ ((key : Key) × (length_key gains k ≡ Some key) × IsTrue (beaten key bound))
