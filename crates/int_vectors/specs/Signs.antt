-- The places of the positive and of the negative entries of a vector, folded modulo 64 into two words.
use Rattle.std.specs.Prelude.{ℕ, ℤ, pos, ◌+◌, ◌%◌, ◌^◌, ◌==◌, ◌&&◌, Bool, cond, [], ◌∷◌, bit_and, bit_or, int_lt}
use Rattle.lattice_theory.specs.Vectors.{Vector}
use Rattle.int_vectors.specs.declared.signs.Signs.{Signs}

-- the bit of a place, where it is to be set
abbrev pub mark : Bool → ℕ → ℕ
mark set at = cond set (2 ^ (at % 64)) 0

-- a word with the bits of the places, counted from one on, of the entries that pass the test
abbrev pub marked : (ℤ → Bool) → ℕ → ℕ → Vector → ℕ
marked test word at [] = word
marked test word at (x ∷ v) = marked test (bit_or word (mark (test x) at)) (at + 1) v

abbrev pub is_positive : ℤ → Bool
is_positive x = int_lt (pos 0) x

abbrev pub is_negative : ℤ → Bool
is_negative x = int_lt x (pos 0)

abbrev pub signs_of : Vector → Signs
signs_of v = record { up = marked is_positive 0 0 v; down = marked is_negative 0 0 v }

-- no bit of the first word is missing in the second
abbrev pub is_within : ℕ → ℕ → Bool
is_within a b = bit_and a b == a

abbrev pub fits : Signs → Signs → Bool
fits a b = is_within a.up b.up && is_within a.down b.down

-- the signs of the opposite
abbrev pub exchanged : Signs → Signs
exchanged a = record { up = a.down; down = a.up }

-- no place of an entry that is not 0 is missing in the second
abbrev pub has_places : Signs → Signs → Bool
has_places a b = is_within (bit_or a.up a.down) (bit_or b.up b.down)

-- no bit of one sign is among those of the other sign of the second
abbrev pub are_apart : Signs → Signs → Bool
are_apart a b = (bit_and a.up b.down == 0) && (bit_and a.down b.up == 0)
