-- Listed sums: their places, their levels and their width.
use Rattle.std.specs.Prelude.{◌≡◌, ℕ, ℤ, ◌≤◌, List, [], ◌∷◌, length, map, slice_get, Some, All, Contains, IsTrue, Vec}
use Rattle.std.specs.declared.alloc.Global.{Global}
use Rattle.lattice_theory.specs.Vectors.{Vector, is_rising, zeros}
use Rattle.lattice_theory.specs.SignedSums.{Sum, vectors}

abbrev pub levels : List Sum → List ℕ
levels sums = map (λ s. s.level) sums

-- the number of entries of the first vector, and 0 where there is none
abbrev pub width : List Sum → ℕ
width [] = 0
width (s ∷ sums) = length s.vector

-- rising vectors of one width, among them zero at this place
pub record AreListed (sums : List Sum) (zero : ℕ) : Type 0 where
  pub rising : IsTrue (is_rising (vectors sums))
  pub widths : All (λ v. length v ≡ width sums) (vectors sums)
  pub few : length sums ≤ 20000
  pub zero_there : slice_get (vectors sums) zero ≡ Some (zeros (width sums))

-- a vector, as it is kept, with its place
abbrev pub Entry : Type 0
Entry = Vec ℤ Global × ℕ

-- each entry's vector stands at its place, and each listed vector has an entry
pub record IsIndex (sums : List Sum) (entries : List Entry) : Type 0 where
  pub sound : All (λ (e : Entry). slice_get (vectors sums) e.1 ≡ Some (e.0).items) entries
  pub complete : All (λ (v : Vector). (e : Entry) × Contains entries e × ((e.0).items ≡ v)) (vectors sums)
