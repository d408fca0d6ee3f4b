-- What vectors are taken as generators.
use Rattle.std.specs.Prelude.{◌≡◌, List, [], ◌∷◌, All, false}
use Rattle.lattice_theory.specs.Vectors.{Vector, is_zero, same, opposite}

-- no vector is zero, another one, or another one's opposite
abbrev pub AreGenerators : List Vector → Type 0
AreGenerators [] = Unit {0}
AreGenerators (e ∷ es) =
    (is_zero e ≡ false) × All (λ d. (same e d ≡ false) × (same e (opposite d) ≡ false)) es × AreGenerators es
