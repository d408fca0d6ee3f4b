-- The words at values worked by hand.
use Rattle.std.proofs.Common.{◌≡◌, pos, negsuc, List, [], ◌∷◌, refl, false}
use Rattle.std.specs.List.{All, AllByRecursion}
use Rattle.std.proofs.lemmas.List.Elements.{All-from_recursion}
use Rattle.lattice_theory.specs.Vectors.{Vector, same, opposite}
use Rattle.lattice_theory.specs.SignedSums.{Sum}
use Rattle.brick_sums.specs.Generators.{AreGenerators}
use Rattle.brick_sums.specs.Places.{levels, width}

-- ---- what one exchange of two gives

abbrev pub there : Vector
there = pos 1 ∷ negsuc 0 ∷ []

abbrev pub back : Vector
back = negsuc 0 ∷ pos 1 ∷ []

abbrev pub at_most_one : List Sum
at_most_one =
    record { level = 1; vector = back } ∷ record { level = 0; vector = pos 0 ∷ pos 0 ∷ [] }
    ∷ record { level = 1; vector = there } ∷ []

pub its_levels : levels at_most_one ≡ 1 ∷ 0 ∷ 1 ∷ []
its_levels = refl

pub its_width : width at_most_one ≡ 2
its_width = refl

-- ---- the exchanges among three are generators

abbrev pub first : Vector
first = pos 0 ∷ pos 1 ∷ negsuc 0 ∷ []

abbrev pub second : Vector
second = pos 1 ∷ negsuc 0 ∷ pos 0 ∷ []

abbrev pub third : Vector
third = pos 1 ∷ pos 0 ∷ negsuc 0 ∷ []

abbrev Differ : Vector → Vector → Type 0
Differ e d = (same e d ≡ false) × (same e (opposite d) ≡ false)

differ : (e : Vector) (ds : List Vector) → AllByRecursion (Differ e) ds → All (Differ e) ds
differ e ds each = All-from_recursion (Differ e) ds each

pub exchanges_are_generators : AreGenerators (first ∷ second ∷ third ∷ [])
exchanges_are_generators = (
  refl,
  differ first (second ∷ third ∷ []) ((refl, refl), ((refl, refl), tt)),
  (
    refl,
    differ second (third ∷ []) ((refl, refl), tt),
    (refl, differ third [] tt, tt),
  ),
)
