-- What is within the bounds of a brick, and of all bricks: the test and the fact.
use Rattle.std.proofs.Common.{◌≡◌, ◌≤ℤ◌, int_le, true, ◌&&◌, List, [], ◌∷◌, length, refl, ap, sym, ◌∙◌}
use Rattle.std.proofs.lemmas.List.Elements.{length_all_zip}
use Rattle.std.specs.List.{AllZip}
use Rattle.lattice_theory.specs.Lists.{all_zip}
use Rattle.lattice_theory.specs.Vectors.{Vector}
use Rattle.fold_theory.specs.Programs.{Brick, Bricks, IsWithin, AreWithin, is_within}
use Rattle.lattice_laws.proofs.Tests.{and_true, int_le_of, int_le_true}

all_le_true : (u v : Vector) → all_zip int_le u v ≡ true → AllZip ◌≤ℤ◌ u v
all_le_true [] [] passes = tt
all_le_true [] (b ∷ v) passes = absurd (cc)
all_le_true (a ∷ u) [] passes = absurd (cc)
all_le_true (a ∷ u) (b ∷ v) passes =
    let p = and_true (int_le a b) (all_zip int_le u v) passes in (int_le_true a b p.0, all_le_true u v p.1)

all_le_of : (u v : Vector) → AllZip ◌≤ℤ◌ u v → all_zip int_le u v ≡ true
all_le_of [] [] ordered = refl
all_le_of [] (b ∷ v) ordered = absurd ordered
all_le_of (a ∷ u) [] ordered = absurd ordered
all_le_of (a ∷ u) (b ∷ v) ordered =
    ap (λ t. t && all_zip int_le u v) (int_le_of a b ordered.0) ∙ all_le_of u v ordered.1

-- what passes the test is within the bounds
pub is_within_true : (b : Brick) (v : Vector) → is_within b v ≡ true → IsWithin b v
is_within_true b v passes =
    let p = and_true (all_zip int_le b.lower v) (all_zip int_le v b.upper) passes in
    (all_le_true b.lower v p.0, all_le_true v b.upper p.1)

-- what is within the bounds passes the test
pub is_within_of : (b : Brick) (v : Vector) → IsWithin b v → is_within b v ≡ true
is_within_of b v inside =
    ap (λ t. t && all_zip int_le v b.upper) (all_le_of b.lower v inside.0) ∙ all_le_of v b.upper inside.1

-- within the bounds stands a vector with an entry for each of them
pub length-within : (b : Brick) (v : Vector) → IsWithin b v → length v ≡ length b.lower
length-within b v inside = sym (length_all_zip ◌≤ℤ◌ b.lower v inside.0)

-- where each brick of a point passes its test, the point is within the bounds
pub all_within_true : (bs : List Brick) (x : Bricks) → all_zip is_within bs x ≡ true → AreWithin bs x
all_within_true [] [] passes = tt
all_within_true [] (v ∷ x) passes = absurd (cc)
all_within_true (b ∷ bs) [] passes = absurd (cc)
all_within_true (b ∷ bs) (v ∷ x) passes =
    let p = and_true (is_within b v) (all_zip is_within bs x) passes in
    (is_within_true b v p.0, all_within_true bs x p.1)
