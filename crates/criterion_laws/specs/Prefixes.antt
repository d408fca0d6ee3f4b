-- The criterion by prefixes: when a list of vectors is complete for the lattice of a matrix, by the first entries of
-- the sums of each two members alone.
use Rattle.std.specs.Prelude.{ℕ, suc, nat_lt, Bool, true, ◌&&◌, ◌||◌, List, [], ◌∷◌, take, Option, Some, None, cond}
use Rattle.std.specs.List.{list_all, list_any}
use Rattle.std.specs.Option.{option_map}
use Rattle.lattice_theory.specs.Lists.{numbers_from}
use Rattle.lattice_theory.specs.Vectors.{Vector, conforms, is_listed, is_rising, add, opposite}
use Rattle.lattice_theory.specs.Matrices.{Matrix, element, unit_vector}
use Rattle.lattice_theory.specs.Lattices.{is_signed_element}
use Rattle.lattice_laws.proofs.Signs.{agrees}

-- the first place where the two vectors have entries of opposite signs, from 0
abbrev pub first_clash : Vector → Vector → Option ℕ
first_clash [] v = None
first_clash (a ∷ u) [] = None
first_clash (a ∷ u) (b ∷ v) = cond (agrees a b) (option_map suc (first_clash u v)) (Some 0)

-- the first entries of a member, as it is or with its signs turned, are conformally below those of z
abbrev pub is_below_in : ℕ → Vector → Vector → Bool
is_below_in entries z e = conforms (take entries e) (take entries z) || conforms (take entries (opposite e))
    (take entries z)

-- two vectors that clash first behind the first parts: some member is below their sum up to that place
abbrev pub clash_settles : ℕ → List Vector → Vector → Vector → Bool
clash_settles cols basis f g =
    elim (first_clash f g) [
      | None ↦ true
      | Some at ↦ nat_lt at cols || list_any (is_below_in (suc at) (add f g)) basis
    ]

-- so with either sign of the second one
abbrev pub pair_settles : ℕ → List Vector → Vector → Vector → Bool
pair_settles cols basis f g = clash_settles cols basis f g && clash_settles cols basis f (opposite g)

-- so each two members
abbrev pub clashes_settle : ℕ → List Vector → List Vector → Bool
clashes_settle cols basis [] = true
clashes_settle cols basis (f ∷ fs) = list_all (pair_settles cols basis f) fs && clashes_settle cols basis fs

-- the criterion by prefixes: the list is rising, each member is an element that leads positive, the elements of the
-- unit vectors are members, and what two members clash in is settled by a prefix
abbrev pub is_complete_by_prefixes : Matrix → List Vector → Bool
is_complete_by_prefixes m basis =
    list_all (is_signed_element m) basis
    && is_rising basis
    && list_all (λ j. is_listed basis (element m (unit_vector m.cols j))) (numbers_from 0 m.cols)
    && clashes_settle m.cols basis basis
