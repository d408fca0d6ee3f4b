-- The sums of at most three signed generators of a transport program: there are 37, those of three numbers that add up
-- to 0 and of which none is larger than 3.
use Rattle.std.proofs.Common.{◌≡◌, ℕ, zero, suc, ◌+◌, ◌*◌, ◌≤◌, ℤ, pos, ◌-ℤ◌, neg_ℤ, unsigned_abs, nat_le, Bool, true}
use Rattle.std.proofs.Common.{◌&&◌, List, length, map, refl, arith, sym, Contains, ◌⊎◌, inl, inr, subst}
use Rattle.std.specs.Prelude.{flat_map}
use Rattle.std.specs.List.{All, list_all, filter}
use Rattle.std.proofs.lemmas.List.Elements.{All-contains}
use Rattle.lattice_theory.specs.Lists.{numbers_from}
use Rattle.lattice_theory.specs.Vectors.{Vector, is_listed, is_rising, add, sub}
use Rattle.lattice_theory.specs.Lattices.{kernel}
use Rattle.lattice_theory.specs.SignedSums.{IsSignedSum}
use Rattle.lattice_laws.proofs.Tests.{and_true}
use Rattle.lattice_laws.proofs.Members.{list_all_at, listed_member}
use Rattle.lattice_laws.proofs.Rising.{rising_length}
use Rattle.lattice_theory.proofs.KnownValues.{three}
use Rattle.run_theory.proofs.KnownValues.{supplier_basis}

-- ---- the layers

-- the numbers from -r to r
abbrev numbers_around : ℕ → List ℤ
numbers_around r = map (λ k. pos k -ℤ pos r) (numbers_from 0 (2 * r + 1))

-- the vectors of three numbers that add up to 0, none of them larger than r
abbrev pub layer : ℕ → List Vector
layer r =
    filter (λ w. list_all (λ a. nat_le (unsigned_abs a) r) w)
    (flat_map (λ a. map (λ b. three a b (neg_ℤ a -ℤ b)) (numbers_around r)) (numbers_around r))

abbrev pub gens : List Vector
gens = kernel 3 supplier_basis

pub thirty_seven : length (layer 3) ≡ 37
thirty_seven = refl

pub layer_rising : is_rising (layer 3) ≡ true
layer_rising = refl

-- a step from one layer leads into the next one
abbrev leads_into : List Vector → List Vector → Bool
leads_into vs ws = list_all (λ w. list_all (λ e. is_listed ws (add w e) && is_listed ws (sub w e)) gens) vs

first_steps : leads_into (layer 0) (layer 1) ≡ true
first_steps = refl

second_steps : leads_into (layer 1) (layer 2) ≡ true
second_steps = refl

third_steps : leads_into (layer 2) (layer 3) ≡ true
third_steps = refl

-- and so do all that stand in the layers before it
first_inside : list_all (is_listed (layer 3)) (layer 0) ≡ true
first_inside = refl

second_inside : list_all (is_listed (layer 3)) (layer 1) ≡ true
second_inside = refl

third_inside : list_all (is_listed (layer 3)) (layer 2) ≡ true
third_inside = refl

-- ---- sums stand in the layers

step : (vs ws : List Vector) → leads_into vs ws ≡ true → (v e w : Vector) → Contains vs v → Contains gens e →
    (w ≡ add v e) ⊎ (w ≡ sub v e) → Contains ws w
step vs ws leads v e w from by_one sum =
    let next : Vector → Bool = λ u. list_all (λ d. is_listed ws (add u d) && is_listed ws (sub u d)) gens in
    let both =
    list_all_at (λ d. is_listed ws (add v d) && is_listed ws (sub v d)) gens e
    (list_all_at next vs v leads from) by_one in
    let tests = and_true (is_listed ws (add v e)) (is_listed ws (sub v e)) both in
    elim sum [
      | inl is ↦ subst (Contains ws) (sym is) (listed_member ws (add v e) tests.0)
      | inr is ↦ subst (Contains ws) (sym is) (listed_member ws (sub v e) tests.1)
    ]

inside : (vs : List Vector) → list_all (is_listed (layer 3)) vs ≡ true → (w : Vector) → Contains vs w →
    Contains (layer 3) w
inside vs passes w c = listed_member (layer 3) w (list_all_at (is_listed (layer 3)) vs w passes c)

none_in : (w : Vector) → IsSignedSum 3 gens 0 w → Contains (layer 0) w
none_in w is = subst (Contains (layer 0)) (sym is) (0, omega arith, refl)

one_in : (w : Vector) → IsSignedSum 3 gens 1 w → Contains (layer 1) w
one_in w (v, e, from, by_one, sum) = step (layer 0) (layer 1) first_steps v e w (none_in v from) by_one sum

two_in : (w : Vector) → IsSignedSum 3 gens 2 w → Contains (layer 2) w
two_in w (v, e, from, by_one, sum) = step (layer 1) (layer 2) second_steps v e w (one_in v from) by_one sum

three_in : (w : Vector) → IsSignedSum 3 gens 3 w → Contains (layer 3) w
three_in w (v, e, from, by_one, sum) = step (layer 2) (layer 3) third_steps v e w (two_in v from) by_one sum

-- a sum of at most three signed generators
abbrev pub IsSumOfThree : Vector → Type 0
IsSumOfThree w = (n : ℕ) × (n ≤ 3) × IsSignedSum 3 gens n w

sum_in : (w : Vector) → IsSumOfThree w → Contains (layer 3) w
sum_in w (zero, few, is) = inside (layer 0) first_inside w (none_in w is)
sum_in w (suc zero, few, is) = inside (layer 1) second_inside w (one_in w is)
sum_in w (suc (suc zero), few, is) = inside (layer 2) third_inside w (two_in w is)
sum_in w (suc (suc (suc zero)), few, is) = three_in w is
sum_in w (suc (suc (suc (suc n))), few, is) = absurd (omega (arith, few))

-- so a rising list of such sums has at most 37 members
pub at_most_thirty_seven : (zs : List Vector) → is_rising zs ≡ true → All IsSumOfThree zs → length zs ≤ 37
at_most_thirty_seven zs rising each =
    let few =
    rising_length zs (layer 3) rising layer_rising (λ w c. sum_in w (All-contains IsSumOfThree zs w each c)) in
    omega (arith, few, thirty_seven)
