-- The planted point is feasible.
use Rattle.std.proofs.Common.{◌≡◌, ℕ, zero, suc, ◌+◌, ◌%◌, ◌<◌, ℤ, pos, ◌+ℤ◌, ◌-ℤ◌, ◌*ℤ◌, ◌≤ℤ◌, List, [], ◌∷◌, length}
use Rattle.std.proofs.Common.{map, sum, sum_by, nat_eq, cond, refl, ap, arith, sym, ◌∙◌}
use Rattle.std.specs.List.{AllZip, AllByRecursion}
use Rattle.std.proofs.lemmas.Int.{ints}
use Rattle.std.proofs.lemmas.Bool.Decides.{nat_tests}
use Rattle.std.proofs.lemmas.List.Sums.{sum_by-cons}
use Rattle.lattice_theory.specs.Lists.{total, zip_with}
use Rattle.lattice_theory.specs.Vectors.{Vector, dot}
use Rattle.lattice_theory.specs.Matrices.{product, unit_vector}
use Rattle.fold_theory.specs.declared.Relation.TheVariants.{Equal}
use Rattle.fold_theory.specs.Programs.{Bricks, IsWithin, AreWithin, IsFeasible, link_rests, link_miss, dist}
use Rattle.fold_gen.specs.declared.customers.Planted.{Planted}
use Rattle.fold_gen.specs.declared.customers.Customer.{Customer}
use Rattle.fold_gen.specs.Draws.{next, after, draw, suppliers, share, demand, customer, customers}
use Rattle.fold_gen.specs.Transports.{brick_of, transport_of, transport}

-- ---- shares

-- one supplier of three is drawn
one_of_three : (s : ℕ) → s < 3 → cond (nat_eq s 0) 1 0 + cond (nat_eq s 1) 1 0 + cond (nat_eq s 2) 1 0 ≡ 1
one_of_three zero low = refl
one_of_three (suc zero) low = refl
one_of_three (suc (suc zero)) low = refl
one_of_three (suc (suc (suc s))) low = absurd (omega arith)

-- the shares add up to the number of draws
shares_all : (n z : ℕ) → share 0 (suppliers n z) + share 1 (suppliers n z) + share 2 (suppliers n z) ≡ n
shares_all zero z = refl
shares_all (suc n) z =
    let s = draw 3 z in
    let one = one_of_three s (omega arith) in
    omega (
      arith,
      one,
      sum_by-cons (λ d. cond (nat_eq d 0) 1 0) s (suppliers n (next z)),
      sum_by-cons (λ d. cond (nat_eq d 1) 1 0) s (suppliers n (next z)),
      sum_by-cons (λ d. cond (nat_eq d 2) 1 0) s (suppliers n (next z)),
      shares_all n (next z),
    )

-- what is planted for the customer is its demand
abbrev IsSupplied : Customer → Type 0
IsSupplied c = c.planted.first + c.planted.second + c.planted.third ≡ c.demand

all_supplied : (n z : ℕ) → AllByRecursion IsSupplied (customers n z)
all_supplied zero z = tt
all_supplied (suc n) z = (shares_all (demand z) (after 7 z), all_supplied n (after (demand z) (after 7 z)))

-- ---- the point

abbrev vector_of : Planted → Vector
vector_of v = pos v.first ∷ pos v.second ∷ pos v.third ∷ []

abbrev planted_point : List Customer → Bricks
planted_point cs = map (λ c. vector_of c.planted) cs

within : (c : Customer) → IsSupplied c → IsWithin (brick_of c) (vector_of c.planted)
within c supplied = (
  (omega (arith, ints), (omega (arith, ints), (omega (arith, ints), tt))),
  (omega (arith, ints, supplied), (omega (arith, ints, supplied), (omega (arith, ints, supplied), tt))),
)

all_within : (cs : List Customer) → AllByRecursion IsSupplied cs → AreWithin (map brick_of cs) (planted_point cs)
all_within [] supplied = tt
all_within (c ∷ cs) supplied = (within c supplied.0, all_within cs supplied.1)

met : (c : Customer) → IsSupplied c → dot (pos 1 ∷ pos 1 ∷ pos 1 ∷ []) (vector_of c.planted) ≡ pos c.demand
met c supplied = omega (arith, ints, supplied)

all_met : (all cs : List Customer) → AllByRecursion IsSupplied cs →
    AllZip (λ b v. product (transport_of all).brick v ≡ b.right) (map brick_of cs) (planted_point cs)
all_met all [] supplied = tt
all_met all (c ∷ cs) supplied = (ap (λ a. a ∷ []) (met c supplied.0), all_met all cs supplied.1)

-- what the bricks send from one supplier
module _ (share_of : Planted → ℕ) (row : Vector) (picks : (v : Planted) → dot row (vector_of v) ≡ pos (share_of v))
  where
    all_sent : (cs : List Customer) →
        total (map (dot row) (planted_point cs)) ≡ pos (sum_by (λ c. share_of c.planted) cs)
    all_sent [] = refl
    all_sent (c ∷ cs) =
        omega (arith, ints, picks c.planted, all_sent cs, sum_by-cons (λ (d : Customer). share_of d.planted) c cs)

no_rest : (a : ℕ) (b : ℤ) → b ≡ pos a → pos a -ℤ b ≡ pos 0
no_rest a b e = omega (arith, ints, e)

rests : (cs : List Customer) → link_rests (transport_of cs) (planted_point cs) ≡ pos 0 ∷ pos 0 ∷ pos 0 ∷ []
rests cs =
    let first = all_sent (λ v. v.first) (unit_vector 3 0) (λ v. omega (arith, ints)) cs in
    let second = all_sent (λ v. v.second) (unit_vector 3 1) (λ v. omega (arith, ints)) cs in
    let third = all_sent (λ v. v.third) (unit_vector 3 2) (λ v. omega (arith, ints)) cs in
    rw (no_rest _ _ first, no_rest _ _ second, no_rest _ _ third) refl

pub feasible : (number bricks : ℕ) → (x : Bricks) × IsFeasible (transport number bricks) x
feasible number bricks =
    let cs = customers bricks number in
    let supplied = all_supplied bricks number in (
      planted_point cs,
      record {
        within = all_within cs supplied;
        brick_rows = all_met cs cs supplied;
        link_rows = ap (λ r. link_miss (transport_of cs) r) (rests cs);
      },
    )
