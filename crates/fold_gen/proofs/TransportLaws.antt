-- The parts that are made from customers are those of their program.
use Rattle.std.proofs.Common.{◌≡◌, ℕ, suc, ◌+◌, ◌*◌, ◌<◌, ◌≤◌, IsTrue, append_assoc, ℤ, pos, List, [], ◌∷◌, ◌++◌}
use Rattle.std.proofs.Common.{length, map, take, get_or, replicate, flat_map, refl, ap, arith, ◌∙◌}
use Rattle.std.proofs.lemmas.Grind.{flat_map-append}
use Rattle.std.proofs.lemmas.List.{append-nil, take_more, take_all, map-append, length-map}
use Rattle.std.proofs.lemmas.List.Elements.{All-nil, All-cons}
use Rattle.lattice_theory.specs.Vectors.{Vector, is_bounded, IsBoundedRow}
use Rattle.lattice_theory.specs.Matrices.{rows_of}
use Rattle.fold_theory.specs.declared.Relation.TheVariants.{Equal}
use Rattle.fold_theory.specs.Programs.{Brick}
use Rattle.fold_program.specs.Parts.{bricks_from, fold_of}
use Rattle.fold_gen.specs.declared.customers.Customer.{Customer}
use Rattle.fold_gen.specs.Transports.{brick_of, sent, links, shares, transport_of}

-- three entries more
three_more : (n : ℕ) (a : ℤ) → replicate (3 * suc n) a ≡ a ∷ a ∷ a ∷ replicate (3 * n) a
three_more n a = let e : 3 * suc n ≡ suc (suc (suc (3 * n))) = omega arith in ap (λ k. replicate k a) e

-- the bricks, customer by customer
pub bricks_made : (cs : List Customer) →
    bricks_from 3 1 (rows_of (length cs) 3 (replicate (3 * length cs) (pos 0)))
    (rows_of (length cs) 3 (flat_map (λ c. (brick_of c).upper) cs))
    (map (λ c. pos c.demand) cs) (flat_map (λ c. (brick_of c).costs) cs)
    ≡ map brick_of cs
bricks_made [] = refl
bricks_made (c ∷ cs) =
    ap (λ lower. bricks_from 3 1 (rows_of (length (c ∷ cs)) 3 lower)
    (rows_of (length (c ∷ cs)) 3 (flat_map (λ (d : Customer). (brick_of d).upper) (c ∷ cs)))
    (map (λ (d : Customer). pos d.demand) (c ∷ cs)) (flat_map (λ (d : Customer). (brick_of d).costs) (c ∷ cs)))
    (three_more (length cs) (pos 0))
    ∙ ap (λ bs. brick_of c ∷ bs) (bricks_made cs)

-- ---- one customer more

module _ {A : Type 0} (cs : List Customer) (i : ℕ) (d : Customer) (low : i < length cs) where
  pub flat_map_more : (f : Customer → List A) →
      flat_map f (take (i + 1) cs) ≡ flat_map f (take i cs) ++ f (get_or cs i d)
  flat_map_more f =
      ap (flat_map f) (take_more cs i d low) ∙ flat_map-append f (take i cs) (get_or cs i d ∷ [])
      ∙ ap (λ rest. flat_map f (take i cs) ++ rest) (append-nil (f (get_or cs i d)))

  pub map_more : (f : Customer → A) → map f (take (i + 1) cs) ≡ map f (take i cs) ++ f (get_or cs i d) ∷ []
  map_more f = ap (map f) (take_more cs i d low) ∙ map-append f (take i cs) (get_or cs i d ∷ [])

-- ---- how many numbers there are

pub length-uppers : (cs : List Customer) → length (flat_map (λ c. (brick_of c).upper) cs) ≡ length cs * 3
length-uppers [] = omega arith
length-uppers (c ∷ cs) =
    let rest = length-uppers cs in
    let all : length (flat_map (λ (e : Customer). (brick_of e).upper) (c ∷ cs))
    ≡ 3 + length (flat_map (λ (e : Customer). (brick_of e).upper) cs) = omega arith in
    omega (arith, all, rest)

-- what stands where there is no customer
abbrev pub no_customer : Customer
no_customer = record {
  demand = 0;
  first = record { a = 0; b = 0 };
  second = record { a = 0; b = 0 };
  third = record { a = 0; b = 0 };
  planted = record { first = 0; second = 0; third = 0 };
}

pub three_bounded : (a : ℤ) → IsTrue (is_bounded a) → IsBoundedRow (a ∷ a ∷ a ∷ [])
three_bounded a small =
    let P : ℤ → Type 0 = λ b. IsTrue (is_bounded b) in
    All-cons P a (a ∷ a ∷ []) small (All-cons P a (a ∷ []) small (All-cons P a [] small (All-nil P)))

pub three_pushes : {A : Type 0} → (xs : List A) (a b c : A) →
    ((xs ++ a ∷ []) ++ b ∷ []) ++ c ∷ [] ≡ xs ++ a ∷ b ∷ c ∷ []
three_pushes xs a b c = append_assoc (xs ++ a ∷ []) (b ∷ []) (c ∷ []) ∙ append_assoc xs (a ∷ []) (b ∷ c ∷ [])

-- ---- the whole

-- the parts of these customers make their program
pub program_made : (cs : List Customer) (right : Vector) → right ≡ sent cs ++ map (λ c. pos c.demand) cs →
    fold_of links shares
    (record { cols = 3; rows = rows_of (length cs) 3 (replicate (3 * length cs) (pos 0)) })
    (record { cols = 3; rows = rows_of (length cs) 3 (flat_map (λ c. (brick_of c).upper) cs) })
    (record { cols = 3 + length cs; rows = rows_of 1 (3 + length cs) right })
    (Equal ∷ Equal ∷ Equal ∷ []) (flat_map (λ c. (brick_of c).costs) cs) ≡ transport_of cs
program_made cs right is =
    let size : length right ≤ 3 + length cs =
    omega (arith, ap length is, length-map cs (λ (c : Customer). pos c.demand)) in
    let one : take (3 + length cs) right ++ [] ≡ sent cs ++ map (λ (c : Customer). pos c.demand) cs =
    append-nil (take (3 + length cs) right) ∙ take_all (3 + length cs) right size ∙ is in
    rw one (ap (λ (bs : List Brick). record (transport_of cs) { bricks = bs }) (bricks_made cs))

pub length-costs : (cs : List Customer) → length (flat_map (λ c. (brick_of c).costs) cs) ≡ length cs * 3
length-costs [] = omega arith
length-costs (c ∷ cs) =
    let rest = length-costs cs in
    let all : length (flat_map (λ (e : Customer). (brick_of e).costs) (c ∷ cs))
    ≡ 3 + length (flat_map (λ (e : Customer). (brick_of e).costs) cs) = omega arith in
    omega (arith, all, rest)
