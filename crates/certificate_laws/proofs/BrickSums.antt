-- The list of all signed sums of generators: it is closed under one more generator, and where the generators have no
-- products with the rows, neither have the sums.
use Rattle.std.proofs.Common.{◌≡◌, ℕ, zero, suc, ◌≤◌, nat_le, Bool, true, false, ◌&&◌, ◌||◌, List, [], ◌∷◌, length, map}
use Rattle.std.proofs.Common.{refl, ap, arith, sym, ◌∙◌, Contains, inl, inr, subst}
use Rattle.std.proofs.lemmas.Bool.{cases_lt, and_from}
use Rattle.std.proofs.lemmas.List.Elements.{All-contains, All-from_recursion}
use Rattle.std.specs.List.{list_all}
use Rattle.lattice_theory.specs.Vectors.{Vector, is_rising, add, sub, zeros, same}
use Rattle.lattice_theory.specs.Matrices.{Matrix, product}
use Rattle.lattice_theory.specs.Lattices.{IsSlackBasis, kernel}
use Rattle.lattice_theory.specs.SignedSums.{Sum, IsSignedSum, HasLevel, AreSums, vectors}
use Rattle.lattice_laws.proofs.Tests.{same_refl, nat_le_of}
use Rattle.lattice_laws.proofs.Members.{contains_cases, contains_head, contains_tail, list_all_of, list_any_of}
use Rattle.lattice_laws.proofs.Conformal.{length-add}
use Rattle.lattice_laws.proofs.Products.{rows-add, rows-zeros, length-zeros, rows-sub}
use Rattle.run_theory.specs.Certificates.{sum_of_row}
use Rattle.run_theory.specs.Outcomes.{row_of_sum}
use Rattle.run_theory.specs.Checker.{is_sum_within, sums_are_closed}
use Rattle.lattice_laws.proofs.Sums.{add_zeros, length-sub, sub_itself}
use Rattle.cover_laws.proofs.Kernels.{IsGenerator, complete_generators}
use Rattle.cover_laws.proofs.SlackBases.{slack_basis_complete}

-- ---- listed sums

-- a member with this vector
record IsListed (sums : List Sum) (w : Vector) : Type 0 where
  member : Sum
  listed : Contains sums member
  is : member.vector ≡ w

listed_sum : (sums : List Sum) (w : Vector) → Contains (vectors sums) w → IsListed sums w
listed_sum [] w (k, low, e) = absurd (omega arith)
listed_sum (s ∷ sums) w c = elim (contains_cases s.vector (vectors sums) w c) [
  | inl e ↦ record { member = s; listed = contains_head s sums; is = e }
  | inr d ↦
      let r = listed_sum sums w d in
      record { member = r.member; listed = contains_tail s sums r.member r.listed; is = r.is }
]

module _ (t : ℕ) (gens : List Vector) (g : ℕ) where
  abbrev IsSum : Sum → Type 0
  IsSum s = (s.level ≤ g) × HasLevel t gens s

  module _ (sums : List Sum) (all : AreSums t gens g sums) where
    member_is : (s : Sum) → Contains sums s → IsSum s
    member_is s c = All-contains IsSum sums s all.sound c

    -- a listed vector is a sum of so many generators
    pub record Reached (w : Vector) : Type 0 where
      pub level : ℕ
      pub low : level ≤ g
      pub is : IsSignedSum t gens level w

    pub reached : (w : Vector) → Contains (vectors sums) w → Reached w
    reached w c =
        let r = listed_sum sums w c in
        let is = member_is r.member r.listed in
        record { level = r.member.level; low = is.0; is = subst (IsSignedSum t gens r.member.level) r.is is.1.reached }

    -- a sum of n generators is listed, with at most that level
    within : (n : ℕ) (w : Vector) → n ≤ g → IsSignedSum t gens n w → is_sum_within sums n w ≡ true
    within n w low sum =
        let r = listed_sum sums w (all.complete n w low sum) in
        let s = r.member in
        let least = (member_is s r.listed).1.least n (subst (IsSignedSum t gens n) (sym r.is) sum) in
        list_any_of (λ u. same u.vector w && nat_le u.level n) sums s r.listed
        (and_from (same s.vector w) (nat_le s.level n) (ap (λ v. same v w) r.is ∙ same_refl w)
        (nat_le_of s.level n least))

    pub zero_in : Contains (vectors sums) (zeros t)
    zero_in = all.complete 0 (zeros t) (omega arith) refl

    -- one more generator
    abbrev one_more : Sum → Vector → Bool
    one_more s e =
        is_sum_within sums (suc s.level) (add s.vector e) && is_sum_within sums (suc s.level) (sub s.vector e)

    more : (s : Sum) → Contains sums s → (nat_le g s.level || list_all (one_more s) gens) ≡ true
    more s c = by (nat_le g s.level) refl
      where
        is : IsSum s
        is = member_is s c

        added : suc s.level ≤ g → (e : Vector) → Contains gens e → one_more s e ≡ true
        added low e d =
            and_from (is_sum_within sums (suc s.level) (add s.vector e))
            (is_sum_within sums (suc s.level) (sub s.vector e))
            (within (suc s.level) (add s.vector e) low (s.vector, e, is.1.reached, d, inl refl))
            (within (suc s.level) (sub s.vector e) low (s.vector, e, is.1.reached, d, inr refl))

        by : (b : Bool) → nat_le g s.level ≡ b → (b || list_all (one_more s) gens) ≡ true
        by true p = refl
        by false p = elim (cases_lt s.level g) [
          | inl below ↦ list_all_of (one_more s) gens (added (omega (arith, below)))
          | inr above ↦ absurd (cc (nat_le_of g s.level above, p))
        ]

    pub sums_closed : sums_are_closed t gens g sums ≡ true
    sums_closed =
        let rising = is_rising (vectors sums) in
        let begins = is_sum_within sums 0 (zeros t) in
        let each = λ (s : Sum). nat_le g s.level || list_all (one_more s) gens in
        and_from (rising && begins) (list_all each sums)
        (and_from rising begins all.rising (within 0 (zeros t) (omega arith) refl))
        (list_all_of each sums more)

-- the rows of a certificate are read back
pub read_back : (sums : List Sum) → map sum_of_row (map row_of_sum sums) ≡ sums
read_back [] = refl
read_back (s ∷ sums) = ap (λ rest. s ∷ rest) (read_back sums)

-- ---- no products with the rows

-- a vector without products with the rows
pub record IsStill (m : Matrix) (w : Vector) : Type 0 where
  pub size : length w ≡ m.cols
  pub still : product m w ≡ zeros (length m.rows)

module _ (m : Matrix) (basis : List Vector) (slack : IsSlackBasis m basis) where
  abbrev gens : List Vector
  gens = kernel m.cols basis

  generator_is : (e : Vector) → Contains gens e → IsGenerator m e
  generator_is e c =
      All-contains (IsGenerator m) gens e
      (All-from_recursion (IsGenerator m) gens (complete_generators m basis (slack_basis_complete m basis slack))) c

  still_sum : (n : ℕ) (w : Vector) → IsSignedSum m.cols gens n w → IsStill m w
  still_sum zero w e =
      subst (IsStill m) (sym e) (record { size = length-zeros m.cols; still = rows-zeros m.rows m.cols })
  still_sum (suc n) w (before, e, sum, listed, inl is) =
      let b = still_sum n before sum in
      let g = generator_is e listed in
      let r = length m.rows in
      subst (IsStill m) (sym is) (record {
        size = length-add before e m.cols b.size g.size;
        still =
            rows-add m.rows before e (b.size ∙ sym g.size) ∙ (λ i. add (b.still i) (g.still i))
            ∙ add_zeros (zeros r) r (length-zeros r);
      })
  still_sum (suc n) w (before, e, sum, listed, inr is) =
      let b = still_sum n before sum in
      let g = generator_is e listed in
      let r = length m.rows in
      subst (IsStill m) (sym is) (record {
        size = length-sub before e m.cols b.size g.size;
        still =
            rows-sub m.rows before e (b.size ∙ sym g.size) ∙ (λ i. sub (b.still i) (g.still i))
            ∙ sub_itself (zeros r) r (length-zeros r);
      })

  -- each listed sum
  pub listed_still : (g : ℕ) (sums : List Sum) → AreSums m.cols gens g sums → (w : Vector) → Contains (vectors sums) w →
      IsStill m w
  listed_still g sums all w c = let r = reached m.cols gens g sums all w c in still_sum r.level w r.is
