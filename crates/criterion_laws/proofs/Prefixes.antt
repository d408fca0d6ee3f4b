-- The criterion by prefixes decides whether a list is complete for the lattice of a matrix: each of the two says that
-- the list covers the lattice.
use Rattle.std.proofs.Common.{◌≡◌, ℕ, zero, suc, ◌+◌, ◌<◌, Bool, true, false, ◌&&◌, nat_eq, List, length, take, drop}
use Rattle.std.proofs.Common.{refl, arith, sym, Contains, inl, inr}
use Rattle.std.specs.List.{list_all}
use Rattle.std.proofs.lemmas.Bool.{and_from}
use Rattle.lattice_theory.specs.Lists.{numbers_from}
use Rattle.lattice_theory.specs.Vectors.{Vector, is_listed, is_rising, leads_positive, same, add, sub}
use Rattle.lattice_theory.specs.Matrices.{Matrix, product, element, unit_vector}
use Rattle.lattice_theory.specs.Lattices.{is_complete_for, is_signed_element, reduces_to_zero}
use Rattle.lattice_laws.proofs.Tests.{and_true}
use Rattle.lattice_laws.proofs.Members.{contains_cases, list_all_at, listed_member, member_listed, list_all_of}
use Rattle.cover_laws.specs.Elements.{IsNonzeroElement}
use Rattle.cover_laws.proofs.CompleteLists.{complete_covers, signed_element, numbered}
use Rattle.criterion_laws.specs.Prefixes.{clashes_settle, is_complete_by_prefixes}
use Rattle.cover_laws.proofs.Coverings.{IsCovering, covering_complete}
use Rattle.criterion_laws.proofs.Settled.{unit_member, covering_settles}
use Rattle.criterion_laws.proofs.Cuts.{settled_covers}

-- ---- what the tests of single members say

signed_leads : (m : Matrix) (z : Vector) → is_signed_element m z ≡ true → leads_positive z ≡ true
signed_leads m z signed =
    let width = m.cols + length m.rows in
    (and_true (leads_positive z) (nat_eq (length z) width)
    (and_true (leads_positive z && nat_eq (length z) width) (same (drop m.cols z) (product m (take m.cols z)))
    signed).0).0

-- the numbers from 0 on are those below their count
number_below : (a n j : ℕ) → Contains (numbers_from a n) j → j < a + n
number_below a zero j (k, low, e) = absurd (omega arith)
number_below a (suc n) j c = elim (contains_cases a (numbers_from (suc a) n) j c) [
  | inl same ↦ omega arith
  | inr d ↦ omega (arith, number_below (suc a) n j d)
]

-- ---- each criterion says that the list covers the lattice

module _ (m : Matrix) (basis : List Vector) where
  abbrev signed : Bool
  signed = list_all (is_signed_element m) basis

  abbrev rising : Bool
  rising = is_rising basis

  abbrev is_unit_listed : ℕ → Bool
  is_unit_listed j = is_listed basis (element m (unit_vector m.cols j))

  abbrev unit_reduces : ℕ → Bool
  unit_reduces j = reduces_to_zero basis (element m (unit_vector m.cols j))

  abbrev pair_reduces : Vector → Vector → Bool
  pair_reduces a b = reduces_to_zero basis (add a b) && reduces_to_zero basis (sub a b)

  elements_of : signed ≡ true → (z : Vector) → Contains basis z → IsNonzeroElement m z
  elements_of each z c = signed_element m z (list_all_at (is_signed_element m) basis z each c)

  -- a list of elements that covers passes the rest of the criterion by prefixes
  covering_prefixes : IsCovering m basis → signed ≡ true → rising ≡ true → is_complete_by_prefixes m basis ≡ true
  covering_prefixes is each in_order =
      let units = list_all is_unit_listed (numbers_from 0 m.cols) in
      and_from (signed && rising && units) (clashes_settle m.cols basis basis)
      (and_from (signed && rising) units (and_from signed rising each in_order)
      (list_all_of is_unit_listed (numbers_from 0 m.cols) (λ j c.
      member_listed basis (element m (unit_vector m.cols j))
      (unit_member m basis is (λ z d. signed_leads m z (list_all_at (is_signed_element m) basis z each d)) j
      (omega (arith, number_below 0 m.cols j c))))))
      (covering_settles m basis is)

  complete_prefixes : is_complete_for m basis ≡ true → is_complete_by_prefixes m basis ≡ true
  complete_prefixes complete =
      let units = list_all unit_reduces (numbers_from 0 m.cols) in
      let first = and_true (signed && rising && units) (list_all (λ a. list_all (pair_reduces a) basis) basis)
      complete in
      let second = and_true signed rising (and_true (signed && rising) units first.0).0 in
      covering_prefixes (record { elements = elements_of second.0; covers = complete_covers m basis complete })
      second.0 second.1

  -- by it the element of each unit vector is a member
  prefixes_listed : is_complete_by_prefixes m basis ≡ true → (j : ℕ) → j < m.cols →
      Contains basis (element m (unit_vector m.cols j))
  prefixes_listed passes j low =
      let units = list_all is_unit_listed (numbers_from 0 m.cols) in
      let first = and_true (signed && rising && units) (clashes_settle m.cols basis basis) passes in
      listed_member basis (element m (unit_vector m.cols j))
      (list_all_at is_unit_listed (numbers_from 0 m.cols) j (and_true (signed && rising) units first.0).1
      (numbered 0 m.cols j (omega arith) (omega arith)))

  prefixes_complete : is_complete_by_prefixes m basis ≡ true → is_complete_for m basis ≡ true
  prefixes_complete passes =
      let units = list_all is_unit_listed (numbers_from 0 m.cols) in
      let first = and_true (signed && rising && units) (clashes_settle m.cols basis basis) passes in
      let before = and_true (signed && rising) units first.0 in
      let second = and_true signed rising before.0 in
      let listed = λ (j : ℕ) (low : j < m.cols). prefixes_listed passes j low in
      covering_complete m basis (record {
        elements = elements_of second.0;
        covers = settled_covers m basis (elements_of second.0) listed first.1;
      }) second.0 second.1

-- two tests that pass in the same cases are equal
both_ways : (a b : Bool) → (a ≡ true → b ≡ true) → (b ≡ true → a ≡ true) → a ≡ b
both_ways true b to back = sym (to refl)
both_ways false true to back = back refl
both_ways false false to back = refl

-- the criterion by prefixes decides Pottier's criterion
pub prefixes_decide : (m : Matrix) (basis : List Vector) → is_complete_by_prefixes m basis ≡ is_complete_for m basis
prefixes_decide m basis =
    both_ways (is_complete_by_prefixes m basis) (is_complete_for m basis)
    (prefixes_complete m basis) (complete_prefixes m basis)

-- a complete list has the element of each unit vector
pub complete_listed : (m : Matrix) (basis : List Vector) → is_complete_for m basis ≡ true → (j : ℕ) → j < m.cols →
    Contains basis (element m (unit_vector m.cols j))
complete_listed m basis complete j low =
    prefixes_listed m basis (cc (prefixes_decide m basis)) j low
