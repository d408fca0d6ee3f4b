-- Listed sums that begin at zero and are closed under one more generator below a bound: each sum of so many signed
-- generators is listed.
use Rattle.std.proofs.Common.{inl, inr, ◌≡◌, ℕ, zero, suc, ◌<◌, ◌≤◌, nat_le, Bool, true, false, ◌&&◌, ◌||◌, List, []}
use Rattle.std.proofs.Common.{◌∷◌, refl, ap, arith, sym, ◌∙◌, Contains, subst, ◌⊎◌}
use Rattle.std.specs.List.{list_all}
use Rattle.lattice_theory.specs.Vectors.{Vector, is_rising, add, sub, zeros, same}
use Rattle.lattice_theory.specs.SignedSums.{Sum, vectors, IsSignedSum}
use Rattle.lattice_laws.proofs.Tests.{and_true, same_true, le_true}
use Rattle.lattice_laws.proofs.Members.{contains_head, contains_tail, list_all_at, mapped}
use Rattle.run_theory.specs.Checker.{is_sum_within, sums_are_closed}

-- w is a listed sum of at most this level
record IsSumAt (sums : List Sum) (level : ℕ) (w : Vector) : Type 0 where
  member : Sum
  listed : Contains sums member
  is : member.vector ≡ w
  low : member.level ≤ level

-- by the test
sum_at : (sums : List Sum) (level : ℕ) (w : Vector) → is_sum_within sums level w ≡ true → IsSumAt sums level w
sum_at [] level w passes = absurd (cc)
sum_at (s ∷ sums) level w passes =
    by (same s.vector w) (nat_le s.level level) refl refl passes (λ k. further (sum_at sums level w k))
  where
    further : IsSumAt sums level w → IsSumAt (s ∷ sums) level w
    further r = record {
      member = r.member;
      listed = contains_tail s sums r.member r.listed;
      is = r.is;
      low = r.low;
    }

    by : (b d : Bool) → same s.vector w ≡ b → nat_le s.level level ≡ d →
        ((b && d) || is_sum_within sums level w) ≡ true →
        (is_sum_within sums level w ≡ true → IsSumAt (s ∷ sums) level w) → IsSumAt (s ∷ sums) level w
    by true true p q passes rest = record {
      member = s;
      listed = contains_head s sums;
      is = same_true s.vector w p;
      low = le_true s.level level q;
    }
    by true false p q passes rest = rest passes
    by false d p q passes rest = rest passes

module _ (t : ℕ) (gens : List Vector) (bound : ℕ) (sums : List Sum)
    (closed : sums_are_closed t gens bound sums ≡ true) where
  -- the tests of one generator, and of one sum
  abbrev one_more : Sum → Vector → Bool
  one_more s e = is_sum_within sums (suc s.level) (add s.vector e) && is_sum_within sums (suc s.level) (sub s.vector e)

  abbrev each_more : Sum → Bool
  each_more s = nat_le bound s.level || list_all (one_more s) gens

  abbrev begins : Bool
  begins = is_sum_within sums 0 (zeros t)

  parts : (begins ≡ true) × (list_all each_more sums ≡ true)
  parts =
      let last = and_true (is_rising (vectors sums) && begins) (list_all each_more sums) closed in
      ((and_true (is_rising (vectors sums)) begins last.0).1, last.1)

  -- what is listed one level above a sum is so one level above a bound on the sum's level
  higher : (s : Sum) (level : ℕ) (v w : Vector) → s.level ≤ level → v ≡ w → IsSumAt sums (suc s.level) v →
      IsSumAt sums (suc level) w
  higher s level v w low e r = record {
    member = r.member;
    listed = r.listed;
    is = r.is ∙ e;
    low = omega (arith, r.low, low);
  }

  -- the tests of a generator at a listed sum below the bound
  tested : (g : Vector) → Contains gens g → (level : ℕ) (w : Vector) (a : IsSumAt sums level w) → level < bound →
      one_more a.member g ≡ true
  tested g c level w a below =
      list_all_at (one_more a.member) gens g
      (by (nat_le bound a.member.level) refl (list_all_at each_more sums a.member parts.1 a.listed)) c
    where
      by : (b : Bool) → nat_le bound a.member.level ≡ b → (b || list_all (one_more a.member) gens) ≡ true →
          list_all (one_more a.member) gens ≡ true
      by true p passes = absurd (omega (arith, le_true bound a.member.level p, a.low, below))
      by false p passes = passes

  -- each sum of at most so many signed generators is listed, at no higher level
  sum_listed : (n : ℕ) (w : Vector) → n ≤ bound → IsSignedSum t gens n w → IsSumAt sums n w
  sum_listed zero w low is = subst (IsSumAt sums 0) (sym is) (sum_at sums 0 (zeros t) parts.0)
  sum_listed (suc n) w low (before, g, start, c, is) = by (sum_listed n before (omega arith) start) is
    where
      by : IsSumAt sums n before → (w ≡ add before g) ⊎ (w ≡ sub before g) → IsSumAt sums (suc n) w
      by a sign =
          let v = a.member.vector in
          let level = suc a.member.level in
          let both =
          and_true (is_sum_within sums level (add v g)) (is_sum_within sums level (sub v g))
          (tested g c n before a low) in
          elim sign [
            | inl plus ↦
                higher a.member n (add v g) w a.low (ap (λ u. add u g) a.is ∙ sym plus)
                (sum_at sums level (add v g) both.0)
            | inr minus ↦
                higher a.member n (sub v g) w a.low (ap (λ u. sub u g) a.is ∙ sym minus)
                (sum_at sums level (sub v g) both.1)
          ]

  -- so all of them are among the listed vectors
  pub all_listed : (n : ℕ) (w : Vector) → n ≤ bound → IsSignedSum t gens n w → Contains (vectors sums) w
  all_listed n w low is =
      let a = sum_listed n w low is in
      subst (Contains (vectors sums)) a.is (mapped (λ s. s.vector) sums a.member a.listed)
