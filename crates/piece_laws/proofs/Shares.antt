-- Shares of a count: from count vectors that agree, and a vector q below their sum, a part of each such that the parts
-- add up to q and no sum of the first parts is heavier than q. Those that come first serve first.
use Rattle.std.proofs.Common.{◌≡◌, ℕ, ◌+◌, ◌<◌, ◌≤◌, ℤ, ◌+ℤ◌, ◌-ℤ◌, unsigned_abs, true, ◌&&◌, List, [], ◌∷◌, refl, ap}
use Rattle.std.proofs.Common.{arith, sym, ◌∙◌, inl, inr}
use Rattle.std.proofs.lemmas.Int.{ints}
use Rattle.std.proofs.lemmas.Bool.{cases_lt}
use Rattle.std.specs.List.{AllZip}
use Rattle.lattice_theory.specs.Vectors.{Vector, ◌⊑◌, conforms, is_between, norm1, add, sub}
use Rattle.lattice_laws.proofs.Tests.{and_true}
use Rattle.lattice_laws.proofs.Signs.{agrees, between_refl, clash, IsPart, part_of, one_zero, abs_parts, between_of}
use Rattle.lattice_laws.proofs.Signs.{no_clash}
use Rattle.lattice_laws.proofs.Conformal.{agree, add_rest, norm_split, norm_sum}
use Rattle.lattice_laws.specs.VectorLists.{sum_of, AreSized}
use Rattle.lattice_laws.proofs.VectorLists.{AreAgreeing, agree_all}
use Rattle.lattice_laws.proofs.Sums.{below_zeros}

-- ---- numbers, by their positive and negative parts

-- where q is a part of c + w and larger than c, c is a part of it, and what is left is one of w
module _ (q c w : ℤ) (none : clash c w ≡ 0) (p : IsPart q (c +ℤ w)) where
  less_part : unsigned_abs c < unsigned_abs q → IsPart c q
  less_part less = record {
    ups = omega (arith, ints, none, less, p.ups, p.downs, one_zero c, one_zero (c +ℤ w), abs_parts q, abs_parts c);
    downs = omega (arith, ints, none, less, p.ups, p.downs, one_zero c, one_zero (c +ℤ w), abs_parts q, abs_parts c);
  }

  rest_part : unsigned_abs c < unsigned_abs q → IsPart (q -ℤ c) w
  rest_part less =
      let l = less_part less in record {
        ups = omega (arith, ints, none, l.downs, p.ups, p.downs, one_zero c, one_zero (c +ℤ w), one_zero (q -ℤ c));
        downs = omega (arith, ints, none, l.ups, p.ups, p.downs, one_zero c, one_zero (c +ℤ w), one_zero (q -ℤ c));
      }

  -- where it is no larger, it is a part of c
  more_part : unsigned_abs q ≤ unsigned_abs c → IsPart q c
  more_part more = record {
    ups = omega (arith, ints, none, more, p.ups, p.downs, one_zero c, one_zero (c +ℤ w), abs_parts q, abs_parts c);
    downs = omega (arith, ints, none, more, p.ups, p.downs, one_zero c, one_zero (c +ℤ w), abs_parts q, abs_parts c);
  }

-- nothing is a part of each number
nothing_part : (q w : ℤ) → IsPart (q -ℤ q) w
nothing_part q w =
    record { ups = omega (arith, ints, one_zero (q -ℤ q)); downs = omega (arith, ints, one_zero (q -ℤ q)) }

-- a part of c and q that leaves of q a part of w
record Clip (q c w : ℤ) : Type 0 where
  part : ℤ
  in_count : is_between part c ≡ true
  in_whole : is_between part q ≡ true
  rest : is_between (q -ℤ part) w ≡ true

-- c where q is larger, and else q
clip : (q c w : ℤ) → agrees c w ≡ true → is_between q (c +ℤ w) ≡ true → Clip q c w
clip q c w agreeing between =
    let none = no_clash c w agreeing in
    let p = part_of q (c +ℤ w) between in
    elim (cases_lt (unsigned_abs c) (unsigned_abs q)) [
      | inl less ↦ record {
        part = c;
        in_count = between_refl c;
        in_whole = between_of c q (less_part q c w none p less);
        rest = between_of (q -ℤ c) w (rest_part q c w none p less);
      }
      | inr more ↦ record {
        part = q;
        in_count = between_of q c (more_part q c w none p more);
        in_whole = between_refl q;
        rest = between_of (q -ℤ q) w (nothing_part q w);
      }
    ]

-- ---- vectors

-- the same of vectors
record Share (q c w : Vector) : Type 0 where
  part : Vector
  in_count : part ⊑ c
  in_whole : part ⊑ q
  rest : sub q part ⊑ w

share : (q c w : Vector) → agree c w ≡ true → q ⊑ add c w → Share q c w
share [] [] [] agreeing below = record { part = []; in_count = refl; in_whole = refl; rest = refl }
share (a ∷ q) [] [] agreeing below = absurd (cc)
share q [] (b ∷ w) agreeing below = absurd (cc)
share q (c ∷ cs) [] agreeing below = absurd (cc)
share [] (c ∷ cs) (b ∷ w) agreeing below = absurd (cc)
share (a ∷ q) (c ∷ cs) (b ∷ w) agreed under =
    let agreeing = and_true (agrees c b) (agree cs w) agreed in
    let below = and_true (is_between a (c +ℤ b)) (conforms q (add cs w)) under in
    let x = clip a c b agreeing.0 below.0 in
    let xs = share q cs w agreeing.1 below.1 in
    record {
      part = x.part ∷ xs.part;
      in_count = ap (λ t. t && conforms xs.part cs) x.in_count ∙ xs.in_count;
      in_whole = ap (λ t. t && conforms xs.part q) x.in_whole ∙ xs.in_whole;
      rest = ap (λ t. t && conforms (sub q xs.part) w) x.rest ∙ xs.rest;
    }

-- ---- one share after the other

-- each part, and each sum of b and the first parts, has at most this norm
abbrev pub StayWithin : ℕ → Vector → List Vector → Type 0
StayWithin most b [] = Unit {0}
StayWithin most b (a ∷ parts) = (norm1 a ≤ most) × (norm1 (add b a) ≤ most) × StayWithin most (add b a) parts

-- parts of the counts that add up to q
pub record Shares (n most : ℕ) (b q : Vector) (counts : List Vector) : Type 0 where
  pub parts : List Vector
  pub below : AllZip ◌⊑◌ parts counts
  pub whole : sum_of n parts ≡ q
  pub within : StayWithin most b parts

-- each count vector gives its share in turn
pub shares_of : (n most : ℕ) (counts : List Vector) → AreSized n counts → AreAgreeing counts → (b q : Vector) →
    q ⊑ sum_of n counts → norm1 b + norm1 q ≤ most → Shares n most b q counts
shares_of n most [] sized agreeing b q part light =
    record { parts = []; below = tt; whole = sym (below_zeros q n part); within = tt }
shares_of n most (c ∷ counts) sized agreeing b q part light =
    let x = share q c (sum_of n counts) (agree_all n c counts sized.0 agreeing.0) part in
    let split = norm_split x.part q x.in_whole in
    let sum = norm_sum b x.part in
    let left : norm1 (add b x.part) + norm1 (sub q x.part) ≤ most = omega (arith, sum, split, light) in
    let r = shares_of n most counts sized.1 agreeing.1 (add b x.part) (sub q x.part) x.rest left in
    record {
      parts = x.part ∷ r.parts;
      below = (x.in_count, r.below);
      whole = ap (add x.part) r.whole ∙ add_rest x.part q x.in_whole;
      within = (omega (arith, split, light), omega (arith, sum, split, light), r.within);
    }
