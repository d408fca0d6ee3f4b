-- Sums of signed members of a list. Where two terms clash, and the sum of the two is one of lighter terms, the terms
-- can be changed for lighter ones with the same sum, until none clash; then each term is below the sum.
use Rattle.std.proofs.Common.{◌≡◌, ℕ, zero, suc, ◌+◌, ◌<◌, false, List, ◌∷◌, refl, ap, arith, sym, ◌∙◌, inl, inr, subst}
use Rattle.std.proofs.Common.{[]}
use Rattle.lattice_theory.specs.Vectors.{Vector, norm1, add}
use Rattle.lattice_laws.proofs.Conformal.{agree}
use Rattle.lattice_laws.proofs.Sums.{add_assoc_v, add_swap}
use Rattle.lattice_laws.proofs.Agreement.{norm_clash}
use Rattle.lattice_laws.specs.VectorLists.{sum_of, weight}
use Rattle.lattice_laws.proofs.VectorLists.{weight_append, agreeing_below, ClashesWithOne, ClashingPair}
use Rattle.lattice_laws.proofs.VectorLists.{agreeing_or_clashing}
use Rattle.cover_laws.specs.ConformalSums.{IsTerm, AreTerms, Spanned, ConformalSum}
use Rattle.cover_laws.proofs.Terms.{Lightly, spanned_add, terms_sized}

-- ---- terms that agree

-- ---- terms that clash

-- a term that clashes with e, and the others
record Partner (n : ℕ) (basis : List Vector) (e : Vector) (es : List Vector) : Type 0 where
  term : Vector
  others : List Vector
  signed : IsTerm n basis term
  rest : AreTerms n basis others
  clash : agree e term ≡ false
  sum : sum_of n es ≡ add term (sum_of n others)
  weighs : weight es ≡ norm1 term + weight others

-- two terms that clash, and the others
record Clash (n : ℕ) (basis es : List Vector) : Type 0 where
  one : Vector
  two : Vector
  others : List Vector
  signed_one : IsTerm n basis one
  signed_two : IsTerm n basis two
  rest : AreTerms n basis others
  clash : agree one two ≡ false
  sum : sum_of n es ≡ add one (add two (sum_of n others))
  weighs : weight es ≡ norm1 one + (norm1 two + weight others)

-- of a term that clashes with one of the terms
partner_of : (n : ℕ) (basis : List Vector) (e : Vector) (es : List Vector) → AreTerms n basis es →
    ClashesWithOne e es → Partner n basis e es
partner_of n basis e [] signed one = absurd one
partner_of n basis e (f ∷ es) signed (inl clash) = record {
  term = f;
  others = es;
  signed = signed.0;
  rest = signed.1;
  clash = clash;
  sum = refl;
  weighs = refl;
}
partner_of n basis e (f ∷ es) signed (inr one) =
    let q = partner_of n basis e es signed.1 one in
    record {
      term = q.term;
      others = f ∷ q.others;
      signed = q.signed;
      rest = (signed.0, q.rest);
      clash = q.clash;
      sum = ap (add f) q.sum ∙ add_swap f q.term (sum_of n q.others);
      weighs = omega (arith, q.weighs);
    }

-- of terms of which two clash
clash_of : (n : ℕ) (basis es : List Vector) → AreTerms n basis es → ClashingPair es → Clash n basis es
clash_of n basis [] signed pair = absurd pair
clash_of n basis (e ∷ es) signed (inl one) =
    let q = partner_of n basis e es signed.1 one in
    record {
      one = e;
      two = q.term;
      others = q.others;
      signed_one = signed.0;
      signed_two = q.signed;
      rest = q.rest;
      clash = q.clash;
      sum = ap (add e) q.sum;
      weighs = omega (arith, q.weighs);
    }
clash_of n basis (e ∷ es) signed (inr pair) =
    let c = clash_of n basis es signed.1 pair in
    record {
      one = c.one;
      two = c.two;
      others = e ∷ c.others;
      signed_one = c.signed_one;
      signed_two = c.signed_two;
      rest = (signed.0, c.rest);
      clash = c.clash;
      sum =
          ap (add e) c.sum
          ∙ add_swap e c.one (add c.two (sum_of n c.others))
          ∙ ap (add c.one) (add_swap e c.two (sum_of n c.others));
      weighs = omega (arith, c.weighs);
    }

-- ---- the exchange

-- the sum of each two terms is a sum of terms that weigh no more
abbrev pub PairsAreLight : ℕ → List Vector → Type 0
PairsAreLight n basis = (a b : Vector) → IsTerm n basis a → IsTerm n basis b → Lightly n basis (add a b)

-- lighter terms with the same sum
exchanged : (n : ℕ) (basis es : List Vector) (c : Clash n basis es) → Lightly n basis (add c.one c.two) →
    (s : Spanned n basis (sum_of n es)) × (weight s.terms < weight es)
exchanged n basis es c (two, light) =
    let others : Spanned n basis (sum_of n c.others) = record { terms = c.others; signed = c.rest; sum = refl } in
    let all = spanned_add n basis (add c.one c.two) (sum_of n c.others) two others in
    let same : add (add c.one c.two) (sum_of n c.others) ≡ sum_of n es =
    sym (add_assoc_v c.one c.two (sum_of n c.others)) ∙ sym c.sum in
    let lighter = norm_clash c.one c.two (c.signed_one.0 ∙ sym c.signed_two.0) c.clash in (
      record { terms = all.terms; signed = all.signed; sum = all.sum ∙ same },
      omega (arith, weight_append two.terms c.others, light, c.weighs, lighter),
    )

-- Pottier's argument: where pairs are light, whatever terms add up to is a conformal sum
pub conformal_sum : (n : ℕ) (basis : List Vector) → PairsAreLight n basis → (z : Vector) → Spanned n basis z →
    ConformalSum n basis z
conformal_sum n basis pairs z s =
    subst (ConformalSum n basis) s.sum (settled (suc (weight s.terms)) s.terms s.signed (omega arith))
  where
    settled : (bound : ℕ) (es : List Vector) → AreTerms n basis es → weight es < bound →
        ConformalSum n basis (sum_of n es)
    settled zero es t light = absurd (omega arith)
    settled (suc bound) es t light = elim (agreeing_or_clashing es) [
      | inl all ↦ (record { terms = es; signed = t; sum = refl }, agreeing_below n es (terms_sized n basis es t) all)
      | inr pair ↦
          let c = clash_of n basis es t pair in
          let r = exchanged n basis es c (pairs c.one c.two c.signed_one c.signed_two) in
          subst (ConformalSum n basis) r.0.sum (settled bound r.0.terms r.0.signed (omega (arith, r.1, light)))
    ]
