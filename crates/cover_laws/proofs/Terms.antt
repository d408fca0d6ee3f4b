-- Sums of signed members of a list: their sums, opposites and multiples are such sums.
use Rattle.std.proofs.Common.{◌≡◌, ℕ, zero, suc, ◌+◌, ◌≤◌, List, ◌∷◌, ◌++◌, length, map, pos, refl, ap, arith, sym, ◌∙◌}
use Rattle.std.proofs.Common.{subst, []}
use Rattle.lattice_theory.specs.Vectors.{Vector, norm1, add, scale, opposite, zeros}
use Rattle.lattice_laws.proofs.Conformal.{length-opposite, norm-opposite}
use Rattle.lattice_laws.proofs.SlackBases.{signed_opposite}
use Rattle.lattice_laws.proofs.Sums.{add_zeros}
use Rattle.lattice_laws.proofs.Multiples.{scale_zero, scale_suc, norm-scale}
use Rattle.lattice_laws.specs.VectorLists.{AreSized, weight}
use Rattle.cover_laws.specs.ConformalSums.{AreTerms, IsTerm, Spanned}
use Rattle.lattice_laws.proofs.VectorLists.{length-sum, sum_append, turned_sum, turned_weight, weight_append}

-- ---- terms

-- z is a sum of terms that together weigh no more than z
abbrev pub Lightly : ℕ → List Vector → Vector → Type 0
Lightly n basis z = (s : Spanned n basis z) × (weight s.terms ≤ norm1 z)

-- ---- sums, multiples and opposites of sums

module _ (n : ℕ) (basis : List Vector) where
  -- the terms have n entries, and so has their sum
  pub terms_sized : (es : List Vector) → AreTerms n basis es → AreSized n es
  terms_sized [] signed = tt
  terms_sized (e ∷ es) signed = (signed.0.0, terms_sized es signed.1)

  -- a sum of terms has n entries
  pub length-spanned : (z : Vector) → Spanned n basis z → length z ≡ n
  length-spanned z s = ap length (sym s.sum) ∙ length-sum n s.terms (terms_sized s.terms s.signed)

  -- terms of two sums are terms
  pub terms_append : (es fs : List Vector) → AreTerms n basis es → AreTerms n basis fs → AreTerms n basis (es ++ fs)
  terms_append [] fs s t = t
  terms_append (e ∷ es) fs s t = (s.0, terms_append es fs s.1 t)

  abbrev pub none_spanned : Spanned n basis (zeros n)
  none_spanned = record { terms = []; signed = tt; sum = refl }

  abbrev pub spanned_add : (y z : Vector) → Spanned n basis y → Spanned n basis z → Spanned n basis (add y z)
  spanned_add y z s t = record {
    terms = s.terms ++ t.terms;
    signed = terms_append s.terms t.terms s.signed t.signed;
    sum = sum_append n s.terms t.terms (terms_sized t.terms t.signed) ∙ (λ i. add (s.sum i) (t.sum i));
  }

  -- terms with their signs turned are terms
  pub turned_terms : (es : List Vector) → AreTerms n basis es → AreTerms n basis (map opposite es)
  turned_terms [] s = tt
  turned_terms (e ∷ es) s = ((length-opposite e ∙ s.0.0, signed_opposite basis e s.0.1), turned_terms es s.1)

  abbrev pub spanned_opposite : (z : Vector) → Spanned n basis z → Spanned n basis (opposite z)
  spanned_opposite z s = record {
    terms = map opposite s.terms;
    signed = turned_terms s.terms s.signed;
    sum = turned_sum n s.terms ∙ ap opposite s.sum;
  }

  -- where the norms of two sums add up, light terms of the two are light terms of their sum
  pub lightly_add : (y z : Vector) → norm1 y + norm1 z ≤ norm1 (add y z) → Lightly n basis y → Lightly n basis z →
      Lightly n basis (add y z)
  lightly_add y z norms (s, light) (t, also) =
      (spanned_add y z s t, omega (arith, weight_append s.terms t.terms, light, also, norms))

  -- a term is such a sum of itself
  pub term_lightly : (e : Vector) → IsTerm n basis e → Lightly n basis e
  term_lightly e t = (record { terms = e ∷ []; signed = (t, tt); sum = add_zeros e n t.0 }, omega arith)

  -- so is a multiple of such a sum
  pub lightly_times : (k : ℕ) (z : Vector) → Lightly n basis z → Lightly n basis (scale (pos k) z)
  lightly_times zero z l =
      subst (Lightly n basis) (ap zeros (sym (length-spanned z l.0)) ∙ sym (scale_zero z)) (none_spanned, omega arith)
  lightly_times (suc k) z l =
      subst (Lightly n basis) (sym (scale_suc k z))
      (lightly_add z (scale (pos k) z)
      (omega (arith, ap norm1 (scale_suc k z), norm-scale (suc k) z, norm-scale k z)) l (lightly_times k z l))

  -- and its opposite
  pub lightly_opposite : (z : Vector) → Lightly n basis z → Lightly n basis (opposite z)
  lightly_opposite z (s, light) = (spanned_opposite z s, omega (arith, light, turned_weight s.terms, norm-opposite z))
