-- The search for the step of a length, from the last step to the first.
use Rattle.std.proofs.Common.{◌≡◌, ◌≢◌, ℕ, List, [], ◌∷◌, ◌++◌, ap, sym, ◌∙◌, subst, append_assoc, append-nil}
use Rattle.std.specs.List.{All, Contains}
use Rattle.std.proofs.lemmas.List.Elements.{All-nil, All-cons, Contains-append_left, Contains-push}
use Rattle.run_theory.specs.Outcomes.{Step}

-- all steps but those that are left were looked at, and are of other lengths
pub record IsPast (k : ℕ) (all left : List Step) : Type 0 where
  pub past : List Step
  pub rest : all ≡ (left ++ past)
  pub others : All (λ s. s.k ≢ k) past

module _ (k : ℕ) (all : List Step) where
  pub past_none : IsPast k all all
  past_none = record { past = []; rest = sym (append-nil all); others = All-nil (λ (s : Step). s.k ≢ k) }

  pub past_more : (left rest : List Step) (s : Step) → left ≡ (rest ++ s ∷ []) → s.k ≢ k → IsPast k all left
      → IsPast k all rest
  past_more left rest s is other h = record {
    past = s ∷ h.past;
    rest = h.rest ∙ ap (λ l. l ++ h.past) is ∙ append_assoc rest (s ∷ []) h.past;
    others = All-cons (λ (t : Step). t.k ≢ k) s h.past other h.others;
  }

  pub past_all : (left : List Step) → left ≡ [] → IsPast k all left → All (λ s. s.k ≢ k) all
  past_all left is h = subst (All (λ (s : Step). s.k ≢ k)) (sym (h.rest ∙ ap (λ l. l ++ h.past) is)) h.others

  -- the next one is one of them
  pub past_next : (left rest : List Step) (s : Step) → left ≡ (rest ++ s ∷ []) → IsPast k all left → Contains all s
  past_next left rest s is h =
      subst (λ l. Contains l s) (sym h.rest)
      (Contains-append_left left h.past s (subst (λ l. Contains l s) (sym is) (Contains-push rest s)))
