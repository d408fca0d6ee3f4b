-- One entry more of a sum or a difference.
use Rattle.std.proofs.Common.{◌≡◌, ℕ, zero, suc, ◌+◌, ◌<◌, ◌≤◌, ℤ, pos, [], ◌∷◌, ◌++◌, length, take, set, get_or, refl}
use Rattle.std.proofs.Common.{ap, arith, sym, ◌∙◌}
use Rattle.std.proofs.lemmas.List.{take_all, take_more, take_more_set}
use Rattle.lattice_theory.specs.Vectors.{Vector}
use Rattle.lattice_theory.specs.Lists.{zip_with}

module _ (f : ℤ → ℤ → ℤ) where
  pub length-zip : (u v : Vector) → length v ≡ length u → length (zip_with f u v) ≡ length u
  length-zip [] v same = refl
  length-zip (a ∷ u) [] same = absurd (omega arith)
  length-zip (a ∷ u) (b ∷ v) same = ap suc (length-zip u v (omega arith))

  zip-at : (u v : Vector) (at : ℕ) → length v ≡ length u → at < length u →
      get_or (zip_with f u v) at (pos 0) ≡ f (get_or u at (pos 0)) (get_or v at (pos 0))
  zip-at [] v at same low = absurd (omega arith)
  zip-at (a ∷ u) [] at same low = absurd (omega arith)
  zip-at (a ∷ u) (b ∷ v) zero same low = refl
  zip-at (a ∷ u) (b ∷ v) (suc at) same low = zip-at u v at (omega arith) (omega arith)

  -- what is written at the next place
  pub zip-more : (w u v : Vector) (at : ℕ) (a : ℤ) → length v ≡ length u → at < length u → at < length w →
      a ≡ f (get_or u at (pos 0)) (get_or v at (pos 0)) → take at w ≡ take at (zip_with f u v) →
      take (at + 1) (set w at a) ≡ take (at + 1) (zip_with f u v)
  zip-more w u v at a same low room is before =
      let long : at < length (zip_with f u v) = omega (arith, length-zip u v same) in
      take_more_set w at a room
      ∙ (λ i. before i ++ (is ∙ sym (zip-at u v at same low)) i ∷ [])
      ∙ sym (take_more (zip_with f u v) at (pos 0) long)

  -- all is written
  pub zip-all : (w u v : Vector) (at : ℕ) → length v ≡ length u → length w ≡ length u → length w ≤ at →
      take at w ≡ take at (zip_with f u v) → w ≡ zip_with f u v
  zip-all w u v at same room past done =
      sym (take_all at w past) ∙ done ∙ take_all at (zip_with f u v) (omega (arith, length-zip u v same))
