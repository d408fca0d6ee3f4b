-- Laws of a list of all sums: its width, and the place of zero.
use Rattle.std.proofs.Common.{◌≡◌, ℕ, ◌<◌, ◌≤◌, Bool, true, false, List, [], ◌∷◌, length, get_or, cond, refl, ap, arith}
use Rattle.std.proofs.Common.{sym, ◌∙◌, IsSome, Some, None, option_map, slice_get, ◌⊎◌, inl, inr}
use Rattle.std.specs.Prelude.{position, nat_lt}
use Rattle.std.specs.List.{All, Contains, position_or_len}
use Rattle.std.proofs.lemmas.Bool.{cases_lt}
use Rattle.std.proofs.lemmas.Bool.Decides.{nat_tests}
use Rattle.std.proofs.lemmas.List.Elements.{All-map, All-weaker, All-get_or}
use Rattle.std.proofs.lemmas.List.Quantifiers.{position-Some}
use Rattle.std.proofs.lemmas.List.Sums.{fails_before_first}
use Rattle.std.proofs.lemmas.Option.{slice_get-get_or, slice_get-map}
use Rattle.lattice_theory.specs.Vectors.{Vector, zeros, is_zero}
use Rattle.lattice_theory.specs.SignedSums.{Sum, AreSums}
use Rattle.lattice_laws.proofs.Products.{zeros_is, zero-zeros}
use Rattle.lattice_laws.proofs.VectorLists.{vectors-sum}
use Rattle.brick_sums.specs.Places.{AreListed, width}
use Rattle.brick_sums.specs.Levels.{IsSumUpTo}
use Rattle.brick_sums.proofs.SumLaws.{IsSignedSum-width}

-- where an element passes, there is a first one that does
position-IsSome : {A : Type 0} (p : A → Bool) (xs : List A) (x : A) → Contains xs x → p x ≡ true →
    IsSome (position p xs)
position-IsSome p xs x (k, within, read) passes =
    there (nat_lt (position_or_len p xs) (length xs)) (below (cases_lt k (position_or_len p xs)))
  where
    here : p (get_or xs k x) ≡ true
    here = ap p read ∙ passes

    below : (k < position_or_len p xs) ⊎ (position_or_len p xs ≤ k) → nat_lt (position_or_len p xs) (length xs) ≡ true
    below (inl early) = let fails : p (get_or xs k x) ≡ false = fails_before_first p xs k x early in absurd (cc)
    below (inr late) = grind (arith, nat_tests)

    there : (b : Bool) → b ≡ true → IsSome (cond b (Some (position_or_len p xs)) None)
    there true e = refl
    there false e = absurd (cc)

-- the width of vectors that are all as wide
width-All : (t : ℕ) (sums : List Sum) → All (λ s. length s.vector ≡ t) sums → 0 < length sums → width sums ≡ t
width-All t [] all some = absurd (omega arith)
width-All t (s ∷ sums) all some = all 0 s (omega arith)

module _ (t : ℕ) (gens : List Vector) (g : ℕ) (sums : List Sum) (these : AreSums t gens g sums) where
  -- zero is listed
  AreSums-zero_listed : (s : Sum) × Contains sums s × (s.vector ≡ zeros t)
  AreSums-zero_listed = vectors-sum sums (zeros t) (these.complete 0 (zeros t) (omega arith) refl)

  -- so the search for it ends
  pub AreSums-position : IsSome (position (λ s. is_zero s.vector) sums)
  AreSums-position =
      let listed : (s : Sum) × Contains sums s × (s.vector ≡ zeros t) = AreSums-zero_listed in
      position-IsSome (λ s. is_zero s.vector) sums listed.0 listed.1 (ap is_zero listed.2 ∙ zero-zeros t)

  module _ (even : All (λ e. length e ≡ t) gens) where
    -- each listed vector is as wide as the generators
    AreSums-widths : All (λ s. length s.vector ≡ t) sums
    AreSums-widths =
        All-weaker (IsSumUpTo t gens g) (λ s. length s.vector ≡ t)
        (λ s known. IsSignedSum-width t gens even s.level s.vector known.1.reached) sums these.sound

    -- all sums, few enough, with the first zero among them, are a list that serves
    pub AreSums-AreListed : (place : ℕ) → length sums ≤ 20000 → position (λ s. is_zero s.vector) sums ≡ Some place →
        AreListed sums place
    AreSums-AreListed place few found =
        let first = position-Some (λ s. is_zero s.vector) sums place (AreSums-zero_listed).0 found in
        let s : Sum = get_or sums place (AreSums-zero_listed).0 in
        let wide : length s.vector ≡ t =
        All-get_or (λ s. length s.vector ≡ t) sums place (AreSums-zero_listed).0 first.0 AreSums-widths in
        let same : width sums ≡ t = width-All t sums AreSums-widths (omega (arith, first.0)) in
        let its : s.vector ≡ zeros (width sums) = zeros_is s.vector first.1 ∙ ap zeros (wide ∙ sym same) in
        let read : slice_get sums place ≡ Some s = slice_get-get_or sums place (AreSums-zero_listed).0 first.0 in
        let each : All (λ s. length s.vector ≡ width sums) sums =
        All-weaker (λ s. length s.vector ≡ t) (λ s. length s.vector ≡ width sums) (λ s wide. wide ∙ sym same) sums
        AreSums-widths in
        record {
          rising = these.rising;
          widths = All-map (λ v. length v ≡ width sums) (λ (s : Sum). s.vector) sums each;
          few = few;
          zero_there =
              slice_get-map (λ (s : Sum). s.vector) sums place ∙ ap (option_map (λ (s : Sum). s.vector)) read
              ∙ ap Some its;
        }
