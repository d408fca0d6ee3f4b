-- Sums of generators by counts are sums of signed generators; and what such sums are changes no row that no generator
-- changes.
use Rattle.std.proofs.Common.{◌≡◌, ℕ, zero, suc, ◌+◌, ◌≤◌, ℤ, pos, negsuc, unsigned_abs, List, [], ◌∷◌, length, map}
use Rattle.std.proofs.Common.{refl, ap, arith, sym, ◌∙◌, Contains, inl, inr, subst}
use Rattle.std.specs.List.{AllByRecursion}
use Rattle.std.proofs.lemmas.List.Elements.{All-contains}
use Rattle.lattice_theory.specs.Vectors.{Vector, norm1, add, sub, scale, opposite, zeros, dot}
use Rattle.lattice_theory.specs.SignedSums.{Sum, vectors, IsSignedSum, HasLevel, AreSums}
use Rattle.lattice_laws.proofs.Members.{contains_cases, contains_head, contains_tail, mapped_from}
use Rattle.lattice_laws.proofs.Conformal.{norm1-cons, length-add, length-opposite, sub-opposite}
use Rattle.lattice_laws.proofs.Products.{length-zeros, rows-zeros, rows-add, rows-sub}
use Rattle.lattice_laws.proofs.Sums.{add_assoc_v, add_zeros, zeros_add, length-sub, sub_itself}
use Rattle.lattice_laws.proofs.Multiples.{scale_zero, scale_suc, scale_negsuc, length-scale, scale-turned}
use Rattle.lattice_laws.specs.VectorLists.{AreSized}
use Rattle.piece_laws.proofs.Combinations.{combined, length-combined}

-- w has t entries, and no row has a product with it
pub record IsQuiet (t : ℕ) (rows : List Vector) (w : Vector) : Type 0 where
  pub size : length w ≡ t
  pub still : map (λ row. dot row w) rows ≡ zeros (length rows)

IsQuiet-add : (t : ℕ) (rows : List Vector) (u v : Vector) → IsQuiet t rows u → IsQuiet t rows v →
    IsQuiet t rows (add u v)
IsQuiet-add t rows u v a b =
    let s = length rows in
    record {
      size = length-add u v t a.size b.size;
      still =
          rows-add rows u v (a.size ∙ sym b.size)
          ∙ (λ i. add (a.still i) (b.still i))
          ∙ add_zeros (zeros s) s (length-zeros s);
    }

IsQuiet-sub : (t : ℕ) (rows : List Vector) (u v : Vector) → IsQuiet t rows u → IsQuiet t rows v →
    IsQuiet t rows (sub u v)
IsQuiet-sub t rows u v a b =
    let s = length rows in
    record {
      size = length-sub u v t a.size b.size;
      still =
          rows-sub rows u v (a.size ∙ sym b.size)
          ∙ (λ i. sub (a.still i) (b.still i))
          ∙ sub_itself (zeros s) s (length-zeros s);
    }

module _ (t : ℕ) (gens : List Vector) where
  -- f may be added to each sum of signed generators, for one more of them
  abbrev MayBeAdded : Vector → Type 0
  MayBeAdded f = (n : ℕ) (w : Vector) → IsSignedSum t gens n w → IsSignedSum t gens (suc n) (add w f)

  added : (g : Vector) → Contains gens g → MayBeAdded g
  added g c n w is = (w, g, is, c, inl refl)

  added_turned : (g : Vector) → Contains gens g → MayBeAdded (opposite g)
  added_turned g c n w is = (w, g, is, c, inr (sym (sub-opposite w g)))

  -- k times f
  times_added : (k : ℕ) (f : Vector) → MayBeAdded f → (n : ℕ) (w : Vector) → length w ≡ length f →
      IsSignedSum t gens n w → IsSignedSum t gens (n + k) (add w (scale (pos k) f))
  times_added zero f may n w size is =
      let same : w ≡ add w (scale (pos 0) f) = sym (ap (add w) (scale_zero f) ∙ add_zeros w (length f) size) in
      let level : n ≡ n + 0 = omega arith in
      subst (λ k. IsSignedSum t gens k (add w (scale (pos 0) f))) level (subst (IsSignedSum t gens n) same is)
  times_added (suc k) f may n w size is =
      let next = may n w is in
      let r = times_added k f may (suc n) (add w f) (length-add w f (length f) size refl) next in
      let same : add (add w f) (scale (pos k) f) ≡ add w (scale (pos (suc k)) f) =
      sym (add_assoc_v w f (scale (pos k) f)) ∙ ap (add w) (sym (scale_suc k f)) in
      let level : suc n + k ≡ n + suc k = omega arith in
      subst (λ j. IsSignedSum t gens j (add w (scale (pos (suc k)) f))) level
      (subst (IsSignedSum t gens (suc n + k)) same r)

  -- a generator as often as a count says
  multiple_added : (x : ℤ) (g : Vector) → Contains gens g → (n : ℕ) (w : Vector) → length w ≡ length g →
      IsSignedSum t gens n w → IsSignedSum t gens (n + unsigned_abs x) (add w (scale x g))
  multiple_added (pos k) g c n w size is = times_added k g (added g c) n w size is
  multiple_added (negsuc k) g c n w size is =
      subst (λ v. IsSignedSum t gens (n + suc k) (add w v)) (scale-turned (suc k) g ∙ scale_negsuc k g)
      (times_added (suc k) (opposite g) (added_turned g c) n w (size ∙ sym (length-opposite g)) is)

  -- generators as often as the counts say: no more than their sum
  abbrev UpTo : ℕ → Vector → Type 0
  UpTo most w = (n : ℕ) × (n ≤ most) × IsSignedSum t gens n w

  combined_added : (gs : List Vector) (c : Vector) → ((g : Vector) → Contains gs g → Contains gens g) → AreSized t gs →
      (n : ℕ) (w : Vector) → length w ≡ t → IsSignedSum t gens n w → UpTo (n + norm1 c) (add w (combined t gs c))
  combined_added [] c inside sized n w size is =
      (n, omega arith, subst (IsSignedSum t gens n) (sym (add_zeros w t size)) is)
  combined_added (g ∷ gs) [] inside sized n w size is =
      (n, omega arith, subst (IsSignedSum t gens n) (sym (add_zeros w t size)) is)
  combined_added (g ∷ gs) (x ∷ c) inside sized n w size is =
      let here =
      multiple_added x g (inside g (contains_head g gs)) n w (size ∙ sym sized.0) is in
      let r =
      combined_added gs c (λ v d. inside v (contains_tail g gs v d)) sized.1 (n + unsigned_abs x)
      (add w (scale x g)) (length-add w (scale x g) t size (length-scale x g ∙ sized.0)) here in (
        r.0,
        omega (arith, norm1-cons x c, r.1),
        subst (IsSignedSum t gens r.0) (sym (add_assoc_v w (scale x g) (combined t gs c))) r.2,
      )

  -- where all sums of at most so many signed generators are listed, so is the sum by counts of at most that weight
  pub combined_listed : (bound : ℕ) (zs : List Vector) →
      ((n : ℕ) (w : Vector) → n ≤ bound → IsSignedSum t gens n w → Contains zs w) → AreSized t gens → (c : Vector) →
      norm1 c ≤ bound → Contains zs (combined t gens c)
  combined_listed bound zs all sized c light =
      let r = combined_added gens c (λ v d. d) sized 0 (zeros t) (length-zeros t) refl in
      all r.0 (combined t gens c) (omega (arith, r.1, light))
      (subst (IsSignedSum t gens r.0) (zeros_add (combined t gens c) t (length-combined t gens c sized)) r.2)

  -- ---- what is listed: it has t entries and changes no row, as the generators do

  module _ (rows : List Vector) (quiet : AllByRecursion (IsQuiet t rows) gens) where
    generator_quiet : (gs : List Vector) → AllByRecursion (IsQuiet t rows) gs → (g : Vector) → Contains gs g →
        IsQuiet t rows g
    generator_quiet [] all g (k, low, e) = absurd (omega arith)
    generator_quiet (h ∷ gs) all g c = elim (contains_cases h gs g c) [
      | inl e ↦ subst (IsQuiet t rows) e all.0
      | inr d ↦ generator_quiet gs all.1 g d
    ]

    sum_quiet : (n : ℕ) (w : Vector) → IsSignedSum t gens n w → IsQuiet t rows w
    sum_quiet zero w is =
        subst (IsQuiet t rows) (sym is) (record { size = length-zeros t; still = rows-zeros rows t })
    sum_quiet (suc n) w (before, g, is, c, inl e) =
        subst (IsQuiet t rows) (sym e)
        (IsQuiet-add t rows before g (sum_quiet n before is) (generator_quiet gens quiet g c))
    sum_quiet (suc n) w (before, g, is, c, inr e) =
        subst (IsQuiet t rows) (sym e)
        (IsQuiet-sub t rows before g (sum_quiet n before is) (generator_quiet gens quiet g c))

    -- each listed vector
    pub listed_quiet : (bound : ℕ) (sums : List Sum) → AreSums t gens bound sums → (w : Vector) →
        Contains (vectors sums) w → IsQuiet t rows w
    listed_quiet bound sums are w c =
        let r = mapped_from (λ (s : Sum). s.vector) sums w c in
        let at = All-contains (λ s. (s.level ≤ bound) × HasLevel t gens s) sums r.0 are.sound r.1 in
        subst (IsQuiet t rows) r.2 (sum_quiet r.0.level r.0.vector at.1.reached)
