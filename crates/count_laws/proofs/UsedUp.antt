-- What the greatest multiple of a part uses up of the way: where no entry of the part is past a bound, what is left
-- counts less up to that bound. No entry of a listed sum, and none of its image, is past the widest entry.
use Rattle.std.proofs.Common.{◌≡◌, ℕ, zero, suc, ◌+◌, ◌<◌, ◌≤◌, pos, unsigned_abs, Bool, true, false, ◌&&◌, List, []}
use Rattle.std.proofs.Common.{◌∷◌, ◌++◌, map, refl, ap, arith, ◌∙◌, Contains, inl, inr, subst}
use Rattle.std.specs.List.{AllZip, AllByRecursion}
use Rattle.lattice_theory.specs.Lists.{greatest, all_zip}
use Rattle.lattice_theory.specs.Vectors.{Vector, ◌⊑◌, conforms, add, sub, scale, zeros}
use Rattle.lattice_theory.specs.Matrices.{product}
use Rattle.lattice_laws.proofs.Tests.{and_true, true_or_false}
use Rattle.lattice_laws.proofs.Conformal.{norm_below}
use Rattle.lattice_laws.proofs.Products.{length-zeros}
use Rattle.fold_theory.specs.Programs.{Program, Bricks}
use Rattle.run_theory.specs.Steps.{partial_sums}
use Rattle.run_theory.specs.Walks.{walk_end}
use Rattle.run_theory.specs.Outcomes.{widest_entry}
use Rattle.lattice_laws.proofs.Sums.{sub_swap, zeros_add}
use Rattle.lattice_laws.specs.VectorLists.{sum_of, weight, AreSized}
use Rattle.lattice_laws.proofs.Multiples.{scale_once}
use Rattle.lattice_laws.proofs.VectorLists.{length-sum}
use Rattle.piece_laws.specs.Points.{back}
use Rattle.piece_laws.proofs.Points.{walk_end_is}
use Rattle.count_laws.proofs.Clipped.{IsNarrow, clipped, clipped_no_more, clipped_less, times, all_clipped, all_no_more}
use Rattle.count_laws.proofs.Clipped.{all_less, all_below, all_below_test}
use Rattle.count_laws.proofs.Times.{times_once, weight-times}
use Rattle.lattice_laws.proofs.Members.{at_most_greatest}
use Rattle.std.proofs.Math.Nat.{le-mul_of_pos_right}

-- ---- the greatest number that passes a test

record GreatestFit (f : ℕ → Bool) : Type 0 where
  number : ℕ
  some : 1 ≤ number
  fits : f number ≡ true
  over : f (suc number) ≡ false

greatest_fit : (f : ℕ → Bool) (n : ℕ) → f 1 ≡ true → f (suc n) ≡ false → GreatestFit f
greatest_fit f zero once over = absurd (cc)
greatest_fit f (suc n) once over = elim (true_or_false (f (suc n))) [
  | inl fits ↦ record { number = suc n; some = omega arith; fits = fits; over = over }
  | inr not ↦ greatest_fit f n once not
]

-- ---- the widest entry of the listed sums

narrow_of : (most : ℕ) (u v : Vector) → greatest (map unsigned_abs (u ++ v)) ≤ most → IsNarrow most u × IsNarrow most v
narrow_of most [] [] low = (tt, tt)
narrow_of most [] (b ∷ v) low = (tt, (omega (arith, low), (narrow_of most [] v (omega (arith, low))).1))
narrow_of most (a ∷ u) v low =
    let r = narrow_of most u v (omega (arith, low)) in ((omega (arith, low), r.0), r.1)

module _ (p : Program) (zs : List Vector) where
  listed_narrow : (w : Vector) → Contains zs w →
      IsNarrow (widest_entry p zs) w × IsNarrow (widest_entry p zs) (product p.link w)
  listed_narrow w c =
      narrow_of (widest_entry p zs) w (product p.link w)
      (at_most_greatest (λ w. greatest (map unsigned_abs (w ++ product p.link w))) zs w c)

  pub moves_narrow : (h : Bricks) → AllByRecursion (Contains zs) h → AllByRecursion (IsNarrow (widest_entry p zs)) h
  moves_narrow [] all = tt
  moves_narrow (d ∷ h) all = ((listed_narrow d all.0).0, moves_narrow h all.1)

  -- the last of the sums on the way is the whole sum
  end_listed : (w d : Vector) (h : Bricks) → AllByRecursion (Contains zs) (partial_sums w (d ∷ h)) →
      Contains zs (walk_end w (d ∷ h))
  end_listed w d [] all = all.0
  end_listed w d (e ∷ h) all = end_listed (add w d) e h all.1

  pub image_narrow : (t : ℕ) (h : Bricks) → AreSized t h → 0 < weight h →
      AllByRecursion (Contains zs) (partial_sums (zeros t) h) →
      IsNarrow (widest_entry p zs) (product p.link (sum_of t h))
  image_narrow t [] sh some all = absurd (omega (arith, some))
  image_narrow t (d ∷ h) sh some all =
      let end : walk_end (zeros t) (d ∷ h) ≡ sum_of t (d ∷ h) =
      walk_end_is t (zeros t) (d ∷ h) (length-zeros t) sh
      ∙ zeros_add (sum_of t (d ∷ h)) t (length-sum t (d ∷ h) sh) in
      (listed_narrow (sum_of t (d ∷ h)) (subst (Contains zs) end (end_listed (zeros t) d h all))).1

-- ---- the greatest multiple of a piece that is a part of the way

weight_below : (us ds : List Vector) → AllZip ◌⊑◌ us ds → weight us ≤ weight ds
weight_below [] [] below = omega arith
weight_below [] (d ∷ ds) below = absurd below
weight_below (u ∷ us) [] below = absurd below
weight_below (u ∷ us) (d ∷ ds) below = omega (arith, norm_below u d below.0, weight_below us ds below.1)

-- the order of two moves back
pub back_swap : (y x h : Bricks) → back (back y h) x ≡ back (back y x) h
back_swap [] x h = refl
back_swap (v ∷ y) [] [] = refl
back_swap (v ∷ y) [] (d ∷ h) = refl
back_swap (v ∷ y) (u ∷ x) [] = refl
back_swap (v ∷ y) (u ∷ x) (d ∷ h) = λ i. sub_swap v d u i ∷ back_swap y x h i

-- what is used up of a list of vectors with one more vector, by a multiple of parts of them
pub record UsesUp (most : ℕ) (h ds : List Vector) (e z : Vector) : Type 0 where
  pub m : ℕ
  pub some : 1 ≤ m
  pub parts : AllZip ◌⊑◌ (times m h) ds
  pub part : scale (pos m) e ⊑ z
  pub less : suc (all_clipped most (back ds (times m h)) + clipped most (sub z (scale (pos m) e)))
      ≤ all_clipped most ds + clipped most z

-- by the greatest multiple of narrow parts
module _ (most : ℕ) (h ds : List Vector) (e z : Vector) (narrow : AllByRecursion (IsNarrow most) h)
    (narrow_end : IsNarrow most e) (below : AllZip ◌⊑◌ h ds) (below_end : e ⊑ z) (some : 0 < weight h) where
  -- m times both are parts
  abbrev fits : ℕ → Bool
  fits m = all_zip conforms (times m h) ds && conforms (scale (pos m) e) z

  fits_once : fits 1 ≡ true
  fits_once =
      ap (λ b. b && conforms (scale (pos 1) e) z)
      (ap (λ u. all_zip conforms u ds) (times_once h) ∙ all_below_test h ds below)
      ∙ ap (λ u. conforms u z) (scale_once e)
      ∙ below_end

  fits_no_more : fits (suc (weight ds)) ≡ false
  fits_no_more = elim (true_or_false (fits (suc (weight ds)))) [
    | inr over ↦ over
    | inl fit ↦
        let n = suc (weight ds) in
        let q = and_true (all_zip conforms (times n h) ds) (conforms (scale (pos n) e) z) fit in
        let low = weight_below (times n h) ds (all_below (times n h) ds q.0) in
        absurd (omega (arith, low, weight-times n h, le-mul_of_pos_right n some))
  ]

  pub uses_up : UsesUp most h ds e z
  uses_up =
      let r = greatest_fit fits (weight ds) fits_once fits_no_more in
      let m = r.number in
      let q = and_true (all_zip conforms (times m h) ds) (conforms (scale (pos m) e) z) r.fits in
      record {
        m = m;
        some = r.some;
        parts = all_below (times m h) ds q.0;
        part = q.1;
        less = by m r.some q.0 q.1 (all_zip conforms (times (suc m) h) ds) refl r.over;
      }
    where
      by : (m : ℕ) → 1 ≤ m → all_zip conforms (times m h) ds ≡ true → scale (pos m) e ⊑ z → (b : Bool) →
          all_zip conforms (times (suc m) h) ds ≡ b → (b && conforms (scale (pos (suc m)) e) z) ≡ false →
          suc (all_clipped most (back ds (times m h)) + clipped most (sub z (scale (pos m) e)))
          ≤ all_clipped most ds + clipped most z
      by m some_m parts part true same over =
          omega (
            arith,
            all_no_more most (times m h) ds parts,
            clipped_less most m some_m e z narrow_end below_end part over,
          )
      by m some_m parts part false same over =
          omega (
            arith,
            all_less most m some_m h ds narrow (all_below_test h ds below) parts same,
            clipped_no_more most (scale (pos m) e) z part,
          )
