-- The generators of a list that is complete for the lattice of a matrix: each vector without products with the rows is
-- written by counts of them.
use Rattle.std.proofs.Common.{◌≡◌, true, List, [], ◌∷◌, length, map, take, drop, ap, sym, ◌∙◌, Contains, inl, inr}
use Rattle.std.proofs.Common.{subst}
use Rattle.std.specs.List.{AllByRecursion}
use Rattle.std.proofs.lemmas.List.{take_at, drop_at}
use Rattle.lattice_theory.specs.Vectors.{Vector, ◌⊑◌, is_zero, add, opposite, zeros}
use Rattle.lattice_theory.specs.Matrices.{Matrix, product, element}
use Rattle.lattice_theory.specs.Lattices.{is_complete_for, kernel}
use Rattle.lattice_laws.proofs.Conformal.{conforms-take, length_below, opposite-take, take-add, conforms-drop}
use Rattle.lattice_laws.proofs.Conformal.{opposite-drop, zero-opposite}
use Rattle.lattice_laws.proofs.Products.{length-zeros, zero-zeros, zeros-append}
use Rattle.lattice_laws.proofs.Elements.{element_in, width}
use Rattle.lattice_laws.proofs.SlackBases.{IsSigned}
use Rattle.lattice_laws.specs.VectorLists.{sum_of}
use Rattle.cover_laws.specs.ConformalSums.{AreTerms}
use Rattle.cover_laws.proofs.CompleteLists.{complete_conformal}
use Rattle.lattice_laws.proofs.Sums.{below_zeros}
use Rattle.piece_laws.proofs.Combinations.{Written, written_by}
use Rattle.lattice_laws.proofs.VectorLists.{below_agree}
use Rattle.cover_laws.proofs.Kernels.{gens_sized, in_kernel}

-- ---- the first parts of members without products

-- ---- what is written by them

module _ (m : Matrix) (basis : List Vector) (complete : is_complete_for m basis ≡ true) where
  abbrev gens : List Vector
  gens = kernel m.cols basis

  module _ (d : Vector) (size : length d ≡ m.cols) (still : product m d ≡ zeros (length m.rows)) where
    first : take m.cols (element m d) ≡ d
    first = take_at d (product m d) m.cols size

    -- below the element of d stand only vectors without products
    no_image : (e : Vector) → e ⊑ element m d → is_zero (drop m.cols e) ≡ true
    no_image e below =
        let image : drop m.cols e ⊑ zeros (length m.rows) =
        subst (λ v. drop m.cols e ⊑ v) (drop_at d (product m d) m.cols size ∙ still)
        (conforms-drop m.cols e (element m d) below) in
        ap is_zero (below_zeros (drop m.cols e) (length m.rows) image) ∙ zero-zeros (length m.rows)

    cut_below : (e : Vector) → e ⊑ element m d → take m.cols e ⊑ d
    cut_below e below = subst (λ v. take m.cols e ⊑ v) first (conforms-take m.cols e (element m d) below)

    cut_signed : (e : Vector) → IsSigned basis e → is_zero (drop m.cols e) ≡ true → IsSigned gens (take m.cols e)
    cut_signed e (inl c) none = inl (in_kernel m.cols basis e c none)
    cut_signed e (inr c) none =
        let turned : is_zero (drop m.cols (opposite e)) ≡ true =
        ap is_zero (opposite-drop m.cols e) ∙ zero-opposite (drop m.cols e) none in
        inr (subst (Contains gens) (sym (opposite-take m.cols e)) (in_kernel m.cols basis (opposite e) c turned))

    cut_terms : (es : List Vector) → AreTerms (width m) basis es → AllByRecursion (λ e. e ⊑ element m d) es →
        AreTerms m.cols gens (map (take m.cols) es)
    cut_terms [] signed below = tt
    cut_terms (e ∷ es) signed below = (
      (
        length_below (take m.cols e) d (cut_below e below.0) ∙ size,
        cut_signed e signed.0.1 (no_image e below.0),
      ),
      cut_terms es signed.1 below.1,
    )

    cut_all_below : (es : List Vector) → AllByRecursion (λ e. e ⊑ element m d) es →
        AllByRecursion (λ e. e ⊑ d) (map (take m.cols) es)
    cut_all_below [] below = tt
    cut_all_below (e ∷ es) below = (cut_below e below.0, cut_all_below es below.1)

    cut_sum : (es : List Vector) → sum_of m.cols (map (take m.cols) es) ≡ take m.cols (sum_of (width m) es)
    cut_sum [] =
        sym (ap (take m.cols) (sym (zeros-append m.cols (length m.rows)))
        ∙ take_at (zeros m.cols) (zeros (length m.rows)) m.cols (length-zeros m.cols))
    cut_sum (e ∷ es) =
        ap (λ v. add (take m.cols e) v) (cut_sum es) ∙ sym (take-add m.cols e (sum_of (width m) es))

    -- d is written by counts of the generators
    pub written_of : Written m.cols gens d
    written_of =
        let c = complete_conformal m basis complete (element m d) (element_in m d size) in
        let es = c.0.terms in
        let cut = map (take m.cols) es in
        let agreeing = below_agree cut d (cut_all_below es c.1) in
        let w = written_by m.cols gens cut (gens_sized m basis complete) (cut_terms es c.0.signed c.1) agreeing in
        subst (Written m.cols gens) (cut_sum es ∙ ap (take m.cols) c.0.sum ∙ first) w
