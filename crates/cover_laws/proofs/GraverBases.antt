-- The kernel of a slack basis is the Graver basis of the matrix.
use Rattle.std.proofs.Common.{◌≡◌, zero, suc, pos, negsuc, true, false, List, ◌∷◌, ◌++◌, length, take, drop, refl, ap}
use Rattle.std.proofs.Common.{sym, ◌∙◌, subst, arith, All, Contains, IsTrue, []}
use Rattle.std.specs.List.{filter}
use Rattle.std.proofs.lemmas.List.{take_at, drop_at}
use Rattle.std.proofs.lemmas.List.Elements.{All-from_recursion, All-contains}
use Rattle.lattice_theory.specs.Vectors.{Vector, ◌⊑◌, is_zero, leads_positive, zeros, norm1}
use Rattle.lattice_theory.specs.Matrices.{Matrix, product, element}
use Rattle.lattice_theory.specs.Lattices.{IsMinimal, IsSlackBasis, kernel}
use Rattle.lattice_laws.proofs.Conformal.{conforms_refl, conforms-take, conforms-append, norm_below, norm_none}
use Rattle.lattice_laws.proofs.Conformal.{norm_of_zero, nonzero_by_take, leads-append, leads_nonzero, conforms-drop}
use Rattle.lattice_laws.proofs.Members.{mapped_from, filtered_from, each_member}
use Rattle.lattice_laws.proofs.Tests.{not_both}
use Rattle.lattice_laws.proofs.Products.{zeros_is, length-rows}
use Rattle.lattice_laws.proofs.Elements.{element_in, is_element, first_size, first_nonzero}
use Rattle.cover_laws.proofs.Kernels.{in_kernel}
use Rattle.cover_laws.specs.Graver.{IsGraverElement}

-- what is below 0 is 0
below_zero : (u v : Vector) → u ⊑ v → is_zero v ≡ true → is_zero u ≡ true
below_zero u v below quiet =
    let none : norm1 u ≡ 0 = omega (arith, norm_below u v below, norm_of_zero v quiet) in
    norm_none u none

-- where what stands behind is 0, the first entry that is not 0 is one of the first part
leads_first : (u w : Vector) → is_zero w ≡ true → leads_positive (u ++ w) ≡ true → leads_positive u ≡ true
leads_first [] w none leads = absurd (not_both (is_zero w) none (leads_nonzero w leads))
leads_first (pos zero ∷ u) w none leads = leads_first u w none leads
leads_first (pos (suc n) ∷ u) w none leads = refl
leads_first (negsuc n ∷ u) w none leads = absurd (cc)

module _ (m : Matrix) where
  -- a vector of the kernel has as its image the zero vector
  image_zeros : (v : Vector) → is_zero (product m v) ≡ true → product m v ≡ zeros (length m.rows)
  image_zeros v quiet = zeros_is (product m v) quiet ∙ ap zeros (length-rows m.rows v)

  -- ---- each listed vector is an element of the Graver basis

  graver_of : (z : Vector) → IsMinimal m z → is_zero (drop m.cols z) ≡ true → IsGraverElement m (take m.cols z)
  graver_of z minimal none =
      let v = take m.cols z in
      let quiet : is_zero (product m v) ≡ true = ap is_zero (sym minimal.member.image) ∙ none in
      record {
        member = record { size = first_size m z minimal.member; quiet = quiet };
        nonzero = first_nonzero m z minimal.member minimal.nonzero;
        least = λ u inside some below.
            let first : take m.cols (element m u) ≡ u = take_at u (product m u) m.cols inside.size in
            let images : product m u ≡ product m v = image_zeros u inside.quiet ∙ sym (image_zeros v quiet) in
            let ends : product m u ⊑ product m v = subst (λ t. product m u ⊑ t) images (conforms_refl (product m u)) in
            let both : element m u ⊑ element m v = conforms-append u v (product m u) (product m v) below ends in
            let whole : element m u ⊑ z = subst (λ t. element m u ⊑ t) (sym (is_element m z minimal.member)) both in
            let nonzero : is_zero (element m u) ≡ false =
            nonzero_by_take m.cols (element m u) (ap is_zero first ∙ some) in
            sym first ∙ ap (take m.cols) (minimal.least (element m u) (element_in m u inside.size) nonzero whole);
      }

  -- by the members of the kernel
  sound_from : (basis : List Vector) → All (λ z. IsMinimal m z × IsTrue (leads_positive z)) basis → (v : Vector) →
      Contains (kernel m.cols basis) v → IsGraverElement m v × IsTrue (leads_positive v)
  sound_from basis sound v listed =
      let test = λ (z : Vector). is_zero (drop m.cols z) in
      let r = mapped_from (take m.cols) (filter test basis) v listed in
      let kept = filtered_from test basis r.0 r.1 in
      let is = All-contains (λ z. IsMinimal m z × IsTrue (leads_positive z)) basis r.0 sound kept.0 in
      let parts = is_element m r.0 is.0.member in
      let image : is_zero (product m (take m.cols r.0)) ≡ true = ap is_zero (sym is.0.member.image) ∙ kept.1 in
      let leads : leads_positive (element m (take m.cols r.0)) ≡ true = ap leads_positive (sym parts) ∙ is.1 in
      subst (λ u. IsGraverElement m u × IsTrue (leads_positive u)) r.2
      (graver_of r.0 is.0 kept.1, leads_first (take m.cols r.0) (product m (take m.cols r.0)) image leads)

  -- ---- each element of the Graver basis is listed

  minimal_of : (v : Vector) → IsGraverElement m v → IsMinimal m (element m v)
  minimal_of v graver =
      let first : take m.cols (element m v) ≡ v = take_at v (product m v) m.cols graver.member.size in
      let last : drop m.cols (element m v) ≡ product m v = drop_at v (product m v) m.cols graver.member.size in
      record {
        member = element_in m v graver.member.size;
        nonzero = nonzero_by_take m.cols (element m v) (ap is_zero first ∙ graver.nonzero);
        least = λ y inside some below.
            let u = take m.cols y in
            let under : u ⊑ v = subst (λ t. u ⊑ t) first (conforms-take m.cols y (element m v) below) in
            let end : drop m.cols y ⊑ product m v =
            subst (λ t. drop m.cols y ⊑ t) last (conforms-drop m.cols y (element m v) below) in
            let none : is_zero (drop m.cols y) ≡ true =
            below_zero (drop m.cols y) (product m v) end graver.member.quiet in
            let quiet : is_zero (product m u) ≡ true = ap is_zero (sym inside.image) ∙ none in
            let is : u ≡ v =
            graver.least u (record { size = first_size m y inside; quiet = quiet }) (first_nonzero m y inside some)
            under in
            is_element m y inside ∙ ap (element m) is;
      }

-- each vector of the kernel is a Graver element that leads positive
pub kernel_sound : (m : Matrix) (basis : List Vector) → IsSlackBasis m basis →
    All (λ v. IsGraverElement m v × IsTrue (leads_positive v)) (kernel m.cols basis)
kernel_sound m basis slack =
    All-from_recursion (λ v. IsGraverElement m v × IsTrue (leads_positive v)) (kernel m.cols basis)
    (each_member (λ v. IsGraverElement m v × IsTrue (leads_positive v)) (kernel m.cols basis)
    (sound_from m basis slack.sound))

-- each such element is in the kernel
pub kernel_complete : (m : Matrix) (basis : List Vector) (v : Vector) → IsSlackBasis m basis → IsGraverElement m v →
    IsTrue (leads_positive v) → Contains (kernel m.cols basis) v
kernel_complete m basis v slack graver leads =
    let first : take m.cols (element m v) ≡ v = take_at v (product m v) m.cols graver.member.size in
    let last : drop m.cols (element m v) ≡ product m v = drop_at v (product m v) m.cols graver.member.size in
    let listed : Contains basis (element m v) =
    slack.complete (element m v) (minimal_of m v graver) (leads-append v (product m v) leads) in
    subst (Contains (kernel m.cols basis)) first
    (in_kernel m.cols basis (element m v) listed (ap is_zero last ∙ graver.member.quiet))
