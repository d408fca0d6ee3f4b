-- The criterion by prefixes, one test after the other.
use Rattle.std.proofs.Common.{◌≡◌, Bool, true, false, ◌&&◌, List, refl, ap, sym, ◌∙◌}
use Rattle.std.specs.List.{list_all}
use Rattle.lattice_theory.specs.Lists.{numbers_from}
use Rattle.lattice_theory.specs.Vectors.{Vector, is_listed, is_rising}
use Rattle.lattice_theory.specs.Matrices.{Matrix, element, unit_vector}
use Rattle.lattice_theory.specs.Lattices.{is_signed_element, is_complete_for}
use Rattle.criterion_laws.specs.Prefixes.{clashes_settle}
use Rattle.criterion_laws.proofs.Prefixes.{prefixes_decide}

module _ (m : Matrix) (basis : List Vector) where
  abbrev pub units : Bool
  units = list_all (λ j. is_listed basis (element m (unit_vector m.cols j))) (numbers_from 0 m.cols)

  -- an element of a unit vector that is not a member
  pub not_listed : units ≡ false → false ≡ is_complete_for m basis
  not_listed none =
      sym (third_fails (list_all (is_signed_element m) basis) (is_rising basis) units
      (clashes_settle m.cols basis basis) none) ∙ prefixes_decide m basis
    where
      third_fails : (p q r s : Bool) → r ≡ false → (p && q && r && s) ≡ false
      third_fails true true r s none = ap (λ t. t && s) none
      third_fails true false r s none = refl
      third_fails false q r s none = refl

  -- the clashes decide where all other tests pass
  pub all_listed : list_all (is_signed_element m) basis ≡ true → is_rising basis ≡ true → units ≡ true →
      clashes_settle m.cols basis basis ≡ is_complete_for m basis
  all_listed signed rising listed =
      sym (λ i. signed i && rising i && listed i && clashes_settle m.cols basis basis) ∙ prefixes_decide m basis
