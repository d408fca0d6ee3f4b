-- A slack basis is complete for its lattice, since it covers it.
use Rattle.std.proofs.Common.{◌≡◌, ◌+◌, true, ◌&&◌, nat_eq, List, length, take, drop, ap, sym, ◌∙◌}
use Rattle.std.proofs.lemmas.List.Elements.{All-contains}
use Rattle.lattice_theory.specs.Vectors.{Vector, leads_positive, same}
use Rattle.lattice_theory.specs.Matrices.{Matrix, product, element}
use Rattle.lattice_theory.specs.Lattices.{IsSlackBasis, is_signed_element, is_complete_for}
use Rattle.lattice_theory.specs.BasisLimits.{IsBasisElement}
use Rattle.lattice_laws.proofs.Tests.{same_refl, nat_eq_of}
use Rattle.lattice_laws.proofs.Members.{list_all_of}
use Rattle.lattice_laws.proofs.SlackBases.{slack_basis_covers}
use Rattle.std.proofs.lemmas.Bool.{and_from}
use Rattle.cover_laws.proofs.Coverings.{IsCovering, covering_complete}
use Rattle.lattice_laws.proofs.Elements.{first_nonzero}

-- a slack basis covers its lattice
slack_covering : (m : Matrix) (basis : List Vector) → IsSlackBasis m basis → IsCovering m basis
slack_covering m basis slack = record {
  elements = λ z listed.
      let minimal = (All-contains (IsBasisElement m) basis z slack.sound listed).0 in
      record { member = minimal.member; nonzero = first_nonzero m z minimal.member minimal.nonzero };
  covers = slack_basis_covers m basis slack;
}

-- so it passes Pottier's criterion
pub slack_basis_complete : (m : Matrix) (basis : List Vector) → IsSlackBasis m basis → is_complete_for m basis ≡ true
slack_basis_complete m basis slack =
    covering_complete m basis (slack_covering m basis slack)
    (list_all_of (is_signed_element m) basis
    (λ z listed. is_signed z (All-contains (IsBasisElement m) basis z slack.sound listed))) slack.rising
  where
    is_signed : (z : Vector) → IsBasisElement m z → is_signed_element m z ≡ true
    is_signed z element =
        let leads = leads_positive z in
        let sized = nat_eq (length z) (m.cols + length m.rows) in
        and_from (leads && sized) (same (drop m.cols z) (product m (take m.cols z)))
        (and_from leads sized element.1 (nat_eq_of (length z) (m.cols + length m.rows) element.0.member.size))
        (ap (λ v. same (drop m.cols z) v) (sym element.0.member.image) ∙ same_refl (drop m.cols z))
