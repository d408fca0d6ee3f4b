-- The law on slack bases at values worked by hand: the matrix (1 1), whose lattice is that of all (a, b, a + b).
use Rattle.std.specs.Prelude.{◌≡◌, pos, true, false, [], ◌∷◌, refl}
use Rattle.lattice_theory.specs.Lattices.{is_complete_for}
use Rattle.lattice_theory.proofs.KnownValues.{three}
use Rattle.outcome_laws.proofs.KnownBases.{pair, basis, it_is_slack}
use Rattle.cover_laws.proofs.SlackBases.{slack_basis_complete}

-- the premise of the law is met, and it says what the test finds by itself
pub it_is_complete : is_complete_for pair basis ≡ true
it_is_complete = slack_basis_complete pair basis it_is_slack

-- without its second member the list is not complete
pub the_units_are_not :
    is_complete_for pair (three (pos 0) (pos 1) (pos 1) ∷ three (pos 1) (pos 0) (pos 1) ∷ []) ≡ false
the_units_are_not = refl
