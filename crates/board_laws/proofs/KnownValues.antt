-- The definitions of a board at values by hand.
use Rattle.std.proofs.Common.{◌≡◌, ℕ, true, false, List, [], ◌∷◌, Option, Some, None, refl}
use Rattle.round_core.specs.declared.parts.Fate.TheVariants.{Open, Offered, Beaten}
use Rattle.board_laws.specs.Indexes.{index_key, index_of, length_of, better, is_beaten_by}
use Rattle.board_laws.specs.Views.{owned, marked, opening_view, spent_view, splitting_view, fresh_view, joined_view}
use Rattle.board_laws.specs.Views.{taking_view, finished_view, claimed_view, looked_view, seats_in}

-- lengths 0 and 2 gain 5, length 1 nothing
abbrev known : List (Option ℕ)
known = Some 5 ∷ None ∷ Some 5 ∷ []

known_key : index_key known 3 ≡ Some (record { gain = 5; k = 2 })
known_key = refl

known_no_gain : index_key known 2 ≡ None
known_no_gain = refl

known_index : index_of (index_key known 3) ≡ 3
known_index = refl

known_length : length_of 3 ≡ Some 2
known_length = refl

-- of equal gains the lesser length is better, and any gain is better than none
known_better : better known 3 1 ≡ 1
known_better = refl

known_better_than_none : better known 0 3 ≡ 3
known_better_than_none = refl

known_beaten : is_beaten_by known 1 2 ≡ true
known_beaten = refl

known_unbeaten : is_beaten_by known 3 0 ≡ false
known_unbeaten = refl

known_beaten_without_gain : is_beaten_by known 0 1 ≡ true
known_beaten_without_gain = refl

known_claim : claimed_view 3 opening_view 2 ≡ taking_view opening_view 2
known_claim = refl

known_late_claim : claimed_view 3 opening_view 3 ≡ finished_view opening_view
known_late_claim = refl

known_mark : marked 1 Offered (owned 0 Open ∷ owned 1 Open ∷ []) ≡ (owned 0 Open ∷ owned 1 Offered ∷ [])
known_mark = refl

known_look : (looked_view known (Some 2) (taking_view opening_view 2) 1).owned ≡ (owned 2 Beaten ∷ [])
known_look = refl

known_look_unbeaten : (looked_view known (Some 0) (taking_view opening_view 0) 3).owned ≡ (owned 0 Open ∷ [])
known_look_unbeaten = refl

-- the opening seat counts no seat, one that was split off counts itself, and after the join the other one counts it
known_opening_count : seats_in (splitting_view opening_view) ≡ 0
known_opening_count = refl

known_fresh_count : seats_in (fresh_view opening_view) ≡ 1
known_fresh_count = refl

known_joined_count : seats_in (joined_view known (splitting_view opening_view) (fresh_view opening_view)) ≡ 1
known_joined_count = refl

known_spent_count : seats_in spent_view ≡ 0
known_spent_count = refl
