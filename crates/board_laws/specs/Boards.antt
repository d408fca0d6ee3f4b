-- The board of a round: what its words and the views of its seats show of the round.
-- Word 0 counts the claims, word 1 is the index of the best length, words 2 + 2k and 3 + 2k are the halves of the gain
-- of length k.
use Rattle.std.specs.Prelude.{◌≡◌, ◌≢◌, ℕ, suc, ◌+◌, ◌*◌, ◌<◌, ◌≤◌, List, length, Option, Some, All, IsTrue}
use Rattle.std.specs.Prelude.{slice_index, sum_by}
use mathlib.Core.Option.{some}
use lib.ListN.{get_elem?}
use Rattle.round_core.specs.declared.events.Event.{Event}
use Rattle.round_core.specs.declared.parts.Stand.TheVariants.{Absent, Joined}
use Rattle.round_core.specs.Rounds.{Round, length_at, owner_at, fate_at, stand_at, seen_at, gains_of, first_round}
use Rattle.round_core.specs.Allowed.{is_live, is_allowed}
use Rattle.round_core.specs.Steps.{after, steps}
use Rattle.round_core.specs.Sound.{IsSound}
use Rattle.board_laws.specs.declared.views.Owned.{Owned}
use Rattle.board_laws.specs.declared.views.View.{View}
use Rattle.board_laws.specs.Views.{HasLength, spent_view, made_in, seats_in}

-- ---- words

abbrev pub claims : List ℕ → ℕ
claims words = slice_index words 0

abbrev pub best : List ℕ → ℕ
best words = slice_index words 1

abbrev pub high : List ℕ → ℕ → ℕ
high words k = slice_index words (2 + 2 * k)

abbrev pub low : List ℕ → ℕ → ℕ
low words k = slice_index words (3 + 2 * k)

-- ---- views

-- the seat has this view
abbrev pub IsSeat : List View → ℕ → View → Type 0
IsSeat views i v = get_elem? views i ≡ some v

-- the entry is a length of worker i, with the fate that it has in the round
abbrev pub Owns : Round → ℕ → Owned → Type 0
Owns r i e = (owner_at r e.k ≡ Some i) × (fate_at r e.k ≡ e.fate)

-- the view is what worker i knows: it stands where the view says, and, while it is in use, saw what the view says; the
-- lengths of the view are all that it owns, with their fates. Only the opening seat has made others
pub record Knows (r : Round) (i : ℕ) (v : View) : Type 0 where
  pub stands : v.stand ≡ stand_at r i
  pub sees : IsTrue (is_live v.stand) → v.seen ≡ seen_at r i
  pub owns : All (Owns r i) v.owned
  pub owns_all : (k : ℕ) → owner_at r k ≡ Some i → HasLength k v.owned
  pub numbered : IsTrue (is_live v.stand) → v.number ≡ i
  pub first_made : i ≢ 0 → v.made ≡ 0
  pub few_made : v.made ≤ 15
  pub spent : v.stand ≡ Joined → v ≡ spent_view

-- the words hold what was claimed, offered and stored in the round; each view is what a worker knows, the other workers
-- are not split off yet, and each seat that was made is in use or was joined
pub record Shows (gains : List (Option ℕ)) (words : List ℕ) (views : List View) (r : Round) : Type 0 where
  pub words_are : length words ≡ 2 + 2 * length gains
  pub few : length gains ≤ 64
  pub gains_are : gains_of r ≡ gains
  pub workers_are : length r.workers ≡ 16
  pub claims_are : r.claims ≡ claims words
  pub best_is : r.best ≡ best words
  pub halves : (k : ℕ) → k < length gains →
      ((length_at r k).high ≡ high words k) × ((length_at r k).low ≡ low words k)
  pub seats : (i : ℕ) (v : View) → IsSeat views i v → Knows r i v
  pub absent : (i : ℕ) → length views ≤ i → stand_at r i ≡ Absent
  pub counted : sum_by made_in views ≡ sum_by seats_in views
  pub numbers : length views ≡ suc (sum_by made_in views)

-- ---- the rule

-- allowed events lead to the round from its beginning
abbrev pub IsReached : List (Option ℕ) → Round → Type 0
IsReached gains r = (events : List Event) × (steps (first_round gains 16) events ≡ Some r)

-- the rule of a board: it shows a round that allowed events lead to
abbrev pub IsBoard : List (Option ℕ) → List ℕ → List View → Type 0
IsBoard gains words views = (r : Round) × IsReached gains r × Shows gains words views r

-- words and views that show a sound round become those that show it after the event, which is allowed
abbrev pub IsEvent : List (Option ℕ) → Event → List ℕ → List View → List ℕ → List View → Type 0
IsEvent gains e words views words' views' =
    (r : Round) → IsSound r → Shows gains words views r →
    IsTrue (is_allowed r e) × Shows gains words' views' (after r e)
