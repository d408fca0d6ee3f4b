-- What a seat of a board knows, and how each kind of step changes it.
use Rattle.std.specs.Prelude.{ℕ, suc, ◌+◌, ◌&&◌, not, nat_eq, nat_lt, cond, List, [], ◌∷◌, ◌++◌, map, Option, Some}
use Rattle.std.specs.Prelude.{None}
use Rattle.std.specs.List.{Contains}
use Rattle.round_core.specs.declared.parts.Fate.{Fate}
use Rattle.round_core.specs.declared.parts.Fate.TheVariants.{Open, Beaten}
use Rattle.round_core.specs.declared.parts.Stand.TheVariants.{Working, Finished, Joined}
use Rattle.round_core.specs.Allowed.{is_live}
use Rattle.round_core.specs.Steps.{joined_stand}
use Rattle.board_laws.specs.declared.views.Owned.{Owned}
use Rattle.board_laws.specs.declared.views.View.{View}
use Rattle.board_laws.specs.Indexes.{better, is_beaten_by}

-- a length with its fate
abbrev pub owned : ℕ → Fate → Owned
owned k fate = record { k = k; fate = fate }

-- the seat has the length, with this fate
abbrev pub HasFate : ℕ → Fate → List Owned → Type 0
HasFate k fate lengths = Contains lengths (owned k fate)

-- the seat has the length
abbrev pub HasLength : ℕ → List Owned → Type 0
HasLength k lengths = (fate : Fate) × HasFate k fate lengths

-- another fate of one length
abbrev pub marked : ℕ → Fate → List Owned → List Owned
marked k fate lengths = map (λ e. cond (nat_eq e.k k) (owned k fate) e) lengths

-- ---- seats

-- the opening seat before its first step
abbrev pub opening_view : View
opening_view = record { number = 0; stand = Working; owned = []; seen = 0; joined = 0; made = 0 }

-- what is left of a seat that was joined into another one
abbrev pub spent_view : View
spent_view = record { number = 0; stand = Joined; owned = []; seen = 0; joined = 0; made = 0 }

-- the opening seat after it split one off, and the seat that was split off
abbrev pub splitting_view : View → View
splitting_view v = record v { made = suc v.made }

abbrev pub fresh_view : View → View
fresh_view v = record { number = suc v.made; stand = Working; owned = []; seen = v.seen; joined = 0; made = 0 }

-- what both knew and owned
abbrev pub joined_view : List (Option ℕ) → View → View → View
joined_view gains v w = record v {
  stand = joined_stand v.stand w.stand;
  owned = v.owned ++ w.owned;
  seen = better gains v.seen w.seen;
  joined = suc (v.joined + w.joined);
}

-- ---- steps

-- the seat claimed after this many claims: the next length is its own, and where none was left it has finished
abbrev pub taking_view : View → ℕ → View
taking_view v k = record v { owned = v.owned ++ owned k Open ∷ [] }

abbrev pub finished_view : View → View
finished_view v = record v { stand = Finished }

abbrev pub claimed_view : ℕ → View → ℕ → View
claimed_view lengths v found = cond (nat_lt found lengths) (taking_view v found) (finished_view v)

-- the seat saw an index
abbrev pub seeing_view : View → ℕ → View
seeing_view v index = record v { seen = index }

-- a length of the seat has another fate
abbrev pub marked_view : ℕ → Fate → View → View
marked_view k fate v = record v { owned = marked k fate v.owned }

-- the seat saw an index, and one of its lengths has another fate
abbrev pub settling_view : View → ℕ → Fate → ℕ → View
settling_view v k fate index = record v { seen = index; owned = marked k fate v.owned }

-- the seat saw the best index; a length that it was to settle is Beaten, where that index beats it
abbrev pub looked_view : List (Option ℕ) → Option ℕ → View → ℕ → View
looked_view gains None v found = seeing_view v found
looked_view gains (Some k) v found =
    record v { seen = found; owned = cond (is_beaten_by gains found k) (marked k Beaten v.owned) v.owned }

-- ---- counts

abbrev pub made_in : View → ℕ
made_in v = v.made

-- 1 for a seat in use that was split off, and 1 for each that was joined into it
abbrev pub seats_in : View → ℕ
seats_in v = cond (is_live v.stand && not (nat_eq v.number 0)) 1 0 + v.joined
