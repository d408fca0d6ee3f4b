-- When the opening seat may close its board.
use Rattle.std.specs.Prelude.{◌≡◌, ℕ, ◌<◌, ◌⊎◌, ◌||◌, List, length, Option, All, IsTrue}
use Rattle.round_core.specs.declared.parts.Fate.TheVariants.{Offered, Beaten}
use Rattle.round_core.specs.declared.parts.Stand.TheVariants.{Finished}
use Rattle.round_core.specs.Allowed.{is_fate}
use Rattle.board_laws.specs.declared.views.Owned.{Owned}
use Rattle.board_laws.specs.declared.views.View.{View}
use Rattle.board_laws.specs.Views.{HasLength}

-- the length is Offered or Beaten
abbrev pub IsSettled : Owned → Type 0
IsSettled e = IsTrue (is_fate e.fate Offered || is_fate e.fate Beaten)

-- it is the opening seat, took in each seat that it made, settled all its lengths, and none is left to claim
pub record MayClose (gains : List (Option ℕ)) (v : View) : Type 0 where
  pub opening : v.number ≡ 0
  pub alone : v.joined ≡ v.made
  pub settled : All IsSettled v.owned
  pub past : (v.stand ≡ Finished) ⊎ ((k : ℕ) → k < length gains → HasLength k v.owned)
