-- The end of a round, read off the words.
use Rattle.std.proofs.Common.{◌≡◌, ◌≢◌, ℕ, suc, ◌-◌, ◌≤◌, List, Option, Some, None, IsTrue, ap, ◌∙◌, subst, arith}
use mathlib.Core.Option.{some}
use lib.ListN.{get_elem?}
use Rattle.atomic_table.specs.Table.{State}
use Rattle.run_theory.specs.Bests.{IsBestByGains}
use Rattle.round_core.specs.declared.parts.Fate.TheVariants.{Offered}
use Rattle.round_core.specs.Allowed.{is_live}
use Rattle.board_laws.specs.declared.views.View.{View}
use Rattle.board_laws.specs.Indexes.{length_of}
use Rattle.board_laws.specs.Views.{HasFate}
use Rattle.board_laws.specs.Boards.{best, IsSeat}
use Rattle.board_laws.specs.Closing.{MayClose}
use Rattle.board_laws.proofs.Seats.{place_get_or}
use Rattle.board_laws.proofs.Ends.{board_ends}
use Rattle.board_laws.proofs.Reached.{reached_sound}
use Rattle.board_laws.proofs.Tells.{best_index}
use Rattle.incumbent.specs.Plays.{Ruled}
use Rattle.incumbent.proofs.Offering.{index_small}

module _ (gains : List (Option ℕ)) (s : State (Unit {0}) View) (id : ℕ) (v : View) (words : List ℕ) (index : ℕ)
    (h : Ruled gains s) (at : IsSeat s.views id v) (same : s.words ≡ words) (found : get_elem? words 1 ≡ some index)
    (live : IsTrue (is_live v.stand)) (may : MayClose gains v) where
  best_is : best s.words ≡ index
  best_is = ap best same ∙ place_get_or words 1 index 0 found

  best_by_gains : IsBestByGains gains (length_of index)
  best_by_gains = subst (λ i. IsBestByGains gains (length_of i)) best_is
      (board_ends gains s.words s.views id v at live may h).0

  before : index ≢ 0 → index ≡ suc (index - 1)
  before nonzero = omega (arith, nonzero)

  -- the index is 0, or that of one of 64 lengths
  pub index_few : index ≤ 64
  index_few =
      let small = index_small gains (best s.words) (best_index gains s.words s.views h.0 (reached_sound gains h.0 h.1)
      h.2) in
      let few = h.2.few in
      let is = best_is in omega (arith, small, few, is)

  pub ends_none : index ≡ 0 → IsBestByGains gains None
  ends_none none = subst (λ i. IsBestByGains gains (length_of i)) none best_by_gains

  pub ends_best : index ≢ 0 → IsBestByGains gains (Some (index - 1))
  ends_best nonzero = subst (λ i. IsBestByGains gains (length_of i)) (before nonzero) best_by_gains

  pub ends_offered : index ≢ 0 → HasFate (index - 1) Offered v.owned
  ends_offered nonzero = (board_ends gains s.words s.views id v at live may h).1 (index - 1) (best_is ∙ before nonzero)
