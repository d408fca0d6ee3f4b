-- An event after allowed events leads on: what a step does to a board.
use Rattle.std.proofs.Common.{◌≡◌, ℕ, cond, List, [], ◌∷◌, ◌++◌, Option, Some, None, IsTrue, ap, sym, ◌∙◌, subst, arith}
use Rattle.std.proofs.lemmas.Option.{same_Some, none-some}
use Rattle.round_core.specs.declared.events.Event.{Event}
use Rattle.round_core.specs.Rounds.{Round, first_round}
use Rattle.round_core.specs.Allowed.{is_allowed}
use Rattle.round_core.specs.Steps.{after, step, steps}
use Rattle.round_core.specs.Sound.{IsSound}
use Rattle.round_core.proofs.Ends.{reached}
use Rattle.board_laws.specs.declared.views.View.{View}
use Rattle.board_laws.specs.Boards.{IsReached, Shows, IsBoard, IsEvent}

-- where an event is allowed, it is the step
step_is : (r : Round) (e : Event) → IsTrue (is_allowed r e) → step r e ≡ Some (after r e)
step_is r e may = ap (λ b. cond b (Some (after r e)) None) may

-- one more event
steps-push : (events : List Event) (r end : Round) (e : Event) → steps r events ≡ Some end → IsTrue (is_allowed end e)
    → steps r (events ++ e ∷ []) ≡ Some (after end e)
steps-push [] r end e is may =
    let same : end ≡ r = sym (same_Some r end is) in
    ap (λ o. elim o [ None ↦ None | Some next ↦ Some next ])
    (step_is r e (subst (λ x. IsTrue (is_allowed x e)) same may)) ∙ ap (λ x. Some (after x e)) (sym same)
steps-push (x ∷ xs) r end e is may = by (λ next q. steps-push xs next end e q may) (step r x) is where
  by : ((next : Round) → steps next xs ≡ Some end → steps next (xs ++ e ∷ []) ≡ Some (after end e))
      → (o : Option Round) → elim o [ None ↦ None | Some next ↦ steps next xs ] ≡ Some end
      → elim o [ None ↦ None | Some next ↦ steps next (xs ++ e ∷ []) ] ≡ Some (after end e)
  by on None q = absurd (none-some end q)
  by on (Some next) q = on next q

-- what allowed events lead to is sound
pub reached_sound : (gains : List (Option ℕ)) (r : Round) → IsReached gains r → IsSound r
reached_sound gains r path = (reached gains 16 path.0 r (omega arith) path.1).0

-- a board shows a sound round
pub board_sound : (gains : List (Option ℕ)) (words : List ℕ) (views : List View) → IsBoard gains words views
    → (r : Round) × Shows gains words views r × IsSound r
board_sound gains words views (r, path, shows) = (r, shows, reached_sound gains r path)

-- a board is one after the event
pub board_after : (gains : List (Option ℕ)) (e : Event) (words words' : List ℕ) (views views' : List View)
    → IsEvent gains e words views words' views' → IsBoard gains words views → IsBoard gains words' views'
board_after gains e words words' views views' event (r, path, shows) =
    let next = event r (reached_sound gains r path) shows in (
      after r e,
      (path.0 ++ e ∷ [], steps-push path.0 (first_round gains 16) r e path.1 next.0),
      next.1,
    )
