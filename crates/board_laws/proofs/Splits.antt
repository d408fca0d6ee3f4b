-- A seat that is split off shows as SplitSeat.
use Rattle.std.proofs.Common.{◌≡◌, ◌≢◌, ℕ, suc, ◌+◌, ◌<◌, true, cond, ltb, not, List, [], ◌∷◌, ◌++◌, length, set}
use Rattle.std.proofs.Common.{Option, IsTrue, sum_by, refl, ap, sym, ◌∙◌, subst, arith, inl, ⊎_elim, true≢false, ne_eqb}
use Rattle.std.proofs.Common.{length-set, length-append}
use Rattle.std.proofs.lemmas.List.Elements.{All-nil}
use Rattle.std.proofs.lemmas.List.Sums.{sum_by_push}
use Rattle.std.proofs.lemmas.Bool.Decides.{nat_tests}
use Rattle.round_core.specs.declared.events.Event.TheVariants.{SplitSeat}
use Rattle.round_core.specs.declared.parts.Stand.TheVariants.{Working}
use Rattle.round_core.specs.declared.parts.Worker.{Worker}
use Rattle.round_core.specs.Rounds.{Round, worker_at, stand_at, seen_at}
use Rattle.round_core.specs.Allowed.{is_live, is_absent, is_allowed}
use Rattle.round_core.specs.Steps.{after}
use Rattle.round_core.specs.Sound.{IsSound}
use Rattle.round_core.proofs.Kept.{owner_live}
use Rattle.round_core.proofs.Places.{worker_here, worker_else, workers_count}
use Rattle.board_laws.specs.declared.views.View.{View}
use Rattle.board_laws.specs.Views.{splitting_view, fresh_view, made_in, seats_in}
use Rattle.board_laws.specs.Boards.{IsSeat, Owns, Knows, Shows, IsEvent}
use Rattle.board_laws.proofs.Seats.{place_within, place_push, sum-set, sum-first}
use Rattle.board_laws.proofs.Frames.{all_three, knows_else, each_knows}
use Rattle.board_laws.proofs.Marks.{know, live_worker}
use Rattle.board_laws.proofs.Claims.{working_not_joined}

-- what the opening seat made is what all seats made
pub made_total : (gains : List (Option ℕ)) (words : List ℕ) (views : List View) (r : Round) (v : View)
    → Shows gains words views r → IsSeat views 0 v → sum_by made_in views ≡ v.made
made_total gains words views r v h at = sum-first made_in views v at (λ i u is other. (h.seats i u is).first_made other)

less_test : (a b : ℕ) → a < b → ltb a b ≡ true
less_test a b lt = grind (arith, nat_tests)

module _ (gains : List (Option ℕ)) (words : List ℕ) (views : List View) (id : ℕ) (v : View) (at : IsSeat views id v)
    (live : IsTrue (is_live v.stand)) (number : v.number ≡ 0) (few : v.made < 15) where
  module _ (r : Round) (sound : IsSound r) (h : Shows gains words views r) where
    abbrev mine : Knows r id v
    mine = know gains words views id v at live r h

    abbrev fresh : ℕ
    fresh = suc v.made

    abbrev added : Worker
    added = record { stand = Working; seen = seen_at r id }

    abbrev next : Round
    next = after r (SplitSeat id fresh)

    first : id ≡ 0
    first = sym (mine.numbered live) ∙ number

    total_is : sum_by made_in views ≡ v.made
    total_is = made_total gains words views r v h (subst (λ i. IsSeat views i v) first at)

    -- the fresh seat's place is behind the others
    count : length views ≡ fresh
    count = h.numbers ∙ ap suc total_is

    room : fresh < length r.workers
    room = let n = h.workers_are in omega (arith, few, n)

    fresh_absent : is_absent (stand_at r fresh) ≡ true
    fresh_absent = ap is_absent (h.absent fresh (let n = count in omega (arith, n)))

    split_allowed : IsTrue (is_allowed r (SplitSeat id fresh))
    split_allowed =
        all_three (is_live (stand_at r id)) (ltb fresh (length r.workers)) (is_absent (stand_at r fresh))
        (live_worker gains words views id v at live r h) (less_test fresh (length r.workers) room) fresh_absent

    here : worker_at next fresh ≡ added
    here = worker_here r fresh added room

    fresh_knows : Knows next fresh (fresh_view v)
    fresh_knows = record {
      stands = sym (ap (λ (s : Worker). s.stand) here);
      sees = λ _. mine.sees live ∙ sym (ap (λ (s : Worker). s.seen) here);
      owns = All-nil (Owns next fresh);
      owns_all = λ k o. absurd (true≢false (sym (owner_live r k fresh sound o)
          ∙ ap is_live (h.absent fresh (let n = count in omega (arith, n)))));
      numbered = λ _. refl;
      first_made = λ _. refl;
      few_made = omega arith;
      spent = λ e. absurd (working_not_joined e);
    }

    -- the seats before know what they knew
    knows_still : (i : ℕ) (u : View) → IsSeat views i u → Knows next i u
    knows_still i u is =
        let inside = place_within views i u is in
        let n = count in
        let other : i ≢ fresh = λ e. absurd (omega (arith, e, inside, n)) in
        knows_else r next fresh (λ k. inl refl) i other (worker_else r fresh i added other) u (h.seats i u is)

    splitting_knows : Knows next id (splitting_view v)
    splitting_knows = let still = knows_still id v at in record {
      stands = still.stands;
      sees = still.sees;
      owns = still.owns;
      owns_all = still.owns_all;
      numbered = still.numbered;
      first_made = λ other. absurd (other first);
      few_made = omega (arith, few);
      spent = λ e. absurd (true≢false (sym live ∙ ap is_live e));
    }

    abbrev split : List View
    split = set views id (splitting_view v)

    split_count : length split ≡ fresh
    split_count = length-set views id (splitting_view v) ∙ count

    pushed_count : length (split ++ fresh_view v ∷ []) ≡ suc fresh
    pushed_count = let c = split_count in let a = length-append split (fresh_view v ∷ []) in omega (arith, c, a)

    -- the fresh seat counts as one that was split off
    fresh_counts : seats_in (fresh_view v) ≡ 1
    fresh_counts = ap (λ b. cond (not b) 1 0 + 0) (ne_eqb (suc v.made) 0 (λ e. absurd (omega (arith, e))))

    split_shows : Shows gains words (split ++ fresh_view v ∷ []) next
    split_shows =
        let a = sum-set made_in views id v (splitting_view v) at in
        let b = sum_by_push made_in split (fresh_view v) in
        let c = sum-set seats_in views id v (splitting_view v) at in
        let d = sum_by_push seats_in split (fresh_view v) in
        let e = h.counted in
        let f = fresh_counts in
        let p = pushed_count in
        let t = total_is in record {
          words_are = h.words_are;
          few = h.few;
          gains_are = h.gains_are;
          workers_are = workers_count r fresh added ∙ h.workers_are;
          claims_are = h.claims_are;
          best_is = h.best_is;
          halves = h.halves;
          seats = λ i u is. ⊎_elim
              (λ s. each_knows gains words views r h id v at next (splitting_view v) splitting_knows
              (λ j y _ there. knows_still j y there) i u s)
              (λ s. subst (λ (y : ℕ × View). Knows next y.0 y.1) (λ t. (sym (s.0 ∙ split_count) t, s.1 t)) fresh_knows)
              (place_push split (fresh_view v) u i is);
          absent = λ i past. ap (λ (s : Worker). s.stand) (worker_else r fresh i added
              (λ q. absurd (omega (arith, q, past, p))))
              ∙ h.absent i (let n = count in omega (arith, past, p, n));
          counted = omega (arith, a, b, c, d, e, f);
          numbers = omega (arith, p, a, b, t);
        }

  -- the opening seat splits off one more
  pub split_event : IsEvent gains (SplitSeat id (suc v.made)) words views words
      (set views id (splitting_view v) ++ fresh_view v ∷ [])
  split_event r sound h = (split_allowed r sound h, split_shows r sound h)
