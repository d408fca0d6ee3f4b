-- A seat that is joined into another shows as JoinSeat.
use Rattle.std.proofs.Common.{◌≡◌, ◌≢◌, ℕ, suc, ◌+◌, ◌<◌, ◌⊎◌, Bool, true, false, cond, eqb, not, ◌&&◌, List, map, set}
use Rattle.std.proofs.Common.{Option, Some, IsTrue, refl, ap, sym, ◌∙◌, subst, arith, inl, inr, ⊎_elim, true≢false}
use Rattle.std.proofs.Common.{ne_eqb, length-set}
use Rattle.std.proofs.lemmas.List.Elements.{All-nil, All-append, All-weaker}
use Rattle.std.proofs.lemmas.Option.{same_Some}
use mathlib.Core.Option.{some}
use lib.ListN.{get_elem?}
use Rattle.atomic_table.proofs.Lists.{at_set, set_else}
use Rattle.round_core.specs.declared.events.Event.TheVariants.{JoinSeat}
use Rattle.round_core.specs.declared.parts.Stand.TheVariants.{Joined}
use Rattle.round_core.specs.declared.parts.Length.{Length}
use Rattle.round_core.specs.declared.parts.Worker.{Worker}
use Rattle.round_core.specs.Rounds.{Round, length_at, owner_at, fate_at, worker_at, stand_at, seen_at}
use Rattle.round_core.specs.Allowed.{is_live, owned_by, is_allowed}
use Rattle.round_core.specs.Steps.{with_worker, handed_over, joined_stand, joining}
use Rattle.round_core.specs.Steps as core
use Rattle.round_core.specs.Sound.{IsSound}
use Rattle.round_core.proofs.Decided.{equal_itself, owner_is}
use Rattle.round_core.proofs.Gains.{gains_kept}
use Rattle.round_core.proofs.Kept.{live_room}
use Rattle.round_core.proofs.Places.{worker_here, worker_else, workers_count, handed_at}
use Rattle.round_core.proofs.Stands.{joined_live}
use Rattle.board_laws.specs.declared.views.View.{View}
use Rattle.board_laws.specs.Indexes.{better}
use Rattle.board_laws.specs.Views.{joined_view, spent_view, made_in, seats_in}
use Rattle.board_laws.specs.Boards.{IsSeat, Owns, Knows, Shows, IsEvent}
use Rattle.board_laws.proofs.Seats.{place_within, sum-set}
use Rattle.board_laws.proofs.Fates.{HasLength-append_left, HasLength-append_right}
use Rattle.board_laws.proofs.Orders.{beats_index, offered_index}
use Rattle.board_laws.proofs.Frames.{all_three}

-- ---- owners

-- whose the length is, once what belonged to the one worker belongs to the other
abbrev new_owner : ℕ → ℕ → Option ℕ → Option ℕ
new_owner from w o = cond (owned_by from o) (Some w) o

either_same : (b : Bool) (o : Option ℕ) → cond b o o ≡ o
either_same true o = refl
either_same false o = refl

own_stays : (from w : ℕ) → new_owner from w (Some w) ≡ Some w
own_stays from w = either_same (eqb w from) (Some w)

own_comes : (from w : ℕ) → new_owner from w (Some from) ≡ Some w
own_comes from w = ap (λ b. cond b (Some w) (Some from)) (equal_itself from)

other_stays : (from w i : ℕ) → i ≢ from → new_owner from w (Some i) ≡ Some i
other_stays from w i other = ap (λ b. cond b (Some w) (Some i)) (ne_eqb i from other)

-- what another worker owns it owned before
other_before : (from w i : ℕ) (o : Option ℕ) → i ≢ w → new_owner from w o ≡ Some i → o ≡ Some i
other_before from w i o other is = by (owned_by from o) is where
  by : (b : Bool) → cond b (Some w) o ≡ Some i → o ≡ Some i
  by true e = absurd (other (sym (same_Some w i e)))
  by false e = e

-- what the worker owns it owned before, or the other one did
own_before : (from w : ℕ) (o : Option ℕ) → new_owner from w o ≡ Some w → (o ≡ Some w) ⊎ (o ≡ Some from)
own_before from w o is = by (owned_by from o) refl is where
  by : (b : Bool) → owned_by from o ≡ b → cond b (Some w) o ≡ Some w → (o ≡ Some w) ⊎ (o ≡ Some from)
  by true e _ = inr (owner_is from o e)
  by false _ e = inl e

-- the other one owns nothing
none_left : (from w : ℕ) (o : Option ℕ) → w ≢ from → new_owner from w o ≡ Some from → ⊥
none_left from w o apart is =
    let was : o ≡ Some from = other_before from w from o (λ e. apart (sym e)) is in
    apart (same_Some w from (sym (own_comes from w) ∙ (ap (new_owner from w) (sym was) ∙ is)))

-- ---- the join

module _ (gains : List (Option ℕ)) (words : List ℕ) (views : List View) (id : ℕ) (v : View) (at : IsSeat views id v)
    (live : IsTrue (is_live v.stand)) (other : ℕ) (w : View) (apart : other ≢ id)
    (at_other : IsSeat (set views id (joined_view gains v w)) other w) (live_other : IsTrue (is_live w.stand))
    (number : w.number ≢ 0) where
  abbrev both : View
  both = joined_view gains v w

  abbrev widened : List View
  widened = set views id both

  apart_id : id ≢ other
  apart_id e = apart (sym e)

  was : IsSeat views other w
  was = sym (set_else views id other both apart) ∙ at_other

  module _ (r : Round) (sound : IsSound r) (h : Shows gains words views r) where
    abbrev mine : Knows r id v
    mine = h.seats id v at

    abbrev theirs : Knows r other w
    theirs = h.seats other w was

    abbrev next : Round
    next = joining r id other

    abbrev handed : Round
    handed = record r { lengths = map (handed_over other id) r.lengths }

    abbrev into : Worker
    into = record {
      stand = joined_stand (stand_at r id) (stand_at r other);
      seen = core.better r (seen_at r id) (seen_at r other);
    }

    abbrev gone : Worker
    gone = record (worker_at r other) { stand = Joined }

    live_id : IsTrue (is_live (stand_at r id))
    live_id = subst (λ s. IsTrue (is_live s)) mine.stands live

    live_gone : IsTrue (is_live (stand_at r other))
    live_gone = subst (λ s. IsTrue (is_live s)) theirs.stands live_other

    join_allowed : IsTrue (is_allowed r (JoinSeat id other))
    join_allowed =
        all_three (is_live (stand_at r id)) (is_live (stand_at r other)) (not (eqb id other)) live_id live_gone
        (ap not (ne_eqb id other apart_id))

    -- ---- the workers and the lengths after

    worker_id : worker_at next id ≡ into
    worker_id = worker_else (with_worker handed id into) other id gone apart_id
        ∙ worker_here handed id into (live_room r id live_id)

    worker_other : worker_at next other ≡ gone
    worker_other = worker_here (with_worker handed id into) other gone
        (subst (λ n. other < n) (sym (workers_count handed id into)) (live_room r other live_gone))

    worker_rest : (i : ℕ) → i ≢ id → i ≢ other → worker_at next i ≡ worker_at r i
    worker_rest i n m = worker_else (with_worker handed id into) other i gone m ∙ worker_else handed id i into n

    length_is : (k : ℕ) → length_at next k ≡ handed_over other id (length_at r k)
    length_is k = handed_at r other id k

    owner_is_new : (k : ℕ) → owner_at next k ≡ new_owner other id (owner_at r k)
    owner_is_new k = ap (λ (l : Length). l.owner) (length_is k)

    fate_same : (k : ℕ) → fate_at next k ≡ fate_at r k
    fate_same k = ap (λ (l : Length). l.fate) (length_is k)

    -- ---- what the seats know

    better_is : core.better r (seen_at r id) (seen_at r other) ≡ better gains (seen_at r id) (seen_at r other)
    better_is =
        ap (λ b. cond b (seen_at r other) (seen_at r id)) (beats_index gains r h.gains_are (seen_at r other)
        (seen_at r id)
        (offered_index gains r h.gains_are sound (seen_at r other) (sound.seen_offered other)))

    both_knows : Knows next id both
    both_knows = record {
      stands = (λ t. joined_stand (mine.stands t) (theirs.stands t)) ∙ sym (ap (λ (s : Worker). s.stand) worker_id);
      sees = λ _. (λ t. better gains (mine.sees live t) (theirs.sees live_other t)) ∙ sym better_is
          ∙ sym (ap (λ (s : Worker). s.seen) worker_id);
      owns = All-append (Owns next id) v.owned w.owned
          (All-weaker (Owns r id) (Owns next id) (λ e o. (
            owner_is_new e.k ∙ ap (new_owner other id) o.0 ∙ own_stays other id,
            fate_same e.k ∙ o.1,
          )) v.owned mine.owns)
          (All-weaker (Owns r other) (Owns next id) (λ e o. (
            owner_is_new e.k ∙ ap (new_owner other id) o.0 ∙ own_comes other id,
            fate_same e.k ∙ o.1,
          )) w.owned theirs.owns);
      owns_all = λ k o. ⊎_elim
          (λ a. HasLength-append_left k v.owned w.owned (mine.owns_all k a))
          (λ a. HasLength-append_right k v.owned w.owned (theirs.owns_all k a))
          (own_before other id (owner_at r k) (sym (owner_is_new k) ∙ o));
      numbered = λ _. mine.numbered live;
      first_made = mine.first_made;
      few_made = mine.few_made;
      spent = λ e. absurd (true≢false (sym (joined_live v.stand w.stand) ∙ ap is_live e));
    }

    spent_knows : Knows next other spent_view
    spent_knows = record {
      stands = sym (ap (λ (s : Worker). s.stand) worker_other);
      sees = λ l. absurd (true≢false (sym l));
      owns = All-nil (Owns next other);
      owns_all = λ k o. absurd (none_left other id (owner_at r k) apart_id (sym (owner_is_new k) ∙ o));
      numbered = λ l. absurd (true≢false (sym l));
      first_made = λ _. refl;
      few_made = omega arith;
      spent = λ _. refl;
    }

    rest_knows : (i : ℕ) (u : View) → i ≢ id → i ≢ other → Knows r i u → Knows next i u
    rest_knows i u n m know = record {
      stands = know.stands ∙ sym (ap (λ (s : Worker). s.stand) (worker_rest i n m));
      sees = λ l. know.sees l ∙ sym (ap (λ (s : Worker). s.seen) (worker_rest i n m));
      owns = All-weaker (Owns r i) (Owns next i) (λ e o. (
        owner_is_new e.k ∙ ap (new_owner other id) o.0 ∙ other_stays other id i m,
        fate_same e.k ∙ o.1,
      )) u.owned know.owns;
      owns_all = λ k o. know.owns_all k (other_before other id i (owner_at r k) n (sym (owner_is_new k) ∙ o));
      numbered = know.numbered;
      first_made = know.first_made;
      few_made = know.few_made;
      spent = know.spent;
    }

    all_know : (i : ℕ) (u : View) → IsSeat (set widened other spent_view) i u → Knows next i u
    all_know i u is = ⊎_elim
        (λ (x : (i ≡ other) × (spent_view ≡ u)). subst (λ (y : ℕ × View). Knows next y.0 y.1) (λ t. (sym x.0 t, x.1 t))
        spent_knows)
        (λ (x : (i ≢ other) × (get_elem? widened i ≡ some u)). ⊎_elim
        (λ (y : (i ≡ id) × (both ≡ u)). subst (λ (z : ℕ × View). Knows next z.0 z.1) (λ t. (sym y.0 t, y.1 t))
        both_knows)
        (λ (y : (i ≢ id) × (get_elem? views i ≡ some u)). rest_knows i u y.0 x.0 (h.seats i u y.1))
        (at_set views id i both u x.1))
        (at_set widened other i spent_view u is)

    -- ---- counts

    both_counts : seats_in both ≡ suc (seats_in v + w.joined)
    both_counts =
        ap (λ b. cond (b && not (eqb v.number 0)) 1 0 + suc (v.joined + w.joined)) (joined_live v.stand w.stand
        ∙ sym live)
        ∙ omega arith

    other_counts : seats_in w ≡ suc w.joined
    other_counts = ap (λ b. cond (b && not (eqb w.number 0)) 1 0 + w.joined) live_other
        ∙ ap (λ b. cond (true && not b) 1 0 + w.joined) (ne_eqb w.number 0 number) ∙ omega arith

    -- a seat that is not the opening one made none
    other_made : w.made ≡ 0
    other_made = theirs.first_made (λ e. number (theirs.numbered live_other ∙ e))

    joining_shows : Shows gains words (set widened other spent_view) next
    joining_shows =
        let a = sum-set made_in views id v both at in
        let b = sum-set made_in widened other w spent_view at_other in
        let c = sum-set seats_in views id v both at in
        let d = sum-set seats_in widened other w spent_view at_other in
        let e = both_counts in
        let f = other_counts in
        let g = other_made in
        let k = h.counted in
        let n = h.numbers in
        let l = length-set widened other spent_view in
        let m = length-set views id both in
        let i_in = place_within views id v at in
        let o_in = place_within views other w was in record {
          words_are = h.words_are;
          few = h.few;
          gains_are = gains_kept r (JoinSeat id other) ∙ h.gains_are;
          workers_are = workers_count (with_worker handed id into) other gone ∙ workers_count handed id into
              ∙ h.workers_are;
          claims_are = h.claims_are;
          best_is = h.best_is;
          halves = λ j low. (
            ap (λ (x : Length). x.high) (length_is j) ∙ (h.halves j low).0,
            ap (λ (x : Length). x.low) (length_is j) ∙ (h.halves j low).1,
          );
          seats = all_know;
          absent = λ i past. ap (λ (s : Worker). s.stand) (worker_rest i
              (λ q. absurd (omega (arith, q, past, l, m, i_in))) (λ q. absurd (omega (arith, q, past, l, m, o_in))))
              ∙ h.absent i (omega (arith, past, l, m));
          counted = omega (arith, a, b, c, d, e, f, g, k);
          numbers = omega (arith, a, b, g, l, m, n);
        }

  -- the seat takes in the other one
  pub join_event : IsEvent gains (JoinSeat id other) words views words
      (set (set views id (joined_view gains v w)) other spent_view)
  join_event r sound h = (join_allowed r sound h, joining_shows r sound h)
