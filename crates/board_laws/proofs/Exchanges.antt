-- A compare-exchange of the best index shows as Exchange, whether it finds the index that the seat saw or another one.
use Rattle.std.proofs.Common.{◌≡◌, ◌≢◌, ℕ, suc, ◌+◌, ◌*◌, ◌<◌, Bool, true, false, cond, eqb, List, length, set}
use Rattle.std.proofs.Common.{slice_index, Option, Some, IsTrue, refl, ap, sym, ◌∙◌, subst, arith, eq-eqb, ne_eqb}
use Rattle.std.proofs.Common.{length-set, get_or-set_same, get_or-set_other}
use Rattle.round_core.specs.declared.events.Event.TheVariants.{Exchange}
use Rattle.round_core.specs.declared.parts.Fate.TheVariants.{Written, Offered}
use Rattle.round_core.specs.declared.parts.Length.{Length}
use Rattle.round_core.specs.declared.parts.Worker.{Worker}
use Rattle.round_core.specs.Rounds.{Round, length_at, owner_at, worker_at, seen_at, index_beats, outranks}
use Rattle.round_core.specs.Allowed.{is_live, owned_by, is_fate, is_allowed}
use Rattle.round_core.specs.Steps.{with_fate, seeing_best, offering, settled, after}
use Rattle.round_core.specs.Sound.{HoldsGain, HoldsHigh, IsSound}
use Rattle.round_core.proofs.Gains.{gains_with}
use Rattle.round_core.proofs.Places.{length_here, length_else, worker_here, worker_else, workers_count}
use Rattle.board_laws.specs.declared.views.View.{View}
use Rattle.board_laws.specs.Indexes.{index_key, length_key, IsIndex}
use Rattle.board_laws.specs.Views.{HasFate, looked_view, settling_view}
use Rattle.board_laws.specs.Boards.{best, high, low, IsSeat, Shows, IsEvent}
use Rattle.board_laws.proofs.Orders.{gain_is, beats_index}
use Rattle.board_laws.proofs.Frames.{all_four, each_length}
use Rattle.board_laws.proofs.Marks.{know, owns_of, owned_inside, owner_test, fate_test, worker_inside, marked_shows}
use Rattle.board_laws.proofs.Loads.{settle_shows}

module _ (gains : List (Option ℕ)) (words : List ℕ) (views : List View) (id : ℕ) (v : View) (at : IsSeat views id v)
    (live : IsTrue (is_live v.stand)) (k : ℕ) (has : HasFate k Written v.owned) where
  module _ (r : Round) (sound : IsSound r) (h : Shows gains words views r) where
    -- a Written length has a gain
    written_index : IsIndex gains (suc k)
    written_index =
        let is = (owns_of gains words views id v at live r h k Written has).1 in
        let holds : HoldsHigh (length_at r k) = (subst (HoldsGain (length_at r k)) is (sound.stored k)).0 in
        (holds.0, sym (gain_is gains r h.gains_are k) ∙ holds.1)

    exchange_allowed : (expected : ℕ) → v.seen ≡ expected
        → IsTrue (outranks (length_key gains k) (index_key gains expected)) →
        IsTrue (is_allowed r (Exchange id expected k))
    exchange_allowed expected saw beats =
        all_four (owned_by id (owner_at r k)) (is_fate (length_at r k).fate Written) (eqb (seen_at r id) expected)
        (index_beats r (suc k) expected)
        (owner_test gains words views id v at live r h k Written has)
        (fate_test gains words views id v at live r h k Written has refl)
        (eq-eqb (seen_at r id) expected (sym ((know gains words views id v at live r h).sees live) ∙ saw))
        (beats_index gains r h.gains_are (suc k) expected written_index ∙ beats)

    -- ---- the length is the best one now

    abbrev offered_words : List ℕ
    offered_words = set words 1 (suc k)

    word_else : (i : ℕ) → i ≢ 1 → slice_index offered_words i ≡ slice_index words i
    word_else i other = get_or-set_other words 1 i (suc k) 0 other

    abbrev offered : Length
    offered = record (length_at r k) { fate = Offered }

    abbrev named : Round
    named = record (with_fate r k Offered) { best = suc k }

    abbrev saw : Worker
    saw = record (worker_at r id) { seen = suc k }

    halves_in : (i : ℕ) (l : Length) → (l.high ≡ high words i) × (l.low ≡ low words i)
        → (l.high ≡ high offered_words i) × (l.low ≡ low offered_words i)
    halves_in i l p = (
      p.0 ∙ sym (word_else (2 + 2 * i) (λ e. absurd (omega (arith, e)))),
      p.1 ∙ sym (word_else (3 + 2 * i) (λ e. absurd (omega (arith, e)))),
    )

    offer_shows : Shows gains offered_words (set views id (settling_view v k Offered (suc k))) (offering r id k)
    offer_shows =
        let room = owned_inside gains words views id v at live r h k Written has in
        let wide = h.words_are in
        marked_shows gains words views id v at live r h k Written Offered (suc k) has offered refl refl
        (offering r id k)
        (length_here r k offered room) (λ j n. length_else r k j offered n)
        (worker_here r id saw (worker_inside gains words views id v at live r h)) (λ j n. worker_else r id j saw n)
        offered_words (length-set words 1 (suc k)) (gains_with r k offered refl) (workers_count r id saw)
        (h.claims_are ∙ sym (word_else 0 (λ e. absurd (omega (arith, e)))))
        (sym (get_or-set_same words 1 (suc k) 0 (omega (arith, wide))))
        (each_length (λ i x. i < length gains → (x.high ≡ high offered_words i) × (x.low ≡ low offered_words i)) r k
        offered room
        (λ low. halves_in k (length_at r k) (h.halves k low))
        (λ i _ low. halves_in i (length_at r i) (h.halves i low)))

    -- the round after the event, by what it found
    after_is : (expected : ℕ) (b : Bool) → eqb r.best expected ≡ b
        → cond b (offering r id k) (settled (seeing_best r id) k) ≡ after r (Exchange id expected k)
    after_is expected b e = ap (λ x. cond x (offering r id k) (settled (seeing_best r id) k)) (sym e)

  module _ (expected : ℕ) (saw_it : v.seen ≡ expected)
      (beats : IsTrue (outranks (length_key gains k) (index_key gains expected))) where
    -- it found the index that the seat saw
    pub offer_event : best words ≡ expected
        → IsEvent gains (Exchange id expected k) words views (set words 1 (suc k))
        (set views id (settling_view v k Offered (suc k)))
    offer_event found r sound h = (
      exchange_allowed r sound h expected saw_it beats,
      subst (Shows gains (set words 1 (suc k)) (set views id (settling_view v k Offered (suc k))))
          (after_is r sound h expected true (eq-eqb r.best expected (h.best_is ∙ found))) (offer_shows r sound h),
    )

    -- it found another one
    pub miss_event : best words ≢ expected
        → IsEvent gains (Exchange id expected k) words views words
        (set views id (looked_view gains (Some k) v (best words)))
    miss_event other r sound h = (
      exchange_allowed r sound h expected saw_it beats,
      subst (Shows gains words (set views id (looked_view gains (Some k) v (best words))))
          (after_is r sound h expected false (ne_eqb r.best expected (λ e. other (sym h.best_is ∙ e))))
          (subst (λ i. Shows gains words (set views id (looked_view gains (Some k) v i)) (settled (seeing_best r id) k))
          h.best_is
          (settle_shows gains words views id v at live r h k Written has)),
    )
