-- The stores of the halves of a gain show as StoreHigh and StoreLow.
use Rattle.std.proofs.Common.{◌≡◌, ◌≢◌, ℕ, ◌+◌, ◌*◌, ◌/◌, ◌%◌, ◌^◌, ◌<◌, List, length, set, slice_index, Option, Some}
use Rattle.std.proofs.Common.{IsTrue, is_some, refl, ap, sym, ◌∙◌, arith, length-set, get_or-set_same, get_or-set_other}
use Rattle.round_core.specs.declared.events.Event.TheVariants.{StoreHigh, StoreLow}
use Rattle.round_core.specs.declared.parts.Fate.{Fate}
use Rattle.round_core.specs.declared.parts.Fate.TheVariants.{Open, HalfWritten, Written}
use Rattle.round_core.specs.declared.parts.Length.{Length}
use Rattle.round_core.specs.Rounds.{Round, length_at, owner_at, gain_at, worker_at, high_half, low_half}
use Rattle.round_core.specs.Allowed.{is_live, owned_by, is_fate}
use Rattle.round_core.specs.Steps.{with_length}
use Rattle.round_core.proofs.Gains.{gains_with}
use Rattle.round_core.proofs.Places.{length_here, length_else}
use Rattle.board_laws.specs.declared.views.View.{View}
use Rattle.board_laws.specs.Indexes.{gain_of}
use Rattle.board_laws.specs.Views.{HasFate, marked_view}
use Rattle.board_laws.specs.Boards.{high, low, IsSeat, Shows, IsEvent}
use Rattle.board_laws.proofs.Orders.{gain_is}
use Rattle.board_laws.proofs.Frames.{both, all_three, each_length}
use Rattle.board_laws.proofs.Marks.{know, owned_inside, owned_within, owner_test, fate_test, marked_shows}

module _ (gains : List (Option ℕ)) (words : List ℕ) (views : List View) (id : ℕ) (v : View) (at : IsSeat views id v)
    (live : IsTrue (is_live v.stand)) where
  module _ (r : Round) (h : Shows gains words views r) where
    -- the words have a place for each half
    wide : (k : ℕ) → k < length gains → 3 + 2 * k < length words
    wide k room = let w = h.words_are in omega (arith, w, room)

    -- word j of the length k is stored, and l is the length after
    module _ (k j n : ℕ) (f g : Fate) (has : HasFate k f v.owned) (l : Length) (gain : l.gain ≡ gain_at r k)
        (owner : l.owner ≡ owner_at r k) (fate : l.fate ≡ g) (past : 1 < j) where
      abbrev stored : List ℕ
      stored = set words j n

      word_else : (i : ℕ) → i ≢ j → slice_index stored i ≡ slice_index words i
      word_else i other = get_or-set_other words j i n 0 other

      saw_still : worker_at r id ≡ record (worker_at r id) { seen = v.seen }
      saw_still = ap (λ i. record (worker_at r id) { seen = i })
          (sym ((know gains words views id v at live r h).sees live))

      store_shows : (l.high ≡ high stored k) × (l.low ≡ low stored k)
          → ((i : ℕ) → i ≢ k → (high stored i ≡ high words i) × (low stored i ≡ low words i))
          → Shows gains stored (set views id (marked_view k g v)) (with_length r k l)
      store_shows halves others =
          let room = owned_inside gains words views id v at live r h k f has in
          marked_shows gains words views id v at live r h k f g v.seen has l owner fate (with_length r k l)
          (length_here r k l room) (λ i other. length_else r k i l other) saw_still (λ _ _. refl)
          stored (length-set words j n) (gains_with r k l gain) refl
          (h.claims_are ∙ sym (word_else 0 (λ e. absurd (omega (arith, e, past)))))
          (h.best_is ∙ sym (word_else 1 (λ e. absurd (omega (arith, e, past)))))
          (each_length (λ i x. i < length gains → (x.high ≡ high stored i) × (x.low ≡ low stored i)) r k l room
          (λ _. halves)
          (λ i other low. ((h.halves i low).0 ∙ sym (others i other).0, (h.halves i low).1 ∙ sym (others i other).1)))

  -- the high half
  pub store_high_event : (k g : ℕ) → HasFate k Open v.owned → gain_of gains k ≡ Some g
      → IsEvent gains (StoreHigh id k) words views (set words (2 + 2 * k) (g / 2 ^ 64))
      (set views id (marked_view k HalfWritten v))
  store_high_event k g has gain r sound h =
      let l : Length = record (length_at r k) { fate = HalfWritten; high = high_half (gain_at r k) } in
      let room = owned_within gains words views id v at live r h k Open has in
      let long = wide r h k room in
      let is : gain_at r k ≡ Some g = gain_is gains r h.gains_are k ∙ gain in
      let else = word_else r h k (2 + 2 * k) (g / 2 ^ 64) Open HalfWritten has l refl refl refl (omega arith) in (
        all_three (owned_by id (owner_at r k)) (is_fate (length_at r k).fate Open) (is_some (gain_at r k))
            (owner_test gains words views id v at live r h k Open has)
            (fate_test gains words views id v at live r h k Open has refl) (ap is_some is),
        store_shows r h k (2 + 2 * k) (g / 2 ^ 64) Open HalfWritten has l refl refl refl (omega arith) (
          ap high_half is ∙ sym (get_or-set_same words (2 + 2 * k) (g / 2 ^ 64) 0 (omega (arith, long))),
          (h.halves k room).1 ∙ sym (else (3 + 2 * k) (λ e. absurd (omega (arith, e)))),
        )
            (λ i other. (
              else (2 + 2 * i) (λ e. other (omega (arith, e))),
              else (3 + 2 * i) (λ e. absurd (omega (arith, e))),
            )),
      )

  -- the low half
  pub store_low_event : (k g : ℕ) → HasFate k HalfWritten v.owned → gain_of gains k ≡ Some g
      → IsEvent gains (StoreLow id k) words views (set words (3 + 2 * k) (g % 2 ^ 64))
      (set views id (marked_view k Written v))
  store_low_event k g has gain r sound h =
      let l : Length = record (length_at r k) { fate = Written; low = low_half (gain_at r k) } in
      let room = owned_within gains words views id v at live r h k HalfWritten has in
      let long = wide r h k room in
      let is : gain_at r k ≡ Some g = gain_is gains r h.gains_are k ∙ gain in
      let else = word_else r h k (3 + 2 * k) (g % 2 ^ 64) HalfWritten Written has l refl refl refl (omega arith) in (
        both (owned_by id (owner_at r k)) (is_fate (length_at r k).fate HalfWritten)
            (owner_test gains words views id v at live r h k HalfWritten has)
            (fate_test gains words views id v at live r h k HalfWritten has refl),
        store_shows r h k (3 + 2 * k) (g % 2 ^ 64) HalfWritten Written has l refl refl refl (omega arith) (
          (h.halves k room).0 ∙ sym (else (2 + 2 * k) (λ e. absurd (omega (arith, e)))),
          ap low_half is ∙ sym (get_or-set_same words (3 + 2 * k) (g % 2 ^ 64) 0 (omega (arith, long))),
        )
            (λ i other. (
              else (2 + 2 * i) (λ e. absurd (omega (arith, e))),
              else (3 + 2 * i) (λ e. other (omega (arith, e))),
            )),
      )
