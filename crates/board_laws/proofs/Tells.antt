-- What a step tells its seat, beyond what its view shows.
use Rattle.std.proofs.Common.{◌≡◌, ◌≢◌, ℕ, zero, suc, ◌/◌, ◌%◌, ◌^◌, ◌<◌, ◌≤◌, false, List, length, Option, Some}
use Rattle.std.proofs.Common.{IsTrue, refl, ap, sym, ◌∙◌, subst, arith}
use Rattle.run_theory.specs.Keys.{IsNoWorse}
use Rattle.round_core.specs.declared.parts.Fate.TheVariants.{Written, Offered}
use Rattle.round_core.specs.Rounds.{Round, length_at, gain_at, fate_at, seen_at, outranks, index_beats, high_half}
use Rattle.round_core.specs.Rounds.{low_half}
use Rattle.round_core.specs.Allowed.{is_live}
use Rattle.round_core.specs.Sound.{NamesOffered, HoldsHigh, IsSound}
use Rattle.round_core.proofs.Bounds.{claims_few}
use Rattle.round_core.proofs.Kept.{offered_room}
use Rattle.round_core.proofs.Order.{beats_one_way}
use Rattle.board_laws.specs.declared.views.View.{View}
use Rattle.board_laws.specs.Indexes.{gain_of, index_key, IsIndex}
use Rattle.board_laws.specs.Views.{HasFate}
use Rattle.board_laws.specs.Boards.{claims, best, high, low, IsSeat, Shows}
use Rattle.board_laws.proofs.Frames.{lengths_are}
use Rattle.board_laws.proofs.Marks.{know, owns_of}
use Rattle.board_laws.proofs.Orders.{gain_is, beats_index, offered_holds, offered_index, no_worse}

module _ (gains : List (Option ℕ)) (words : List ℕ) (views : List View) (r : Round) (sound : IsSound r)
    (h : Shows gains words views r) where
  -- the count of claims never wraps
  pub claims_small : claims words ≤ 80
  claims_small =
      let a = claims_few r sound in
      let b = lengths_are gains r h.gains_are in
      let c = h.few in
      let d = h.workers_are in
      let e = h.claims_are in omega (arith, a, b, c, d, e)

  -- the best index is that of a length that has a gain, or 0
  pub best_index : IsIndex gains (best words)
  best_index = subst (IsIndex gains) h.best_is (offered_index gains r h.gains_are sound r.best sound.best_offered)

  module _ (id : ℕ) (v : View) (at : IsSeat views id v) (live : IsTrue (is_live v.stand)) where
    saw : v.seen ≡ seen_at r id
    saw = (know gains words views id v at live r h).sees live

    seen_offered : NamesOffered r v.seen
    seen_offered = subst (NamesOffered r) (sym saw) (sound.seen_offered id)

    pub seen_index : IsIndex gains v.seen
    seen_index = offered_index gains r h.gains_are sound v.seen seen_offered

    seen_within : index_beats r v.seen r.best ≡ false
    seen_within = subst (λ i. index_beats r i r.best ≡ false) (sym saw) (sound.seen_within id)

    -- the best index is no worse than what the seat saw
    pub best_no_worse : IsNoWorse (index_key gains v.seen) (index_key gains (best words))
    best_no_worse =
        no_worse (index_key gains v.seen) (index_key gains (best words))
        (ap (λ i. outranks (index_key gains v.seen) (index_key gains i)) (sym h.best_is)
        ∙ sym (beats_index gains r h.gains_are v.seen r.best seen_index) ∙ seen_within)

    -- it is that of no length of the seat that is only Written
    pub best_else : (k : ℕ) → HasFate k Written v.owned → best words ≢ suc k
    best_else k has e =
        let names : NamesOffered r (suc k) = subst (NamesOffered r) (h.best_is ∙ e) sound.best_offered in
        written_offered (sym (owns_of gains words views id v at live r h k Written has).1 ∙ names) where
          written_offered : Written ≡ Offered → ⊥
          written_offered e = cc

    -- where it is another one than the seat saw, it beats that one
    pub best_above : best words ≢ v.seen → IsTrue (outranks (index_key gains (best words)) (index_key gains v.seen))
    best_above other =
        ap (λ i. outranks (index_key gains i) (index_key gains v.seen)) (sym h.best_is)
        ∙ sym (beats_index gains r h.gains_are r.best v.seen
        (offered_index gains r h.gains_are sound r.best sound.best_offered))
        ∙ by r.best v.seen sound.best_offered seen_offered seen_within (λ e. other (sym h.best_is ∙ e)) where
          some_none : (k : ℕ) → fate_at r k ≡ Offered → HoldsHigh (length_at r k)
          some_none k is = (offered_holds gains r h.gains_are sound k is).0

          by : (i j : ℕ) → NamesOffered r i → NamesOffered r j → index_beats r j i ≡ false → i ≢ j →
              IsTrue (index_beats r i j)
          by zero zero a b within apart = absurd (apart refl)
          by zero (suc j) a b within apart = sym within
          by (suc i) zero a b within apart = refl
          by (suc i) (suc j) a b within apart =
              let mine = some_none i a in
              let its = some_none j b in
              beats_one_way r j i its.0 mine.0 (λ e. apart (ap suc (sym e))) its.1 mine.1 within

    -- the words of the length that the seat saw hold the halves of its gain
    module _ (k g : ℕ) (is : v.seen ≡ suc k) (gain : gain_of gains k ≡ Some g) where
      offered : fate_at r k ≡ Offered
      offered = subst (NamesOffered r) is seen_offered

      within : k < length gains
      within = subst (λ n. k < n) (lengths_are gains r h.gains_are) (offered_room r k offered)

      gain_at_is : gain_at r k ≡ Some g
      gain_at_is = gain_is gains r h.gains_are k ∙ gain

      pub seen_high : high words k ≡ g / 2 ^ 64
      seen_high =
          let holds = offered_holds gains r h.gains_are sound k offered in
          sym (h.halves k within).0 ∙ holds.0.2 ∙ ap high_half gain_at_is

      pub seen_low : low words k ≡ g % 2 ^ 64
      seen_low =
          let holds = offered_holds gains r h.gains_are sound k offered in
          sym (h.halves k within).1 ∙ holds.1 ∙ ap low_half gain_at_is
