-- Each atomic step is allowed by the rule of the board's table, and tells what it says.
use Rattle.std.proofs.Common.{◌≡◌, ◌≢◌, ℕ, suc, ◌+◌, ◌*◌, ◌/◌, ◌%◌, ◌^◌, ◌<◌, ◌≤◌, ◌⊎◌, eqb, List, [], ◌∷◌, length}
use Rattle.std.proofs.Common.{take, replicate, set, slice_index, Option, Some, None, IfSome, IsTrue, refl, ap, sym, ◌∙◌}
use Rattle.std.proofs.Common.{subst, arith, add-one, eq-eqb, ne_eqb}
use Rattle.std.proofs.lemmas.List.{set-get_or, take-replicate}
use mathlib.Core.Option.{none}
use mathlib.Core.Logic.{dite}
use native.Mathlib.Decide.{ℕ_discrete}
use prog.Atomic.{either}
use Rattle.atomic_table.specs.Table.{State, step, keeps, stepped, Allows, Splits, Joins}
use Rattle.round_core.specs.declared.events.Event.TheVariants.{Claim, StoreHigh, StoreLow, LoadBest, LoadHigh, LoadLow}
use Rattle.round_core.specs.declared.events.Event.TheVariants.{Exchange, SplitSeat, JoinSeat}
use Rattle.round_core.specs.declared.parts.Fate.TheVariants.{Open, HalfWritten, Written, Offered}
use Rattle.round_core.specs.declared.parts.Stand.TheVariants.{Working}
use Rattle.round_core.specs.Rounds.{outranks}
use Rattle.round_core.specs.Allowed.{is_live}
use Rattle.board_laws.specs.declared.views.View.{View}
use Rattle.board_laws.specs.Indexes.{gain_of, length_key, index_key}
use Rattle.board_laws.specs.Views.{HasFate, opening_view, spent_view, claimed_view, looked_view, marked_view}
use Rattle.board_laws.specs.Views.{settling_view, splitting_view, fresh_view, joined_view}
use Rattle.board_laws.specs.Boards.{IsBoard, claims, best}
use Rattle.board_laws.proofs.Claims.{claim_event, claim_rises}
use Rattle.board_laws.proofs.Stores.{store_high_event, store_low_event}
use Rattle.board_laws.proofs.Loads.{look_event, settle_event, load_high_event, load_low_event}
use Rattle.board_laws.proofs.Exchanges.{offer_event, miss_event}
use Rattle.board_laws.proofs.Splits.{split_event}
use Rattle.board_laws.proofs.Joins.{join_event}
use Rattle.board_laws.proofs.Reached.{reached_sound, board_after}
use Rattle.board_laws.proofs.Tells.{claims_small, best_index, best_no_worse, best_else, best_above, seen_high, seen_low}
use Rattle.board_laws.proofs.Ends.{board_first}
use Rattle.incumbent.specs.Plays.{Sat, Ruled, Claims, Looks, StoresHigh, StoresLow, ReadsHigh, ReadsLow, Exchanges}

abbrev Table : Type 0
Table = State (Unit {0}) View

module _ (gains : List (Option ℕ)) (slots id : ℕ) (me : Sat) (live : IsTrue (is_live me.0.stand)) where
  -- a load leaves the words as they are
  same_words : (s : Table) (word : ℕ) (w : View) → IsBoard gains s.words (set s.views id w)
      → Ruled gains (stepped s word (slice_index s.words word) id me.1 w keeps)
  same_words s word w board = subst (λ ws. IsBoard gains ws (set s.views id w)) (sym (set-get_or s.words word 0)) board

  -- ---- the best index

  pub look_allowed : Allows (Ruled gains) slots id me 1 (λ n. n) (Looks gains None (step slots 1 0 0 none) me)
  look_allowed s h _ at _ =
      let sound = reached_sound gains h.0 h.1 in
      let w : View = looked_view gains None me.0 (best s.words) in (
        w,
        keeps,
        tt,
        same_words s 1 w (board_after gains (LoadBest id None) s.words s.words s.views (set s.views id w)
            (look_event gains s.words s.views id me.0 at live) h),
        (
          refl,
          best_index gains s.words s.views h.0 sound h.2,
          best_no_worse gains s.words s.views h.0 sound h.2 id me.0 at live,
          best_else gains s.words s.views h.0 sound h.2 id me.0 at live,
        ),
      )

  pub settle_allowed : (k : ℕ) → HasFate k Open me.0.owned ⊎ HasFate k Written me.0.owned
      → Allows (Ruled gains) slots id me 1 (λ n. n) (Looks gains (Some k) (step slots 1 0 0 none) me)
  settle_allowed k has s h _ at _ =
      let sound = reached_sound gains h.0 h.1 in
      let w : View = looked_view gains (Some k) me.0 (best s.words) in (
        w,
        keeps,
        tt,
        same_words s 1 w (board_after gains (LoadBest id (Some k)) s.words s.words s.views (set s.views id w)
            (settle_event gains s.words s.views id me.0 at live k has) h),
        (
          refl,
          best_index gains s.words s.views h.0 sound h.2,
          best_no_worse gains s.words s.views h.0 sound h.2 id me.0 at live,
          best_else gains s.words s.views h.0 sound h.2 id me.0 at live,
        ),
      )

  pub load_best_allowed : (settles aim : Option ℕ) → settles ≡ aim
      → IfSome settles (λ k. HasFate k Open me.0.owned ⊎ HasFate k Written me.0.owned)
      → Allows (Ruled gains) slots id me 1 (λ n. n) (Looks gains aim (step slots 1 0 0 none) me)
  load_best_allowed settles aim is has =
      subst (λ a. Allows (Ruled gains) slots id me 1 (λ n. n) (Looks gains a (step slots 1 0 0 none) me)) is
      (by settles has)
    where
      by : (a : Option ℕ) → IfSome a (λ k. HasFate k Open me.0.owned ⊎ HasFate k Written me.0.owned)
          → Allows (Ruled gains) slots id me 1 (λ n. n) (Looks gains a (step slots 1 0 0 none) me)
      by None _ = look_allowed
      by (Some k) has = settle_allowed k has

  -- ---- the halves

  pub store_high_allowed : (k g half : ℕ) → HasFate k Open me.0.owned → gain_of gains k ≡ Some g → half ≡ g / 2 ^ 64
      → Allows (Ruled gains) slots id me (2 + 2 * k) (λ _. half) (λ _. StoresHigh (step slots (2 + 2 * k) half 0 none)
      me half)
  store_high_allowed k g half has gain is s h _ at _ =
      let w : View = marked_view k HalfWritten me.0 in (
        w,
        keeps,
        tt,
        subst (λ z. Ruled gains (stepped s (2 + 2 * k) z id me.1 w keeps)) (sym is)
            (board_after gains (StoreHigh id k) s.words (set s.words (2 + 2 * k) (g / 2 ^ 64)) s.views
            (set s.views id w)
            (store_high_event gains s.words s.views id me.0 at live k g has gain) h),
        λ j e. let same : k ≡ j = omega (arith, e) in ap (λ i. (marked_view i HalfWritten me.0, me.1)) same,
      )

  pub store_low_allowed : (k g half : ℕ) → HasFate k HalfWritten me.0.owned → gain_of gains k ≡ Some g →
      half ≡ g % 2 ^ 64
      → Allows (Ruled gains) slots id me (3 + 2 * k) (λ _. half) (λ _. StoresLow (step slots (3 + 2 * k) half 0 none) me
      half)
  store_low_allowed k g half has gain is s h _ at _ =
      let w : View = marked_view k Written me.0 in (
        w,
        keeps,
        tt,
        subst (λ z. Ruled gains (stepped s (3 + 2 * k) z id me.1 w keeps)) (sym is)
            (board_after gains (StoreLow id k) s.words (set s.words (3 + 2 * k) (g % 2 ^ 64)) s.views (set s.views id w)
            (store_low_event gains s.words s.views id me.0 at live k g has gain) h),
        λ j e. let same : k ≡ j = omega (arith, e) in ap (λ i. (marked_view i Written me.0, me.1)) same,
      )

  pub load_high_allowed : (k : ℕ) → me.0.seen ≡ suc k
      → Allows (Ruled gains) slots id me (2 + 2 * k) (λ n. n) (ReadsHigh gains (step slots (2 + 2 * k) 0 0 none) me)
  load_high_allowed k is s h _ at _ = (
    me.0,
    keeps,
    tt,
    same_words s (2 + 2 * k) me.0 (board_after gains (LoadHigh id k) s.words s.words s.views (set s.views id me.0)
        (load_high_event gains s.words s.views id me.0 at live k is) h),
    (
      refl,
      λ j g e gain. let same : j ≡ k = omega (arith, e) in
          seen_high gains s.words s.views h.0 (reached_sound gains h.0 h.1) h.2 id me.0 at live k g is
          (subst (λ i. gain_of gains i ≡ Some g) same gain),
    ),
  )

  pub load_low_allowed : (k : ℕ) → me.0.seen ≡ suc k
      → Allows (Ruled gains) slots id me (3 + 2 * k) (λ n. n) (ReadsLow gains (step slots (3 + 2 * k) 0 0 none) me)
  load_low_allowed k is s h _ at _ = (
    me.0,
    keeps,
    tt,
    same_words s (3 + 2 * k) me.0 (board_after gains (LoadLow id k) s.words s.words s.views (set s.views id me.0)
        (load_low_event gains s.words s.views id me.0 at live k is) h),
    (
      refl,
      λ j g e gain. let same : j ≡ k = omega (arith, e) in
          seen_low gains s.words s.views h.0 (reached_sound gains h.0 h.1) h.2 id me.0 at live k g is
          (subst (λ i. gain_of gains i ≡ Some g) same gain),
    ),
  )

  -- ---- the exchange

  module _ (k expected : ℕ) (has : HasFate k Written me.0.owned) (is : me.0.seen ≡ expected)
      (beats : IsTrue (outranks (length_key gains k) (index_key gains expected))) where
    exchange_allowed : Allows (Ruled gains) slots id me 1 (λ n. either (eqb n expected) (suc k) n)
        (Exchanges gains (step slots 1 expected (suc k) none) me)
    exchange_allowed s h _ at _ = let n : ℕ = best s.words in dite (ℕ_discrete n expected)
        (λ hit.
        let w : View = settling_view me.0 k Offered (suc k) in (
          w,
          keeps,
          tt,
          subst (λ b. Ruled gains (stepped s 1 (either b (suc k) n) id me.1 w keeps)) (sym (eq-eqb n expected hit))
              (board_after gains (Exchange id expected k) s.words (set s.words 1 (suc k)) s.views (set s.views id w)
              (offer_event gains s.words s.views id me.0 at live k has expected is beats hit) h),
          λ j e. let same : k ≡ j = omega (arith, e) in
              ((λ _. ap (λ i. (settling_view me.0 i Offered (suc i), me.1)) same), λ miss. absurd (miss hit)),
        ))
        (λ miss.
        let sound = reached_sound gains h.0 h.1 in
        let w : View = looked_view gains (Some k) me.0 n in (
          w,
          keeps,
          tt,
          subst (λ b. Ruled gains (stepped s 1 (either b (suc k) n) id me.1 w keeps)) (sym (ne_eqb n expected miss))
              (same_words s 1 w (board_after gains (Exchange id expected k) s.words s.words s.views (set s.views id w)
              (miss_event gains s.words s.views id me.0 at live k has expected is beats miss) h)),
          λ j e. let same : k ≡ j = omega (arith, e) in (
            (λ hit. absurd (miss hit)),
            λ _. (
              ap (λ i. (looked_view gains (Some i) me.0 n, me.1)) same,
              best_index gains s.words s.views h.0 sound h.2,
              best_above gains s.words s.views h.0 sound h.2 id me.0 at live (λ q. miss (q ∙ is)),
              λ q. best_else gains s.words s.views h.0 sound h.2 id me.0 at live k has (q ∙ ap suc (sym same)),
            ),
          ),
        ))

    -- the new index, as the step computes it
    pub exchange_allowed_next : Allows (Ruled gains) slots id me 1 (λ n. either (eqb n expected) (k + 1) n)
        (Exchanges gains (step slots 1 expected (k + 1) none) me)
    exchange_allowed_next =
        subst (λ z. Allows (Ruled gains) slots id me 1 (λ n. either (eqb n expected) z n)
        (Exchanges gains (step slots 1 expected z none) me)) (sym (add-one k)) exchange_allowed

  -- ---- seats

  pub split_allowed : me.0.number ≡ 0 → me.0.made < 15
      → Splits (Ruled gains) id me.0 (splitting_view me.0) (fresh_view me.0)
  split_allowed number room s h at =
      board_after gains (SplitSeat id (suc me.0.made)) s.words s.words s.views _
      (split_event gains s.words s.views id me.0 at live number room) h

  pub join_allowed : (other : ℕ) (w : View) → IsTrue (is_live w.stand) → w.number ≢ 0
      → Joins (Ruled gains) id me.0 other w (joined_view gains me.0 w) spent_view
  join_allowed other w live_other number s h at apart at_other =
      board_after gains (JoinSeat id other) s.words s.words s.views _
      (join_event gains s.words s.views id me.0 at live other w apart at_other live_other number) h

-- ---- claims

pub claim_allowed : (gains : List (Option ℕ)) (slots id : ℕ) (me : Sat) → me.0.stand ≡ Working
    → Allows (Ruled gains) slots id me 0 (λ n. (n + 1) % 2 ^ 64) (Claims gains (step slots 0 1 0 none) me)
claim_allowed gains slots id me working s h _ at _ =
    let n : ℕ = claims s.words in
    let sound = reached_sound gains h.0 h.1 in
    let w : View = claimed_view (length gains) me.0 n in
    let small = claims_small gains s.words s.views h.0 sound h.2 in
    let one : suc n ≡ (n + 1) % 2 ^ 64 = omega (arith, small) in (
      w,
      keeps,
      tt,
      subst (λ z. Ruled gains (stepped s 0 z id me.1 w keeps)) one
          (board_after gains (Claim id) s.words (set s.words 0 (suc n)) s.views (set s.views id w)
          (claim_event gains s.words s.views id me.0 at working) h),
      (refl, claim_rises gains s.words s.views id me.0 at working h.0 sound h.2),
    )

-- ---- the beginning

pub first_allowed : (gains : List (Option ℕ)) → length gains ≤ 64
    → IsBoard gains (take (2 + 2 * length gains) (replicate 130 0)) (opening_view ∷ [])
first_allowed gains few =
    subst (λ ws. IsBoard gains ws (opening_view ∷ []))
    (sym (take-replicate (2 + 2 * length gains) 130 0 (omega (arith, few)))) (board_first gains few)
