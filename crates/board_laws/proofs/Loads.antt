-- A load of the best index shows as LoadBest, and loads of the halves as LoadHigh and LoadLow.
use Rattle.std.proofs.Common.{◌≡◌, ℕ, suc, ◌<◌, ◌⊎◌, Bool, true, false, cond, eqb, ◌&&◌, ◌||◌, List, length, set}
use Rattle.std.proofs.Common.{Option, Some, None, IsTrue, refl, ap, sym, ◌∙◌, subst, inl, ⊎_elim, true≢false}
use Rattle.std.proofs.lemmas.Bool.{or_left, or_right}
use Rattle.atomic_table.proofs.Lists.{set_again}
use Rattle.round_core.specs.declared.events.Event.TheVariants.{LoadBest, LoadHigh, LoadLow}
use Rattle.round_core.specs.declared.parts.Fate.{Fate}
use Rattle.round_core.specs.declared.parts.Fate.TheVariants.{Open, Written, Beaten}
use Rattle.round_core.specs.declared.parts.Length.{Length}
use Rattle.round_core.specs.declared.parts.Worker.{Worker}
use Rattle.round_core.specs.Rounds.{Round, length_at, owner_at, worker_at, stand_at, seen_at}
use Rattle.round_core.specs.Allowed.{is_live, owned_by, is_fate}
use Rattle.round_core.specs.Steps.{with_fate, seeing_best, settled, after}
use Rattle.round_core.proofs.Decided.{equal_itself}
use Rattle.round_core.proofs.Gains.{gains_with}
use Rattle.round_core.proofs.Places.{length_here, length_else, worker_here, worker_else, workers_count}
use Rattle.board_laws.specs.declared.views.View.{View}
use Rattle.board_laws.specs.Indexes.{is_beaten_by}
use Rattle.board_laws.specs.Views.{HasFate, marked, looked_view, seeing_view}
use Rattle.board_laws.specs.Boards.{best, high, low, IsSeat, Knows, Shows, IsEvent}
use Rattle.board_laws.proofs.Orders.{beaten_is}
use Rattle.board_laws.proofs.Frames.{both, each_length, step_shows}
use Rattle.board_laws.proofs.Marks.{know, owned_inside, owner_test, fate_test, live_worker, worker_inside, marked_shows}

module _ (gains : List (Option ℕ)) (words : List ℕ) (views : List View) (id : ℕ) (v : View) (at : IsSeat views id v)
    (live : IsTrue (is_live v.stand)) where
  module _ (r : Round) (h : Shows gains words views r) where
    abbrev looking : Round
    looking = seeing_best r id

    abbrev saw : Worker
    saw = record (worker_at r id) { seen = r.best }

    here : worker_at looking id ≡ saw
    here = worker_here r id saw (worker_inside gains words views id v at live r h)

    looking_knows : Knows looking id (seeing_view v r.best)
    looking_knows = let k = know gains words views id v at live r h in record {
      stands = k.stands ∙ sym (ap (λ (x : Worker). x.stand) here);
      sees = λ _. sym (ap (λ (x : Worker). x.seen) here);
      owns = k.owns;
      owns_all = k.owns_all;
      numbered = k.numbered;
      first_made = k.first_made;
      few_made = k.few_made;
      spent = λ e. absurd (true≢false (sym live ∙ ap is_live e));
    }

    looking_shows : Shows gains words (set views id (seeing_view v r.best)) looking
    looking_shows =
        step_shows gains words views r h id v at words looking (seeing_view v r.best)
        (λ j n. worker_else r id j saw n) (λ k. inl refl) looking_knows refl refl refl refl (workers_count r id saw)
        h.claims_are h.best_is h.halves

    -- the length is beaten
    beaten_shows : (k : ℕ) (f : Fate) → HasFate k f v.owned
        → Shows gains words (set views id (record v { seen = r.best; owned = marked k Beaten v.owned }))
        (with_fate looking k Beaten)
    beaten_shows k f has =
        let l : Length = record (length_at r k) { fate = Beaten } in
        let room = owned_inside gains words views id v at live r h k f has in
        marked_shows gains words views id v at live r h k f Beaten r.best has l refl refl (with_fate looking k Beaten)
        (length_here looking k l room) (λ j n. length_else looking k j l n) here (λ j n. worker_else r id j saw n)
        words refl (gains_with looking k l refl) (workers_count r id saw) h.claims_are h.best_is
        (each_length (λ i x. i < length gains → (x.high ≡ high words i) × (x.low ≡ low words i)) looking k l room
        (h.halves k) (λ i _. h.halves i))

    settles_by : (k : ℕ) (f : Fate) → HasFate k f v.owned → (b : Bool)
        → Shows gains words
        (set views id (record v { seen = r.best; owned = cond b (marked k Beaten v.owned) v.owned }))
        (cond b (with_fate looking k Beaten) looking)
    settles_by k f has true = beaten_shows k f has
    settles_by k f has false = looking_shows

    -- the length is settled as the round says
    pub settle_shows : (k : ℕ) (f : Fate) → HasFate k f v.owned
        → Shows gains words (set views id (looked_view gains (Some k) v r.best)) (settled looking k)
    settle_shows k f has =
        subst (λ b. Shows gains words (set views id (looked_view gains (Some k) v r.best))
        (cond b (with_fate looking k Beaten) looking))
        (sym (beaten_is gains looking h.gains_are k)) (settles_by k f has (is_beaten_by gains r.best k))

  -- a look
  pub look_event : IsEvent gains (LoadBest id None) words views words
      (set views id (looked_view gains None v (best words)))
  look_event r sound h = (
    both (is_live (stand_at r id)) true (live_worker gains words views id v at live r h) refl,
    subst (λ i. Shows gains words (set views id (seeing_view v i)) (after r (LoadBest id None))) h.best_is
        (looking_shows r h),
  )

  -- a length that may be settled
  pub settle_event : (k : ℕ) → HasFate k Open v.owned ⊎ HasFate k Written v.owned
      → IsEvent gains (LoadBest id (Some k)) words views words
      (set views id (looked_view gains (Some k) v (best words)))
  settle_event k has r sound h = (
    both (is_live (stand_at r id)) (owned_by id (owner_at r k) && (is_open || is_written))
        (live_worker gains words views id v at live r h) may,
    subst (λ i. Shows gains words (set views id (looked_view gains (Some k) v i)) (after r (LoadBest id (Some k))))
        h.best_is
        (⊎_elim (λ x. settle_shows r h k Open x) (λ x. settle_shows r h k Written x) has),
  ) where
    is_open : Bool
    is_open = is_fate (length_at r k).fate Open

    is_written : Bool
    is_written = is_fate (length_at r k).fate Written

    may : IsTrue (owned_by id (owner_at r k) && (is_open || is_written))
    may = ⊎_elim
        (λ x. both (owned_by id (owner_at r k)) (is_open || is_written)
        (owner_test gains words views id v at live r h k Open x)
        (or_left is_open is_written (fate_test gains words views id v at live r h k Open x refl)))
        (λ x. both (owned_by id (owner_at r k)) (is_open || is_written)
        (owner_test gains words views id v at live r h k Written x)
        (or_right is_open is_written (fate_test gains words views id v at live r h k Written x refl)))
        has

  -- ---- the halves of the length that the seat saw: nothing changes

  seen_test : (k : ℕ) → v.seen ≡ suc k → (r : Round) → Shows gains words views r → IsTrue (eqb (seen_at r id) (suc k))
  seen_test k is r h =
      ap (λ i. eqb i (suc k)) (sym ((know gains words views id v at live r h).sees live) ∙ is) ∙ equal_itself (suc k)

  same_views : (r : Round) → Shows gains words views r → Shows gains words (set views id v) r
  same_views r h = subst (λ vs. Shows gains words vs r) (sym (set_again views id v at)) h

  pub load_high_event : (k : ℕ) → v.seen ≡ suc k → IsEvent gains (LoadHigh id k) words views words (set views id v)
  load_high_event k is r sound h = (seen_test k is r h, same_views r h)

  pub load_low_event : (k : ℕ) → v.seen ≡ suc k → IsEvent gains (LoadLow id k) words views words (set views id v)
  load_low_event k is r sound h = (seen_test k is r h, same_views r h)

-- both
pub half_events : (gains : List (Option ℕ)) (words : List ℕ) (views : List View) (id : ℕ) (v : View)
    → IsSeat views id v → IsTrue (is_live v.stand) → (k : ℕ) → v.seen ≡ suc k
    → IsEvent gains (LoadHigh id k) words views words (set views id v)
    × IsEvent gains (LoadLow id k) words views words (set views id v)
half_events gains words views id v at live k is =
    (load_high_event gains words views id v at live k is, load_low_event gains words views id v at live k is)
