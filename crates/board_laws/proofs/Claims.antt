-- A claim shows as the event Claim.
use Rattle.std.proofs.Common.{◌≡◌, ◌≢◌, ℕ, suc, ◌+◌, ◌*◌, ◌<◌, Bool, true, false, cond, ◌&&◌, not, eqb, ltb, List, []}
use Rattle.std.proofs.Common.{◌∷◌, length, set, slice_index, Option, Some, None, IsTrue, refl, ap, sym, ◌∙◌, subst}
use Rattle.std.proofs.Common.{arith, inl, inr, ⊎_elim, le_refl, length-set, get_or-set_same, get_or-set_other}
use Rattle.std.specs.List.{All}
use Rattle.std.proofs.lemmas.List.Elements.{All-weaker, All-push, Contains-push}
use Rattle.std.proofs.lemmas.Option.{none-some}
use Rattle.round_core.specs.declared.events.Event.TheVariants.{Claim}
use Rattle.round_core.specs.declared.parts.Fate.TheVariants.{Open}
use Rattle.round_core.specs.declared.parts.Stand.TheVariants.{Working, Finished, Joined}
use Rattle.round_core.specs.declared.parts.Length.{Length}
use Rattle.round_core.specs.declared.parts.Worker.{Worker}
use Rattle.round_core.specs.Rounds.{Round, length_at, owner_at, worker_at}
use Rattle.round_core.specs.Allowed.{is_working, is_live, is_allowed}
use Rattle.round_core.specs.Steps.{with_length, with_worker, after}
use Rattle.round_core.specs.Sound.{IsSound}
use Rattle.round_core.proofs.Decided.{less_of}
use Rattle.round_core.proofs.Gains.{gains_with}
use Rattle.round_core.proofs.Kept.{owned_claimed, live_room}
use Rattle.round_core.proofs.Places.{same_or_else, length_here, length_else, worker_here, worker_else, workers_count}
use Rattle.board_laws.specs.declared.views.Owned.{Owned}
use Rattle.board_laws.specs.declared.views.View.{View}
use Rattle.board_laws.specs.Views.{owned, HasLength, taking_view, finished_view, claimed_view}
use Rattle.board_laws.specs.Boards.{claims, best, high, low, IsSeat, Owns, Knows, Shows, IsEvent}
use Rattle.board_laws.proofs.Fates.{HasLength-append_left}
use Rattle.board_laws.proofs.Frames.{Left, each_length, lengths_are, step_shows}

finished_not_joined : Finished ≡ Joined → ⊥
finished_not_joined e = cc

pub working_not_joined : Working ≡ Joined → ⊥
working_not_joined e = cc

module _ (gains : List (Option ℕ)) (words : List ℕ) (views : List View) (id : ℕ) (v : View) (at : IsSeat views id v)
    (working : v.stand ≡ Working) (r : Round) (sound : IsSound r) (h : Shows gains words views r) where
  abbrev know : Knows r id v
  know = h.seats id v at

  live : IsTrue (is_live v.stand)
  live = ap is_live working

  abbrev counted_words : List ℕ
  counted_words = set words 0 (suc r.claims)

  word_else : (j : ℕ) → j ≢ 0 → slice_index counted_words j ≡ slice_index words j
  word_else j other = get_or-set_other words 0 j (suc r.claims) 0 other

  claims_is : suc r.claims ≡ claims counted_words
  claims_is = sym (get_or-set_same words 0 (suc r.claims) 0 (let w = h.words_are in omega arith))

  best_is : r.best ≡ best counted_words
  best_is = h.best_is ∙ sym (word_else 1 (λ e. absurd (omega arith)))

  -- the halves are those of the words before
  halves_in : (k : ℕ) (l : Length) → (l.high ≡ high words k) × (l.low ≡ low words k)
      → (l.high ≡ high counted_words k) × (l.low ≡ low counted_words k)
  halves_in k l p = (
    p.0 ∙ sym (word_else (2 + 2 * k) (λ e. absurd (omega arith))),
    p.1 ∙ sym (word_else (3 + 2 * k) (λ e. absurd (omega arith))),
  )

  -- ---- a length is left

  abbrev taken : Length
  taken = record (length_at r r.claims) { owner = Some id }

  abbrev taking : Round
  taking = record (with_length r r.claims taken) { claims = suc r.claims }

  module _ (room : r.claims < length r.lengths) where
    unowned : owner_at r r.claims ≡ None
    unowned = (sound.unclaimed r.claims (le_refl _)).0

    taking_left : (k : ℕ) → Left r taking id k
    taking_left k = ⊎_elim
        (λ e. inr (
          ap (λ i. owner_at taking i) e ∙ ap (λ (l : Length). l.owner) (length_here r r.claims taken room),
          λ j o. absurd (none-some j (sym unowned ∙ ap (owner_at r) (sym e) ∙ o)),
        ))
        (λ n. inl (length_else r r.claims k taken n))
        (same_or_else k r.claims)

    -- a length that the seat owns is not the one that it takes
    owned_else : (k : ℕ) → owner_at r k ≡ Some id → k ≢ r.claims
    owned_else k o e = none-some id (sym unowned ∙ ap (owner_at r) (sym e) ∙ o)

    owns_still : (e : Owned) → Owns r id e → Owns taking id e
    owns_still e o =
        let same = length_else r r.claims e.k taken (owned_else e.k o.0) in
        (ap (λ (l : Length). l.owner) same ∙ o.0, ap (λ (l : Length). l.fate) same ∙ o.1)

    owns_taken : Owns taking id (owned r.claims Open)
    owns_taken =
        let here = length_here r r.claims taken room in
        (ap (λ (l : Length). l.owner) here, ap (λ (l : Length). l.fate) here ∙ (sound.unclaimed r.claims (le_refl _)).1)

    taking_knows : Knows taking id (taking_view v r.claims)
    taking_knows = record {
      stands = know.stands;
      sees = know.sees;
      owns = All-push (Owns taking id) v.owned (owned r.claims Open)
          (All-weaker (Owns r id) (Owns taking id) owns_still v.owned know.owns) owns_taken;
      owns_all = λ k o. ⊎_elim
          (λ e. subst (λ i. HasLength i (taking_view v r.claims).owned) (sym e)
          (Open, Contains-push v.owned (owned r.claims Open)))
          (λ n. HasLength-append_left k v.owned (owned r.claims Open ∷ [])
          (know.owns_all k (sym (ap (λ (l : Length). l.owner) (length_else r r.claims k taken n)) ∙ o)))
          (same_or_else k r.claims);
      numbered = know.numbered;
      first_made = know.first_made;
      few_made = know.few_made;
      spent = λ e. absurd (working_not_joined (sym working ∙ e));
    }

    taking_halves : (k : ℕ) → k < length gains
        → ((length_at taking k).high ≡ high counted_words k) × ((length_at taking k).low ≡ low counted_words k)
    taking_halves = each_length
        (λ k l. k < length gains → (l.high ≡ high counted_words k) × (l.low ≡ low counted_words k))
        r r.claims taken room
        (λ low. halves_in r.claims (length_at r r.claims) (h.halves r.claims low))
        (λ k _ low. halves_in k (length_at r k) (h.halves k low))

    takes : Shows gains counted_words (set views id (taking_view v r.claims)) taking
    takes =
        step_shows gains words views r h id v at counted_words taking (taking_view v r.claims)
        (λ j _. refl) taking_left taking_knows refl refl (length-set words 0 (suc r.claims))
        (gains_with r r.claims taken refl) refl claims_is best_is taking_halves

  -- ---- none is left

  abbrev last : Worker
  last = record (worker_at r id) { stand = Finished }

  abbrev ending : Round
  ending = record (with_worker r id last) { claims = suc r.claims }

  here : worker_at ending id ≡ last
  here = worker_here r id last (live_room r id (subst (λ s. IsTrue (is_live s)) know.stands live))

  ending_knows : Knows ending id (finished_view v)
  ending_knows = record {
    stands = sym (ap (λ (s : Worker). s.stand) here);
    sees = λ _. know.sees live ∙ sym (ap (λ (s : Worker). s.seen) here);
    owns = know.owns;
    owns_all = know.owns_all;
    numbered = λ _. know.numbered live;
    first_made = know.first_made;
    few_made = know.few_made;
    spent = λ e. absurd (finished_not_joined e);
  }

  ends : Shows gains counted_words (set views id (finished_view v)) ending
  ends =
      step_shows gains words views r h id v at counted_words ending (finished_view v)
      (λ j n. worker_else r id j last n) (λ k. inl refl) ending_knows refl
      (ap (λ b. cond (b && not (eqb v.number 0)) 1 0 + v.joined) (sym live))
      (length-set words 0 (suc r.claims)) refl (workers_count r id last) claims_is best_is
      (λ k low. halves_in k (length_at r k) (h.halves k low))

  -- ---- the one or the other

  by : (b : Bool) → ltb r.claims (length gains) ≡ b
      → Shows gains counted_words (set views id (cond b (taking_view v r.claims) (finished_view v)))
      (record (cond b (with_length r r.claims taken) (with_worker r id last)) { claims = suc r.claims })
  by true e = takes (subst (λ n. r.claims < n) (sym (lengths_are gains r h.gains_are))
      (less_of r.claims (length gains) e))
  by false e = ends

  claim_shows : Shows gains counted_words (set views id (claimed_view (length gains) v r.claims)) (after r (Claim id))
  claim_shows =
      subst (λ b. Shows gains counted_words (set views id (claimed_view (length gains) v r.claims))
      (record (cond b (with_length r r.claims taken) (with_worker r id last)) { claims = suc r.claims }))
      (ap (ltb r.claims) (sym (lengths_are gains r h.gains_are))) (by (ltb r.claims (length gains)) refl)

  claim_allowed : IsTrue (is_allowed r (Claim id))
  claim_allowed = ap is_working (sym know.stands ∙ working)

  -- the seat's lengths are below the one that it found
  lengths_below : All (λ e. e.k < claims words) v.owned
  lengths_below = All-weaker (Owns r id) (λ e. e.k < claims words)
      (λ e o. subst (λ n. e.k < n) h.claims_are (owned_claimed r e.k id sound o.0)) v.owned know.owns

-- a claim of a seat at work
pub claim_event : (gains : List (Option ℕ)) (words : List ℕ) (views : List View) (id : ℕ) (v : View)
    → IsSeat views id v → v.stand ≡ Working
    → IsEvent gains (Claim id) words views
    (set words 0 (suc (claims words))) (set views id (claimed_view (length gains) v (claims words)))
claim_event gains words views id v at working r sound h = (
  claim_allowed gains words views id v at working r sound h,
  subst (λ n. Shows gains (set words 0 (suc n)) (set views id (claimed_view (length gains) v n)) (after r (Claim id)))
      h.claims_are (claim_shows gains words views id v at working r sound h),
)

-- it finds more claims than those of its own lengths
pub claim_rises : (gains : List (Option ℕ)) (words : List ℕ) (views : List View) (id : ℕ) (v : View)
    → IsSeat views id v → v.stand ≡ Working → (r : Round) → IsSound r → Shows gains words views r
    → All (λ e. e.k < claims words) v.owned
claim_rises = lengths_below
