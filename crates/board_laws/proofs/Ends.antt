-- How a board begins, and what its end shows.
use Rattle.std.proofs.Common.{◌≡◌, ◌≢◌, ℕ, zero, suc, ◌+◌, ◌*◌, ◌<◌, ◌≤◌, true, cond, eqb, not, ◌&&◌, ◌||◌, List, []}
use Rattle.std.proofs.Common.{◌∷◌, length, replicate, get_or, Option, Some, None, IsTrue, refl, ap, sym, ◌∙◌, subst}
use Rattle.std.proofs.Common.{arith, ⊎_elim, true≢false, ne_eqb, get_or-set_same, get_or-set_other, length-set}
use Rattle.std.specs.List.{list_all}
use Rattle.std.proofs.lemmas.List.{length-replicate, get_or-replicate}
use Rattle.std.proofs.lemmas.List.Elements.{All-nil, All-contains}
use Rattle.std.proofs.lemmas.Option.{none-some}
use mathlib.Core.Option.{some-injective, some-ne-none}
use Rattle.run_theory.specs.Bests.{IsBestByGains}
use Rattle.round_core.specs.declared.parts.Fate.TheVariants.{Offered, Beaten}
use Rattle.round_core.specs.declared.parts.Stand.TheVariants.{Working, Joined}
use Rattle.round_core.specs.declared.parts.Length.{Length}
use Rattle.round_core.specs.declared.parts.Worker.{Worker}
use Rattle.round_core.specs.Rounds.{Round, unclaimed, no_worker, length_at, owner_at, fate_at, worker_at, stand_at}
use Rattle.round_core.specs.Rounds.{first_round}
use Rattle.round_core.specs.Allowed.{is_live, is_fate}
use Rattle.round_core.specs.Steps.{is_settled}
use Rattle.round_core.specs.Sound.{NamesOffered, IsSound}
use Rattle.round_core.proofs.Decided.{less_or_not}
use Rattle.round_core.proofs.Gains.{gains_first, reached_by_gains}
use Rattle.round_core.proofs.Kept.{offered_room}
use Rattle.round_core.proofs.Places.{same_or_else, get_map}
use Rattle.board_laws.specs.declared.views.View.{View}
use Rattle.board_laws.specs.Indexes.{length_of}
use Rattle.board_laws.specs.Views.{owned, HasFate, HasLength, opening_view, seats_in}
use Rattle.board_laws.specs.Boards.{best, IsSeat, Owns, Knows, Shows, IsBoard}
use Rattle.board_laws.specs.Closing.{IsSettled, MayClose}
use Rattle.board_laws.proofs.Seats.{place_holds, sum-two}
use Rattle.board_laws.proofs.Frames.{lengths_are}
use Rattle.board_laws.proofs.Splits.{made_total}
use Rattle.board_laws.proofs.Reached.{reached_sound}

-- ---- the beginning

module _ (gains : List (Option ℕ)) (few : length gains ≤ 64) where
  abbrev begun : Round
  begun = first_round gains 16

  abbrev first : Worker
  first = record { stand = Working; seen = 0 }

  abbrev workers : List Worker
  workers = replicate 16 no_worker

  length_is : (k : ℕ) → length_at begun k ≡ unclaimed (get_or gains k None)
  length_is k = get_map unclaimed gains k None (unclaimed None) refl

  unowned : (k i : ℕ) → owner_at begun k ≢ Some i
  unowned k i o = none-some i (sym (ap (λ (l : Length). l.owner) (length_is k)) ∙ o)

  first_here : worker_at begun 0 ≡ first
  first_here = get_or-set_same workers 0 first no_worker
      (subst (λ n. 0 < n) (sym (length-replicate 16 no_worker)) (omega arith))

  absent_else : (i : ℕ) → i ≢ 0 → worker_at begun i ≡ no_worker
  absent_else i n = get_or-set_other workers 0 i first no_worker n ∙ each 16 i where
    each : (m i : ℕ) → get_or (replicate m no_worker) i no_worker ≡ no_worker
    each zero i = refl
    each (suc m) zero = refl
    each (suc m) (suc i) = each m i

  opening_knows : Knows begun 0 opening_view
  opening_knows = record {
    stands = sym (ap (λ (s : Worker). s.stand) first_here);
    sees = λ _. sym (ap (λ (s : Worker). s.seen) first_here);
    owns = All-nil _;
    owns_all = λ k o. absurd (unowned k 0 o);
    numbered = λ _. refl;
    first_made = λ _. refl;
    few_made = omega arith;
    spent = λ e. absurd (working_joined e);
  } where
    working_joined : Working ≡ Joined → ⊥
    working_joined e = cc

  -- a board whose words are all 0, with its opening seat
  pub board_first : IsBoard gains (replicate (2 + 2 * length gains) 0) (opening_view ∷ [])
  board_first = (
    begun,
    ([], refl),
    record {
      words_are = length-replicate _ 0;
      few = few;
      gains_are = gains_first gains 16;
      workers_are = length-set workers 0 first ∙ length-replicate 16 no_worker;
      claims_are = sym (get_or-replicate _ 0 0 0 (omega arith));
      best_is = sym (get_or-replicate _ 1 0 0 (omega arith));
      halves = λ k low. (
        ap (λ (l : Length). l.high) (length_is k) ∙ sym (get_or-replicate _ (2 + 2 * k) 0 0 (omega (arith, low))),
        ap (λ (l : Length). l.low) (length_is k) ∙ sym (get_or-replicate _ (3 + 2 * k) 0 0 (omega (arith, low))),
      );
      seats = each;
      absent = λ i past. ap (λ (s : Worker). s.stand) (absent_else i (λ e. absurd (omega (arith, e, past))));
      counted = refl;
      numbers = refl;
    },
  ) where
    each : (i : ℕ) (v : View) → IsSeat (opening_view ∷ []) i v → Knows begun i v
    each zero v is = subst (Knows begun 0) (some-injective opening_view v is) opening_knows
    each (suc i) v is = absurd (some-ne-none v (sym is))

-- ---- the end

module _ (gains : List (Option ℕ)) (words : List ℕ) (views : List View) (id : ℕ) (v : View) (at : IsSeat views id v)
    (live : IsTrue (is_live v.stand)) (may : MayClose gains v) where
  module _ (r : Round) (sound : IsSound r) (h : Shows gains words views r) where
    abbrev mine : Knows r id v
    mine = h.seats id v at

    opening_place : id ≡ 0
    opening_place = sym (mine.numbered live) ∙ may.opening

    at_opening : IsSeat views 0 v
    at_opening = subst (λ i. IsSeat views i v) opening_place at

    -- a live worker is a seat
    live_seat : (i : ℕ) → IsTrue (is_live (stand_at r i)) → (u : View) × IsSeat views i u
    live_seat i l = ⊎_elim
        (λ lt. place_holds views i lt)
        (λ past. absurd (true≢false (sym l ∙ ap is_live (h.absent i past))))
        (less_or_not i (length views))

    -- another seat in use counts as one
    counts_one : (i : ℕ) (u : View) → Knows r i u → i ≢ 0 → IsTrue (is_live u.stand) → seats_in u ≡ suc u.joined
    counts_one i u know other l =
        ap (λ b. cond (b && not (eqb u.number 0)) 1 0 + u.joined) l
        ∙ ap (λ b. cond (true && not b) 1 0 + u.joined) (ne_eqb u.number 0 (λ e. other (sym (know.numbered l) ∙ e)))
        ∙ omega arith

    -- every live worker is the opening seat
    alone : (i : ℕ) → IsTrue (is_live (stand_at r i)) → i ≡ 0
    alone i l = ⊎_elim (λ e. e)
        (λ other.
        let u = live_seat i l in
        let know = h.seats i u.0 u.1 in
        let a = counts_one i u.0 know other (subst (λ s. IsTrue (is_live s)) (sym know.stands) l) in
        let b = sum-two seats_in views i 0 u.0 v other u.1 at_opening in
        let c = made_total gains words views r v h at_opening in
        let d = h.counted in
        let e = may.alone in
        let f : v.joined ≤ seats_in v = omega arith in absurd (omega (arith, a, b, c, d, e, f)))
        (same_or_else i 0)

    -- every length is the opening seat's
    owned_all : (k : ℕ) → k < length r.lengths → HasLength k v.owned
    owned_all k inside = ⊎_elim
        (λ e.
        let past = sound.finished id (sym mine.stands ∙ e) in
        let c = sound.claimed k (omega (arith, inside, past)) inside in
        let is : c.0 ≡ id = alone c.0 c.2 ∙ sym opening_place in
        mine.owns_all k (c.1 ∙ ap Some is))
        (λ all. all k (subst (λ n. k < n) (lengths_are gains r h.gains_are) inside))
        may.past

    settled_at : (k : ℕ) → k < length r.lengths → IsTrue (is_fate (fate_at r k) Offered || is_fate (fate_at r k) Beaten)
    settled_at k inside =
        let has = owned_all k inside in
        let own = All-contains (Owns r id) v.owned (owned k has.0) mine.owns has.1 in
        ap (λ x. is_fate x Offered || is_fate x Beaten) own.1
        ∙ All-contains IsSettled v.owned (owned k has.0) may.settled has.1

    all_settled : IsTrue (is_settled r)
    all_settled = every r.lengths settled_at where
      every : (ls : List Length)
          → ((k : ℕ) → k < length ls → IsTrue (is_fate (get_or ls k (unclaimed None)).fate Offered || is_fate
          (get_or ls k (unclaimed None)).fate Beaten))
          → IsTrue (list_all (λ l. is_fate l.fate Offered || is_fate l.fate Beaten) ls)
      every [] each = refl
      every (l ∷ ls) each = λ t. each 0 (omega arith) t && every ls (λ k low. each (suc k) (omega (arith, low))) t

    -- the best length is one that the seat offered
    best_offered : (k : ℕ) → best words ≡ suc k → HasFate k Offered v.owned
    best_offered k is =
        let offered : fate_at r k ≡ Offered = subst (NamesOffered r) (h.best_is ∙ is) sound.best_offered in
        let low = offered_room r k offered in
        let has = owned_all k low in
        let own = All-contains (Owns r id) v.owned (owned k has.0) mine.owns has.1 in
        subst (λ f. HasFate k f v.owned) (sym own.1 ∙ offered) has.1

  -- at its end a board names the length that is best by the gains, and the seat offered it
  pub board_ends : IsBoard gains words views
      → IsBestByGains gains (length_of (best words)) × ((k : ℕ) → best words ≡ suc k → HasFate k Offered v.owned)
  board_ends (r, path, shows) =
      let sound = reached_sound gains r path in (
        subst (IsBestByGains gains) (named r.best (best words) shows.best_is)
            (reached_by_gains gains 16 path.0 r (omega arith) path.1 (all_settled r sound shows)),
        best_offered r sound shows,
      ) where
        named : (i j : ℕ) → i ≡ j → elim i [ zero ↦ None | suc k ↦ Some k ] ≡ length_of j
        named i j e = ap (λ n. elim n [ zero ↦ None | suc k ↦ Some k ]) e ∙ same j where
          same : (j : ℕ) → elim j [ zero ↦ None | suc k ↦ Some k ] ≡ length_of j
          same zero = refl
          same (suc k) = refl
