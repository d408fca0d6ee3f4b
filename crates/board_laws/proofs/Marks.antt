-- A step that gives one length of its seat another fate.
use Rattle.std.proofs.Common.{◌≡◌, ◌≢◌, ℕ, ◌<◌, true, List, length, set, Option, Some, IsTrue, refl, ap, sym, ◌∙◌}
use Rattle.std.proofs.Common.{subst, inl, inr, ⊎_elim, true≢false}
use Rattle.std.proofs.lemmas.List.Elements.{All-contains}
use Rattle.std.proofs.lemmas.Option.{same_Some}
use Rattle.round_core.specs.declared.parts.Fate.{Fate}
use Rattle.round_core.specs.declared.parts.Length.{Length}
use Rattle.round_core.specs.declared.parts.Worker.{Worker}
use Rattle.round_core.specs.Rounds.{Round, length_at, owner_at, worker_at, stand_at, gains_of}
use Rattle.round_core.specs.Allowed.{is_live, is_fate, owned_by}
use Rattle.round_core.proofs.Decided.{equal_itself}
use Rattle.round_core.proofs.Kept.{owned_room, live_room}
use Rattle.round_core.proofs.Places.{same_or_else}
use Rattle.board_laws.specs.declared.views.View.{View}
use Rattle.board_laws.specs.Views.{owned, HasFate, settling_view}
use Rattle.board_laws.specs.Boards.{claims, best, high, low, IsSeat, Owns, Knows, Shows}
use Rattle.board_laws.proofs.Fates.{All-marked, marked_keeps}
use Rattle.board_laws.proofs.Frames.{Touched, Left, lengths_are, step_shows}

module _ (gains : List (Option ℕ)) (words : List ℕ) (views : List View) (id : ℕ) (v : View) (at : IsSeat views id v)
    (live : IsTrue (is_live v.stand)) (r : Round) (h : Shows gains words views r) where
  abbrev pub know : Knows r id v
  know = h.seats id v at

  -- a length of the seat is the worker's, and has the fate in the round
  pub owns_of : (k : ℕ) (f : Fate) → HasFate k f v.owned → Owns r id (owned k f)
  owns_of k f has = All-contains (Owns r id) v.owned (owned k f) know.owns has

  -- it is one of the round's
  pub owned_inside : (k : ℕ) (f : Fate) → HasFate k f v.owned → k < length r.lengths
  owned_inside k f has = owned_room r k id (owns_of k f has).0

  pub owned_within : (k : ℕ) (f : Fate) → HasFate k f v.owned → k < length gains
  owned_within k f has = subst (λ n. k < n) (lengths_are gains r h.gains_are) (owned_inside k f has)

  -- the tests of an event that the worker owns the length, and that it has the fate
  pub owner_test : (k : ℕ) (f : Fate) → HasFate k f v.owned → IsTrue (owned_by id (owner_at r k))
  owner_test k f has = ap (owned_by id) (owns_of k f has).0 ∙ equal_itself id

  pub fate_test : (k : ℕ) (f : Fate) → HasFate k f v.owned → is_fate f f ≡ true →
      IsTrue (is_fate (length_at r k).fate f)
  fate_test k f has same = ap (λ x. is_fate x f) (owns_of k f has).1 ∙ same

  -- the worker is live
  pub live_worker : IsTrue (is_live (stand_at r id))
  live_worker = subst (λ s. IsTrue (is_live s)) know.stands live

  pub worker_inside : id < length r.workers
  worker_inside = live_room r id live_worker

  -- one length of the worker is l in the round after, the others are what they were, and the worker saw s
  module _ (k : ℕ) (f g : Fate) (s : ℕ) (has : HasFate k f v.owned) (l : Length) (owner : l.owner ≡ owner_at r k)
      (fate : l.fate ≡ g) (r' : Round) (here : length_at r' k ≡ l)
      (else : (j : ℕ) → j ≢ k → length_at r' j ≡ length_at r j)
      (mine : worker_at r' id ≡ record (worker_at r id) { seen = s })
      (workers : (j : ℕ) → j ≢ id → worker_at r' j ≡ worker_at r j) where
    owner_still : owner_at r' k ≡ Some id
    owner_still = ap (λ (x : Length). x.owner) here ∙ owner ∙ (owns_of k f has).0

    marked_left : (j : ℕ) → Left r r' id j
    marked_left j = ⊎_elim
        (λ e. inr (subst (Touched r r' id) (sym e) (owner_still, λ i o. same_Some i id (sym o ∙ (owns_of k f has).0))))
        (λ n. inl (else j n))
        (same_or_else j k)

    owned_before : (j : ℕ) → owner_at r' j ≡ Some id → owner_at r j ≡ Some id
    owned_before j o = ⊎_elim
        (λ e. subst (λ i. owner_at r i ≡ Some id) (sym e) (owns_of k f has).0)
        (λ n. sym (ap (λ (x : Length). x.owner) (else j n)) ∙ o)
        (same_or_else j k)

    marked_knows : Knows r' id (settling_view v k g s)
    marked_knows = record {
      stands = know.stands ∙ sym (ap (λ (x : Worker). x.stand) mine);
      sees = λ _. sym (ap (λ (x : Worker). x.seen) mine);
      owns = All-marked (Owns r id) (Owns r' id) k g v.owned
          (owner_still, ap (λ (x : Length). x.fate) here ∙ fate)
          (λ e n o. (ap (λ (x : Length). x.owner) (else e.k n) ∙ o.0, ap (λ (x : Length). x.fate) (else e.k n) ∙ o.1))
          know.owns;
      owns_all = λ j o. marked_keeps j k g v.owned (know.owns_all j (owned_before j o));
      numbered = know.numbered;
      first_made = know.first_made;
      few_made = know.few_made;
      spent = λ e. absurd (true≢false (sym live ∙ ap is_live e));
    }

    pub marked_shows : (words' : List ℕ) → length words' ≡ length words → gains_of r' ≡ gains_of r
        → length r'.workers ≡ length r.workers → r'.claims ≡ claims words' → r'.best ≡ best words'
        → ((j : ℕ) → j < length gains → ((length_at r' j).high ≡ high words' j) × ((length_at r' j).low ≡ low words' j))
        → Shows gains words' (set views id (settling_view v k g s)) r'
    marked_shows words' long same_gains count claimed named halves =
        step_shows gains words views r h id v at words' r' (settling_view v k g s) workers marked_left marked_knows
        refl refl long same_gains count claimed named halves
