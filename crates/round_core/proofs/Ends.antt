-- What allowed events reach from the beginning of a round, and what its end shows.
use Rattle.std.proofs.Common.{◌≡◌, ◌≢◌, ℕ, zero, suc, ◌<◌, ◌≤◌, ◌⊎◌, Bool, false, ◌||◌, List, [], ◌∷◌, length}
use Rattle.std.proofs.Common.{replicate, get_or, Option, Some, None, IsTrue, get_or-set_same, get_or-set_other, refl}
use Rattle.std.proofs.Common.{sym, ◌∙◌, subst, arith, inl, inr, ⊎_elim, true≢false}
use Rattle.std.proofs.lemmas.List.{length-replicate}
use Rattle.std.proofs.lemmas.Option.{same_Some, none-some}
use Rattle.std.specs.List.{list_all}
use Rattle.round_core.specs.declared.events.Event.{Event}
use Rattle.round_core.specs.declared.parts.Fate.TheVariants.{Open, Offered, Beaten}
use Rattle.round_core.specs.declared.parts.Stand.TheVariants.{Working, Finished}
use Rattle.round_core.specs.declared.parts.Length.{Length}
use Rattle.round_core.specs.declared.parts.Worker.{Worker}
use Rattle.round_core.specs.Rounds.{Round, unclaimed, no_worker, length_at, fate_at, worker_at, index_beats}
use Rattle.round_core.specs.Rounds.{first_round}
use Rattle.round_core.specs.Allowed.{is_fate}
use Rattle.round_core.specs.Steps.{step, steps, is_settled, best_of}
use Rattle.round_core.specs.Sound.{NamesOffered, HoldsHigh, HoldsGain, IsSound, IsBestLength}
use Rattle.round_core.proofs.Order.{beats_one_way, beats_none}
use Rattle.round_core.proofs.Places.{same_or_else, get_map}
use Rattle.round_core.proofs.Kept.{offered_room}
use Rattle.round_core.proofs.Decided.{one_true, both_true, fate_is, fates_differ}
use Rattle.round_core.proofs.Stands.{working_finished, absent_finished}
use Rattle.round_core.proofs.EachEvent.{step_keeps}

-- ---- the beginning

replicated : {A : Type 0} (n i : ℕ) (a : A) → get_or (replicate n a) i a ≡ a
replicated zero i a = refl
replicated (suc n) zero a = refl
replicated (suc n) (suc i) a = replicated n i a

abbrev first : Worker
first = record { stand = Working; seen = 0 }

module _ (gains : List (Option ℕ)) (workers : ℕ) (some : 1 ≤ workers) where
  abbrev begun : Round
  begun = first_round gains workers

  each_length : (P : Length → Type 0) → ((g : Option ℕ) → P (unclaimed g)) → (k : ℕ) → P (length_at begun k)
  each_length P h k = subst P (sym (get_map unclaimed gains k None (unclaimed None) refl)) (h (get_or gains k None))

  first_here : worker_at begun 0 ≡ first
  first_here = get_or-set_same (replicate workers no_worker) 0 first no_worker
      (subst (λ n. 0 < n) (sym (length-replicate workers no_worker)) (omega (arith, some)))

  none_else : (w : ℕ) → w ≢ 0 → worker_at begun w ≡ no_worker
  none_else w n = get_or-set_other (replicate workers no_worker) 0 w first no_worker n ∙ replicated workers w no_worker

  each_worker : (P : Worker → Type 0) → P first → P no_worker → (w : ℕ) → P (worker_at begun w)
  each_worker P one none w = ⊎_elim
      (λ e. subst (λ v. P (worker_at begun v)) (sym e) (subst P (sym first_here) one))
      (λ n. subst P (sym (none_else w n)) none)
      (same_or_else w 0)

  pub begun_sound : IsSound begun
  begun_sound = record {
    claimed = λ k p _. absurd (omega (arith, p));
    unclaimed = λ k _. each_length (λ l. (l.owner ≡ None) × (l.fate ≡ Open)) (λ _. (refl, refl)) k;
    stored = each_length (λ l. HoldsGain l l.fate) (λ _. tt);
    best_offered = tt;
    best_beats = λ k e. absurd (fates_differ (fate_at begun k) Open Offered (is_open k) refl e);
    seen_offered = each_worker (λ s. NamesOffered begun s.seen) tt tt;
    seen_within = each_worker (λ s. index_beats begun s.seen 0 ≡ false) refl refl;
    beaten_by = λ k e. absurd (fates_differ (fate_at begun k) Open Beaten (is_open k) refl e);
    finished = each_worker (λ s. s.stand ≡ Finished → length begun.lengths ≤ 0)
        (λ e. absurd (working_finished e)) (λ e. absurd (absent_finished e));
    counted = omega arith;
  } where
    is_open : (k : ℕ) → fate_at begun k ≡ Open
    is_open k = each_length (λ l. l.fate ≡ Open) (λ _. refl) k

-- ---- on the way

pub steps_keep : (events : List Event) (r end : Round) → IsSound r → steps r events ≡ Some end → IsSound end
steps_keep [] r end h e = subst IsSound (same_Some r end e) h
steps_keep (e ∷ es) r end h is = by (λ next n k. steps_keep es next end n k) (step r e) refl is where
  by : ((next : Round) → IsSound next → steps next es ≡ Some end → IsSound end)
      → (o : Option Round) → step r e ≡ o → elim o [ None ↦ None | Some next ↦ steps next es ] ≡ Some end → IsSound end
  by rest None was is = absurd (none-some end is)
  by rest (Some next) was is = rest next (step_keeps r next e h was) is

-- ---- the end

all_at : (p : Length → Bool) (ls : List Length) (k : ℕ) (d : Length) → IsTrue (list_all p ls) → k < length ls
    → IsTrue (p (get_or ls k d))
all_at p [] k d h room = absurd (omega (arith, room))
all_at p (x ∷ xs) zero d h room = (both_true (p x) (list_all p xs) h).0
all_at p (x ∷ xs) (suc k) d h room = all_at p xs k d (both_true (p x) (list_all p xs) h).1 (omega (arith, room))

settled_fate : (r : Round) → IsTrue (is_settled r) → (k : ℕ) → k < length r.lengths
    → (fate_at r k ≡ Offered) ⊎ (fate_at r k ≡ Beaten)
settled_fate r done k room =
    let t = all_at (λ l. is_fate l.fate Offered || is_fate l.fate Beaten) r.lengths k (unclaimed None) done room in
    ⊎_elim (λ e. inl (fate_is (fate_at r k) Offered e)) (λ e. inr (fate_is (fate_at r k) Beaten e))
    (one_true (is_fate (fate_at r k) Offered) (is_fate (fate_at r k) Beaten) t)

offered_gain : (r : Round) → IsSound r → (k : ℕ) → fate_at r k ≡ Offered → HoldsHigh (length_at r k)
offered_gain r h k e = (subst (HoldsGain (length_at r k)) e (h.stored k)).0

pub settled_best : (r : Round) → IsSound r → IsTrue (is_settled r) → IsBestLength r (best_of r)
settled_best r h done = by r.best refl where
  none_offered : r.best ≡ 0 → (k : ℕ) → fate_at r k ≡ Offered → ⊥
  none_offered z k e = true≢false (subst (λ i. index_beats r (suc k) i ≡ false) z (h.best_beats k e))

  none_beaten : r.best ≡ 0 → (k : ℕ) → IsTrue (index_beats r r.best (suc k)) → ⊥
  none_beaten z k e = true≢false (sym (subst (λ i. IsTrue (index_beats r i (suc k))) z e))

  none-some : (g : ℕ) → None ≡ Some g → ⊥
  none-some g e = cc

  over : (k : ℕ) → r.best ≡ suc k → (j : ℕ) → j < length r.lengths → j ≢ k → IsTrue (index_beats r (suc k) (suc j))
  over k is j room n =
      let offered : fate_at r k ≡ Offered = subst (NamesOffered r) is h.best_offered in
      let mine = offered_gain r h k offered in
      ⊎_elim
      (λ e. let its = offered_gain r h j e in
      beats_one_way r j k its.0 mine.0 n its.1 mine.1
      (subst (λ i. index_beats r (suc j) i ≡ false) is (h.best_beats j e)))
      (λ e. ⊎_elim (λ none. beats_none r j k mine.0 none mine.1)
      (λ b. subst (λ i. IsTrue (index_beats r i (suc j))) is b) (h.beaten_by j e))
      (settled_fate r done j room)

  by : (i : ℕ) → r.best ≡ i → IsBestLength r (elim i [ zero ↦ None | suc k ↦ Some k ])
  by zero z = λ k room. ⊎_elim (λ e. absurd (none_offered z k e))
      (λ e. ⊎_elim (λ x. x) (λ b. absurd (none_beaten z k b)) (h.beaten_by k e))
      (settled_fate r done k room)
  by (suc k) is =
      let offered : fate_at r k ≡ Offered = subst (NamesOffered r) is h.best_offered in
      let mine = offered_gain r h k offered in
      (offered_room r k offered, λ e. none-some mine.0 (sym e ∙ mine.1), over k is)

pub reached : (gains : List (Option ℕ)) (workers : ℕ) (events : List Event) (r : Round) → 1 ≤ workers
    → steps (first_round gains workers) events ≡ Some r
    → IsSound r × (IsTrue (is_settled r) → IsBestLength r (best_of r))
reached gains workers events r some is =
    let h = steps_keep events (first_round gains workers) r (begun_sound gains workers some) is in (h, settled_best r h)
