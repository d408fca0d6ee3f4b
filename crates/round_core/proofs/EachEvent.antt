-- Each allowed event keeps a round sound.
use Rattle.std.proofs.Common.{◌≡◌, ◌≢◌, ℕ, suc, ◌<◌, ◌≤◌, ◌⊎◌, Bool, true, false, cond, eqb, ltb, not, ◌||◌, length}
use Rattle.std.proofs.Common.{map, set, Option, Some, None, IsTrue, is_some, is_none, length-set, refl, ap, sym, ◌∙◌}
use Rattle.std.proofs.Common.{subst, arith, inl, inr, ⊎_elim, true≢false}
use Rattle.std.proofs.lemmas.List.{length-map}
use Rattle.std.proofs.lemmas.Option.{same_Some, none-some}
use Rattle.round_core.specs.declared.events.Event.{Event}
use Rattle.round_core.specs.declared.events.Event.TheVariants.{Claim, StoreHigh, StoreLow, LoadBest, LoadHigh, LoadLow}
use Rattle.round_core.specs.declared.events.Event.TheVariants.{Exchange, SplitSeat, JoinSeat}
use Rattle.round_core.specs.declared.parts.Fate.{Fate}
use Rattle.round_core.specs.declared.parts.Fate.TheVariants.{Open, HalfWritten, Written, Offered, Beaten}
use Rattle.round_core.specs.declared.parts.Stand.TheVariants.{Absent, Working, Finished, Joined}
use Rattle.round_core.specs.declared.parts.Length.{Length}
use Rattle.round_core.specs.declared.parts.Worker.{Worker}
use Rattle.round_core.specs.Rounds.{Round, length_at, gain_at, owner_at, fate_at, worker_at, stand_at, seen_at}
use Rattle.round_core.specs.Rounds.{index_beats, high_half, low_half}
use Rattle.round_core.specs.Allowed.{is_fate, is_live, is_working, is_absent, owned_by, owns, has_fate, may_settle}
use Rattle.round_core.specs.Allowed.{is_allowed}
use Rattle.round_core.specs.Steps.{with_length, with_worker, with_fate, seeing_best, is_beaten, settled, settled_option}
use Rattle.round_core.specs.Steps.{storing_high, storing_low, offering, better, handed_over, joined_stand, joining}
use Rattle.round_core.specs.Steps.{after, step}
use Rattle.round_core.specs.Sound.{NamesOffered, HoldsHigh, HoldsGain, IsClaimed, IsSound}
use Rattle.round_core.proofs.Decided.{by_test, both_true, one_true, three_true, four_true, equal_of, apart_of, less_of}
use Rattle.round_core.proofs.Decided.{not_less_of, equal_itself, some_is, none_is, owner_is, working_is, absent_is}
use Rattle.round_core.proofs.Decided.{fate_is, fates_differ}
use Rattle.round_core.proofs.Stands.{live_working, working_finished, joined_not_finished, ended_working, ended_absent}
use Rattle.round_core.proofs.Stands.{ended_once, joined_live, joined_ended, joined_finished}
use Rattle.round_core.proofs.Order.{beats_itself, beats_neither, beats_through}
use Rattle.round_core.proofs.Places.{same_or_else, length_here, length_else, workers_count, handed_at}
use Rattle.round_core.proofs.Kept.{unowned, owned_room, owner_live, live_room, mark_keeps, mark_names, worker_keeps}
use Rattle.round_core.proofs.Kept.{owners_keep}

-- ---- a claim

module _ (r : Round) (h : IsSound r) (w : ℕ) (works : IsTrue (is_working (stand_at r w))) where
  abbrev taken : Length
  taken = record (length_at r r.claims) { owner = Some w }

  abbrev taking : Round
  taking = with_length r r.claims taken

  abbrev ending : Round
  ending = with_worker r w (record (worker_at r w) { stand = Finished })

  is_live_worker : IsTrue (is_live (stand_at r w))
  is_live_worker = live_working (stand_at r w) (working_is (stand_at r w) works)

  taken_else : (k : ℕ) → k ≢ r.claims → length_at taking k ≡ length_at r k
  taken_else k n = length_else r r.claims k taken n

  takes_owner : r.claims < length r.lengths → (k : ℕ) → unowned (length_at taking k) ≡ unowned (length_at r k)
  takes_owner room k = ⊎_elim
      (λ e. subst (λ j. unowned (length_at taking j) ≡ unowned (length_at r j)) (sym e)
      (ap unowned (length_here r r.claims taken room)))
      (λ n. ap unowned (taken_else k n))
      (same_or_else k r.claims)

  takes_claimed : r.claims < length r.lengths → (k : ℕ) → k < suc r.claims → k < length r.lengths
      → IsClaimed r (length_at taking k)
  takes_claimed room k p q = ⊎_elim
      (λ e. subst (λ j. IsClaimed r (length_at taking j)) (sym e)
      (subst (IsClaimed r) (sym (length_here r r.claims taken room)) (w, refl, is_live_worker)))
      (λ n. subst (IsClaimed r) (sym (taken_else k n)) (h.claimed k (omega (arith, p, n)) q))
      (same_or_else k r.claims)

  claim_takes : r.claims < length r.lengths → IsSound (record taking { claims = suc r.claims })
  claim_takes room =
      owners_keep r h (set r.lengths r.claims taken) (suc r.claims) (length-set r.lengths r.claims taken)
      (takes_owner room) (takes_claimed room)
      (λ k p. ap (λ (l : Length). l.owner) (taken_else k (λ e. absurd (omega (arith, e, p))))
      ∙ (h.unclaimed k (omega (arith, p))).0)
      (omega arith) (omega (arith, room))

  claim_ends : length r.lengths ≤ r.claims → IsSound (record ending { claims = suc r.claims })
  claim_ends past =
      let zero_before = ended_working (worker_at r w) (working_is (stand_at r w) works) in
      worker_keeps r h w (live_room r w is_live_worker) (record (worker_at r w) { stand = Finished }) (suc r.claims)
      (inl refl) (h.seen_offered w) (h.seen_within w) (λ _. past)
      (omega arith) (λ k _ q. omega (arith, q, past)) (omega (arith, zero_before))

  claim_keeps : IsSound (after r (Claim w))
  claim_keeps = by_test (λ x. IsSound (record x { claims = suc r.claims }))
      (ltb r.claims (length r.lengths)) taking ending
      (λ e. claim_takes (less_of r.claims (length r.lengths) e))
      (λ e. claim_ends (not_less_of r.claims (length r.lengths) e))

-- ---- the steps of one length

module _ (r : Round) (h : IsSound r) (w k : ℕ) (owned : owner_at r k ≡ Some w) where
  -- the best index stays
  fate_keeps : (l : Length) → l.gain ≡ gain_at r k → l.owner ≡ owner_at r k → fate_at r k ≢ Offered
      → HoldsGain l l.fate → l.fate ≢ Offered
      → (l.fate ≡ Beaten → (l.gain ≡ None) ⊎ IsTrue (index_beats r r.best (suc k)))
      → IsSound (with_length r k l)
  fate_keeps l gain owner other holds unoffered beaten =
      mark_keeps r h k w owned l r.best gain owner other holds
      (mark_names r h k w owned l r.best other r.best h.best_offered)
      (λ _ e. e) (λ _ e. e) (λ e. absurd (unoffered e)) beaten

  store_high_keeps : fate_at r k ≡ Open → (g : ℕ) → gain_at r k ≡ Some g → IsSound (storing_high r k)
  store_high_keeps was g gain =
      fate_keeps (record (length_at r k) { fate = HalfWritten; high = high_half (gain_at r k) }) refl refl
      (fates_differ (fate_at r k) Open Offered was refl) (g, gain, refl)
      (fates_differ HalfWritten HalfWritten Offered refl refl)
      (λ e. absurd (fates_differ HalfWritten HalfWritten Beaten refl refl e))

  store_low_keeps : fate_at r k ≡ HalfWritten → IsSound (storing_low r k)
  store_low_keeps was =
      let high : HoldsHigh (length_at r k) = subst (HoldsGain (length_at r k)) was (h.stored k) in
      fate_keeps (record (length_at r k) { fate = Written; low = low_half (gain_at r k) }) refl refl
      (fates_differ (fate_at r k) HalfWritten Offered was refl) (high, refl)
      (fates_differ Written Written Offered refl refl)
      (λ e. absurd (fates_differ Written Written Beaten refl refl e))

  settle_keeps : fate_at r k ≢ Offered → IsSound (settled r k)
  settle_keeps other = by_test IsSound (is_beaten r k) (with_fate r k Beaten) r
      (λ e. fate_keeps (record (length_at r k) { fate = Beaten }) refl refl other tt
      (fates_differ Beaten Beaten Offered refl refl) (λ _. by e))
      (λ _. h) where
        by : IsTrue (is_beaten r k) → (gain_at r k ≡ None) ⊎ IsTrue (index_beats r r.best (suc k))
        by e = ⊎_elim (λ x. inl (none_is (gain_at r k) x)) (λ x. inr x)
            (one_true (is_none (gain_at r k)) (index_beats r r.best (suc k)) e)

  offer_keeps : fate_at r k ≡ Written → IsTrue (index_beats r (suc k) r.best)
      → IsSound (record (with_fate r k Offered) { best = suc k })
  offer_keeps was better =
      let l : Length = record (length_at r k) { fate = Offered } in
      mark_keeps r h k w owned l (suc k) refl refl (fates_differ (fate_at r k) Written Offered was refl)
      (subst (HoldsGain (length_at r k)) was (h.stored k))
      (ap (λ (x : Length). x.fate) (length_here r k l (owned_room r k w owned)))
      (λ i n. beats_neither r i r.best (suc k) n better) (λ i e. beats_through r (suc k) r.best i better e)
      (λ _. beats_itself r (suc k)) (λ e. absurd (fates_differ Offered Offered Beaten refl refl e))

-- ---- the steps of one worker

see_keeps : (r : Round) → IsSound r → (w : ℕ) → IsTrue (is_live (stand_at r w)) → IsSound (seeing_best r w)
see_keeps r h w live =
    worker_keeps r h w (live_room r w live) (record (worker_at r w) { seen = r.best }) r.claims
    (inl live) h.best_offered (beats_itself r r.best) (λ e. h.finished w e) (omega arith) (λ k p _. p) (omega arith)

split_keeps : (r : Round) → IsSound r → (w fresh : ℕ) → fresh < length r.workers → stand_at r fresh ≡ Absent
    → IsSound (after r (SplitSeat w fresh))
split_keeps r h w fresh room absent =
    let zero_before = ended_absent (worker_at r fresh) absent in
    worker_keeps r h fresh room (record { stand = Working; seen = seen_at r w }) r.claims
    (inl refl) (h.seen_offered w) (h.seen_within w) (λ e. absurd (working_finished e))
    (omega arith) (λ k p _. p) (omega (arith, zero_before))

-- ---- a join

module _ (r : Round) (h : IsSound r) (w from : ℕ) (live : IsTrue (is_live (stand_at r w)))
    (live_from : IsTrue (is_live (stand_at r from))) (apart : w ≢ from) where
  abbrev handed : Round
  handed = record r { lengths = map (handed_over from w) r.lengths }

  handed_claimed : (l : Length) → IsClaimed r l → IsClaimed r (handed_over from w l)
  handed_claimed l c = by_test (λ (o : Option ℕ). (v : ℕ) × (o ≡ Some v) × IsTrue (is_live (stand_at r v)))
      (owned_by from l.owner) (Some w) l.owner (λ _. (w, refl, live)) (λ _. c)

  handed_free : (l : Length) → l.owner ≡ None → (handed_over from w l).owner ≡ None
  handed_free l e = ap (λ o. cond (owned_by from o) (Some w) o) e

  handed_else : (l : Length) → (handed_over from w l).owner ≢ Some from
  handed_else l = by_test (λ (o : Option ℕ). o ≢ Some from) (owned_by from l.owner) (Some w) l.owner
      (λ _ e. apart (same_Some w from e))
      (λ n e. true≢false (sym (equal_itself from) ∙ (sym (ap (owned_by from) e) ∙ n)))

  handed_keeps : IsSound handed
  handed_keeps =
      owners_keep r h (map (handed_over from w) r.lengths) r.claims (length-map r.lengths (handed_over from w))
      (λ k. ap unowned (handed_at r from w k))
      (λ k p q. subst (IsClaimed r) (sym (handed_at r from w k)) (handed_claimed (length_at r k) (h.claimed k p q)))
      (λ k p. ap (λ (l : Length). l.owner) (handed_at r from w k) ∙ handed_free (length_at r k) (h.unclaimed k p).0)
      (omega arith) h.counted

  abbrev into : Worker
  into = record {
    stand = joined_stand (stand_at r w) (stand_at r from);
    seen = better r (seen_at r w) (seen_at r from);
  }

  abbrev taken_over : Round
  taken_over = with_worker handed w into

  -- what is true of both indexes is true of the better one
  of_better : (P : ℕ → Type 0) → P (seen_at r from) → P (seen_at r w) → P into.seen
  of_better P a b =
      by_test P (index_beats r (seen_at r from) (seen_at r w)) (seen_at r from) (seen_at r w) (λ _. a) (λ _. b)

  into_keeps : IsSound taken_over
  into_keeps =
      let s = handed_keeps in
      let count = joined_ended (stand_at r w) (stand_at r from) (seen_at r w) into.seen live in
      worker_keeps handed s w (live_room r w live) into r.claims (inl (joined_live (stand_at r w) (stand_at r from)))
      (of_better (NamesOffered handed) (s.seen_offered from) (s.seen_offered w))
      (of_better (λ i. index_beats handed i r.best ≡ false) (s.seen_within from) (s.seen_within w))
      (λ e. ⊎_elim (λ x. s.finished w x) (λ x. s.finished from x)
      (joined_finished (stand_at r w) (stand_at r from) live live_from e))
      (omega arith) (λ k p _. p) (omega (arith, count))

  join_keeps : IsSound (joining r w from)
  join_keeps =
      let s = handed_keeps in
      let once = ended_once (worker_at taken_over from) in
      let room = subst (λ n. from < n) (sym (workers_count handed w into)) (live_room r from live_from) in
      worker_keeps taken_over into_keeps from room (record (worker_at r from) { stand = Joined }) r.claims
      (inr (λ k e. handed_else (length_at r k) (sym (ap (λ (l : Length). l.owner) (handed_at r from w k)) ∙ e)))
      (s.seen_offered from) (s.seen_within from) (λ e. absurd (joined_not_finished e))
      (omega arith) (λ k p _. p) (omega (arith, once))

-- ---- all of them

not_offered : (f : Fate) → IsTrue (is_fate f Open || is_fate f Written) → f ≢ Offered
not_offered f h e = true≢false (sym h ∙ ap (λ x. is_fate x Open || is_fate x Written) e)

settle_option_keeps : (r : Round) → IsSound r → (w : ℕ) (o : Option ℕ) → IsTrue (may_settle r w o)
    → IsSound (settled_option r o)
settle_option_keeps r h w None may = h
settle_option_keeps r h w (Some k) may =
    let p = both_true (owns r w k) (has_fate r k Open || has_fate r k Written) may in
    settle_keeps r h w k (owner_is w (owner_at r k) p.0) (not_offered (fate_at r k) p.1)

may_still_settle : (r : Round) (w : ℕ) (o : Option ℕ) → IsTrue (may_settle r w o)
    → IsTrue (may_settle (seeing_best r w) w o)
may_still_settle r w None t = t
may_still_settle r w (Some k) t = t

exchange_keeps : (r : Round) → IsSound r → (w expected k : ℕ) → owner_at r k ≡ Some w → fate_at r k ≡ Written
    → IsTrue (index_beats r (suc k) expected) → IsSound (after r (Exchange w expected k))
exchange_keeps r h w expected k owned written better =
    let live = owner_live r k w h owned in
    by_test IsSound (eqb r.best expected) (offering r w k) (settled (seeing_best r w) k)
    (λ e.
    let over : IsTrue (index_beats r (suc k) r.best) =
    subst (λ i. IsTrue (index_beats r (suc k) i)) (sym (equal_of r.best expected e)) better in
    see_keeps (record (with_fate r k Offered) { best = suc k }) (offer_keeps r h w k owned written over) w live)
    (λ _. settle_keeps (seeing_best r w) (see_keeps r h w live) w k owned
    (fates_differ (fate_at r k) Written Offered written refl))

pub event_keeps : (r : Round) (e : Event) → IsSound r → IsTrue (is_allowed r e) → IsSound (after r e)
event_keeps r (Claim w) h may = claim_keeps r h w may
event_keeps r (StoreHigh w k) h may =
    let p = three_true (owns r w k) (has_fate r k Open) (is_some (gain_at r k)) may in
    let g = some_is (gain_at r k) p.2 in
    store_high_keeps r h w k (owner_is w (owner_at r k) p.0) (fate_is (fate_at r k) Open p.1) g.0 g.1
event_keeps r (StoreLow w k) h may =
    let p = both_true (owns r w k) (has_fate r k HalfWritten) may in
    store_low_keeps r h w k (owner_is w (owner_at r k) p.0) (fate_is (fate_at r k) HalfWritten p.1)
event_keeps r (LoadBest w settles) h may =
    let p = both_true (is_live (stand_at r w)) (may_settle r w settles) may in
    settle_option_keeps (seeing_best r w) (see_keeps r h w p.0) w settles (may_still_settle r w settles p.1)
event_keeps r (LoadHigh w k) h may = h
event_keeps r (LoadLow w k) h may = h
event_keeps r (Exchange w expected k) h may =
    let p = four_true (owns r w k) (has_fate r k Written) (eqb (seen_at r w) expected)
    (index_beats r (suc k) expected) may in
    exchange_keeps r h w expected k (owner_is w (owner_at r k) p.0) (fate_is (fate_at r k) Written p.1) p.3
event_keeps r (SplitSeat w fresh) h may =
    let p = three_true (is_live (stand_at r w)) (ltb fresh (length r.workers)) (is_absent (stand_at r fresh)) may in
    split_keeps r h w fresh (less_of fresh (length r.workers) p.1) (absent_is (stand_at r fresh) p.2)
event_keeps r (JoinSeat w from) h may =
    let p = three_true (is_live (stand_at r w)) (is_live (stand_at r from)) (not (eqb w from)) may in
    join_keeps r h w from p.0 p.1 (apart_of w from p.2)

pub step_keeps : (r next : Round) (e : Event) → IsSound r → step r e ≡ Some next → IsSound next
step_keeps r next e h = by (is_allowed r e) refl where
  by : (b : Bool) → is_allowed r e ≡ b → cond b (Some (after r e)) None ≡ Some next → IsSound next
  by true may is = subst IsSound (same_Some (after r e) next is) (event_keeps r e h may)
  by false may is = absurd (none-some next is)
