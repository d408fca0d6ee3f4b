-- What keeps a round sound: another fate of one length, another stand or sight of one worker, other owners.
use Rattle.std.proofs.Common.{◌≡◌, ◌≢◌, ℕ, zero, suc, ◌+◌, ◌<◌, ◌≤◌, ◌⊎◌, false, List, length, Some, None, IsTrue}
use Rattle.std.proofs.Common.{sum_by, refl, ap, sym, ◌∙◌, subst, arith, inl, inr, ⊎_elim, true≢false}
use Rattle.std.proofs.lemmas.Option.{same_Some, none-some}
use Rattle.round_core.specs.declared.parts.Fate.TheVariants.{Open, Offered, Beaten}
use Rattle.round_core.specs.declared.parts.Stand.TheVariants.{Finished}
use Rattle.round_core.specs.declared.parts.Length.{Length}
use Rattle.round_core.specs.declared.parts.Worker.{Worker}
use Rattle.round_core.specs.Rounds.{Round, length_at, gain_at, owner_at, fate_at, worker_at, stand_at, seen_at}
use Rattle.round_core.specs.Rounds.{index_beats}
use Rattle.round_core.specs.Allowed.{is_live}
use Rattle.round_core.specs.Steps.{with_length, with_worker}
use Rattle.round_core.specs.Sound.{NamesOffered, HoldsGain, IsClaimed, ended, IsSound}
use Rattle.round_core.proofs.Decided.{less_or_not}
use Rattle.round_core.proofs.Order.{beats_same}
use Rattle.round_core.proofs.Places.{same_or_else, length_here, length_else, worker_here, worker_else, lengths_count}
use Rattle.round_core.proofs.Places.{ended_count, no_length_past, no_worker_past}

open_offered : Open ≡ Offered → ⊥
open_offered e = cc

-- a length that has an owner is one of the round's
pub owned_room : (r : Round) (k w : ℕ) → owner_at r k ≡ Some w → k < length r.lengths
owned_room r k w e = ⊎_elim (λ p. p)
    (λ p. absurd (none-some w (ap (λ (l : Length). l.owner) (sym (no_length_past r k p)) ∙ e)))
    (less_or_not k (length r.lengths))

pub offered_room : (r : Round) (k : ℕ) → fate_at r k ≡ Offered → k < length r.lengths
offered_room r k e = ⊎_elim (λ p. p)
    (λ p. absurd (open_offered (ap (λ (l : Length). l.fate) (sym (no_length_past r k p)) ∙ e)))
    (less_or_not k (length r.lengths))

-- a live worker is one of the round's
pub live_room : (r : Round) (w : ℕ) → IsTrue (is_live (stand_at r w)) → w < length r.workers
live_room r w e = ⊎_elim (λ p. p)
    (λ p. absurd (true≢false (sym e ∙ ap (λ (s : Worker). is_live s.stand) (no_worker_past r w p))))
    (less_or_not w (length r.workers))

-- the length was claimed, by a live worker
pub owned_claimed : (r : Round) (k w : ℕ) → IsSound r → owner_at r k ≡ Some w → k < r.claims
owned_claimed r k w h e = ⊎_elim (λ p. p)
    (λ p. absurd (none-some w (sym ((h.unclaimed k p).0) ∙ e)))
    (less_or_not k r.claims)

pub owner_live : (r : Round) (k w : ℕ) → IsSound r → owner_at r k ≡ Some w → IsTrue (is_live (stand_at r w))
owner_live r k w h e =
    let c = h.claimed k (owned_claimed r k w h e) (owned_room r k w e) in
    subst (λ v. IsTrue (is_live (stand_at r v))) (same_Some c.0 w (sym c.1 ∙ e)) c.2

-- one length is another, and the best index may be
module _ (r : Round) (h : IsSound r) (k w : ℕ) (owned : owner_at r k ≡ Some w) (l : Length) (b : ℕ) where
  abbrev marked : Round
  marked = record (with_length r k l) { best = b }

  each_length : (P : ℕ → Length → Type 0) → P k l → ((j : ℕ) → j ≢ k → P j (length_at r j))
      → (j : ℕ) → P j (length_at marked j)
  each_length P here else j = ⊎_elim
      (λ e. subst (λ i. P i (length_at marked i)) (sym e)
      (subst (P k) (sym (length_here r k l (owned_room r k w owned))) here))
      (λ n. subst (P j) (sym (length_else r k j l n)) (else j n))
      (same_or_else j k)

  -- what was Offered stays so
  pub mark_names : fate_at r k ≢ Offered → (i : ℕ) → NamesOffered r i → NamesOffered marked i
  mark_names other zero n = tt
  mark_names other (suc i) n = each_length (λ j x. fate_at r j ≡ Offered → x.fate ≡ Offered)
      (λ e. absurd (other e)) (λ j _ e. e) i n

  pub mark_keeps : l.gain ≡ (gain_at r k) → l.owner ≡ (owner_at r k) → fate_at r k ≢ Offered → HoldsGain l l.fate
      → NamesOffered marked b
      → ((i : ℕ) → index_beats r i r.best ≡ false → index_beats r i b ≡ false)
      → ((i : ℕ) → IsTrue (index_beats r r.best i) → IsTrue (index_beats r b i))
      → (l.fate ≡ Offered → index_beats r (suc k) b ≡ false)
      → (l.fate ≡ Beaten → (l.gain ≡ None) ⊎ IsTrue (index_beats r b (suc k)))
      → IsSound marked
  mark_keeps gain owner other holds named up over offered beaten = record {
    claimed = each_length (λ j x. j < r.claims → j < length marked.lengths → IsClaimed r x)
        (λ _ _. (w, owner ∙ owned, owner_live r k w h owned))
        (λ j _ p q. h.claimed j p (subst (λ n. j < n) (lengths_count r k l) q));
    unclaimed = each_length (λ j x. r.claims ≤ j → (x.owner ≡ None) × (x.fate ≡ Open))
        (λ p. let c = owned_claimed r k w h owned in absurd (omega (arith, p, c)))
        (λ j _. h.unclaimed j);
    stored = each_length (λ j x. HoldsGain x x.fate) holds (λ j _. h.stored j);
    best_offered = named;
    best_beats = λ j e. same (suc j) b ∙ each_length (λ j x. x.fate ≡ Offered → index_beats r (suc j) b ≡ false)
        offered (λ j _ e. up (suc j) (h.best_beats j e)) j e;
    seen_offered = λ v. mark_names other (seen_at r v) (h.seen_offered v);
    seen_within = λ v. same (seen_at r v) b ∙ up (seen_at r v) (h.seen_within v);
    beaten_by = λ j e. ⊎_elim (λ x. inl x) (λ x. inr (same b (suc j) ∙ x))
        (each_length (λ j x. x.fate ≡ Beaten → (x.gain ≡ None) ⊎ IsTrue (index_beats r b (suc j))) beaten
        (λ j _ e. ⊎_elim (λ x. inl x) (λ x. inr (over (suc j) x)) (h.beaten_by j e)) j e);
    finished = λ v e. subst (λ n. n ≤ r.claims) (sym (lengths_count r k l)) (h.finished v e);
    counted = subst (λ n. r.claims ≤ n + sum_by ended r.workers) (sym (lengths_count r k l)) h.counted;
  } where
    same : (i j : ℕ) → index_beats marked i j ≡ index_beats r i j
    same i j = beats_same r marked i j (each_length (λ j x. x.gain ≡ (gain_at r j)) gain (λ j _. refl))

-- one worker is another, and the count of claims may be
module _ (r : Round) (h : IsSound r) (w : ℕ) (room : w < length r.workers) (s : Worker) (c : ℕ) where
  abbrev changed : Round
  changed = record (with_worker r w s) { claims = c }

  each_worker : (P : ℕ → Worker → Type 0) → P w s → ((v : ℕ) → v ≢ w → P v (worker_at r v))
      → (v : ℕ) → P v (worker_at changed v)
  each_worker P here else v = ⊎_elim
      (λ e. subst (λ i. P i (worker_at changed i)) (sym e) (subst (P w) (sym (worker_here r w s room)) here))
      (λ n. subst (P v) (sym (worker_else r w v s n)) (else v n))
      (same_or_else v w)

  pub worker_keeps : IsTrue (is_live s.stand) ⊎ ((k : ℕ) → owner_at r k ≢ Some w)
      → NamesOffered r s.seen → index_beats r s.seen r.best ≡ false
      → (s.stand ≡ Finished → length r.lengths ≤ r.claims)
      → r.claims ≤ c → ((k : ℕ) → k < c → k < length r.lengths → k < r.claims)
      → c + ended (worker_at r w) ≤ r.claims + ended s
      → IsSound changed
  worker_keeps live named within done more none_between count = record {
    claimed = λ k p q. let o = h.claimed k (none_between k p q) q in (
      o.0,
      o.1,
      each_worker
          (λ v x. (owner_at r k) ≡ Some v → IsTrue (is_live (stand_at r v)) → IsTrue (is_live x.stand))
          (λ e _. ⊎_elim (λ x. x) (λ n. absurd (n k e)) live)
          (λ v _ _ x. x) o.0 o.1 o.2,
    );
    unclaimed = λ k p. h.unclaimed k (omega (arith, p, more));
    stored = h.stored;
    best_offered = h.best_offered;
    best_beats = h.best_beats;
    seen_offered = each_worker (λ _ x. NamesOffered r x.seen) named (λ v _. h.seen_offered v);
    seen_within = each_worker (λ _ x. index_beats r x.seen r.best ≡ false) within (λ v _. h.seen_within v);
    beaten_by = h.beaten_by;
    finished = each_worker (λ _ x. x.stand ≡ Finished → length r.lengths ≤ c)
        (λ e. let d = done e in omega (arith, d, more))
        (λ v _ e. let d = h.finished v e in omega (arith, d, more));
    counted = let a = ended_count r w s room in let b = h.counted in omega (arith, a, b, count);
  }

-- what no owner changes
abbrev pub unowned : Length → Length
unowned l = record l { owner = None }

-- the lengths have other owners
module _ (r : Round) (h : IsSound r) (ls : List Length) (c : ℕ) where
  abbrev owned_else : Round
  owned_else = record r { lengths = ls; claims = c }

  pub owners_keep : length ls ≡ length r.lengths
      → ((k : ℕ) → unowned (length_at owned_else k) ≡ unowned (length_at r k))
      → ((k : ℕ) → k < c → k < length r.lengths → IsClaimed r (length_at owned_else k))
      → ((k : ℕ) → c ≤ k → owner_at owned_else k ≡ None)
      → r.claims ≤ c → c ≤ length r.lengths + sum_by ended r.workers
      → IsSound owned_else
  owners_keep count each claimed free more few = record {
    claimed = λ k p q. claimed k p (subst (λ n. k < n) count q);
    unclaimed = λ k p. (free k p, fate k ∙ (h.unclaimed k (omega (arith, p, more))).1);
    stored = λ k. subst (λ (x : Length). HoldsGain x x.fate) (sym (each k)) (h.stored k);
    best_offered = names r.best h.best_offered;
    best_beats = λ k e. same (suc k) r.best ∙ h.best_beats k (sym (fate k) ∙ e);
    seen_offered = λ v. names (seen_at r v) (h.seen_offered v);
    seen_within = λ v. same (seen_at r v) r.best ∙ h.seen_within v;
    beaten_by = λ k e. ⊎_elim (λ x. inl (gain k ∙ x)) (λ x. inr (same r.best (suc k) ∙ x))
        (h.beaten_by k (sym (fate k) ∙ e));
    finished = λ v e. let d = h.finished v e in omega (arith, d, more, count);
    counted = subst (λ n. c ≤ n + sum_by ended r.workers) (sym count) few;
  } where
    gain : (k : ℕ) → gain_at owned_else k ≡ gain_at r k
    gain k = ap (λ (l : Length). l.gain) (each k)

    fate : (k : ℕ) → fate_at owned_else k ≡ fate_at r k
    fate k = ap (λ (l : Length). l.fate) (each k)

    same : (i j : ℕ) → index_beats owned_else i j ≡ index_beats r i j
    same i j = beats_same r owned_else i j gain

    names : (i : ℕ) → NamesOffered r i → NamesOffered owned_else i
    names zero n = tt
    names (suc i) n = fate i ∙ n
