-- Lengths and workers of a round where one of them is another.
use Rattle.std.proofs.Common.{◌≡◌, ◌≢◌, ℕ, zero, suc, ◌+◌, ◌<◌, ◌≤◌, ◌⊎◌, List, [], ◌∷◌, length, map, set, get_or, None}
use Rattle.std.proofs.Common.{refl, ap, sym, arith, inl, inr, get_or-set_same, get_or-set_other, length-set, sum_by}
use Rattle.std.proofs.lemmas.List.Sums.{sum_by-set}
use mathlib.Core.Logic.{dite}
use native.Mathlib.Decide.{ℕ_discrete}
use Rattle.round_core.specs.declared.parts.Length.{Length}
use Rattle.round_core.specs.declared.parts.Worker.{Worker}
use Rattle.round_core.specs.Rounds.{Round, unclaimed, no_worker, length_at, worker_at}
use Rattle.round_core.specs.Steps.{with_length, with_worker, handed_over}
use Rattle.round_core.specs.Sound.{ended}

pub same_or_else : (i j : ℕ) → (i ≡ j) ⊎ (i ≢ j)
same_or_else i j = dite (ℕ_discrete i j) (λ e. inl e) (λ n. inr n)

set_past : {A : Type 0} (l : List A) (i : ℕ) (a : A) → length l ≤ i → set l i a ≡ l
set_past [] i a h = refl
set_past (x ∷ xs) zero a h = absurd (omega (arith, h))
set_past (x ∷ xs) (suc i) a h = ap (λ ys. x ∷ ys) (set_past xs i a (omega (arith, h)))

get_past : {A : Type 0} (l : List A) (i : ℕ) (d : A) → length l ≤ i → get_or l i d ≡ d
get_past [] i d h = refl
get_past (x ∷ xs) zero d h = absurd (omega (arith, h))
get_past (x ∷ xs) (suc i) d h = get_past xs i d (omega (arith, h))

pub get_map : {A B : Type 0} (f : A → B) (l : List A) (i : ℕ) (d : A) (e : B) → f d ≡ e
    → get_or (map f l) i e ≡ f (get_or l i d)
get_map f [] i d e h = sym h
get_map f (x ∷ xs) zero d e h = refl
get_map f (x ∷ xs) (suc i) d e h = get_map f xs i d e h

pub length_here : (r : Round) (k : ℕ) (l : Length) → k < length r.lengths → length_at (with_length r k l) k ≡ l
length_here r k l room = get_or-set_same r.lengths k l (unclaimed None) room

pub length_else : (r : Round) (k j : ℕ) (l : Length) → j ≢ k → length_at (with_length r k l) j ≡ length_at r j
length_else r k j l n = get_or-set_other r.lengths k j l (unclaimed None) n

pub worker_here : (r : Round) (w : ℕ) (s : Worker) → w < length r.workers → worker_at (with_worker r w s) w ≡ s
worker_here r w s room = get_or-set_same r.workers w s no_worker room

pub worker_else : (r : Round) (w v : ℕ) (s : Worker) → v ≢ w → worker_at (with_worker r w s) v ≡ worker_at r v
worker_else r w v s n = get_or-set_other r.workers w v s no_worker n

pub lengths_count : (r : Round) (k : ℕ) (l : Length) → length (with_length r k l).lengths ≡ length r.lengths
lengths_count r k l = length-set r.lengths k l

pub workers_count : (r : Round) (w : ℕ) (s : Worker) → length (with_worker r w s).workers ≡ length r.workers
workers_count r w s = length-set r.workers w s

-- how many have ended, after one worker changed
pub ended_count : (r : Round) (w : ℕ) (s : Worker) → w < length r.workers
    → sum_by ended (with_worker r w s).workers + ended (worker_at r w) ≡ sum_by ended r.workers + ended s
ended_count r w s room = sum_by-set ended r.workers w s no_worker room

-- there is nothing past the last length and the last worker
pub no_length_past : (r : Round) (k : ℕ) → length r.lengths ≤ k → length_at r k ≡ unclaimed None
no_length_past r k h = get_past r.lengths k (unclaimed None) h

pub no_worker_past : (r : Round) (w : ℕ) → length r.workers ≤ w → worker_at r w ≡ no_worker
no_worker_past r w h = get_past r.workers w no_worker h

pub handed_at : (r : Round) (from w k : ℕ)
    → length_at (record r { lengths = map (handed_over from w) r.lengths }) k ≡ handed_over from w (length_at r k)
handed_at r from w k = get_map (handed_over from w) r.lengths k (unclaimed None) (unclaimed None) refl
