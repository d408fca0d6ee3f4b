-- What an event does to a round, and where events lead.
use Rattle.std.specs.Prelude.{ℕ, zero, suc, Bool, ◌||◌, nat_eq, nat_lt, cond, List, [], ◌∷◌, map, length, Option, Some}
use Rattle.std.specs.Prelude.{None, slice_set, is_none}
use Rattle.std.specs.List.{list_all}
use Rattle.round_core.specs.declared.events.Event.{Event}
use Rattle.round_core.specs.declared.events.Event.TheVariants.{Claim, StoreHigh, StoreLow, LoadBest, LoadHigh, LoadLow}
use Rattle.round_core.specs.declared.events.Event.TheVariants.{Exchange, SplitSeat, JoinSeat}
use Rattle.round_core.specs.declared.parts.Fate.{Fate}
use Rattle.round_core.specs.declared.parts.Fate.TheVariants.{HalfWritten, Written, Offered, Beaten}
use Rattle.round_core.specs.declared.parts.Stand.{Stand}
use Rattle.round_core.specs.declared.parts.Stand.TheVariants.{Working, Finished, Joined}
use Rattle.round_core.specs.declared.parts.Length.{Length}
use Rattle.round_core.specs.declared.parts.Worker.{Worker}
use Rattle.round_core.specs.Rounds.{Round, length_at, gain_at, worker_at, stand_at, seen_at, index_beats, high_half}
use Rattle.round_core.specs.Rounds.{low_half}
use Rattle.round_core.specs.Allowed.{is_fate, owned_by, is_allowed}

-- another length in the place of length k
abbrev pub with_length : Round → ℕ → Length → Round
with_length r k l = record r { lengths = slice_set r.lengths k l }

-- another worker in the place of worker w
abbrev pub with_worker : Round → ℕ → Worker → Round
with_worker r w s = record r { workers = slice_set r.workers w s }

-- length k has another fate
abbrev pub with_fate : Round → ℕ → Fate → Round
with_fate r k fate = with_length r k (record (length_at r k) { fate = fate })

-- the worker saw the index of the best length
abbrev pub seeing_best : Round → ℕ → Round
seeing_best r w = with_worker r w (record (worker_at r w) { seen = r.best })

-- a length without a gain is beaten, and one whose index the best one beats
abbrev pub is_beaten : Round → ℕ → Bool
is_beaten r k = is_none (gain_at r k) || index_beats r r.best (suc k)

-- where the length is beaten, that is its fate from now on
abbrev pub settled : Round → ℕ → Round
settled r k = cond (is_beaten r k) (with_fate r k Beaten) r

-- nothing to settle, or this length
abbrev pub settled_option : Round → Option ℕ → Round
settled_option r None = r
settled_option r (Some k) = settled r k

-- the worker claims the next length; where there is none left it is finished
abbrev pub claiming : Round → ℕ → Round
claiming r w =
    cond (nat_lt r.claims (length r.lengths))
    (with_length r r.claims (record (length_at r r.claims) { owner = Some w }))
    (with_worker r w (record (worker_at r w) { stand = Finished }))

-- the one half is stored, and then the other
abbrev pub storing_high : Round → ℕ → Round
storing_high r k =
    with_length r k (record (length_at r k) { fate = HalfWritten; high = high_half (gain_at r k) })

abbrev pub storing_low : Round → ℕ → Round
storing_low r k = with_length r k (record (length_at r k) { fate = Written; low = low_half (gain_at r k) })

-- the length is the best one, and the worker saw it
abbrev pub offering : Round → ℕ → ℕ → Round
offering r w k = seeing_best (record (with_fate r k Offered) { best = suc k }) w

-- the better of two indexes
abbrev pub better : Round → ℕ → ℕ → ℕ
better r i j = cond (index_beats r j i) j i

-- what belonged to the one worker belongs to the other
abbrev pub handed_over : ℕ → ℕ → Length → Length
handed_over from w l = record l { owner = cond (owned_by from l.owner) (Some w) l.owner }

-- at work only where both were
abbrev pub joined_stand : Stand → Stand → Stand
joined_stand Working Working = Working
joined_stand a b = Finished

-- the worker knows what both knew, and owns what both owned
abbrev pub joining : Round → ℕ → ℕ → Round
joining r w from =
    with_worker
    (with_worker (record r { lengths = map (handed_over from w) r.lengths }) w (record {
      stand = joined_stand (stand_at r w) (stand_at r from);
      seen = better r (seen_at r w) (seen_at r from);
    }))
    from (record (worker_at r from) { stand = Joined })

-- the round after the event
abbrev pub after : Round → Event → Round
after r (Claim w) = record (claiming r w) { claims = suc r.claims }
after r (StoreHigh w k) = storing_high r k
after r (StoreLow w k) = storing_low r k
after r (LoadBest w settles) = settled_option (seeing_best r w) settles
after r (LoadHigh w k) = r
after r (LoadLow w k) = r
after r (Exchange w expected k) = cond (nat_eq r.best expected) (offering r w k) (settled (seeing_best r w) k)
after r (SplitSeat w fresh) = with_worker r fresh (record { stand = Working; seen = seen_at r w })
after r (JoinSeat w from) = joining r w from

-- the round after the event, where it is allowed
abbrev pub step : Round → Event → Option Round
step r e = cond (is_allowed r e) (Some (after r e)) None

-- the round after all these events, each of which is allowed when it comes
abbrev pub steps : Round → List Event → Option Round
steps r [] = Some r
steps r (e ∷ es) = elim (step r e) [ None ↦ None | Some next ↦ steps next es ]

-- every length is Offered or Beaten
abbrev pub is_settled : Round → Bool
is_settled r = list_all (λ l. is_fate l.fate Offered || is_fate l.fate Beaten) r.lengths

-- the length of the best index; none where nothing was offered
abbrev pub best_of : Round → Option ℕ
best_of r = elim r.best [ zero ↦ None | suc k ↦ Some k ]
