-- Which event may come in a round.
use Rattle.std.specs.Prelude.{ℕ, suc, Bool, true, false, ◌&&◌, ◌||◌, not, nat_eq, nat_lt, length, Option, Some, None}
use Rattle.std.specs.Prelude.{is_some}
use Rattle.round_core.specs.declared.events.Event.{Event}
use Rattle.round_core.specs.declared.events.Event.TheVariants.{Claim, StoreHigh, StoreLow, LoadBest, LoadHigh, LoadLow}
use Rattle.round_core.specs.declared.events.Event.TheVariants.{Exchange, SplitSeat, JoinSeat}
use Rattle.round_core.specs.declared.parts.Fate.{Fate}
use Rattle.round_core.specs.declared.parts.Fate.TheVariants.{Open, HalfWritten, Written, Offered, Beaten}
use Rattle.round_core.specs.declared.parts.Stand.{Stand}
use Rattle.round_core.specs.declared.parts.Stand.TheVariants.{Absent, Working, Finished}
use Rattle.round_core.specs.Rounds.{Round, gain_at, owner_at, fate_at, stand_at, seen_at, index_beats}

-- the one fate is the other
abbrev pub is_fate : Fate → Fate → Bool
is_fate Open Open = true
is_fate HalfWritten HalfWritten = true
is_fate Written Written = true
is_fate Offered Offered = true
is_fate Beaten Beaten = true
is_fate a b = false

-- not split off yet
abbrev pub is_absent : Stand → Bool
is_absent Absent = true
is_absent s = false

-- it may claim
abbrev pub is_working : Stand → Bool
is_working Working = true
is_working s = false

-- working or finished
abbrev pub is_live : Stand → Bool
is_live Working = true
is_live Finished = true
is_live s = false

-- the owner is this worker
abbrev pub owned_by : ℕ → Option ℕ → Bool
owned_by w None = false
owned_by w (Some o) = nat_eq o w

-- the worker owns the length
abbrev pub owns : Round → ℕ → ℕ → Bool
owns r w k = owned_by w (owner_at r k)

-- the length has this fate
abbrev pub has_fate : Round → ℕ → Fate → Bool
has_fate r k fate = is_fate (fate_at r k) fate

-- the worker owns the length, which it may settle: it is Open or Written
abbrev pub may_settle : Round → ℕ → Option ℕ → Bool
may_settle r w None = true
may_settle r w (Some k) = owns r w k && (has_fate r k Open || has_fate r k Written)

-- whether the event may come in this round
abbrev pub is_allowed : Round → Event → Bool
is_allowed r (Claim w) = is_working (stand_at r w)
is_allowed r (StoreHigh w k) = owns r w k && has_fate r k Open && is_some (gain_at r k)
is_allowed r (StoreLow w k) = owns r w k && has_fate r k HalfWritten
is_allowed r (LoadBest w settles) = is_live (stand_at r w) && may_settle r w settles
is_allowed r (LoadHigh w k) = nat_eq (seen_at r w) (suc k)
is_allowed r (LoadLow w k) = nat_eq (seen_at r w) (suc k)
is_allowed r (Exchange w expected k) =
    owns r w k && has_fate r k Written && nat_eq (seen_at r w) expected && index_beats r (suc k) expected
is_allowed r (SplitSeat w fresh) =
    is_live (stand_at r w) && nat_lt fresh (length r.workers) && is_absent (stand_at r fresh)
is_allowed r (JoinSeat w from) =
    is_live (stand_at r w) && is_live (stand_at r from) && not (nat_eq w from)
