-- The definitions at values worked by hand.
use Rattle.std.proofs.Common.{lit≤, ◌≡◌, true, false, List, [], ◌∷◌, Some, None, refl}
use Rattle.round_core.specs.declared.events.Event.{Event}
use Rattle.round_core.specs.declared.events.Event.TheVariants.{Claim, StoreHigh, StoreLow, LoadBest, LoadHigh, LoadLow}
use Rattle.round_core.specs.declared.events.Event.TheVariants.{Exchange, SplitSeat, JoinSeat}
use Rattle.round_core.specs.declared.parts.Fate.TheVariants.{Offered, Beaten}
use Rattle.round_core.specs.declared.parts.Stand.TheVariants.{Absent, Working, Finished, Joined}
use Rattle.round_core.specs.Rounds.{Round, first_round, unclaimed, index_beats, high_half, low_half}
use Rattle.round_core.specs.Steps.{step, steps, is_settled, best_of}
use Rattle.run_theory.specs.Bests.{IsBestByGains}
use Rattle.round_core.proofs.Gains.{reached_by_gains}

-- three lengths, of which the last has no gain, and two workers
abbrev begun : Round
begun = first_round (Some 4 ∷ Some 4 ∷ None ∷ []) 2

begins : begun ≡ record {
  lengths = unclaimed (Some 4) ∷ unclaimed (Some 4) ∷ unclaimed None ∷ [];
  workers = record { stand = Working; seen = 0 } ∷ record { stand = Absent; seen = 0 } ∷ [];
  claims = 0;
  best = 0;
}
begins = refl

-- ---- the order: for equal gains the lesser length, any gain before none, and any index before 0

lesser_length : index_beats begun 1 2 ≡ true
lesser_length = refl

greater_length : index_beats begun 2 1 ≡ false
greater_length = refl

not_itself : index_beats begun 1 1 ≡ false
not_itself = refl

greater_gain : index_beats (first_round (Some 4 ∷ Some 5 ∷ []) 1) 2 1 ≡ true
greater_gain = refl

some_gain : index_beats begun 2 3 ≡ true
some_gain = refl

no_gain : index_beats begun 3 2 ≡ false
no_gain = refl

not_nothing : index_beats begun 3 0 ≡ true
not_nothing = refl

nothing : index_beats begun 0 3 ≡ false
nothing = refl

-- ---- the halves of 2 ^ 64 + 5

high_five : high_half (Some 18446744073709551621) ≡ 1
high_five = refl

low_five : low_half (Some 18446744073709551621) ≡ 5
low_five = refl

-- ---- worker 1 offers length 1, worker 0 then offers length 0, and length 2 is beaten

abbrev events : List Event
events =
    SplitSeat 0 1
    ∷ Claim 0
    ∷ Claim 1
    ∷ Claim 0
    ∷ StoreHigh 1 1
    ∷ StoreLow 1 1
    ∷ LoadBest 1 None
    ∷ Exchange 1 0 1
    ∷ StoreHigh 0 0
    ∷ StoreLow 0 0
    ∷ LoadBest 0 None
    ∷ Exchange 0 2 0
    ∷ LoadBest 0 (Some 2)
    ∷ []

abbrev ended : Round
ended = record {
  lengths =
      record { gain = Some 4; owner = Some 0; fate = Offered; high = 0; low = 4 }
      ∷ record { gain = Some 4; owner = Some 1; fate = Offered; high = 0; low = 4 }
      ∷ record { gain = None; owner = Some 0; fate = Beaten; high = 0; low = 0 }
      ∷ [];
  workers = record { stand = Working; seen = 1 } ∷ record { stand = Working; seen = 2 } ∷ [];
  claims = 3;
  best = 1;
}

all_allowed : steps begun events ≡ Some ended
all_allowed = refl

settled_at_the_end : is_settled ended ≡ true
settled_at_the_end = refl

best_at_the_end : best_of ended ≡ Some 0
best_at_the_end = refl

-- of equal gains that of the lesser length is the best, as the gains given at the beginning say
best_by_the_gains : IsBestByGains (Some 4 ∷ Some 4 ∷ None ∷ []) (Some 0)
best_by_the_gains =
    reached_by_gains (Some 4 ∷ Some 4 ∷ None ∷ []) 2 events ended (lit≤ tt) all_allowed settled_at_the_end

-- what is offered may not be offered again
not_offered_twice : step ended (Exchange 1 1 1) ≡ None
not_offered_twice = refl

-- worker 1 saw length 1, and not length 0
its_own_words : step ended (LoadHigh 1 1) ≡ Some ended
its_own_words = refl

not_unseen_words : step ended (LoadLow 1 0) ≡ None
not_unseen_words = refl

-- ---- a claim past the last length, and a join

abbrev finished : Round
finished = record ended {
  workers = record { stand = Working; seen = 1 } ∷ record { stand = Finished; seen = 2 } ∷ [];
  claims = 4;
}

claims_past_the_end : step ended (Claim 1) ≡ Some finished
claims_past_the_end = refl

joined : step finished (JoinSeat 0 1) ≡ Some (record finished {
  lengths =
      record { gain = Some 4; owner = Some 0; fate = Offered; high = 0; low = 4 }
      ∷ record { gain = Some 4; owner = Some 0; fate = Offered; high = 0; low = 4 }
      ∷ record { gain = None; owner = Some 0; fate = Beaten; high = 0; low = 0 }
      ∷ [];
  workers = record { stand = Finished; seen = 1 } ∷ record { stand = Joined; seen = 2 } ∷ [];
})
joined = refl

not_with_itself : step finished (JoinSeat 0 0) ≡ None
not_with_itself = refl

-- ---- an exchange that finds another index than the worker saw

abbrev two : Round
two = first_round (Some 4 ∷ Some 3 ∷ []) 2

abbrev both_offer : List Event
both_offer =
    SplitSeat 0 1
    ∷ Claim 0
    ∷ Claim 1
    ∷ StoreHigh 0 0
    ∷ StoreLow 0 0
    ∷ StoreHigh 1 1
    ∷ StoreLow 1 1
    ∷ Exchange 0 0 0
    ∷ Exchange 1 0 1
    ∷ []

missed : steps two both_offer
    ≡ Some (record {
      lengths =
          record { gain = Some 4; owner = Some 0; fate = Offered; high = 0; low = 4 }
          ∷ record { gain = Some 3; owner = Some 1; fate = Beaten; high = 0; low = 3 }
          ∷ [];
      workers = record { stand = Working; seen = 1 } ∷ record { stand = Working; seen = 1 } ∷ [];
      claims = 2;
      best = 1;
    })
missed = refl
