-- The state of a round of workers, and which length is better than which.
use Rattle.std.specs.Prelude.{ℕ, zero, suc, ◌/◌, ◌%◌, ◌^◌, Bool, true, false, List, map, replicate, Option, Some, None}
use Rattle.std.specs.Prelude.{slice_index_or, slice_set}
use Rattle.std.specs.Option.{option_map, unwrap_or}
use Rattle.run_theory.specs.declared.Key.{Key}
use Rattle.run_theory.specs.Keys.{beats}
use Rattle.round_core.specs.declared.parts.Fate.{Fate}
use Rattle.round_core.specs.declared.parts.Fate.TheVariants.{Open}
use Rattle.round_core.specs.declared.parts.Stand.{Stand}
use Rattle.round_core.specs.declared.parts.Stand.TheVariants.{Absent, Working}
use Rattle.round_core.specs.declared.parts.Length.{Length}
use Rattle.round_core.specs.declared.parts.Worker.{Worker}

-- the lengths, the workers, how many claims were made, and the index of the best length that was offered, or 0; the
-- index of length k is k + 1
pub record Round : Type 0 where
  pub lengths : List Length
  pub workers : List Worker
  pub claims : ℕ
  pub best : ℕ

-- a length that nobody has claimed
abbrev pub unclaimed : Option ℕ → Length
unclaimed gain = record { gain = gain; owner = None; fate = Open; high = 0; low = 0 }

-- a worker that has not been split off yet
abbrev pub no_worker : Worker
no_worker = record { stand = Absent; seen = 0 }

-- past the last length, one without a gain that nobody has claimed
abbrev pub length_at : Round → ℕ → Length
length_at r k = slice_index_or r.lengths k (unclaimed None)

-- the parts of length k
abbrev pub gain_at : Round → ℕ → Option ℕ
gain_at r k = (length_at r k).gain

abbrev pub owner_at : Round → ℕ → Option ℕ
owner_at r k = (length_at r k).owner

abbrev pub fate_at : Round → ℕ → Fate
fate_at r k = (length_at r k).fate

-- past the last worker, one that has not been split off
abbrev pub worker_at : Round → ℕ → Worker
worker_at r w = slice_index_or r.workers w no_worker

-- the parts of worker w
abbrev pub stand_at : Round → ℕ → Stand
stand_at r w = (worker_at r w).stand

abbrev pub seen_at : Round → ℕ → ℕ
seen_at r w = (worker_at r w).seen

-- the gains of all lengths
abbrev pub gains_of : Round → List (Option ℕ)
gains_of r = map (λ l. l.gain) r.lengths

-- the round as it begins, with the gains of its lengths: worker 0 is at work, and nothing is claimed
abbrev pub first_round : List (Option ℕ) → ℕ → Round
first_round gains workers = record {
  lengths = map unclaimed gains;
  workers = slice_set (replicate workers no_worker) 0 (record { stand = Working; seen = 0 });
  claims = 0;
  best = 0;
}

-- the key of a length that has a gain
abbrev pub key_at : Round → ℕ → Option Key
key_at r k = option_map (λ g. record { gain = g; k = k }) (gain_at r k)

-- a key beats none, and the lesser key
abbrev pub outranks : Option Key → Option Key → Bool
outranks None b = false
outranks (Some a) None = true
outranks (Some a) (Some b) = beats a b

-- the one index beats the other: any index but 0 beats 0, and else their lengths' keys decide
abbrev pub index_beats : Round → ℕ → ℕ → Bool
index_beats r zero j = false
index_beats r (suc i) zero = true
index_beats r (suc i) (suc j) = outranks (key_at r i) (key_at r j)

-- the halves of a gain, which is below 2 ^ 128
abbrev pub high_half : Option ℕ → ℕ
high_half gain = unwrap_or gain 0 / 2 ^ 64

abbrev pub low_half : Option ℕ → ℕ
low_half gain = unwrap_or gain 0 % 2 ^ 64
