-- What every round keeps that is reached by allowed events, and what its end shows.
use Rattle.std.specs.Prelude.{◌≡◌, ◌≢◌, ℕ, zero, suc, ◌+◌, ◌<◌, ◌≤◌, ◌⊎◌, false, length, Option, Some, None, IsTrue}
use Rattle.std.specs.Prelude.{sum_by}
use Rattle.round_core.specs.declared.parts.Fate.{Fate}
use Rattle.round_core.specs.declared.parts.Fate.TheVariants.{Open, HalfWritten, Written, Offered, Beaten}
use Rattle.round_core.specs.declared.parts.Stand.TheVariants.{Absent, Working, Finished, Joined}
use Rattle.round_core.specs.declared.parts.Length.{Length}
use Rattle.round_core.specs.declared.parts.Worker.{Worker}
use Rattle.round_core.specs.Rounds.{Round, length_at, gain_at, owner_at, fate_at, stand_at, seen_at, index_beats}
use Rattle.round_core.specs.Rounds.{high_half, low_half}
use Rattle.round_core.specs.Allowed.{is_live}

-- none, or above 0
abbrev pub IsGain : Option ℕ → Type 0
IsGain gain = gain ≢ Some 0

-- the index is 0, or that of an Offered length
abbrev pub NamesOffered : Round → ℕ → Type 0
NamesOffered r zero = Unit {0}
NamesOffered r (suc k) = fate_at r k ≡ Offered

-- the length has a gain, whose high half is stored
abbrev pub HoldsHigh : Length → Type 0
HoldsHigh l = (g : ℕ) × (l.gain ≡ Some g) × (l.high ≡ high_half l.gain)

-- the words of a length with this fate hold the halves of its gain, as far as they were stored
abbrev pub HoldsGain : Length → Fate → Type 0
HoldsGain l Open = Unit {0}
HoldsGain l HalfWritten = HoldsHigh l
HoldsGain l Written = HoldsHigh l × (l.low ≡ low_half l.gain)
HoldsGain l Offered = HoldsHigh l × (l.low ≡ low_half l.gain)
HoldsGain l Beaten = Unit {0}

-- a live worker owns the length
abbrev pub IsClaimed : Round → Length → Type 0
IsClaimed r l = (w : ℕ) × (l.owner ≡ Some w) × IsTrue (is_live (stand_at r w))

-- 1 for a worker that is Finished or Joined
abbrev pub ended : Worker → ℕ
ended s = elim s.stand [ Absent ↦ 0 | Working ↦ 0 | Finished ↦ 1 | Joined ↦ 1 ]

-- what allowed events keep: each length below the count of claims has an owner that is live, and the others are Open
-- and have none; the words hold what was stored; the best index and all that workers saw are 0 or of an Offered
-- length, and nothing that was offered or seen beats the best one, which beats what is Beaten; and a claim that came
-- past the last length has ended its worker
pub record IsSound (r : Round) : Type 0 where
  pub claimed : (k : ℕ) → k < r.claims → k < length r.lengths → IsClaimed r (length_at r k)
  pub unclaimed : (k : ℕ) → r.claims ≤ k → (owner_at r k ≡ None) × (fate_at r k ≡ Open)
  pub stored : (k : ℕ) → HoldsGain (length_at r k) (fate_at r k)
  pub best_offered : NamesOffered r r.best
  pub best_beats : (k : ℕ) → fate_at r k ≡ Offered → index_beats r (suc k) r.best ≡ false
  pub seen_offered : (w : ℕ) → NamesOffered r (seen_at r w)
  pub seen_within : (w : ℕ) → index_beats r (seen_at r w) r.best ≡ false
  pub beaten_by : (k : ℕ) → fate_at r k ≡ Beaten →
      (gain_at r k ≡ None) ⊎ IsTrue (index_beats r r.best (suc k))
  pub finished : (w : ℕ) → stand_at r w ≡ Finished → length r.lengths ≤ r.claims
  pub counted : r.claims ≤ length r.lengths + sum_by ended r.workers

-- the best length of all: it has a gain, and its index beats that of every other; none where no length has a gain
abbrev pub IsBestLength : Round → Option ℕ → Type 0
IsBestLength r None = (k : ℕ) → k < length r.lengths → gain_at r k ≡ None
IsBestLength r (Some k) = (k < length r.lengths) × (gain_at r k ≢ None)
    × ((j : ℕ) → j < length r.lengths → j ≢ k → IsTrue (index_beats r (suc k) (suc j)))
