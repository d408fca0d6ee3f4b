-- The pairs that wait: what their entries say, and what holds of the pairs of members that are none.
use Rattle.std.specs.Prelude.{◌≡◌, ℕ, ◌+◌, ◌-◌, ◌*◌, ◌≤◌, ◌<◌, ◌⊎◌, true, List, [], length, take, get_or, All, Contains}
use Rattle.std.specs.List.{AllPairs}
use Rattle.std.specs.BinaryHeap.{IsHeap}
use Rattle.std.specs.Ordering.{nat_cmp, on, flip_args}
use Rattle.std.specs.declared.cmp.Ordering.{Ordering}
use Rattle.lattice_theory.specs.Vectors.{Vector}
use Rattle.lattice_theory.specs.Matrices.{Matrix}
use Rattle.lattice_laws.proofs.SlackBases.{IsReducible}
use Rattle.pottier.specs.declared.queue.Pair.{Pair}
use Rattle.pottier.specs.Partners.{pair_counts, sum_of_pair, norm_of_sum}
use Rattle.pottier.specs.Stages.{AreFitting, IsStage}

-- the order of the entries: the greater one has the lesser norm
abbrev pub pair_order : Pair → Pair → Ordering
pair_order = flip_args (on (λ e. e.norm) nat_cmp)

abbrev pub first_of : List Vector → Pair → Vector
first_of vs e = get_or vs e.first []

abbrev pub second_of : List Vector → Pair → Vector
second_of vs e = get_or vs e.second []

-- the entry has the places of a pair of members that counts, and its norm
pub record IsPairOf (at : ℕ) (vs : List Vector) (e : Pair) : Type 0 where
  pub first : e.first < length vs
  pub second : e.second < length vs
  pub count : pair_counts at (first_of vs e) (second_of vs e) ≡ true
  pub norm : e.norm ≡ norm_of_sum at (first_of vs e) (second_of vs e)

-- the pair is among the entries
abbrev pub Waits : List Vector → List Pair → Vector → Vector → Type 0
Waits vs es p q = (e : Pair) × Contains es e × (first_of vs e ≡ p) × (second_of vs e ≡ q)

-- where the pair counts, its sum is reducible or the pair is among the entries
abbrev pub IsReducedOrWaits : ℕ → List Vector → List Pair → Vector → Vector → Type 0
IsReducedOrWaits at vs es p q = pair_counts at p q ≡ true → IsReducible vs (sum_of_pair at p q) ⊎ Waits vs es p q

-- the first members were paired with the one at a place: their pairs that count wait, beside the old entries
pub record IsPairedWith (at : ℕ) (vs : List Vector) (second firsts : ℕ) (old new : List Pair) : Type 0 where
  pub order : IsHeap pair_order old → IsHeap pair_order new
  pub entries : All (IsPairOf at vs) old → All (IsPairOf at vs) new
  pub kept : (e : Pair) → Contains old e → Contains new e
  pub waits : (i : ℕ) → i < firsts → pair_counts at (get_or vs i []) (get_or vs second []) ≡ true →
      Waits vs new (get_or vs i []) (get_or vs second [])
  pub few : length new ≤ length old + firsts

-- the members from one place to another were paired with those before them
pub record IsPairedUp (at : ℕ) (vs : List Vector) (from to : ℕ) (old new : List Pair) : Type 0 where
  pub order : IsHeap pair_order old → IsHeap pair_order new
  pub entries : All (IsPairOf at vs) old → All (IsPairOf at vs) new
  pub awaits : AllPairs (IsReducedOrWaits at vs old) (take from vs) → AllPairs (IsReducedOrWaits at vs new) (take to vs)
  pub few : length new ≤ length old + (to - from) * length vs

-- each pair of members that counts has a reducible sum or waits, and the members are a stage if the old ones were
pub record AreQueued (at limit : ℕ) (old : List Vector) (es : List Pair) (now : List Vector) : Type 0 where
  pub fitting : AreFitting (at + 1) limit now
  pub order : IsHeap pair_order es
  pub entries : All (IsPairOf at now) es
  pub awaits : AllPairs (IsReducedOrWaits at now es) now
  pub stage : (m : Matrix) → IsStage m at old → IsStage m at now
