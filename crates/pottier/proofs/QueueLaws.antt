-- Laws of the pairs that wait: what they leave covered, what one of them adds, and what holds once it is settled.
use Rattle.std.proofs.Common.{◌≡◌, ℕ, suc, ◌+◌, ◌-◌, ◌*◌, ◌<◌, ◌≤◌, ◌^◌, unsigned_abs, true, false, List, [], ◌∷◌}
use Rattle.std.proofs.Common.{length, take, get_or, refl, ap, arith, sym, ◌∙◌, Contains, ◌⊎◌, inl, inr, subst}
use Rattle.std.specs.List.{All, AllPairs}
use Rattle.std.specs.List.Sorted.{IsPermutation}
use Rattle.std.specs.BinaryHeap.{IsHeap, IsUpperBound, PopsGreatest}
use Rattle.std.specs.Ordering.{is_lt}
use Rattle.std.proofs.lemmas.Bool.{cases_eq}
use Rattle.std.proofs.lemmas.Bool.Decides.{nat_tests}
use Rattle.std.proofs.Math.Seq.{take-append_seam}
use Rattle.std.proofs.lemmas.List.{take_all, length-take, take_more, get_or_default, get_or_append_left, get_or-take}
use Rattle.std.proofs.lemmas.List.Elements.{All-from_recursion, All-contains, All-weaker, All-nil, All-cons, All-tail}
use Rattle.std.proofs.lemmas.List.Elements.{All-get_or}
use Rattle.std.proofs.lemmas.List.Quantifiers.{all_pairs_push}
use Rattle.std.proofs.lemmas.List.Sorted.{All-permutation, Contains-permutation, IsPermutation-sym, length_permutation}
use Rattle.lattice_theory.specs.Vectors.{Vector, is_zero, norm1, add}
use Rattle.lattice_theory.specs.Matrices.{Matrix}
use Rattle.lattice_theory.specs.Lattices.{InLattice}
use Rattle.lattice_theory.specs.BasisLimits.{IsNarrow}
use Rattle.lattice_laws.proofs.Tests.{not_both}
use Rattle.lattice_laws.proofs.Conformal.{length-add}
use Rattle.lattice_laws.proofs.Members.{contains_cases, contains_head, contains_tail}
use Rattle.lattice_laws.proofs.SlackBases.{IsReducible}
use Rattle.lattice_laws.proofs.Completion.{counts, Settles, CoversBelow, pairs_reduce}
use Rattle.pottier.specs.declared.queue.Pair.{Pair}
use Rattle.pottier.specs.Partners.{partner, pair_counts, sum_of_pair, norm_of_sum}
use Rattle.pottier.specs.Stages.{AreMembers, AreFitting, Grows, IsStage, IsDue, IsCompleted}
use Rattle.pottier.specs.Queues.{pair_order, first_of, second_of, IsPairOf, Waits, IsReducedOrWaits, IsPairedWith}
use Rattle.pottier.specs.Queues.{IsPairedUp, AreQueued}
use Rattle.pottier.proofs.PartnerLaws.{partner_is, partner_signed, partner_fits}
use Rattle.pottier.proofs.StageLaws.{sum_small, grows_length, reducible_grows, pairs_cover, cuts_some, sum_is}
use Rattle.pottier.proofs.StageLaws.{stage_completed}

-- ---- the order of the entries

-- an entry that is not greater has no smaller norm
pub not_before : (x y : Pair) → is_lt (pair_order x y) ≡ false → x.norm ≤ y.norm
not_before x y h = grind (arith, nat_tests)

pub least_first : (x : Pair) (es : List Pair) → IsUpperBound pair_order x es → (e : Pair) → Contains es e →
    x.norm ≤ e.norm
least_first x es h e c =
    not_before x e (All-contains (λ y. is_lt (pair_order x y) ≡ false) es e
    (All-from_recursion (λ y. is_lt (pair_order x y) ≡ false) es h) c)

-- ---- what is covered while the pairs wait

-- the vectors of a norm below that of each entry are covered
pub queue_covers : (m : Matrix) (at bound : ℕ) (vs : List Vector) (es : List Pair) → IsStage m at vs →
    All (IsPairOf at vs) es → ((e : Pair) → Contains es e → bound ≤ e.norm) →
    AllPairs (IsReducedOrWaits at vs es) vs → CoversBelow m at bound vs
queue_covers m at bound vs es stage entries late awaits =
    pairs_cover m at vs stage bound (pairs_reduce at bound vs (cuts_some m at vs stage)
    (λ i j d before low. settled (get_or vs i d) (get_or vs j d) (awaits i j d before low)))
  where
    early : (a b : Vector) → Waits vs es a b → norm_of_sum at a b < bound → ⊥
    early a b (e, c, f, g) small =
        let k = All-contains (IsPairOf at vs) es e entries c in
        let same : norm_of_sum at (first_of vs e) (second_of vs e) ≡ norm_of_sum at a b =
        λ i. norm_of_sum at (f i) (g i) in
        absurd (omega (arith, late e c, k.norm, small, same))

    settled : (a b : Vector) → IsReducedOrWaits at vs es a b → Settles at bound vs a b
    settled a b h = λ q either count small.
        let e : q ≡ partner at a b = partner_is at a b q either count in
        let r : IsReducible vs (sum_of_pair at a b) = elim (h (subst (λ w. counts at a w ≡ true) e count)) [
          | inl r ↦ r
          | inr w ↦ absurd (early a b w (subst (λ w. norm1 (take at (add a w)) < bound) e small))
        ] in
        subst (λ w. IsReducible vs (add a w)) (sym e) r

-- once no pair waits, all is covered
pub queue_ended : (m : Matrix) (at limit : ℕ) (old : List Vector) (es : List Pair) (now : List Vector) →
    AreQueued at limit old es now → length es ≡ 0 → IsStage m at old → IsCompleted m now
queue_ended m at limit old es now h none stage =
    stage_completed m at now (h.stage m stage)
    (λ y inside nonzero.
    queue_covers m at (suc (norm1 (take at y))) now es (h.stage m stage) h.entries
    (λ e (k, low, f). absurd (omega (arith, none, low))) h.awaits y inside nonzero (omega arith))

-- ---- the sum of a pair

pub member_fits : (size : ℕ) (vs : List Vector) (i : ℕ) → AreMembers size vs → i < length vs →
    (length (get_or vs i []) ≡ size) × IsNarrow (get_or vs i [])
member_fits size vs i h low = All-get_or (λ z. (length z ≡ size) × IsNarrow z) vs i [] low h

pub sum_fits : (at : ℕ) (vs : List Vector) (e : Pair) (z : Vector) → AreMembers (at + 1) vs → IsPairOf at vs e →
    z ≡ sum_of_pair at (first_of vs e) (second_of vs e) →
    (length z ≡ at + 1) × All (λ a. unsigned_abs a < 2 ^ 62) z
sum_fits at vs e z h pair is =
    let p = member_fits (at + 1) vs e.first h pair.first in
    let q = partner_fits at (at + 1) (first_of vs e) (second_of vs e)
    (member_fits (at + 1) vs e.second h pair.second) in
    subst (λ v. (length v ≡ at + 1) × All (λ a. unsigned_abs a < 2 ^ 62) v) (sym is) (
      length-add (first_of vs e) (partner at (first_of vs e) (second_of vs e)) (at + 1) p.0 q.0,
      sum_small (first_of vs e) (partner at (first_of vs e) (second_of vs e)) p.1 q.1,
    )

pub pair_is : (at : ℕ) (vs : List Vector) (i j norm : ℕ) (p q : Vector) → i < length vs → j < length vs →
    get_or vs i [] ≡ p → get_or vs j [] ≡ q → pair_counts at p q ≡ true →
    norm ≡ norm_of_sum at p q → IsPairOf at vs (record { norm = norm; first = i; second = j })
pair_is at vs i j norm p q low lower e f count is = record {
  first = low;
  second = lower;
  count = (λ k. pair_counts at (e k) (f k)) ∙ count;
  norm = is ∙ sym (λ k. norm_of_sum at (e k) (f k));
}

contains_at : (vs : List Vector) (i : ℕ) → i < length vs → Contains vs (get_or vs i [])
contains_at vs i low = (i, low, get_or_default vs i (get_or vs i []) [] low)

-- it is due where all of a smaller norm are covered
pub pair_due : (m : Matrix) (at : ℕ) (vs : List Vector) (e : Pair) (z : Vector) → IsStage m at vs → IsPairOf at vs e →
    z ≡ sum_of_pair at (first_of vs e) (second_of vs e) →
    CoversBelow m at e.norm vs → IsDue m at vs z
pair_due m at vs e z stage pair is covers =
    let p = first_of vs e in
    let q = second_of vs e in
    let k = sum_is m at vs stage p (partner at p q) (inl (contains_at vs e.first pair.first))
    (partner_signed at vs p q (contains_at vs e.second pair.second)) pair.count in
    record {
      inside = subst (InLattice m) (sym is) k.0;
      nonzero = ap is_zero is ∙ k.1;
      covers = subst (λ b. CoversBelow m at b vs) (pair.norm ∙ ap (λ v. norm1 (take at v)) (sym is)) covers;
    }

-- ---- pairs of one member with those before it

pub with_none : (at : ℕ) (vs : List Vector) (second : ℕ) (es : List Pair) → IsPairedWith at vs second 0 es es
with_none at vs second es = record {
  order = λ h. h;
  entries = λ h. h;
  kept = λ e c. c;
  waits = λ i low count. absurd (omega arith);
  few = omega arith;
}

-- a pair that does not count is left out
pub with_left : (at : ℕ) (vs : List Vector) (second i : ℕ) (old now : List Pair) → IsPairedWith at vs second i old now →
    pair_counts at (get_or vs i []) (get_or vs second []) ≡ false →
    IsPairedWith at vs second (i + 1) old now
with_left at vs second i old now h none = record {
  order = h.order;
  entries = h.entries;
  kept = h.kept;
  waits = λ k low count. elim (cases_eq k i) [
    | inl e ↦ absurd (not_both _ (subst (λ n. pair_counts at (get_or vs n []) (get_or vs second []) ≡ true) e count)
        none)
    | inr other ↦ h.waits k (omega arith) count
  ];
  few = omega (arith, h.few);
}

waits_kept : (vs : List Vector) (es fs : List Pair) (p q : Vector) → ((e : Pair) → Contains es e → Contains fs e) →
    Waits vs es p q → Waits vs fs p q
waits_kept vs es fs p q kept (e, c, f, g) = (e, kept e c, f, g)

-- one that counts joins the entries
pub with_more : (at : ℕ) (vs : List Vector) (second i : ℕ) (old now later : List Pair) (e : Pair) →
    IsPairedWith at vs second i old now → IsPermutation (e ∷ now) later →
    (IsHeap pair_order now → IsHeap pair_order later) → IsPairOf at vs e → e.first ≡ i → e.second ≡ second →
    IsPairedWith at vs second (i + 1) old later
with_more at vs second i old now later e h same order pair first last =
    let kept = λ (x : Pair) (c : Contains now x). Contains-permutation (e ∷ now) later x same
    (contains_tail e now x c) in
    record {
      order = λ k. order (h.order k);
      entries = λ k. All-permutation (IsPairOf at vs) (e ∷ now) later same
          (All-cons (IsPairOf at vs) e now pair (h.entries k));
      kept = λ x c. kept x (h.kept x c);
      waits = λ k low count. elim (cases_eq k i) [
        | inl f ↦ (
          e,
          Contains-permutation (e ∷ now) later e same (contains_head e now),
          ap (λ n. get_or vs n []) (first ∙ sym f),
          ap (λ n. get_or vs n []) last,
        )
        | inr other ↦ waits_kept vs now later _ _ kept (h.waits k (omega arith) count)
      ];
      few = omega (arith, h.few, length_permutation (e ∷ now) later same);
    }

-- ---- pairs of several members with those before them

pub up_none : (at : ℕ) (vs : List Vector) (from : ℕ) (es : List Pair) → IsPairedUp at vs from from es es
up_none at vs from es = record { order = λ h. h; entries = λ h. h; awaits = λ h. h; few = omega arith }

pub up_more : (at : ℕ) (vs : List Vector) (from i : ℕ) (old now later : List Pair) → from ≤ i → i < length vs →
    IsPairedUp at vs from i old now → IsPairedWith at vs i i now later →
    IsPairedUp at vs from (i + 1) old later
up_more at vs from i old now later start low h k = record {
  order = λ o. k.order (h.order o);
  entries = λ o. k.entries (h.entries o);
  awaits = λ o.
      subst (AllPairs (IsReducedOrWaits at vs later)) (sym (take_more vs i [] low))
      (all_pairs_push (IsReducedOrWaits at vs later) (take i vs) (get_or vs i []) (before (h.awaits o)) one);
  few = fewer (length vs) (i - from) low (omega arith) h.few;
}
  where
    before : AllPairs (IsReducedOrWaits at vs now) (take i vs) → AllPairs (IsReducedOrWaits at vs later) (take i vs)
    before h = λ a b d first last. λ count. elim (h a b d first last count) [
      | inl r ↦ inl r
      | inr w ↦
          inr (waits_kept vs now later _ _ k.kept w)
    ]

    one : (j : ℕ) (d : Vector) → j < length (take i vs) →
        IsReducedOrWaits at vs later (get_or (take i vs) j d) (get_or vs i [])
    one j d place = λ count. inr (subst (λ p. Waits vs later p (get_or vs i [])) (sym (same j d place))
        (k.waits j (below j place) (subst (λ p. pair_counts at p (get_or vs i []) ≡ true) (same j d place) count)))
      where
        below : (j : ℕ) → j < length (take i vs) → j < i
        below j place = omega (arith, place, length-take i vs)

        same : (j : ℕ) (d : Vector) → j < length (take i vs) → get_or (take i vs) j d ≡ get_or vs j []
        same j d place = get_or-take i vs j d (below j place)
            ∙ get_or_default vs j d [] (omega (arith, below j place, low))

    fewer : (n more : ℕ) → i < n → i ≡ from + more → length now ≤ length old + more * n →
        length later ≤ length old + (i + 1 - from) * n
    fewer n more below e few =
        let next : (i + 1 - from) ≡ more + 1 = omega arith in
        subst (λ t. length later ≤ length old + t * n) (sym next) (omega (arith, k.few, few))

-- ---- one pair is settled

entry_grows : (at : ℕ) (us vs : List Vector) (e : Pair) → Grows us vs → IsPairOf at us e →
    (first_of vs e ≡ first_of us e) × (second_of vs e ≡ second_of us e)
entry_grows at us vs e (xs, f) pair = (
  ap (λ ws. get_or ws e.first []) f ∙ get_or_append_left us xs [] e.first pair.first,
  ap (λ ws. get_or ws e.second []) f ∙ get_or_append_left us xs [] e.second pair.second,
)

pair_grows : (at : ℕ) (us vs : List Vector) (e : Pair) → Grows us vs → IsPairOf at us e → IsPairOf at vs e
pair_grows at us vs e g pair =
    let same = entry_grows at us vs e g pair in
    let more = grows_length us vs g in
    record {
      first = omega (arith, pair.first, more);
      second = omega (arith, pair.second, more);
      count = (λ i. pair_counts at (same.0 i) (same.1 i)) ∙ pair.count;
      norm = pair.norm ∙ sym (λ i. norm_of_sum at (same.0 i) (same.1 i));
    }

module _ (at : ℕ) (now later : List Vector) (es rest : List Pair) (x : Pair) (grows : Grows now later)
    (same : IsPermutation es (x ∷ rest))
    (entries : All (IsPairOf at now) es) (settled : IsReducible later
    (sum_of_pair at (first_of now x) (second_of now x))) where
  rest_entries : All (IsPairOf at later) rest
  rest_entries =
      All-weaker (IsPairOf at now) (IsPairOf at later) (λ e pair. pair_grows at now later e grows pair) rest
      (All-tail (IsPairOf at now) x rest (All-permutation (IsPairOf at now) es (x ∷ rest) same entries))

  rest_waits : (a b : Vector) → Waits now es a b → IsReducible later (sum_of_pair at a b) ⊎ Waits later rest a b
  rest_waits a b (e, c, f, g) = elim (contains_cases x rest e (Contains-permutation es (x ∷ rest) e same c)) [
    | inl is ↦
        let first : first_of now x ≡ a = ap (first_of now) is ∙ f in
        let second : second_of now x ≡ b = ap (second_of now) is ∙ g in
        inl (subst (IsReducible later) (λ i. sum_of_pair at (first i) (second i)) settled)
    | inr there ↦
        let still = entry_grows at now later e grows (All-contains (IsPairOf at now) es e entries c) in
        inr (e, there, still.0 ∙ f, still.1 ∙ g)
  ]

  rest_pairs : AllPairs (IsReducedOrWaits at now es) now → AllPairs (IsReducedOrWaits at later rest) now
  rest_pairs h = λ i j d before low. λ count. elim (h i j d before low count) [
    | inl r ↦ inl (reducible_grows now later _ grows r)
    | inr w ↦ rest_waits _ _ w
  ]

-- at the start
pub queue_started : (at limit : ℕ) (old : List Vector) (es : List Pair) → AreFitting (at + 1) limit old →
    IsHeap pair_order [] → IsPairedUp at old 0 (length old) [] es → AreQueued at limit old es old
queue_started at limit old es fits order up = record {
  fitting = fits;
  order = up.order order;
  entries = up.entries (All-nil (IsPairOf at old));
  awaits = subst (AllPairs (IsReducedOrWaits at old es)) (take_all (length old) old (omega arith))
      (up.awaits (λ i j d before low. absurd (omega arith)));
  stage = λ m stage. stage;
}

-- before the sum of the first pair is added, the vectors of a smaller norm are covered
pub queue_next : (m : Matrix) (at limit : ℕ) (old : List Vector) (es rest : List Pair) (now : List Vector) (x : Pair) →
    AreQueued at limit old es now → PopsGreatest pair_order es x rest → IsStage m at old →
    CoversBelow m at x.norm now
queue_next m at limit old es rest now x h pops stage =
    queue_covers m at x.norm now es (h.stage m stage) h.entries (least_first x es (pops h.order).1) h.awaits

pub queue_first : (at limit : ℕ) (old : List Vector) (es rest : List Pair) (now : List Vector) (x : Pair) →
    AreQueued at limit old es now → IsPermutation es (x ∷ rest) → IsPairOf at now x
queue_first at limit old es rest now x h same =
    All-contains (IsPairOf at now) es x h.entries (Contains-permutation (x ∷ rest) es x
    (IsPermutation-sym es (x ∷ rest) same) (contains_head x rest))

-- after it
pub queue_more : (at limit : ℕ) (old : List Vector) (es rest next : List Pair) (now later : List Vector) (x : Pair) →
    AreQueued at limit old es now → IsPermutation es (x ∷ rest) →
    PopsGreatest pair_order es x rest → AreFitting (at + 1) limit later → Grows now later →
    IsReducible later (sum_of_pair at (first_of now x) (second_of now x)) →
    ((m : Matrix) → IsStage m at now → CoversBelow m at x.norm now → IsStage m at later) →
    IsPairedUp at later (length now) (length later) rest next → AreQueued at limit old next later
queue_more at limit old es rest next now later x h same pops fits grows settled step up = record {
  fitting = fits;
  order = up.order (pops h.order).0;
  entries = up.entries (rest_entries at now later es rest x grows same h.entries settled);
  awaits = subst (AllPairs (IsReducedOrWaits at later next)) (take_all (length later) later (omega arith))
      (up.awaits (subst (AllPairs (IsReducedOrWaits at later rest)) (sym (take_old now later grows))
      (rest_pairs at now later es rest x grows same h.entries settled h.awaits)));
  stage = λ m stage. step m (h.stage m stage) (queue_next m at limit old es rest now x h pops stage);
}
  where
    take_old : (us vs : List Vector) → Grows us vs → take (length us) vs ≡ us
    take_old us vs (xs, e) = ap (take (length us)) e ∙ take-append_seam us xs

-- the sum of the first pair has the length of the members and small entries
pub first_fits : (at limit : ℕ) (old : List Vector) (es rest : List Pair) (now : List Vector) (x : Pair) (z : Vector) →
    AreQueued at limit old es now → IsPermutation es (x ∷ rest) →
    z ≡ sum_of_pair at (first_of now x) (second_of now x) → (length z ≡ at + 1) × All (λ a. unsigned_abs a < 2 ^ 62) z
first_fits at limit old es rest now x z h same is = sum_fits at now x z h.fitting.members
    (queue_first at limit old es rest now x h same) is

-- it is due
pub first_due : (m : Matrix) (at limit : ℕ) (old : List Vector) (es rest : List Pair) (now : List Vector) (x : Pair)
    (z : Vector) → AreQueued at limit old es now → IsPermutation es (x ∷ rest) →
    PopsGreatest pair_order es x rest → z ≡ sum_of_pair at (first_of now x) (second_of now x) → IsStage m at old →
    IsDue m at now z
first_due m at limit old es rest now x z h same pops is stage =
    pair_due m at now x z (h.stage m stage) (queue_first at limit old es rest now x h same) is
    (queue_next m at limit old es rest now x h pops stage)

-- each step leaves fewer pairs, or fewer places for members
pub work_falls : (limit few more here rest next : ℕ) → few ≤ more → more ≤ few + 1 → more ≤ limit → here ≡ rest + 1 →
    next ≤ rest + (more - few) * more →
    (limit - more) * (limit + 1) + next < (limit - few) * (limit + 1) + here
work_falls limit few more here rest next up one within popped paired = elim (cases_eq more few) [
  | inl e ↦
      let none : more - few ≡ 0 = omega arith in
      let same : next ≤ rest + 0 * more = subst (λ t. next ≤ rest + t * more) none paired in
      subst (λ n. (limit - more) * (limit + 1) + next < (limit - n) * (limit + 1) + here) e
      (omega (arith, same, popped))
  | inr other ↦
      let one_more : more - few ≡ 1 = omega arith in
      let added : next ≤ rest + 1 * more = subst (λ t. next ≤ rest + t * more) one_more paired in
      let left : limit - few ≡ limit - more + 1 = omega arith in
      subst (λ t. (limit - more) * (limit + 1) + next < t * (limit + 1) + here) (sym left)
      (product (limit - more) (limit + 1) refl added)
]
  where
    product : (left each : ℕ) → each ≡ limit + 1 → next ≤ rest + 1 * more →
        left * each + next < (left + 1) * each + here
    product left each e added = omega (arith, e, added, popped, within)
