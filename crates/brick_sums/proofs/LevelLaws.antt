-- Laws of the sums of one more generator, while they are added one by one.
use Rattle.std.proofs.Common.{◌≡◌, ℕ, suc, ◌<◌, ◌≤◌, List, ◌∷◌, length, refl, ap, arith, sym, subst, ◌∙◌, ◌⊎◌, inl, inr}
use Rattle.std.specs.List.{All, Contains}
use Rattle.std.proofs.lemmas.Bool.{cases_lt}
use Rattle.std.proofs.lemmas.List.{length-map}
use Rattle.std.proofs.lemmas.List.Elements.{All-contains, All-cons, All-weaker, All-map}
use Rattle.std.proofs.lemmas.List.Sorted.{IsPermutation-map, Contains-permutation, All-permutation, length_permutation}
use Rattle.lattice_theory.specs.Vectors.{Vector, add, sub}
use Rattle.lattice_theory.specs.Matrices.{Matrix}
use Rattle.lattice_theory.specs.SignedSums.{Sum, IsSignedSum, AreSums, ExceedsSumsOf, vectors}
use Rattle.lattice_laws.proofs.VectorLists.{vectors-sum}
use Rattle.brick_sums.specs.declared.fault.SumsFault.{SumsFault}
use Rattle.brick_sums.specs.declared.fault.SumsFault.TheVariants.{Limit, Memory}
use Rattle.brick_sums.specs.Refusals.{IsSumsFault}
use Rattle.brick_sums.specs.Levels.{IsOffered, IsSumUpTo, AreLast, AreSumsSoFar, AreGrown, HasBoth, HasNeighbours}
use Rattle.brick_sums.proofs.SumLaws.{AreSums-stop, HasLevel-lacking}

-- ---- one vector that is offered

-- the vector that was offered is there
pub IsOffered-there : (s : Sum) (old new : List Sum) → IsOffered s old new → Contains (vectors new) s.vector
IsOffered-there s old new offered = elim offered.either [
  | inl same ↦ subst (λ sums. Contains (vectors sums) s.vector) (sym same.0) same.1
  | inr came ↦
      Contains-permutation _ (vectors new) s.vector (IsPermutation-map (λ s. s.vector) _ new came.1) (
        0,
        omega arith,
        refl,
      )
]

-- and so is every vector that was there before
pub IsOffered-kept : (s : Sum) (old new : List Sum) → IsOffered s old new → (v : Vector) → Contains (vectors old) v →
    Contains (vectors new) v
IsOffered-kept s old new offered v found = elim offered.either [
  | inl same ↦ subst (λ sums. Contains (vectors sums) v) (sym same.0) found
  | inr came ↦
      Contains-permutation _ (vectors new) v (IsPermutation-map (λ s. s.vector) _ new came.1)
      (suc found.0, omega (arith, found.1), found.2)
]

-- a list that keeps its vectors keeps the sums with each generator
pub HasNeighbours-kept : (gens : List Vector) (v : Vector) (old new : List Sum) →
    ((w : Vector) → Contains (vectors old) w → Contains (vectors new) w) → HasNeighbours gens old v →
    HasNeighbours gens new v
HasNeighbours-kept gens v old new kept done =
    All-weaker (HasBoth old v) (HasBoth new v) (λ e there. (kept _ there.0, kept _ there.1)) gens done

-- ---- the list while it grows

module _ (t : ℕ) (gens : List Vector) where
  -- a sum of fewer generators is one of more
  IsSumUpTo-more : (m n : ℕ) (sums : List Sum) → m ≤ n → All (IsSumUpTo t gens m) sums → All (IsSumUpTo t gens n) sums
  IsSumUpTo-more m n sums below sound =
      All-weaker (IsSumUpTo t gens m) (IsSumUpTo t gens n) (λ s known. (omega (arith, below, known.0), known.1)) sums
      sound

module _ (t : ℕ) (gens : List Vector) (level : ℕ) where
  -- all sums of at most so many generators are such sums so far
  pub AreSums-so_far : (sums : List Sum) → AreSums t gens level sums → AreSumsSoFar t gens level sums
  AreSums-so_far sums these = record {
    rising = these.rising;
    sound = IsSumUpTo-more t gens level (suc level) sums (omega arith) these.sound;
    complete = these.complete;
  }

  pub AreGrown-itself : (sums : List Sum) → AreSumsSoFar t gens level sums → AreGrown t gens level sums sums
  AreGrown-itself sums so_far = record { so_far = so_far; kept = λ w found. found; grown = inl refl }

  pub AreGrown-trans : (old mid new : List Sum) → AreGrown t gens level old mid → AreGrown t gens level mid new →
      AreGrown t gens level old new
  AreGrown-trans old mid new first second = record {
    so_far = second.so_far;
    kept = λ w found. second.kept w (first.kept w found);
    grown = longer first.grown second.grown;
  }
    where
      longer : (mid ≡ old) ⊎ (length old < length mid) → (new ≡ mid) ⊎ (length mid < length new) →
          (new ≡ old) ⊎ (length old < length new)
      longer (inl same) (inl kept) = inl (kept ∙ same)
      longer (inl same) (inr more) = inr (omega (arith, ap length same, more))
      longer (inr more) (inl kept) = inr (omega (arith, ap length kept, more))
      longer (inr more) (inr also) = inr (omega (arith, more, also))

  -- more of them than a limit are more sums than the limit
  pub AreSumsSoFar-exceeds : (most : ℕ) (sums : List Sum) → AreSumsSoFar t gens level sums → most < length sums →
      ExceedsSumsOf t gens (suc level) most
  AreSumsSoFar-exceeds most sums so_far many =
      let IsSum : Vector → Type 0 = λ v. (n : ℕ) × (n ≤ suc level) × IsSignedSum t gens n v in
      let each : All (λ s. IsSum s.vector) sums =
      All-weaker (IsSumUpTo t gens (suc level)) (λ s. IsSum s.vector) (λ s known. (s.level, known.0, known.1.reached))
      sums so_far.sound in (
        vectors sums,
        so_far.rising,
        omega (arith, many, length-map sums (λ s. s.vector)),
        All-map IsSum (λ (s : Sum). s.vector) sums each,
      )

  -- a sum of so many generators came in, or was there
  IsOffered-so_far : (w : Vector) (old new : List Sum) → AreSumsSoFar t gens level old →
      IsSignedSum t gens (suc level) w →
      IsOffered (record { level = suc level; vector = w }) old new → AreSumsSoFar t gens level new
  IsOffered-so_far w old new so_far sum offered = elim offered.either [
    | inl same ↦ subst (AreSumsSoFar t gens level) (sym same.0) so_far
    | inr came ↦
        let s : Sum = record { level = suc level; vector = w } in
        let known : IsSumUpTo t gens (suc level) s =
        (omega arith, HasLevel-lacking t gens level old w so_far.complete came.0 sum) in
        record {
          rising = offered.rising;
          sound =
              All-permutation (IsSumUpTo t gens (suc level)) (s ∷ old) new came.1
              (All-cons (IsSumUpTo t gens (suc level)) s old known so_far.sound);
          complete = λ n v within other. IsOffered-kept s old new offered v (so_far.complete n v within other);
        }
  ]

  -- so the list is one that grew
  IsOffered-grown : (n : ℕ) → n ≡ suc level → (w : Vector) (old new : List Sum) → AreSumsSoFar t gens level old →
      IsSignedSum t gens (suc level) w →
      IsOffered (record { level = n; vector = w }) old new → AreGrown t gens level old new
  IsOffered-grown n next w old new so_far sum offered = record {
    so_far =
        IsOffered-so_far w old new so_far sum
        (subst (λ m. IsOffered (record { level = m; vector = w }) old new) next offered);
    kept = IsOffered-kept _ old new offered;
    grown = elim offered.either [
      | inl same ↦ inl same.0
      | inr came ↦ inr (omega (arith, length_permutation _ new came.1))
    ];
  }

  -- ---- the sums of one vector and each generator

  -- the sum and the difference with a generator were offered
  pub AreGrown-neighbours : (n : ℕ) → n ≡ suc level → (before e plus minus : Vector) (old mid new : List Sum) →
      IsSignedSum t gens level before → Contains gens e → plus ≡ add before e → minus ≡ sub before e →
      AreSumsSoFar t gens level old →
      IsOffered (record { level = n; vector = plus }) old mid →
      IsOffered (record { level = n; vector = minus }) mid new →
      record { grew : AreGrown t gens level old new; there : HasBoth new before e }
  AreGrown-neighbours n next before e plus minus old mid new sum generator is_plus is_minus so_far first second =
      let half : AreGrown t gens level old mid =
      IsOffered-grown n next plus old mid so_far (before, e, sum, generator, inl is_plus) first in
      let rest : AreGrown t gens level mid new =
      IsOffered-grown n next minus mid new half.so_far (before, e, sum, generator, inr is_minus) second in
      let plus_there : Contains (vectors new) plus = rest.kept plus (IsOffered-there _ old mid first) in
      record {
        grew = AreGrown-trans old mid new half rest;
        there = (
          subst (Contains (vectors new)) is_plus plus_there,
          subst (Contains (vectors new)) is_minus (IsOffered-there _ mid new second),
        );
      }

  -- ---- a level that is done

  -- the sums of the last ones and each generator were offered: now all sums of one more generator are there
  pub AreSums-next : (old new : List Sum) (last : List Vector) → AreSums t gens level old →
      AreLast t gens level old last → AreGrown t gens level old new →
      All (HasNeighbours gens new) last → AreSums t gens (suc level) new
  AreSums-next old new last these lasts grew done = record {
    rising = grew.so_far.rising;
    sound = grew.so_far.sound;
    complete = λ n w within sum. elim (cases_lt n (suc level)) [
      | inl below ↦ grew.kept w (these.complete n w (omega (arith, below)) sum)
      | inr top ↦
          let same : n ≡ suc level = omega (arith, within, top) in
          newest w (subst (λ m. IsSignedSum t gens m w) same sum)
    ];
  }
    where
      -- the new list has both sums of one of the last vectors and a generator
      both : (before e : Vector) → Contains last before → Contains gens e → HasBoth new before e
      both before e here generator =
          All-contains (HasBoth new before) gens e (All-contains (HasNeighbours gens new) _ before done here) generator

      newest : (w : Vector) → IsSignedSum t gens (suc level) w → Contains (vectors new) w
      newest w (before, e, sum, generator, either) =
          let found : (s : Sum) × Contains old s × (s.vector ≡ before) =
          vectors-sum old before (these.complete level before (omega arith) sum) in
          let known : IsSumUpTo t gens level found.0 =
          All-contains (IsSumUpTo t gens level) old found.0 these.sound found.1 in
          let reached : IsSignedSum t gens found.0.level before =
          subst (IsSignedSum t gens found.0.level) found.2 known.1.reached in
          elim (cases_lt found.0.level level) [
            | inl lower ↦ grew.kept w (these.complete (suc found.0.level) w lower (
              before,
              e,
              reached,
              generator,
              either,
            ))
            | inr same ↦
                let its : found.0.level ≡ level = omega (arith, known.0, same) in
                let here : Contains last before =
                subst (Contains last) found.2 (All-contains (λ s. s.level ≡ level → Contains last s.vector) old found.0
                lasts.all found.1 its) in
                elim either [
                  | inl plus ↦ subst (Contains (vectors new)) (sym plus) (both before e here generator).0
                  | inr minus ↦ subst (Contains (vectors new)) (sym minus) (both before e here generator).1
                ]
          ]

-- ---- the end

module _ (t : ℕ) (gens : List Vector) where
  -- where one more generator added nothing, the list has all sums
  pub AreSums-stopped : (level g : ℕ) (old new : List Sum) → level ≤ g → length new ≡ length old →
      (new ≡ old) ⊎ (length old < length new) →
      AreSums t gens level old → AreSums t gens (suc level) new → AreSums t gens g new
  AreSums-stopped level g old new below same (inl kept) these more =
      AreSums-stop t gens level g new below (subst (AreSums t gens level) (sym kept) these) more
  AreSums-stopped level g old new below same (inr longer) these more = absurd (omega (arith, same, longer))

  -- more sums of fewer generators are more sums
  ExceedsSumsOf-more : (level g most : ℕ) → level ≤ g → ExceedsSumsOf t gens level most → ExceedsSumsOf t gens g most
  ExceedsSumsOf-more level g most below (zs, rising, many, all) =
      let IsSum : ℕ → Vector → Type 0 = λ m w. (n : ℕ) × (n ≤ m) × IsSignedSum t gens n w in
      (zs, rising, many, All-weaker (IsSum level) (IsSum g) (λ w sum. (sum.0, omega (arith, sum.1), sum.2)) zs all)

-- a refusal for fewer generators is one for more
pub IsSumsFault-more : (gens : Matrix) (level g most : ℕ) (fault : SumsFault) → level ≤ g →
    IsSumsFault gens level most fault → IsSumsFault gens g most fault
IsSumsFault-more gens level g most Limit below refused = ExceedsSumsOf-more gens.cols gens.rows level g most below
    refused
IsSumsFault-more gens level g most Memory below refused = tt
