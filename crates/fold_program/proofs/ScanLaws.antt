-- What is refused of all bricks is what is refused of the columns one after the other.
use Rattle.std.proofs.Common.{◌≡◌, ℕ, zero, suc, ◌+◌, ◌*◌, ◌/◌, ◌%◌, ◌≤◌, ◌<◌, ℤ, ◌≤ℤ◌, ◌<ℤ◌, int_lt, true, false, List}
use Rattle.std.proofs.Common.{[], ◌∷◌, ◌++◌, length, map, take, drop, refl, ap, arith, sym, ◌∙◌, cond, append_assoc}
use Rattle.std.proofs.Common.{length-take, get_or, Some, None}
use Rattle.std.specs.List.{AllZip, AllByRecursion, zip}
use Rattle.std.proofs.lemmas.Int.{ints}
use Rattle.std.proofs.lemmas.Nat.{div-mul-add, mod-mul-add}
use Rattle.std.proofs.lemmas.List.{take-append-drop, length-drop, take_more}
use Rattle.std.proofs.lemmas.List.Elements.{AllZip-push, All-tail, recursion_from_All}
use Rattle.lattice_theory.specs.Vectors.{Vector}
use Rattle.fold_theory.specs.declared.Cost.{Cost}
use Rattle.fold_theory.specs.Costs.{BoundedCost}
use Rattle.lattice_laws.specs.VectorLists.{flat}
use Rattle.convex_costs.specs.declared.CostFault.{CostFault}
use Rattle.convex_costs.specs.Faults.{cost_fault}
use Rattle.fold_program.specs.Parts.{bricks_from}
use Rattle.fold_program.specs.declared.fault.ProgramFault.{ProgramFault}
use Rattle.fold_program.specs.declared.fault.ProgramFault.TheVariants as fault
use Rattle.fold_program.specs.Refusals.{refusal_of, head_of, crossed_in, cost_faults_in, of_each}
use Rattle.fold_program.specs.Bounds.{IsGood, AreBoundCosts, IsFirstCrossed, IsFirstRefused}

-- ---- lists

-- what is refused of each element, by its place from k on, one after the other
abbrev pub scan : {A : Type 0} → (ℕ → A → List ProgramFault) → ℕ → List A → List ProgramFault
scan f k [] = []
scan f k (a ∷ rest) = f k a ++ scan f (suc k) rest

-- the bounds at place k, where each brick has t columns, are crossed
abbrev pub crossed_at : ℕ → ℕ → ℤ × ℤ → List ProgramFault
crossed_at t k bounds = cond (int_lt bounds.1 bounds.0) (fault.CrossedBounds (k / t + 1) (k % t + 1) ∷ []) []

-- the cost at place k is refused over its bounds
abbrev pub fault_at : ℕ → ℕ → Cost × (ℤ × ℤ) → List ProgramFault
fault_at t k c = refusal_of (k / t + 1) (k % t + 1) (cost_fault c.0 c.1.0 c.1.1)

pub scan-append : {A : Type 0} → (f : ℕ → A → List ProgramFault) (k : ℕ) (xs ys : List A) →
    scan f k (xs ++ ys) ≡ scan f k xs ++ scan f (k + length xs) ys
scan-append f k [] ys = let e : k + 0 ≡ k = omega arith in rw e refl
scan-append f k (x ∷ xs) ys =
    let e : k + suc (length xs) ≡ suc k + length xs = omega arith in
    rw e (ap (λ r. f k x ++ r) (scan-append f (suc k) xs ys)
    ∙ sym (append_assoc (f k x) (scan f (suc k) xs) (scan f (suc k + length xs) ys)))

module _ {A B : Type 0} where
  pub zip-append : (xs us : List A) (ys vs : List B) → length xs ≡ length ys →
      zip (xs ++ us) (ys ++ vs) ≡ zip xs ys ++ zip us vs
  zip-append [] us [] vs same = refl
  zip-append [] us (y ∷ ys) vs same = absurd (omega arith)
  zip-append (x ∷ xs) us [] vs same = absurd (omega arith)
  zip-append (x ∷ xs) us (y ∷ ys) vs same = ap (λ r. (x, y) ∷ r) (zip-append xs us ys vs (omega arith))

  pub length-zip_same : (xs : List A) (ys : List B) → length xs ≡ length ys → length (zip xs ys) ≡ length xs
  length-zip_same [] [] same = refl
  length-zip_same [] (y ∷ ys) same = absurd (omega arith)
  length-zip_same (x ∷ xs) [] same = absurd (omega arith)
  length-zip_same (x ∷ xs) (y ∷ ys) same = ap suc (length-zip_same xs ys (omega arith))

-- ---- bounds

crossed_row : (t i j : ℕ) (l u : Vector) → length l ≡ length u → j + length l ≤ t →
    crossed_in (i + 1) (j + 1) l u ≡ scan (crossed_at t) (i * t + j) (zip l u)
crossed_row t i j [] [] same fits = refl
crossed_row t i j [] (b ∷ u) same fits = refl
crossed_row t i j (a ∷ l) [] same fits = absurd (omega arith)
crossed_row t i j (a ∷ l) (b ∷ u) same fits =
    let brick = div-mul-add i t j (omega arith) in
    let col = mod-mul-add i t j (omega arith) in
    let next : suc (j + 1) ≡ suc j + 1 = omega arith in
    let place : suc (i * t + j) ≡ i * t + suc j = omega arith in
    rw (brick, col, next, place)
    (ap (λ r. cond (int_lt b a) (fault.CrossedBounds (i + 1) (j + 1) ∷ []) [] ++ r)
    (crossed_row t i (suc j) l u (omega arith) (omega arith)))

pub crossed_rows : (t s i : ℕ) (lower upper : List Vector) (right : Vector) (costs : List Cost) →
    AllByRecursion (λ row. length row ≡ t) lower → AllByRecursion (λ row. length row ≡ t) upper →
    length lower ≡ length upper →
    of_each (λ k b. crossed_in k 1 b.lower b.upper) (i + 1) (bricks_from t s lower upper right costs)
    ≡ scan (crossed_at t) (i * t) (zip (flat lower) (flat upper))
crossed_rows t s i [] upper right costs low high same = refl
crossed_rows t s i (l ∷ lower) [] right costs low high same = absurd (omega arith)
crossed_rows t s i (l ∷ lower) (u ∷ upper) right costs low high same =
    let width : length l ≡ t = low.0 in
    let even : length l ≡ length u = low.0 ∙ sym high.0 in
    let here = crossed_row t i 0 l u even (omega arith) in
    let rest = crossed_rows t s (suc i) lower upper (drop s right) (drop t costs) low.1 high.1 (omega arith) in
    let start : i * t + 0 ≡ i * t = omega arith in
    let size = length-zip_same l u even in
    let next : i * t + length (zip l u) ≡ suc i * t = omega arith in
    let number : suc (i + 1) ≡ suc i + 1 = omega arith in
    rw (
      zip-append l (flat lower) u (flat upper) even,
      scan-append (crossed_at t) (i * t) (zip l u) (zip (flat lower) (flat upper)),
      next,
      sym rest,
      number,
    )
    (ap (λ r. r ++ of_each (λ k b. crossed_in k 1 b.lower b.upper) (suc i + 1)
    (bricks_from t s lower upper (drop s right) (drop t costs))) (rw start at here))

-- ---- costs

fault_row : (t i j : ℕ) (cs : List Cost) (l u : Vector) → length cs ≡ length l → length l ≡ length u →
    j + length l ≤ t →
    cost_faults_in (i + 1) (j + 1) cs l u ≡ scan (fault_at t) (i * t + j) (zip cs (zip l u))
fault_row t i j [] l u all same fits = refl
fault_row t i j (c ∷ cs) [] u all same fits = absurd (omega arith)
fault_row t i j (c ∷ cs) (a ∷ l) [] all same fits = absurd (omega arith)
fault_row t i j (c ∷ cs) (a ∷ l) (b ∷ u) all same fits =
    let brick = div-mul-add i t j (omega arith) in
    let col = mod-mul-add i t j (omega arith) in
    let next : suc (j + 1) ≡ suc j + 1 = omega arith in
    let place : suc (i * t + j) ≡ i * t + suc j = omega arith in
    rw (brick, col, next, place)
    (ap (λ r. refusal_of (i + 1) (j + 1) (cost_fault c a b) ++ r)
    (fault_row t i (suc j) cs l u (omega arith) (omega arith) (omega arith)))

pub fault_rows : (t s i : ℕ) (lower upper : List Vector) (right : Vector) (costs : List Cost) →
    AllByRecursion (λ row. length row ≡ t) lower → AllByRecursion (λ row. length row ≡ t) upper →
    length lower ≡ length upper → length costs ≡ length lower * t →
    of_each (λ k b. cost_faults_in k 1 b.costs b.lower b.upper) (i + 1) (bricks_from t s lower upper right costs)
    ≡ scan (fault_at t) (i * t) (zip costs (zip (flat lower) (flat upper)))
fault_rows t s i [] upper right [] low high same all = refl
fault_rows t s i [] upper right (c ∷ costs) low high same all = absurd (omega arith)
fault_rows t s i (l ∷ lower) [] right costs low high same all = absurd (omega arith)
fault_rows t s i (l ∷ lower) (u ∷ upper) right costs low high same all =
    let width : length l ≡ t = low.0 in
    let even : length l ≡ length u = low.0 ∙ sym high.0 in
    let first : length (take t costs) ≡ length l = simp length-take (omega arith) in
    let left : length (drop t costs) ≡ length lower * t = simp length-drop (omega arith) in
    let bounds = length-zip_same l u even in
    let here = fault_row t i 0 (take t costs) l u first even (omega arith) in
    let rest = fault_rows t s (suc i) lower upper (drop s right) (drop t costs) low.1 high.1 (omega arith) left in
    let start : i * t + 0 ≡ i * t = omega arith in
    let size = length-zip_same (take t costs) (zip l u) (first ∙ sym bounds) in
    let next : i * t + length (zip (take t costs) (zip l u)) ≡ suc i * t = omega arith in
    let number : suc (i + 1) ≡ suc i + 1 = omega arith in
    let parts : zip costs (zip (flat (l ∷ lower)) (flat (u ∷ upper)))
    ≡ zip (take t costs) (zip l u) ++ zip (drop t costs) (zip (flat lower) (flat upper)) =
    ap (λ cs. zip cs (zip (flat (l ∷ lower)) (flat (u ∷ upper)))) (sym (take-append-drop t costs))
    ∙ ap (λ bs. zip (take t costs ++ drop t costs) bs) (zip-append l (flat lower) u (flat upper) even)
    ∙ zip-append (take t costs) (drop t costs) (zip l u) (zip (flat lower) (flat upper)) (first ∙ sym bounds) in
    rw (
      parts,
      scan-append (fault_at t) (i * t) (zip (take t costs) (zip l u))
          (zip (drop t costs) (zip (flat lower) (flat upper))),
      next,
      sym rest,
      number,
    )
    (ap (λ r. r ++ of_each (λ k b. cost_faults_in k 1 b.costs b.lower b.upper) (suc i + 1)
    (bricks_from t s lower upper (drop s right) (drop t costs))) (rw start at here))

-- one more pair of bounds that do not cross
pub uncrossed_more : (xs ys : Vector) (i : ℕ) (d e : ℤ) → i < length xs → i < length ys →
    AllZip ◌≤ℤ◌ (take i xs) (take i ys) → get_or xs i d ≤ℤ get_or ys i e →
    AllZip ◌≤ℤ◌ (take (i + 1) xs) (take (i + 1) ys)
uncrossed_more xs ys i d e first second below here =
    rw (take_more xs i d first, take_more ys i e second)
    (AllZip-push ◌≤ℤ◌ (take i xs) (take i ys) (get_or xs i d) (get_or ys i e) below here)

-- bounds of which none are crossed
pub scan-uncrossed : (t k : ℕ) (lower upper : Vector) → AllZip ◌≤ℤ◌ lower upper →
    scan (crossed_at t) k (zip lower upper) ≡ []
scan-uncrossed t k [] upper uncrossed = refl
scan-uncrossed t k (l ∷ lower) [] uncrossed = refl
scan-uncrossed t k (l ∷ lower) (u ∷ upper) uncrossed =
    let first : l ≤ℤ u = uncrossed.0 in
    let passes : int_lt u l ≡ false = grind (arith, ints) in
    rw passes (scan-uncrossed t (suc k) lower upper uncrossed.1)

-- the first bounds that are crossed
pub scan-crossed : (t k at : ℕ) (lower upper : Vector) → at < length lower → at < length upper →
    IsFirstCrossed lower upper at →
    head_of (scan (crossed_at t) k (zip lower upper)) ≡ Some (fault.CrossedBounds ((k + at) / t + 1) ((k + at) % t + 1))
scan-crossed t k at [] upper inside too first = absurd (omega arith)
scan-crossed t k at (l ∷ lower) [] inside too first = absurd (omega arith)
scan-crossed t k zero (l ∷ lower) (u ∷ upper) inside too first =
    let crossed : u <ℤ l = first.crossed in
    let stops : int_lt u l ≡ true = grind (arith, ints) in
    let place : k + 0 ≡ k = omega arith in
    rw (stops, place) refl
scan-crossed t k (suc at) (l ∷ lower) (u ∷ upper) inside too first =
    let order : l ≤ℤ u = first.before.0 in
    let passes : int_lt u l ≡ false = grind (arith, ints) in
    let place : suc k + at ≡ k + suc at = omega arith in
    let rest = scan-crossed t (suc k) at lower upper (omega arith) (omega arith)
    (record { before = first.before.1; crossed = first.crossed }) in
    rw passes (rw place at rest)

-- costs that are good over their bounds
pub scan-good : (t k : ℕ) (cs : List BoundedCost) → AllByRecursion IsGood cs →
    scan (fault_at t) k (zip (map (λ c. c.cost) cs) (zip (map (λ c. c.lower) cs) (map (λ c. c.upper) cs))) ≡ []
scan-good t k [] good = refl
scan-good t k (c ∷ cs) good = rw good.0.faultless (scan-good t (suc k) cs good.1)

-- the first cost that is refused
pub scan-refused : (t k at : ℕ) (costs : List Cost) (lower upper : Vector)
    (f : CostFault) → at < length lower → at < length upper →
    IsFirstRefused costs lower upper at f →
    head_of (scan (fault_at t) k (zip costs (zip lower upper)))
    ≡ Some (fault.Cost ((k + at) / t + 1) ((k + at) % t + 1) f)
scan-refused t k at [] lower upper f inside too first = absurd (cc)
scan-refused t k at (c ∷ costs) [] upper f inside too first = absurd (omega arith)
scan-refused t k at (c ∷ costs) (l ∷ lower) [] f inside too first = absurd (omega arith)
scan-refused t k zero (c ∷ costs) (l ∷ lower) (u ∷ upper) f inside too first =
    let there : Some c ≡ Some first.cost = first.there in
    let same : c ≡ first.cost = cc in
    let refused : cost_fault c l u ≡ Some f = ap (λ d. cost_fault d l u) same ∙ first.refused in
    let place : k + 0 ≡ k = omega arith in
    rw (refused, place) refl
scan-refused t k (suc at) (c ∷ costs) (l ∷ lower) (u ∷ upper) f inside too first =
    let place : suc k + at ≡ k + suc at = omega arith in
    let passes = accepted_head first.before.0 first.before.1 in
    let rest = scan-refused t (suc k) at costs lower upper f (omega arith) (omega arith)
    (record {
      before = accepted_tail first.before.0 first.before.1;
      cost = first.cost;
      there = first.there;
      refused = first.refused;
    }) in
    rw passes (rw place at rest)
  where
    accepted_head : (cs : List BoundedCost) →
        AreBoundCosts (c ∷ take at costs) (l ∷ take at lower) (u ∷ take at upper) cs → cost_fault c l u ≡ None
    accepted_head [] are = absurd (cc)
    accepted_head (d ∷ cs) are =
        let good = recursion_from_All IsGood (d ∷ cs) are.good in
        let cost : d.cost ≡ c = cc in
        let low : d.lower ≡ l = cc in
        let high : d.upper ≡ u = cc in
        rw (cost, low, high) at good.0.faultless

    accepted_tail : (cs : List BoundedCost) →
        AreBoundCosts (c ∷ take at costs) (l ∷ take at lower) (u ∷ take at upper) cs →
        (ds : List BoundedCost) × AreBoundCosts (take at costs) (take at lower) (take at upper) ds
    accepted_tail [] are = absurd (cc)
    accepted_tail (d ∷ cs) are =
        (cs, record { costs_are = cc; lower_is = cc; upper_is = cc; good = All-tail IsGood d cs are.good })
