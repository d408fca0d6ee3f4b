-- The cost of a point, brick by brick and column by column; the widest bounds.
use Rattle.std.proofs.Common.{◌≡◌, ℕ, zero, suc, ◌+◌, ◌-◌, ◌*◌, ◌^◌, ◌≤◌, ◌<◌, ℤ, pos, ◌+ℤ◌, ◌-ℤ◌, ◌≤ℤ◌, unsigned_abs}
use Rattle.std.proofs.Common.{List, [], ◌∷◌, ◌++◌, length, map, take, drop, flat_map, refl, ap, arith, sym, ◌∙◌, Some}
use Rattle.std.proofs.Common.{slice_get, get_or, max, sum_by, ◌⊎◌, inl, inr, IsTrue, FitsSigned}
use Rattle.std.specs.List.{AllZip, AllByRecursion}
use Rattle.std.specs.Int.{w128}
use Rattle.std.proofs.lemmas.Int.{ints, fits_signed_from_abs}
use Rattle.std.proofs.lemmas.List.{drop_all, take-map, drop-map}
use Rattle.std.proofs.lemmas.List.Sums.{sum_by-cons}
use Rattle.std.proofs.lemmas.Option.{slice_get_within, slice_get_read, slice_get-map}
use Rattle.std.specs.Option.{option_map}
use Rattle.lattice_theory.specs.Lists.{greatest, zip_with, sum_zip}
use Rattle.lattice_theory.specs.Vectors.{Vector, is_bounded}
use Rattle.fold_theory.specs.declared.Cost.{Cost}
use Rattle.fold_theory.specs.Costs.{BoundedCost, value}
use Rattle.fold_theory.specs.Programs.{Program, Brick, Bricks, brick_cost}
use Rattle.lattice_laws.specs.VectorLists.{flat}
use Rattle.lattice_laws.proofs.Tests.{is_bounded_true}
use Rattle.lattice_laws.proofs.Places.{drop-at}
use Rattle.fold_program.specs.Parts.{bricks_from}
use Rattle.fold_program.specs.Refusals.{brick_magnitude, total_magnitude}
use Rattle.fold_program.specs.Places.{OfBrick, OfColumn}
use Rattle.fold_program.specs.Bounds.{AreCostsOf, cost_magnitude}
use Rattle.fold_program.proofs.AcceptLaws.{magnitudes_all, length-map}
use Rattle.fold_program.proofs.ViewLaws.{same_some}
use Rattle.fold_program.proofs.PlaceLaws.{brick_in_total}

-- ---- the widest bounds

pub widest_end : (w r : ℕ) (us vs : Vector) → (length us ≡ 0) ⊎ (length vs ≡ 0) →
    max w (greatest (zip_with (λ a b. unsigned_abs (b -ℤ a)) us vs)) ≡ r → w ≡ r
widest_end w r [] vs none h = omega (arith, h)
widest_end w r (u ∷ us) [] none h = omega (arith, h)
widest_end w r (u ∷ us) (v ∷ vs) (inl e) h = absurd (omega arith)
widest_end w r (u ∷ us) (v ∷ vs) (inr e) h = absurd (omega arith)

-- ---- one brick

-- the values within the bounds of their costs
abbrev pub AreInRange : List BoundedCost → Vector → Type 0
AreInRange cs v = AllZip (λ c a. (c.lower ≤ℤ a) × (a ≤ℤ c.upper)) cs v

pub in_range : (cs : List BoundedCost) (v : Vector) → AllZip ◌≤ℤ◌ (map (λ c. c.lower) cs) v →
    AllZip ◌≤ℤ◌ v (map (λ c. c.upper) cs) → AreInRange cs v
in_range [] [] low high = tt
in_range [] (a ∷ v) low high = absurd low
in_range (c ∷ cs) [] low high = absurd low
in_range (c ∷ cs) (a ∷ v) low high = ((low.0, high.0), in_range cs v low.1 high.1)

-- the cost and the magnitude of a brick, by its costs with their bounds
pub brick_cost_is : (b : Brick) (cs : List BoundedCost) (v : Vector) → AreCostsOf b cs →
    brick_cost b v ≡ sum_zip value (map (λ c. c.cost) cs) v
brick_cost_is b cs v are = ap (λ costs. sum_zip value costs v) are.costs

pub brick_magnitude_is : (b : Brick) (cs : List BoundedCost) → AreCostsOf b cs →
    brick_magnitude b ≡ sum_by cost_magnitude cs
brick_magnitude_is b cs are = rw (are.costs, are.lower, are.upper) (magnitudes_all cs)

-- one column on
pub in_range_step : (cs ds : List BoundedCost) (v w : Vector) (c : BoundedCost) (a : ℤ) → cs ≡ c ∷ ds → v ≡ a ∷ w →
    AreInRange cs v → ((c.lower ≤ℤ a) × (a ≤ℤ c.upper)) × AreInRange ds w
in_range_step cs ds v w c a first second h = rw (first, second) at h

pub cost_step : (s : ℤ) (cs ds : List BoundedCost) (v w : Vector) (c : BoundedCost) (a r : ℤ) → cs ≡ c ∷ ds →
    v ≡ a ∷ w →
    s +ℤ sum_zip value (map (λ d. d.cost) cs) v ≡ r → (s +ℤ value c.cost a) +ℤ sum_zip value (map (λ d. d.cost) ds) w
    ≡ r
cost_step s cs ds v w c a r first second h =
    let k : s +ℤ (value c.cost a +ℤ sum_zip value (map (λ (d : BoundedCost). d.cost) ds) w) ≡ r =
    rw (first, second) at h in
    omega (arith, ints, k)

pub magnitude_step : (cs ds : List BoundedCost) (c : BoundedCost) → cs ≡ c ∷ ds →
    sum_by cost_magnitude cs ≡ cost_magnitude c + sum_by cost_magnitude ds
magnitude_step cs ds c e = ap (λ xs. sum_by cost_magnitude xs) e ∙ sum_by-cons cost_magnitude c ds

-- ---- all bricks

-- the cost of the bricks from brick i on
abbrev pub cost_from : ℕ → List Brick → Bricks → ℤ
cost_from i bs x = sum_zip brick_cost (drop (i - 1) bs) (drop (i - 1) x)

pub cost_from_step : (i : ℕ) (bs : List Brick) (x : Bricks) (b : Brick) (v : Vector) → 1 ≤ i →
    slice_get bs (i - 1) ≡ Some b → slice_get x (i - 1) ≡ Some v →
    cost_from i bs x ≡ (brick_cost b v +ℤ cost_from (i + 1) bs x)
cost_from_step i bs x b v from brick vector =
    let next : i + 1 - 1 ≡ i - 1 + 1 = omega arith in
    rw next (rw (drop-at bs (i - 1) b brick, drop-at x (i - 1) v vector) refl)

pub cost_from_end : (i : ℕ) (bs : List Brick) (x : Bricks) → length bs ≤ i → cost_from (i + 1) bs x ≡ pos 0
cost_from_end i bs x all = ap (λ cs. sum_zip brick_cost cs (drop (i + 1 - 1) x)) (drop_all (i + 1 - 1) bs (omega arith))

-- the magnitudes of the bricks from brick i on
abbrev pub magnitude_from : ℕ → List Brick → ℕ
magnitude_from i bs = sum_by brick_magnitude (drop (i - 1) bs)

pub magnitude_from_step : (i : ℕ) (bs : List Brick) (b : Brick) → 1 ≤ i → slice_get bs (i - 1) ≡ Some b →
    magnitude_from i bs ≡ brick_magnitude b + magnitude_from (i + 1) bs
magnitude_from_step i bs b from brick =
    let next : i + 1 - 1 ≡ i - 1 + 1 = omega arith in
    rw next (ap (λ cs. sum_by brick_magnitude cs) (drop-at bs (i - 1) b brick)
    ∙ sum_by-cons brick_magnitude b (drop (i - 1 + 1) bs))

-- ---- rows of one width

-- row i of rows of one width, among all entries
pub row_of_flat : (t : ℕ) (rows : List Vector) (i : ℕ) (row : Vector) → AllByRecursion (λ r. length r ≡ t) rows →
    slice_get rows i ≡ Some row → take t (drop (i * t) (flat rows)) ≡ row
row_of_flat t [] i row even there = absurd (cc)
row_of_flat t (r ∷ rows) zero row even there =
    let start : 0 * t ≡ 0 = omega arith in
    let width : t ≡ length r = sym even.0 in
    rw (start, width) (take_front r (flat rows)) ∙ same_some r row there
  where
    take_front : (xs ys : Vector) → take (length xs) (xs ++ ys) ≡ xs
    take_front [] ys = refl
    take_front (x ∷ xs) ys = ap (λ zs. x ∷ zs) (take_front xs ys)
row_of_flat t (r ∷ rows) (suc i) row even there =
    let next : suc i * t ≡ length r + i * t = let w : length r ≡ t = even.0 in omega arith in
    rw next (ap (take t) (drop_front r (flat rows) (i * t)) ∙ row_of_flat t rows i row even.1 there)
  where
    drop_front : (xs ys : Vector) (n : ℕ) → drop (length xs + n) (xs ++ ys) ≡ drop n ys
    drop_front [] ys n = let e : 0 + n ≡ n = omega arith in rw e refl
    drop_front (x ∷ xs) ys n =
        let e : suc (length xs) + n ≡ suc (length xs + n) = omega arith in rw e (drop_front xs ys n)

pub length-in_range : (cs : List BoundedCost) (v : Vector) → AreInRange cs v → length v ≡ length cs
length-in_range [] [] h = refl
length-in_range [] (a ∷ v) h = absurd h
length-in_range (c ∷ cs) [] h = absurd h
length-in_range (c ∷ cs) (a ∷ v) h = ap suc (length-in_range cs v h.1)

-- an element that was read stands in front of what comes from its place on
pub drop-read : {A : Type 0} → (xs : List A) (i : ℕ) (x : A) → i < length xs → x ≡ get_or xs i x →
    drop i xs ≡ x ∷ drop (i + 1) xs
drop-read xs i x inside read = drop-at xs i x (slice_get_read xs (length xs) i x refl inside read)

-- ---- the costs of a brick among all costs

part-map : {A B : Type 0} → (f : A → B) (n k : ℕ) (xs : List A) →
    take n (drop k (map f xs)) ≡ map f (take n (drop k xs))
part-map f n k xs = ap (take n) (drop-map f k xs) ∙ take-map f n (drop k xs)

-- the costs that stand with the bounds of all bricks, taken apart at brick i
pub costs_of_row : (t i : ℕ) (cs : List BoundedCost) (lower upper : List Vector) (b : Brick) →
    AllByRecursion (λ r. length r ≡ t) lower → AllByRecursion (λ r. length r ≡ t) upper →
    map (λ c. c.lower) cs ≡ flat lower → map (λ c. c.upper) cs ≡ flat upper → slice_get lower i ≡ Some b.lower →
    slice_get upper i ≡ Some b.upper →
    b.costs ≡ take t (drop (i * t) (map (λ c. c.cost) cs)) → AreCostsOf b (take t (drop (i * t) cs))
costs_of_row t i cs lower upper b low high lowers uppers lower_is upper_is costs_are =
    record {
      costs = costs_are ∙ part-map (λ (c : BoundedCost). c.cost) t (i * t) cs;
      lower =
          sym (row_of_flat t lower i b.lower low lower_is) ∙ ap (λ v. take t (drop (i * t) v)) (sym lowers)
          ∙ part-map (λ (c : BoundedCost). c.lower) t (i * t) cs;
      upper =
          sym (row_of_flat t upper i b.upper high upper_is) ∙ ap (λ v. take t (drop (i * t) v)) (sym uppers)
          ∙ part-map (λ (c : BoundedCost). c.upper) t (i * t) cs;
    }

-- ---- the widest difference

zip_with-append : {A B C : Type 0} → (f : A → B → C) (xs us : List A) (ys vs : List B) → length xs ≡ length ys →
    zip_with f (xs ++ us) (ys ++ vs) ≡ zip_with f xs ys ++ zip_with f us vs
zip_with-append f [] us [] vs same = refl
zip_with-append f [] us (y ∷ ys) vs same = absurd (omega arith)
zip_with-append f (x ∷ xs) us [] vs same = absurd (omega arith)
zip_with-append f (x ∷ xs) us (y ∷ ys) vs same = ap (λ r. f x y ∷ r) (zip_with-append f xs us ys vs (omega arith))

-- the differences of all bricks are those of all entries
pub differences_are : (t s : ℕ) (lower upper : List Vector) (right : Vector) (costs : List Cost) →
    AllByRecursion (λ r. length r ≡ t) lower → AllByRecursion (λ r. length r ≡ t) upper → length upper ≡ length lower →
    flat_map (λ b. zip_with (λ l u. unsigned_abs (u -ℤ l)) b.lower b.upper) (bricks_from t s lower upper right costs)
    ≡ zip_with (λ l u. unsigned_abs (u -ℤ l)) (flat lower) (flat upper)
differences_are t s [] upper right costs low high same = refl
differences_are t s (l ∷ lower) [] right costs low high same = absurd (omega arith)
differences_are t s (l ∷ lower) (u ∷ upper) right costs low high same =
    ap (λ r. zip_with (λ a b. unsigned_abs (b -ℤ a)) l u ++ r)
    (differences_are t s lower upper (drop s right) (drop t costs) low.1 high.1 (omega arith))
    ∙ sym (zip_with-append (λ a b. unsigned_abs (b -ℤ a)) l (flat lower) u (flat upper) (low.0 ∙ sym high.0))

-- bounds within 2 ^ 62 differ by at most 2 ^ 63
pub differences_small : (us vs : Vector) → AllByRecursion (λ a. IsTrue (is_bounded a)) us →
    AllByRecursion (λ a. IsTrue (is_bounded a)) vs → greatest (zip_with (λ l u. unsigned_abs (u -ℤ l)) us vs) ≤ 2 ^ 63
differences_small [] vs low high = omega arith
differences_small (u ∷ us) [] low high = omega arith
differences_small (u ∷ us) (v ∷ vs) low high =
    let a : unsigned_abs u ≤ 2 ^ 62 = is_bounded_true u low.0 in
    let b : unsigned_abs v ≤ 2 ^ 62 = is_bounded_true v high.0 in
    let rest = differences_small us vs low.1 high.1 in
    omega (arith, ints, rest, a, b)

at_map : {A B : Type 0} → (f : A → B) (xs : List A) (i : ℕ) (x : A) → slice_get xs i ≡ Some x →
    slice_get (map f xs) i ≡ Some (f x)
at_map f xs i x there = slice_get-map f xs i ∙ ap (option_map f) there

-- a column of the brick, by its cost with its bounds
pub column_at : (p : Program) (i j : ℕ) (cs : List BoundedCost) (d : BoundedCost) → OfBrick p i (λ b. AreCostsOf b cs) →
    j - 1 < length cs → d ≡ get_or cs (j - 1) d →
    (P : ℤ → ℤ → Cost → Type 0) → P d.lower d.upper d.cost → OfColumn p i j P
column_at p i j cs d b inside read P holds =
    let there = slice_get_read cs (length cs) (j - 1) d refl inside read in (
      b.0,
      d.lower,
      d.upper,
      d.cost,
      b.1,
      ap (λ v. slice_get v (j - 1)) b.2.lower ∙ at_map (λ (c : BoundedCost). c.lower) cs (j - 1) d there,
      ap (λ v. slice_get v (j - 1)) b.2.upper ∙ at_map (λ (c : BoundedCost). c.upper) cs (j - 1) d there,
      ap (λ v. slice_get v (j - 1)) b.2.costs ∙ at_map (λ (c : BoundedCost). c.cost) cs (j - 1) d there,
      holds,
    )

-- a column that is there is among the costs
pub column_inside : (p : Program) (i j : ℕ) (cs : List BoundedCost) (P : ℤ → ℤ → Cost → Type 0) →
    OfBrick p i (λ b. AreCostsOf b cs) → OfColumn p i j P → j - 1 < length cs
column_inside p i j cs P b column =
    let same : column.0 ≡ b.0 = same_some column.0 b.0 (sym column.4 ∙ b.1) in
    let lower : slice_get (map (λ (c : BoundedCost). c.lower) cs) (j - 1) ≡ Some column.1 =
    sym (ap (λ (d : Brick). slice_get d.lower (j - 1)) same ∙ ap (λ v. slice_get v (j - 1)) b.2.lower) ∙ column.5 in
    let within = slice_get_within (map (λ (c : BoundedCost). c.lower) cs) (j - 1) column.1 lower in
    omega (arith, within, length-map (λ (c : BoundedCost). c.lower) cs)

-- the costs of one brick are few enough to be added up
pub few_of_brick : (p : Program) (i : ℕ) (cs : List BoundedCost) → total_magnitude p ≤ 2 ^ 120 →
    OfBrick p i (λ b. AreCostsOf b cs) → sum_by cost_magnitude cs ≤ 2 ^ 120
few_of_brick p i cs total brick =
    omega (arith, total, brick_in_total p.bricks (i - 1) brick.0 brick.1, brick_magnitude_is brick.0 cs brick.2)

-- the cost so far, the cost of the next brick, and what the magnitudes leave for the others
pub record IsNextCost (p : Program) (i : ℕ) (so_far here : ℤ) : Type 0 where
  pub fits : FitsSigned w128 (so_far +ℤ here)
  pub left : unsigned_abs (so_far +ℤ here) + magnitude_from (i + 1) p.bricks ≤ total_magnitude p
  pub small : unsigned_abs (so_far +ℤ here) ≤ 2 ^ 120

module _ (p : Program) (i : ℕ) (cs : List BoundedCost) (so_far : ℤ) (total : total_magnitude p ≤ 2 ^ 120)
    (brick : OfBrick p i (λ b. AreCostsOf b cs)) (from : 1 ≤ i)
    (small : unsigned_abs so_far + magnitude_from i p.bricks ≤ total_magnitude p) where
  -- the magnitudes of the next brick are among those of all
  here_and_left : magnitude_from i p.bricks ≡ sum_by cost_magnitude cs + magnitude_from (i + 1) p.bricks
  here_and_left =
      let weight = brick_magnitude_is brick.0 cs brick.2 in
      let left = magnitude_from_step i p.bricks brick.0 from brick.1 in
      omega (arith, weight, left)

  pub few_here : sum_by cost_magnitude cs ≤ 2 ^ 120
  few_here = omega (arith, total, here_and_left, small)

  pub next_cost : (here : ℤ) → unsigned_abs here ≤ sum_by cost_magnitude cs → IsNextCost p i so_far here
  next_cost here within = record {
    fits = fits_signed_from_abs w128 _ (omega (arith, ints, total, here_and_left, small, within));
    left = omega (arith, ints, here_and_left, small, within);
    small = omega (arith, ints, total, here_and_left, small, within);
  }
