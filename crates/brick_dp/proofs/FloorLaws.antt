-- By how much the moves of all bricks lower the cost at most, each brick taken by itself.
use Rattle.std.proofs.Common.{◌≡◌, ℕ, zero, suc, ◌+◌, ◌-◌, ◌*◌, ◌^◌, ◌<◌, ◌≤◌, ℤ, pos, ◌+ℤ◌, ◌-ℤ◌, ◌≤ℤ◌, ◌<ℤ◌, Bool}
use Rattle.std.proofs.Common.{true, false, cond, int_lt, List, [], ◌∷◌, length, take, drop, map, sum_by, refl, ap}
use Rattle.std.proofs.Common.{arith, sym, ◌∙◌, Some, slice_get, subst, Contains, ◌⊎◌, inl, inr, unsigned_abs}
use Rattle.std.specs.List.{filter}
use Rattle.std.specs.Int.{int_min}
use Rattle.std.proofs.lemmas.Int.{ints}
use Rattle.std.proofs.lemmas.Bool.{cases_lt}
use Rattle.std.proofs.lemmas.List.Sums.{sum_by-cons, sum_by-take-drop}
use Rattle.std.proofs.lemmas.Option.{slice_get_within, get_or_from_slice_get}
use Rattle.lattice_theory.specs.Lists.{sum_zip}
use Rattle.lattice_theory.specs.Vectors.{Vector, add, zeros}
use Rattle.lattice_theory.specs.SignedSums.{vectors}
use Rattle.lattice_laws.proofs.Members.{contains_cases, contains_head, contains_tail, mapped, mapped_from, filtered}
use Rattle.lattice_laws.proofs.Members.{filtered_from}
use Rattle.lattice_laws.proofs.Multiples.{scale-zeros}
use Rattle.lattice_laws.proofs.Sums.{add_zeros}
use Rattle.lattice_laws.proofs.Places.{same_value, drop-at, contains_at, place_of}
use Rattle.fold_theory.specs.declared.Phase.{Phase}
use Rattle.fold_theory.specs.Programs.{Program, Brick, Bricks, IsWithin, is_within}
use Rattle.fold_program.specs.Refusals.{brick_magnitude, total_magnitude}
use Rattle.run_theory.specs.Walks.{brick_change, WalkCosts}
use Rattle.run_theory.specs.Live.{least, least_change, least_before}
use Rattle.run_theory.specs.Folds.{FoldValue}
use Rattle.fold_laws.proofs.Bounds.{is_within_true, is_within_of}
use Rattle.walk_laws.proofs.Walks.{front_of}
use Rattle.sieve_laws.specs.declared.PricedMove.{PricedMove}
use Rattle.sieve_laws.specs.Sieve.{Menu, IsMenu, after}
use Rattle.sieve_laws.proofs.Rows.{no_change}
use Rattle.brick_dp.specs.Needs.{IsLeastOf}
use Rattle.brick_dp.proofs.FillLaws.{AtBrick}

-- ---- the least of a list of numbers

min_low : (a b : ℤ) → (int_min a b ≤ℤ a) × (int_min a b ≤ℤ b)
min_low a b = by (int_lt b a) refl
  where
    by : (t : Bool) → int_lt b a ≡ t → (cond t b a ≤ℤ a) × (cond t b a ≤ℤ b)
    by true e = (grind (arith, ints), omega (arith, ints))
    by false e = (omega (arith, ints), grind (arith, ints))

min_one : (a b : ℤ) → (int_min a b ≡ a) ⊎ (int_min a b ≡ b)
min_one a b = by (int_lt b a)
  where
    by : (t : Bool) → (cond t b a ≡ a) ⊎ (cond t b a ≡ b)
    by true = inr refl
    by false = inl refl

least-low : (xs : List ℤ) (a : ℤ) → Contains xs a → least xs ≤ℤ a
least-low [] a there = absurd (omega (arith, there.1))
least-low (x ∷ []) a there = elim (contains_cases x [] a there) [
  | inl same ↦ omega (arith, ints, same)
  | inr later ↦ absurd (omega (arith, later.1))
]
least-low (x ∷ y ∷ rest) a there = elim (contains_cases x (y ∷ rest) a there) [
  | inl same ↦ omega (arith, ints, same, (min_low x (least (y ∷ rest))).0)
  | inr later ↦ omega (arith, ints, least-low (y ∷ rest) a later, (min_low x (least (y ∷ rest))).1)
]

least-in : (x : ℤ) (xs : List ℤ) → Contains (x ∷ xs) (least (x ∷ xs))
least-in x [] = contains_head x []
least-in x (y ∷ rest) = elim (min_one x (least (y ∷ rest))) [
  | inl first ↦ subst (Contains (x ∷ y ∷ rest)) (sym first) (contains_head x (y ∷ rest))
  | inr later ↦
      subst (Contains (x ∷ y ∷ rest)) (sym later) (contains_tail x (y ∷ rest) (least (y ∷ rest)) (least-in y rest))
]

-- ---- the least change of a brick

module _ (phase : Phase) (zs : List Vector) (k : ℕ) (b : Brick) (v : Vector) where
  abbrev change_of : Vector → ℤ
  change_of d = brick_change phase b v (after k v d)

  abbrev stays_within : Vector → Bool
  stays_within d = is_within b (after k v d)

  pub least_change-low : (d : Vector) → Contains zs d → IsWithin b (after k v d) →
      least_change phase zs k b v ≤ℤ change_of d
  least_change-low d there inside =
      let kept = filtered stays_within zs d there (is_within_of b (after k v d) inside) in
      least-low (map change_of (filter stays_within zs)) (change_of d) (mapped change_of (filter stays_within zs) d
      kept)

  least_change-one : (least_change phase zs k b v ≡ pos 0)
      ⊎ ((d : Vector) × Contains zs d × IsWithin b (after k v d) × (change_of d ≡ least_change phase zs k b v))
  least_change-one = by (filter stays_within zs) (λ d there. filtered_from stays_within zs d there)
    where
      by : (ds : List Vector) → ((d : Vector) → Contains ds d → Contains zs d × (stays_within d ≡ true)) →
          (least (map change_of ds) ≡ pos 0)
          ⊎ ((d : Vector) × Contains zs d × IsWithin b (after k v d) × (change_of d ≡ least (map change_of ds)))
      by [] kept = inl refl
      by (e ∷ es) kept =
          let (d, there, is) =
          mapped_from change_of (e ∷ es) (least (map change_of (e ∷ es))) (least-in (change_of e) (map change_of es)) in
          let (member, passes) = kept d there in
          inr (d, member, is_within_true b (after k v d) passes, is)

  -- the least of the menu is the least change
  pub least_of_menu : (menu : Menu) (t : ℕ) (found : ℤ) → IsMenu phase zs k b v menu → Contains zs (zeros t) →
      length v ≡ t →
      IsWithin b v → IsLeastOf menu found → found ≡ least_change phase zs k b v
  least_of_menu menu t found is origin size inside lowest = omega (arith, ints, up, down)
    where
      still : after k v (zeros t) ≡ v
      still = ap (add v) (scale-zeros (pos (2 ^ k)) t) ∙ add_zeros v t size

      free : change_of (zeros t) ≡ pos 0
      free = ap (brick_change phase b v) still ∙ no_change phase b v

      up : found ≤ℤ least_change phase zs k b v
      up = elim least_change-one [
        | inl none ↦ omega (arith, ints, none, lowest.below_zero)
        | inr (d, there, within, cost) ↦
            let (h, place) = place_of zs d there in
            let (i, m, here, at) = is.complete h d place within in
            let (e, move, _, change) = is.sound i m here in
            let same : e ≡ d = same_value (slice_get zs m.place) e d move (ap (slice_get zs) at ∙ place) in
            omega (arith, ints, lowest.low i m here, change, ap change_of same, cost)
      ]

      down : least_change phase zs k b v ≤ℤ found
      down = elim lowest.attained [
        | inl none ↦
            let low = least_change-low (zeros t) origin (subst (IsWithin b) (sym still) inside) in
            omega (arith, ints, low, free, none)
        | inr (i, m, here, cost) ↦
            let (e, move, within, change) = is.sound i m here in
            let low = least_change-low e (contains_at zs m.place e move) within in
            omega (arith, ints, low, change, cost)
      ]

-- ---- going through a menu

-- as IsLeastOf, for the first n moves
pub record IsLeastUpTo (menu : Menu) (found : ℤ) (n : ℕ) : Type 0 where
  pub below_zero : found ≤ℤ pos 0
  pub low : (i : ℕ) (m : PricedMove) → i < n → slice_get menu i ≡ Some m → found ≤ℤ m.change
  pub attained : (found ≡ pos 0) ⊎ ((i : ℕ) × (m : PricedMove) × (slice_get menu i ≡ Some m) × (m.change ≡ found))

pub least_none : (menu : Menu) → IsLeastUpTo menu (pos 0) 0
least_none menu = record {
  below_zero = omega (arith, ints);
  low = λ i m low. absurd (omega (arith, low));
  attained = inl refl;
}

further : (menu : Menu) (before found : ℤ) (n : ℕ) (m : PricedMove) → slice_get menu n ≡ Some m → found ≤ℤ before →
    found ≤ℤ m.change → IsLeastUpTo menu before n → (i : ℕ) (e : PricedMove) → i < n + 1 → slice_get menu i ≡ Some e →
    found ≤ℤ e.change
further menu before found n m here down low so_far i e under there = elim (cases_lt i n) [
  | inl first ↦ omega (arith, ints, down, so_far.low i e first there)
  | inr last ↦
      let place : i ≡ n = omega (arith, last, under) in
      let same : m ≡ e = same_value (slice_get menu n) m e here (ap (slice_get menu) (sym place) ∙ there) in
      omega (arith, ints, low, ap (λ (m : PricedMove). m.change) same)
]

pub least_kept : (menu : Menu) (found : ℤ) (n : ℕ) (m : PricedMove) → slice_get menu n ≡ Some m → found ≤ℤ m.change →
    IsLeastUpTo menu found n → IsLeastUpTo menu found (n + 1)
least_kept menu found n m here low so_far = record {
  below_zero = so_far.below_zero;
  low = further menu found found n m here (omega (arith, ints)) low so_far;
  attained = so_far.attained;
}

pub least_new : (menu : Menu) (found : ℤ) (n : ℕ) (m : PricedMove) → slice_get menu n ≡ Some m → m.change <ℤ found →
    IsLeastUpTo menu found n → IsLeastUpTo menu m.change (n + 1)
least_new menu found n m here low so_far = record {
  below_zero = omega (arith, ints, low, so_far.below_zero);
  low = further menu found m.change n m here (omega (arith, ints, low)) (omega (arith, ints)) so_far;
  attained = inr (n, m, here, refl);
}

pub least_all : (menu : Menu) (found : ℤ) (n : ℕ) → length menu ≤ n → IsLeastUpTo menu found n → IsLeastOf menu found
least_all menu found n all so_far = record {
  below_zero = so_far.below_zero;
  low = λ i m there. so_far.low i m (omega (arith, all, slice_get_within menu i m there)) there;
  attained = so_far.attained;
}

-- ---- going through the bricks

pub sum_zip-next : {A B : Type 0} (f : A → B → ℤ) (xs : List A) (ys : List B) (n : ℕ) (x : A) (y : B) →
    slice_get xs n ≡ Some x →
    slice_get ys n ≡ Some y → sum_zip f (take (n + 1) xs) (take (n + 1) ys) ≡ (sum_zip f (take n xs) (take n ys) +ℤ f x
    y)
sum_zip-next f [] ys n x y here there = absurd (cc)
sum_zip-next f (a ∷ xs) [] n x y here there = absurd (cc)
sum_zip-next f (a ∷ xs) (c ∷ ys) zero x y here there =
    let first : a ≡ x = cc in
    let second : c ≡ y = cc in
    let same : f a c ≡ f x y = λ i. f (first i) (second i) in
    omega (arith, ints, same)
sum_zip-next f (a ∷ xs) (c ∷ ys) (suc n) x y here there =
    let e : suc n + 1 ≡ suc (n + 1) = omega arith in
    let more = sum_zip-next f xs ys n x y here there in
    ap (λ m. sum_zip f (take m (a ∷ xs)) (take m (c ∷ ys))) e ∙ ap (λ s. f a c +ℤ s) more
    ∙ omega (arith, ints)

-- the least change, and how large it is, after one more brick
pub floor_more : (f : FoldValue) (x : Bricks) (k n : ℕ) (menu : Menu) (floor found : ℤ) → AtBrick f x k n menu →
    Contains (vectors f.sums) (zeros f.program.brick.cols) → IsLeastOf menu found →
    floor ≡ least_before f.program f.phase (vectors f.sums) x k n →
    (floor +ℤ found) ≡ least_before f.program f.phase (vectors f.sums) x k (n + 1)
floor_more f x k n menu floor found here origin lowest so_far =
    let change = least_of_menu f.phase (vectors f.sums) k here.brick here.vector menu f.program.brick.cols found
    here.menu_is.moves origin
    here.width here.within lowest in
    let next = sum_zip-next (least_change f.phase (vectors f.sums) k) f.program.bricks x n here.brick here.vector
    here.brick_there here.vector_there in
    omega (arith, ints, change, next, so_far)

pub floor_small : (f : FoldValue) (x : Bricks) (k n : ℕ) (menu : Menu) (floor found : ℤ) (most : ℕ) →
    AtBrick f x k n menu → IsLeastOf menu found →
    unsigned_abs floor + 2 * sum_by brick_magnitude (drop n f.program.bricks) ≤ most →
    unsigned_abs (floor +ℤ found) + 2 * sum_by brick_magnitude (drop (n + 1) f.program.bricks) ≤ most
floor_small f x k n menu floor found most here lowest so_far =
    omega (arith, ints, so_far, split, small)
  where
    split : sum_by brick_magnitude (drop n f.program.bricks) ≡ brick_magnitude here.brick + sum_by brick_magnitude
        (drop (n + 1) f.program.bricks)
    split = ap (sum_by brick_magnitude) (drop-at f.program.bricks n here.brick here.brick_there)
        ∙ sum_by-cons brick_magnitude here.brick (drop (n + 1) f.program.bricks)

    small : unsigned_abs found ≤ 2 * brick_magnitude here.brick
    small = elim lowest.attained [
      | inl none ↦ omega (arith, ints, none)
      | inr (i, m, there, cost) ↦
          let low = here.menu_is.small i m (slice_get_within menu i m there) in
          let change : unsigned_abs m.change ≤ 2 * brick_magnitude here.brick =
          subst (λ (m : PricedMove). unsigned_abs m.change ≤ 2 * brick_magnitude here.brick)
          (get_or_from_slice_get menu i m m there) low in
          omega (arith, ints, change, cost)
    ]

-- the least change before that brick
pub floor_less : (f : FoldValue) (x : Bricks) (k n : ℕ) (menu : Menu) (floor found : ℤ) → AtBrick f x k n menu →
    Contains (vectors f.sums) (zeros f.program.brick.cols) → IsLeastOf menu found →
    floor ≡ least_before f.program f.phase (vectors f.sums) x k (n + 1) →
    (floor -ℤ found) ≡ least_before f.program f.phase (vectors f.sums) x k n
floor_less f x k n menu floor found here origin lowest so_far =
    let more = floor_more f x k n menu (least_before f.program f.phase (vectors f.sums) x k n) found here origin lowest
    refl in
    omega (arith, ints, more, so_far)

pub floor_down : (f : FoldValue) (x : Bricks) (k n : ℕ) (menu : Menu) (floor found : ℤ) (most : ℕ) →
    AtBrick f x k n menu → IsLeastOf menu found →
    unsigned_abs floor ≤ most + 2 * sum_by brick_magnitude (drop (n + 1) f.program.bricks) →
    unsigned_abs (floor -ℤ found) ≤ most + 2 * sum_by brick_magnitude (drop n f.program.bricks)
floor_down f x k n menu floor found most here lowest so_far =
    let one = floor_small f x k n menu (pos 0) found (2 * sum_by brick_magnitude (drop n f.program.bricks)) here lowest
    (omega (arith, ints)) in
    omega (arith, ints, one, so_far)

-- the same before one more brick, from the last one on
pub floor_next : (f : FoldValue) (x : Bricks) (k done : ℕ) (menu : Menu) (floor found : ℤ) →
    done < length f.program.bricks →
    AtBrick f x k (length f.program.bricks - done - 1) menu → Contains (vectors f.sums) (zeros f.program.brick.cols) →
    IsLeastOf menu found →
    floor ≡ least_before f.program f.phase (vectors f.sums) x k (length f.program.bricks - done) →
    unsigned_abs floor ≤ 2 * total_magnitude f.program + 2 * sum_by brick_magnitude
    (drop (length f.program.bricks - done) f.program.bricks) →
    ((floor -ℤ found) ≡ least_before f.program f.phase (vectors f.sums) x k (length f.program.bricks - (done + 1)))
    × (unsigned_abs (floor -ℤ found) ≤ 2 * total_magnitude f.program + 2 * sum_by brick_magnitude
    (drop (length f.program.bricks - (done + 1)) f.program.bricks))
floor_next f x k done menu floor found low here origin lowest so_far small =
    let n = length f.program.bricks in
    let joined : n - done ≡ n - done - 1 + 1 = omega (arith, low) in
    let place : n - done - 1 ≡ n - (done + 1) = omega arith in
    let before = floor_less f x k (n - done - 1) menu floor found here origin lowest
    (so_far ∙ ap (least_before f.program f.phase (vectors f.sums) x k) joined) in
    let down = floor_down f x k (n - done - 1) menu floor found (2 * total_magnitude f.program) here lowest
    (subst (λ i. unsigned_abs floor ≤ 2 * total_magnitude f.program + 2 * sum_by brick_magnitude
    (drop i f.program.bricks)) joined small) in (
      before ∙ ap (least_before f.program f.phase (vectors f.sums) x k) place,
      subst (λ i. unsigned_abs (floor -ℤ found) ≤ 2 * total_magnitude f.program + 2 * sum_by brick_magnitude
          (drop i f.program.bricks)) place down,
    )

pub floor_fits : (f : FoldValue) (i : ℕ) (floor : ℤ) → total_magnitude f.program ≤ 2 ^ 120 →
    unsigned_abs floor ≤ 2 * total_magnitude f.program + 2 * sum_by brick_magnitude (drop i f.program.bricks) →
    unsigned_abs floor ≤ 2 ^ 122
floor_fits f i floor most small = omega (arith, most, small, sum_by-take-drop brick_magnitude f.program.bricks i)

-- ---- walks

module _ (p : Program) (phase : Phase) (zs : List Vector) (k : ℕ) (rests : Vector) where
  -- where a walk comes to after the first n bricks, and that it costs at least their least changes and its rest
  pub record Passes (bs : List Brick) (x : Bricks) (n : ℕ) (c : ℤ) : Type 0 where
    pub sum : Vector
    pub there : Contains zs sum
    pub moves : Bricks
    pub rest : ℤ
    pub walk : WalkCosts p phase zs k rests (drop n bs) (drop n x) sum moves rest
    pub low : (sum_zip (least_change phase zs k) (take n bs) (take n x) +ℤ rest) ≤ℤ c

  pub passes : (bs : List Brick) (x : Bricks) (n : ℕ) (w : Vector) (h : Bricks) (c : ℤ) → n ≤ length bs →
      Contains zs w →
      WalkCosts p phase zs k rests bs x w h c → Passes bs x n c
  passes bs x zero w h c few there wc =
      record { sum = w; there = there; moves = h; rest = c; walk = wc; low = omega (arith, ints) }
  passes [] x (suc n) w h c few there wc = absurd (omega (arith, few))
  passes (b ∷ bs) [] (suc n) w [] c few there wc = absurd (wc.walk.within)
  passes (b ∷ bs) [] (suc n) w (d ∷ h) c few there wc = absurd (omega (arith, wc.walk.size))
  passes (b ∷ bs) (v ∷ x) (suc n) w [] c few there wc = absurd (omega (arith, wc.walk.size))
  passes (b ∷ bs) (v ∷ x) (suc n) w (d ∷ h) c few there wc =
      let f = front_of p phase zs k rests b bs v x w d h c wc in
      let behind = passes bs x n (add w d) h f.rest (omega (arith, few)) f.sum f.walk in
      let low = least_change-low phase zs k b v d f.move f.within in
      record {
        sum = behind.sum;
        there = behind.there;
        moves = behind.moves;
        rest = behind.rest;
        walk = behind.walk;
        low = omega (arith, ints, behind.low, low, f.is);
      }
