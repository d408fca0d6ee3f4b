-- Parts that are accepted make a program.
use Rattle.std.proofs.Common.{◌≡◌, ℕ, zero, suc, ◌+◌, ◌*◌, ◌≤◌, ℤ, ◌≤ℤ◌, nat_eq, Bool, true, false, not, List, [], ◌∷◌}
use Rattle.std.proofs.Common.{◌++◌, length, map, take, drop, refl, ap, arith, sym, ◌∙◌, Option, Some, None, cond}
use Rattle.std.proofs.Common.{length-take, sum_by, subst}
use Rattle.std.specs.List.{AllZip, AllByRecursion}
use Rattle.std.proofs.lemmas.Bool.Decides.{nat_tests}
use Rattle.std.proofs.lemmas.List.{take-append-drop, length-drop, take-map, drop-map}
use Rattle.std.proofs.lemmas.List.Sums.{sum_by-cons}
use Rattle.lattice_theory.specs.Lists.{zip_with}
use Rattle.lattice_theory.specs.Vectors.{Vector}
use Rattle.lattice_theory.specs.Matrices.{Matrix}
use Rattle.fold_theory.specs.declared.Cost.{Cost}
use Rattle.fold_theory.specs.Costs.{BoundedCost, value, IsConvexOn}
use Rattle.fold_theory.specs.Programs.{IsBrick}
use Rattle.lattice_laws.specs.VectorLists.{flat}
use Rattle.fold_program.specs.declared.fault.FileKind.{FileKind}
use Rattle.fold_program.specs.declared.parts.Parts.{Parts}
use Rattle.fold_program.specs.Parts.{bricks_from}
use Rattle.fold_program.specs.Refusals.{in_shape, first_misshaped, magnitudes, brick_magnitude}
use Rattle.fold_program.specs.Bounds.{IsGood, cost_magnitude}

-- ---- shapes

-- the sizes of parts that fit each other
pub record AreShaped (p : Parts) : Type 0 where
  pub link_rows : length p.link.rows ≤ 16
  pub cols_from : 1 ≤ p.link.cols
  pub cols_to : p.link.cols ≤ 32
  pub brick_rows : length p.brick.rows ≤ 16
  pub brick_cols : p.brick.cols ≡ p.link.cols
  pub lower_from : 1 ≤ length p.lower.rows
  pub lower_to : length p.lower.rows ≤ 10000
  pub lower_cols : p.lower.cols ≡ p.link.cols
  pub upper_rows : length p.upper.rows ≡ length p.lower.rows
  pub upper_cols : p.upper.cols ≡ p.link.cols
  pub right_rows : length p.right.rows ≡ 1
  pub right_cols : p.right.cols ≡ length p.link.rows + length p.lower.rows * length p.brick.rows
  pub costs : length p.costs.items ≡ length p.lower.rows * p.link.cols

-- the sizes that a shape allows
record IsInShape (a b c d : ℕ) (m : Matrix) : Type 0 where
  pub rows_from : a ≤ length m.rows
  pub rows_to : length m.rows ≤ b
  pub cols_from : c ≤ m.cols
  pub cols_to : m.cols ≤ d

is_in_shape : (a b c d : ℕ) (m : Matrix) → in_shape a b c d m ≡ true → IsInShape a b c d m
is_in_shape a b c d m h = record {
  rows_from = grind (arith, nat_tests);
  rows_to = grind (arith, nat_tests);
  cols_from = grind (arith, nat_tests);
  cols_to = grind (arith, nat_tests);
}

passed : (b : Bool) (kind : FileKind) (rest : Option FileKind) → cond (not b) (Some kind) rest ≡ None →
    (b ≡ true) × (rest ≡ None)
passed true kind rest e = (refl, e)
passed false kind rest e = absurd (cc)

counted : (b : Bool) (kind : FileKind) → cond b None (Some kind) ≡ None → b ≡ true
counted true kind e = refl
counted false kind e = absurd (cc)

pub shaped_from_none : (p : Parts) → first_misshaped p ≡ None → AreShaped p
shaped_from_none p e =
    let t = p.link.cols in
    let n = length p.lower.rows in
    let wide = length p.link.rows + n * length p.brick.rows in
    let link = passed (in_shape 0 16 1 32 p.link) _ _ e in
    let brick = passed (in_shape 0 16 t t p.brick) _ _ link.1 in
    let lower = passed (in_shape 1 10000 t t p.lower) _ _ brick.1 in
    let upper = passed (in_shape n n t t p.upper) _ _ lower.1 in
    let right = passed (in_shape 1 1 wide wide p.right) _ _ upper.1 in
    let costs = counted (nat_eq (length p.costs.items) (n * t)) _ right.1 in
    let links = is_in_shape 0 16 1 32 p.link link.0 in
    let bricks = is_in_shape 0 16 t t p.brick brick.0 in
    let lowers = is_in_shape 1 10000 t t p.lower lower.0 in
    let uppers = is_in_shape n n t t p.upper upper.0 in
    let rights = is_in_shape 1 1 wide wide p.right right.0 in
    record {
      link_rows = links.rows_to;
      cols_from = links.cols_from;
      cols_to = links.cols_to;
      brick_rows = bricks.rows_to;
      brick_cols = omega (arith, bricks.cols_from, bricks.cols_to);
      lower_from = lowers.rows_from;
      lower_to = lowers.rows_to;
      lower_cols = omega (arith, lowers.cols_from, lowers.cols_to);
      upper_rows = omega (arith, uppers.rows_from, uppers.rows_to);
      upper_cols = omega (arith, uppers.cols_from, uppers.cols_to);
      right_rows = omega (arith, rights.rows_from, rights.rows_to);
      right_cols = omega (arith, rights.cols_from, rights.cols_to);
      costs = grind (arith, nat_tests);
    }

-- ---- bricks

module _ {A B : Type 0} where
  -- a map that gives one list after another, taken apart
  pub map_parts : (f : A → B) (xs : List A) (ys zs : List B) → map f xs ≡ ys ++ zs →
      (map f (take (length ys) xs) ≡ ys) × (map f (drop (length ys) xs) ≡ zs)
  map_parts f xs [] zs e = (refl, e)
  map_parts f [] (y ∷ ys) zs e = absurd (cc)
  map_parts f (x ∷ xs) (y ∷ ys) zs e =
      let head : f x ≡ y = cc in
      let tail : map f xs ≡ ys ++ zs = cc in
      let rest = map_parts f xs ys zs tail in
      (λ i. head i ∷ rest.0 i, rest.1)

uncrossed_all : (cs : List BoundedCost) → AllByRecursion IsGood cs →
    AllZip ◌≤ℤ◌ (map (λ c. c.lower) cs) (map (λ c. c.upper) cs)
uncrossed_all [] good = tt
uncrossed_all (c ∷ cs) good = (good.0.uncrossed, uncrossed_all cs good.1)

convex_all : (cs : List BoundedCost) → AllByRecursion IsGood cs →
    AllZip {A = Cost} {B = ℤ × ℤ} (λ c bounds. IsConvexOn (value c) bounds.0 bounds.1) (map (λ c. c.cost) cs)
    (zip_with (λ l u. (l, u)) (map (λ c. c.lower) cs) (map (λ c. c.upper) cs))
convex_all [] good = tt
convex_all (c ∷ cs) good = (good.0.convex, convex_all cs good.1)

pub magnitudes_all : (cs : List BoundedCost) →
    sum_by (λ m. m) (magnitudes (map (λ c. c.cost) cs) (map (λ c. c.lower) cs) (map (λ c. c.upper) cs))
    ≡ sum_by cost_magnitude cs
magnitudes_all [] = refl
magnitudes_all (c ∷ cs) =
    sum_by-cons (λ m. m) (cost_magnitude c)
    (magnitudes (map (λ d. d.cost) cs) (map (λ d. d.lower) cs) (map (λ d. d.upper) cs))
    ∙ ap (λ n. cost_magnitude c + n) (magnitudes_all cs)
    ∙ sym (sum_by-cons cost_magnitude c cs)

sum_by-append : {A : Type 0} → (f : A → ℕ) (xs ys : List A) → sum_by f (xs ++ ys) ≡ sum_by f xs + sum_by f ys
sum_by-append f [] ys = omega arith
sum_by-append f (x ∷ xs) ys = omega (arith, sum_by-cons f x (xs ++ ys), sum_by-cons f x xs, sum_by-append f xs ys)

good_parts : (n : ℕ) (cs : List BoundedCost) → AllByRecursion IsGood cs →
    AllByRecursion IsGood (take n cs) × AllByRecursion IsGood (drop n cs)
good_parts zero cs good = (tt, good)
good_parts (suc n) [] good = (tt, tt)
good_parts (suc n) (c ∷ cs) good =
    let rest = good_parts n cs good.1 in ((good.0, rest.0), rest.1)

pub length-map : {A B : Type 0} → (f : A → B) (xs : List A) → length (map f xs) ≡ length xs
length-map f [] = refl
length-map f (x ∷ xs) = ap suc (length-map f xs)

-- costs with good bounds make bricks that fit
pub bricks_fit : (t s : ℕ) (lower upper : List Vector) (right : Vector) (cs : List BoundedCost) →
    AllByRecursion (λ row. length row ≡ t) lower → AllByRecursion (λ row. length row ≡ t) upper →
    length upper ≡ length lower → length right ≡ length lower * s →
    map (λ c. c.lower) cs ≡ flat lower → map (λ c. c.upper) cs ≡ flat upper → AllByRecursion IsGood cs →
    AllByRecursion (IsBrick t s) (bricks_from t s lower upper right (map (λ c. c.cost) cs))
bricks_fit t s [] upper right cs low high same size lowers uppers good = tt
bricks_fit t s (l ∷ lower) [] right cs low high same size lowers uppers good = absurd (omega arith)
bricks_fit t s (l ∷ lower) (u ∷ upper) right cs low high same size lowers uppers good =
    let width : length l ≡ t = low.0 in
    let wide : length u ≡ t = high.0 in
    let ls = rw width at (map_parts (λ (c : BoundedCost). c.lower) cs l (flat lower) lowers) in
    let us = rw wide at (map_parts (λ (c : BoundedCost). c.upper) cs u (flat upper) uppers) in
    let parts = good_parts t cs good in
    let costs : take t (map (λ (c : BoundedCost). c.cost) cs) ≡ map (λ (c : BoundedCost). c.cost) (take t cs) =
    take-map (λ (c : BoundedCost). c.cost) t cs in
    let left : drop t (map (λ (c : BoundedCost). c.cost) cs) ≡ map (λ (c : BoundedCost). c.cost) (drop t cs) =
    drop-map (λ (c : BoundedCost). c.cost) t cs in
    let some : length (map (λ (c : BoundedCost). c.lower) (take t cs)) ≡ t = ap length ls.0 ∙ width in
    let brick : IsBrick t s
    (record { lower = l; upper = u; right = take s right; costs = take t (map (λ (c : BoundedCost). c.cost) cs) }) =
    record {
      lower_size = width;
      upper_size = wide;
      right_size = simp length-take (omega arith);
      uncrossed = rw (sym ls.0, sym us.0) (uncrossed_all (take t cs) parts.0);
      costs_size =
          ap length costs ∙ length-map (λ (c : BoundedCost). c.cost) (take t cs)
          ∙ sym (length-map (λ (c : BoundedCost). c.lower) (take t cs)) ∙ some;
      convex = rw (costs, sym ls.0, sym us.0) (convex_all (take t cs) parts.0);
    } in
    let rest = bricks_fit t s lower upper (drop s right) (drop t cs) low.1 high.1 (omega arith)
    (simp length-drop (omega arith)) ls.1 us.1 parts.1 in (
      brick,
      subst (λ (rs : List Cost). AllByRecursion (IsBrick t s) (bricks_from t s lower upper (drop s right) rs))
          (sym left) rest,
    )

-- the magnitudes of all bricks are those of all costs
pub bricks_weigh : (t s : ℕ) (lower upper : List Vector) (right : Vector) (cs : List BoundedCost) →
    AllByRecursion (λ row. length row ≡ t) lower → AllByRecursion (λ row. length row ≡ t) upper →
    length upper ≡ length lower →
    map (λ c. c.lower) cs ≡ flat lower → map (λ c. c.upper) cs ≡ flat upper →
    sum_by brick_magnitude (bricks_from t s lower upper right (map (λ c. c.cost) cs)) ≡ sum_by cost_magnitude cs
bricks_weigh t s [] upper right [] low high same lowers uppers = refl
bricks_weigh t s [] upper right (c ∷ cs) low high same lowers uppers = absurd (cc)
bricks_weigh t s (l ∷ lower) [] right cs low high same lowers uppers = absurd (omega arith)
bricks_weigh t s (l ∷ lower) (u ∷ upper) right cs low high same lowers uppers =
    let width : length l ≡ t = low.0 in
    let wide : length u ≡ t = high.0 in
    let ls = rw width at (map_parts (λ (c : BoundedCost). c.lower) cs l (flat lower) lowers) in
    let us = rw wide at (map_parts (λ (c : BoundedCost). c.upper) cs u (flat upper) uppers) in
    let costs : take t (map (λ (c : BoundedCost). c.cost) cs) ≡ map (λ (c : BoundedCost). c.cost) (take t cs) =
    take-map (λ (c : BoundedCost). c.cost) t cs in
    let left : drop t (map (λ (c : BoundedCost). c.cost) cs) ≡ map (λ (c : BoundedCost). c.cost) (drop t cs) =
    drop-map (λ (c : BoundedCost). c.cost) t cs in
    let here : brick_magnitude
    (record { lower = l; upper = u; right = take s right; costs = take t (map (λ (c : BoundedCost). c.cost) cs) })
    ≡ sum_by cost_magnitude (take t cs) =
    rw (costs, sym ls.0, sym us.0) (magnitudes_all (take t cs)) in
    let rest = bricks_weigh t s lower upper (drop s right) (drop t cs) low.1 high.1 (omega arith) ls.1 us.1 in
    sum_by-cons brick_magnitude
    (record { lower = l; upper = u; right = take s right; costs = take t (map (λ (c : BoundedCost). c.cost) cs) })
    (bricks_from t s lower upper (drop s right) (drop t (map (λ (c : BoundedCost). c.cost) cs)))
    ∙ ap (λ n. n + sum_by brick_magnitude
    (bricks_from t s lower upper (drop s right) (drop t (map (λ (c : BoundedCost). c.cost) cs)))) here
    ∙ ap (λ rs. sum_by cost_magnitude (take t cs) + sum_by brick_magnitude
    (bricks_from t s lower upper (drop s right) rs)) left
    ∙ ap (λ n. sum_by cost_magnitude (take t cs) + n) rest
    ∙ sym (sum_by-append cost_magnitude (take t cs) (drop t cs))
    ∙ ap (λ xs. sum_by cost_magnitude xs) (take-append-drop t cs)
