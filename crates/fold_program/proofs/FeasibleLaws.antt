-- A point breaks nothing exactly where it is feasible.
use Rattle.std.proofs.Common.{◌≡◌, ℕ, suc, ◌-ℤ◌, ◌≤ℤ◌, int_lt, nat_eq, unsigned_abs, sum, Bool, true, false, List, []}
use Rattle.std.proofs.Common.{◌∷◌, ◌++◌, length, map, refl, ap, arith, sym, ◌∙◌, Option, Some, None, cond, IfNone}
use Rattle.std.proofs.Common.{OnSome}
use Rattle.std.specs.List.{AllZip, AllByRecursion}
use Rattle.std.proofs.lemmas.Int.{ints}
use Rattle.std.proofs.lemmas.List.Elements.{recursion_from_All}
use Rattle.std.proofs.lemmas.List.Sums.{sum_by-cons}
use Rattle.std.proofs.lemmas.Bool.Decides.{nat_tests}
use Rattle.lattice_theory.specs.Vectors.{Vector, sub, dot}
use Rattle.lattice_theory.specs.Matrices.{Matrix, product}
use Rattle.fold_theory.specs.declared.Broken.{Broken}
use Rattle.fold_theory.specs.declared.Broken.TheVariants.{Below, Above, BrickRow, LinkRow}
use Rattle.fold_theory.specs.Programs.{Program, Brick, Bricks, IsBrick, IsProgram, AreWithin, IsFeasible, brick_rests}
use Rattle.fold_theory.specs.Programs.{link_rests, link_misses}
use Rattle.fold_theory.specs.Breaks.{bound_breaks, row_breaks, over_bricks, breaks, first_of, first_break}
use Rattle.fold_program.specs.Points.{HasPointShape}

-- ---- lists

none_first : {A : Type 0} → (xs : List A) → first_of xs ≡ None → xs ≡ []
none_first [] e = refl
none_first (x ∷ xs) e = absurd (cc)

both_empty : {A : Type 0} → (xs ys : List A) → xs ++ ys ≡ [] → (xs ≡ []) × (ys ≡ [])
both_empty [] ys e = (refl, e)
both_empty (x ∷ xs) ys e = absurd (cc)

cond_empty : {A : Type 0} → (b : Bool) (a : A) → cond b (a ∷ []) [] ≡ [] → b ≡ false
cond_empty true a e = absurd (cc)
cond_empty false a e = refl

cond_passed : {A : Type 0} → (b : Bool) (a : A) → cond b [] (a ∷ []) ≡ [] → b ≡ true
cond_passed true a e = refl
cond_passed false a e = absurd (cc)

-- ---- bounds

within_from_none : (i j : ℕ) (lower upper v : Vector) → length lower ≡ length v → length upper ≡ length v →
    bound_breaks i j lower upper v ≡ [] →
    AllZip ◌≤ℤ◌ lower v × AllZip ◌≤ℤ◌ v upper
within_from_none i j [] [] [] low high e = (tt, tt)
within_from_none i j [] (u ∷ upper) [] low high e = absurd (omega arith)
within_from_none i j [] upper (a ∷ v) low high e = absurd (omega arith)
within_from_none i j (l ∷ lower) upper [] low high e = absurd (omega arith)
within_from_none i j (l ∷ lower) [] (a ∷ v) low high e = absurd (omega arith)
within_from_none i j (l ∷ lower) (u ∷ upper) (a ∷ v) low high e =
    let parts = both_empty (cond (int_lt a l) (Below i j ∷ []) [] ++ cond (int_lt u a) (Above i j ∷ []) [])
    (bound_breaks i (suc j) lower upper v) e in
    let bounds = both_empty (cond (int_lt a l) (Below i j ∷ []) []) (cond (int_lt u a) (Above i j ∷ []) []) parts.0 in
    let above : int_lt a l ≡ false = cond_empty (int_lt a l) (Below i j) bounds.0 in
    let below : int_lt u a ≡ false = cond_empty (int_lt u a) (Above i j) bounds.1 in
    let rest = within_from_none i (suc j) lower upper v (omega arith) (omega arith) parts.1 in
    let first : l ≤ℤ a = grind (arith, ints) in
    let second : a ≤ℤ u = grind (arith, ints) in
    ((first, rest.0), (second, rest.1))

none_from_within : (i j : ℕ) (lower upper v : Vector) → AllZip ◌≤ℤ◌ lower v → AllZip ◌≤ℤ◌ v upper →
    bound_breaks i j lower upper v ≡ []
none_from_within i j [] upper v low high = refl
none_from_within i j (l ∷ lower) [] v low high = refl
none_from_within i j (l ∷ lower) (u ∷ upper) [] low high = refl
none_from_within i j (l ∷ lower) (u ∷ upper) (a ∷ v) low high =
    let from : l ≤ℤ a = low.0 in
    let to : a ≤ℤ u = high.0 in
    let above : int_lt a l ≡ false = grind (arith, ints) in
    let below : int_lt u a ≡ false = grind (arith, ints) in
    rw (above, below) (none_from_within i (suc j) lower upper v low.1 high.1)

-- ---- rows

-- no row is missed: the right sides are the products
met_from_none : (name : ℕ → Broken) (j : ℕ) (right products : Vector) → length right ≡ length products →
    row_breaks name j (map unsigned_abs (sub right products)) ≡ [] → products ≡ right
met_from_none name j [] [] same e = refl
met_from_none name j [] (b ∷ products) same e = absurd (omega arith)
met_from_none name j (a ∷ right) [] same e = absurd (omega arith)
met_from_none name j (a ∷ right) (b ∷ products) same e =
    let parts = both_empty (cond (nat_eq (unsigned_abs (a -ℤ b)) 0) [] (name j ∷ []))
    (row_breaks name (suc j) (map unsigned_abs (sub right products))) e in
    let met : nat_eq (unsigned_abs (a -ℤ b)) 0 ≡ true =
    cond_passed (nat_eq (unsigned_abs (a -ℤ b)) 0) (name j) parts.0 in
    let rest : unsigned_abs (a -ℤ b) ≡ 0 = grind (arith, nat_tests) in
    let head : b ≡ a = omega (arith, ints, rest) in
    let tail : products ≡ right = met_from_none name (suc j) right products (omega arith) parts.1 in
    cc

none_from_met : (name : ℕ → Broken) (j : ℕ) (right : Vector) → row_breaks name j (map unsigned_abs (sub right right))
    ≡ []
none_from_met name j [] = refl
none_from_met name j (a ∷ right) =
    let rest : unsigned_abs (a -ℤ a) ≡ 0 = omega (arith, ints) in
    rw rest (none_from_met name (suc j) right)

miss_from_none : (name : ℕ → Broken) (j : ℕ) (misses : List ℕ) → row_breaks name j misses ≡ [] → sum misses ≡ 0
miss_from_none name j [] e = refl
miss_from_none name j (miss ∷ misses) e =
    let parts = both_empty (cond (nat_eq miss 0) [] (name j ∷ [])) (row_breaks name (suc j) misses) e in
    let met : nat_eq miss 0 ≡ true = cond_passed (nat_eq miss 0) (name j) parts.0 in
    let here : miss ≡ 0 = grind (arith, nat_tests) in
    let tail = miss_from_none name (suc j) misses parts.1 in
    omega (arith, here, tail, sum_by-cons (λ m. m) miss misses)

none_from_miss : (name : ℕ → Broken) (j : ℕ) (misses : List ℕ) → sum misses ≡ 0 → row_breaks name j misses ≡ []
none_from_miss name j [] e = refl
none_from_miss name j (miss ∷ misses) e =
    let split = sum_by-cons (λ m. m) miss misses in
    let here : miss ≡ 0 = omega (arith, split, e) in
    rw here (none_from_miss name (suc j) misses (omega (arith, split, e)))

-- ---- over all bricks

length-product : (m : Matrix) (v : Vector) → length (product m v) ≡ length m.rows
length-product m v = by m.rows
  where
    by : (rows : List Vector) → length (map (λ row. dot row v) rows) ≡ length rows
    by [] = refl
    by (row ∷ rows) = ap suc (by rows)

module _ (p : Program) where
  within_all : (i : ℕ) (bs : List Brick) (x : Bricks) → AllByRecursion (IsBrick p.link.cols (length p.brick.rows)) bs →
      AllByRecursion (λ v. length v ≡ p.link.cols) x → length x ≡ length bs →
      over_bricks (λ k b v. bound_breaks k 1 b.lower b.upper v) i bs x ≡ [] → AreWithin bs x
  within_all i [] [] sizes widths same e = tt
  within_all i [] (v ∷ x) sizes widths same e = absurd (omega arith)
  within_all i (b ∷ bs) [] sizes widths same e = absurd (omega arith)
  within_all i (b ∷ bs) (v ∷ x) sizes widths same e =
      let parts = both_empty (bound_breaks i 1 b.lower b.upper v)
      (over_bricks (λ k d w. bound_breaks k 1 d.lower d.upper w) (suc i) bs x) e in
      let width : length v ≡ p.link.cols = widths.0 in
      let low : length b.lower ≡ length v = sizes.0.lower_size ∙ sym width in
      let high : length b.upper ≡ length v = sizes.0.upper_size ∙ sym width in (
        within_from_none i 1 b.lower b.upper v low high parts.0,
        within_all (suc i) bs x sizes.1 widths.1 (omega arith) parts.1,
      )

  none_within : (i : ℕ) (bs : List Brick) (x : Bricks) → AreWithin bs x →
      over_bricks (λ k b v. bound_breaks k 1 b.lower b.upper v) i bs x ≡ []
  none_within i [] x h = refl
  none_within i (b ∷ bs) [] h = refl
  none_within i (b ∷ bs) (v ∷ x) h =
      rw (none_from_within i 1 b.lower b.upper v h.0.0 h.0.1) (none_within (suc i) bs x h.1)

  met_all : (i : ℕ) (bs : List Brick) (x : Bricks) → AllByRecursion (IsBrick p.link.cols (length p.brick.rows)) bs →
      length x ≡ length bs →
      over_bricks (λ k b v. row_breaks (BrickRow k) 1 (map unsigned_abs (brick_rests p b v))) i bs x ≡ [] →
      AllZip (λ b v. product p.brick v ≡ b.right) bs x
  met_all i [] [] sizes same e = tt
  met_all i [] (v ∷ x) sizes same e = absurd (omega arith)
  met_all i (b ∷ bs) [] sizes same e = absurd (omega arith)
  met_all i (b ∷ bs) (v ∷ x) sizes same e =
      let parts = both_empty (row_breaks (BrickRow i) 1 (map unsigned_abs (brick_rests p b v)))
      (over_bricks (λ k d w. row_breaks (BrickRow k) 1 (map unsigned_abs (brick_rests p d w))) (suc i) bs x) e in
      let height : length b.right ≡ length (product p.brick v) =
      sizes.0.right_size ∙ sym (length-product p.brick v) in (
        met_from_none (BrickRow i) 1 b.right (product p.brick v) height parts.0,
        met_all (suc i) bs x sizes.1 (omega arith) parts.1,
      )

  none_met : (i : ℕ) (bs : List Brick) (x : Bricks) → AllZip (λ b v. product p.brick v ≡ b.right) bs x →
      over_bricks (λ k b v. row_breaks (BrickRow k) 1 (map unsigned_abs (brick_rests p b v))) i bs x ≡ []
  none_met i [] x h = refl
  none_met i (b ∷ bs) [] h = refl
  none_met i (b ∷ bs) (v ∷ x) h =
      let here : row_breaks (BrickRow i) 1 (map unsigned_abs (brick_rests p b v)) ≡ [] =
      ap (λ w. row_breaks (BrickRow i) 1 (map unsigned_abs (sub b.right w))) h.0
      ∙ none_from_met (BrickRow i) 1 b.right in
      rw here (none_met (suc i) bs x h.1)

  -- a point of the program's shape that breaks nothing is feasible
  pub feasible_from_none : (x : Bricks) → IsProgram p → HasPointShape p x → first_break p x ≡ None → IsFeasible p x
  feasible_from_none x program shape e =
      let nothing = none_first (breaks p x) e in
      let parts = both_empty (over_bricks (λ i b v. bound_breaks i 1 b.lower b.upper v) 1 p.bricks x
      ++ over_bricks (λ i b v. row_breaks (BrickRow i) 1 (map unsigned_abs (brick_rests p b v))) 1 p.bricks x)
      (row_breaks LinkRow 1 (link_misses p (link_rests p x))) nothing in
      let bricks = both_empty (over_bricks (λ i b v. bound_breaks i 1 b.lower b.upper v) 1 p.bricks x)
      (over_bricks (λ i b v. row_breaks (BrickRow i) 1 (map unsigned_abs (brick_rests p b v))) 1 p.bricks x) parts.0 in
      let sizes = recursion_from_All (IsBrick p.link.cols (length p.brick.rows)) p.bricks program.each_brick in
      let widths = recursion_from_All (λ v. length v ≡ p.link.cols) x shape.widths in
      record {
        within = within_all 1 p.bricks x sizes widths shape.bricks bricks.0;
        brick_rows = met_all 1 p.bricks x sizes shape.bricks bricks.1;
        link_rows = miss_from_none LinkRow 1 (link_misses p (link_rests p x)) parts.1;
      }

  -- a feasible point breaks nothing
  pub none_from_feasible : (x : Bricks) → IsFeasible p x → first_break p x ≡ None
  none_from_feasible x h =
      rw (
        none_within 1 p.bricks x h.within,
        none_met 1 p.bricks x h.brick_rows,
        none_from_miss LinkRow 1 (link_misses p (link_rests p x)) h.link_rows,
      ) refl

  -- what the first break says of the point
  pub judged : (x : Bricks) (o : Option Broken) → IsProgram p → HasPointShape p x → o ≡ first_break p x →
      IfNone o (IsFeasible p x) × OnSome o (¬ (IsFeasible p x))
  judged x None program shape e = (feasible_from_none x program shape (sym e), tt)
  judged x (Some b) program shape e = (tt, λ h. absurd (differ (e ∙ none_from_feasible x h)))
    where
      differ : Some b ≡ None → ⊥
      differ q = cc
