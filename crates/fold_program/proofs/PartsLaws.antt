-- What parts of the right shapes make: a refusal, or a program.
use Rattle.std.proofs.Common.{◌≡◌, ℕ, ◌+◌, ◌*◌, ◌/◌, ◌%◌, ◌^◌, ◌-◌, ◌≤◌, ◌<◌, ◌≤ℤ◌, nat_lt, Bool, true, false, List, []}
use Rattle.std.proofs.Common.{◌∷◌, ◌++◌, length, drop, refl, ap, arith, sym, ◌∙◌, Some, None, cond, length-take, sum_by}
use Rattle.std.proofs.Common.{min, All, subst, IsTrue}
use Rattle.std.specs.Global.{Vec}
use Rattle.std.specs.List.{AllZip, AllByRecursion, zip}
use Rattle.std.proofs.lemmas.Bool.Decides.{nat_tests}
use Rattle.std.proofs.lemmas.Option.{slice_get_within}
use Rattle.std.proofs.lemmas.List.{length-drop, length-replicate, append-nil}
use Rattle.std.proofs.lemmas.List.Elements.{recursion_from_All, All-from_recursion, All-append, All-head, All-tail}
use Rattle.std.proofs.lemmas.List.Elements.{All-nil}
use Rattle.std.proofs.Math.Nat.{mul-le-mul_right}
use Rattle.lattice_theory.specs.Vectors.{Vector, is_bounded, IsBoundedRow}
use Rattle.fold_theory.specs.declared.Cost.{Cost}
use Rattle.fold_theory.specs.declared.Relation.{Relation}
use Rattle.fold_theory.specs.declared.Relation.TheVariants.{Equal}
use Rattle.fold_theory.specs.Costs.{BoundedCost}
use Rattle.convex_costs.specs.declared.CostFault.{CostFault}
use Rattle.fold_theory.specs.Programs.{Program, IsBrick, IsProgram}
use Rattle.lattice_laws.proofs.VectorLists.{length-flat}
use Rattle.lattice_laws.specs.VectorLists.{flat}
use Rattle.fold_program.specs.Parts.{bricks_from, fold_of, program_of, related, AreEven}
use Rattle.fold_program.specs.Refusals.{first_misshaped, head_of, of_each, crossed_in, cost_faults_in, program_refusal}
use Rattle.fold_program.specs.Refusals.{total_magnitude, brick_magnitude}
use Rattle.fold_program.specs.declared.parts.Parts.{Parts}
use Rattle.fold_program.specs.declared.fault.ProgramFault.{ProgramFault}
use Rattle.fold_program.specs.declared.fault.ProgramFault.TheVariants as fault
use Rattle.fold_program.specs.Faults.{AreWithinLimits, IsProgramFault}
use Rattle.fold_program.specs.Kept.{IsKept}
use Rattle.fold_program.specs.Bounds.{IsGood, AreBoundCosts, IsFirstCrossed, IsFirstRefused, IsCostRefusal}
use Rattle.fold_program.specs.Bounds.{cost_magnitude}
use Rattle.fold_program.proofs.ScanLaws.{scan, crossed_at, fault_at, crossed_rows, fault_rows, scan-uncrossed}
use Rattle.fold_program.proofs.ScanLaws.{scan-crossed, scan-good, scan-refused}
use Rattle.fold_program.proofs.AcceptLaws.{AreShaped, shaped_from_none, bricks_fit, bricks_weigh}

-- every row is within the limit, so every entry is
pub bounded_flat : (rows : List Vector) → All IsBoundedRow rows → IsBoundedRow (flat rows)
bounded_flat [] h = All-nil (λ a. IsTrue (is_bounded a))
bounded_flat (row ∷ rows) h =
    All-append (λ a. IsTrue (is_bounded a)) row (flat rows) (All-head IsBoundedRow row rows h)
    (bounded_flat rows (All-tail IsBoundedRow row rows h))

-- the first refusal of a list whose first part is empty, or is not
first_part : (xs ys : List ProgramFault) (r : ProgramFault) → head_of xs ≡ Some r → head_of (xs ++ ys) ≡ Some r
first_part [] ys r e = absurd (cc)
first_part (x ∷ xs) ys r e = e

module _ (p : Parts) (fits : None ≡ first_misshaped p) (even : AreEven p) where
  shaped : AreShaped p
  shaped = shaped_from_none p (sym fits)

  lower_even : AllByRecursion (λ row. length row ≡ p.link.cols) p.lower.rows
  lower_even =
      subst (λ (n : ℕ). AllByRecursion (λ row. length row ≡ n) p.lower.rows) shaped.lower_cols
      (recursion_from_All (λ row. length row ≡ p.lower.cols) p.lower.rows even.lower)

  upper_even : AllByRecursion (λ row. length row ≡ p.link.cols) p.upper.rows
  upper_even =
      subst (λ (n : ℕ). AllByRecursion (λ row. length row ≡ n) p.upper.rows) shaped.upper_cols
      (recursion_from_All (λ row. length row ≡ p.upper.cols) p.upper.rows even.upper)

  pub lowers_are : length (flat p.lower.rows) ≡ length p.costs.items
  lowers_are = length-flat p.link.cols p.lower.rows lower_even ∙ sym shaped.costs

  pub uppers_are : length (flat p.upper.rows) ≡ length p.costs.items
  uppers_are =
      length-flat p.link.cols p.upper.rows upper_even ∙ ap (λ n. n * p.link.cols) shaped.upper_rows ∙ sym shaped.costs

  pub few_costs : length p.costs.items < 2 ^ 31
  few_costs =
      let rows : length p.lower.rows * p.link.cols ≤ 10000 * p.link.cols =
      mul-le-mul_right p.link.cols shaped.lower_to in
      omega (arith, rows, shaped.cols_to, shaped.costs)

  some_cols : 0 < p.link.cols
  some_cols = omega (arith, shaped.cols_from)

  pub crossed_are : of_each (λ i b. crossed_in i 1 b.lower b.upper) 1 (program_of p).bricks
      ≡ scan (crossed_at p.link.cols) 0 (zip (flat p.lower.rows) (flat p.upper.rows))
  crossed_are =
      let start : 0 * p.link.cols ≡ 0 = omega arith in
      rw start at (crossed_rows p.link.cols (length p.brick.rows) 0 p.lower.rows p.upper.rows
      (drop (length p.link.rows) (flat p.right.rows)) p.costs.items lower_even upper_even (sym shaped.upper_rows))

  pub faults_are : of_each (λ i b. cost_faults_in i 1 b.costs b.lower b.upper) 1 (program_of p).bricks
      ≡ scan (fault_at p.link.cols) 0 (zip p.costs.items (zip (flat p.lower.rows) (flat p.upper.rows)))
  faults_are =
      let start : 0 * p.link.cols ≡ 0 = omega arith in
      rw start at (fault_rows p.link.cols (length p.brick.rows) 0 p.lower.rows p.upper.rows
      (drop (length p.link.rows) (flat p.right.rows)) p.costs.items lower_even upper_even
      (sym shaped.upper_rows) shaped.costs)

  uppers_long : length (flat p.upper.rows) ≡ length (flat p.lower.rows)
  uppers_long = uppers_are ∙ sym lowers_are

  -- crossed bounds come first
  pub refused_crossed : (at : ℕ) → at < length (flat p.lower.rows) →
      IsFirstCrossed (flat p.lower.rows) (flat p.upper.rows) at →
      program_refusal (program_of p) ≡ Some (fault.CrossedBounds (at / p.link.cols + 1) (at % p.link.cols + 1))
  refused_crossed at inside first =
      let crossed = of_each (λ i b. crossed_in i 1 b.lower b.upper) 1 (program_of p).bricks in
      let faults = of_each (λ i b. cost_faults_in i 1 b.costs b.lower b.upper) 1 (program_of p).bricks in
      let sum = cond (nat_lt (2 ^ 120) (total_magnitude (program_of p))) (fault.CostSumTooLarge ∷ []) [] in
      let place : 0 + at ≡ at = omega arith in
      let is = rw place at
      (scan-crossed p.link.cols 0 at (flat p.lower.rows) (flat p.upper.rows) inside
      (omega (arith, inside, uppers_long)) first) in
      first_part (crossed ++ faults) sum _ (first_part crossed faults _ (ap head_of crossed_are ∙ is))

  module _ (uncrossed : AllZip ◌≤ℤ◌ (flat p.lower.rows) (flat p.upper.rows)) where
    none_crossed : of_each (λ i b. crossed_in i 1 b.lower b.upper) 1 (program_of p).bricks ≡ []
    none_crossed = crossed_are ∙ scan-uncrossed p.link.cols 0 (flat p.lower.rows) (flat p.upper.rows) uncrossed

    -- then the costs
    pub refused_cost : (at : ℕ) (f : CostFault) → at < length (flat p.lower.rows) →
        IsFirstRefused p.costs.items (flat p.lower.rows) (flat p.upper.rows) at f →
        program_refusal (program_of p) ≡ Some (fault.Cost (at / p.link.cols + 1) (at % p.link.cols + 1) f)
    refused_cost at f inside first =
        let faults = of_each (λ i b. cost_faults_in i 1 b.costs b.lower b.upper) 1 (program_of p).bricks in
        let sum = cond (nat_lt (2 ^ 120) (total_magnitude (program_of p))) (fault.CostSumTooLarge ∷ []) [] in
        let place : 0 + at ≡ at = omega arith in
        let is = rw place at
        (scan-refused p.link.cols 0 at p.costs.items (flat p.lower.rows) (flat p.upper.rows) f inside
        (omega (arith, inside, uppers_long)) first) in
        ap (λ xs. head_of (xs ++ faults ++ sum)) none_crossed ∙ first_part faults sum _ (ap head_of faults_are ∙ is)

  module _ (cs : List BoundedCost) (bound : AreBoundCosts p.costs.items (flat p.lower.rows) (flat p.upper.rows) cs)
    where
      pub total_is : total_magnitude (program_of p) ≡ sum_by cost_magnitude cs
      total_is =
          ap (λ costs. sum_by brick_magnitude
          (bricks_from p.link.cols (length p.brick.rows) p.lower.rows p.upper.rows
          (drop (length p.link.rows) (flat p.right.rows)) costs)) (sym bound.costs_are)
          ∙ bricks_weigh p.link.cols (length p.brick.rows) p.lower.rows p.upper.rows
          (drop (length p.link.rows) (flat p.right.rows)) cs lower_even upper_even shaped.upper_rows bound.lower_is
          bound.upper_is

      pub small_sum : min (sum_by cost_magnitude cs) (2 ^ 128 - 1) ≤ 2 ^ 120 → total_magnitude (program_of p) ≤ 2 ^ 120
      small_sum small = let total = total_is in omega arith

      none_refused : of_each (λ i b. cost_faults_in i 1 b.costs b.lower b.upper) 1 (program_of p).bricks ≡ []
      none_refused =
          let good = scan-good p.link.cols 0 cs (recursion_from_All IsGood cs bound.good) in
          faults_are ∙ sym
          (λ i. scan (fault_at p.link.cols) 0 (zip (bound.costs_are i) (zip (bound.lower_is i) (bound.upper_is i))))
          ∙ good

      module _ (uncrossed : AllZip ◌≤ℤ◌ (flat p.lower.rows) (flat p.upper.rows)) where
        -- then their sum
        last_refusal : (b : Bool) → nat_lt (2 ^ 120) (total_magnitude (program_of p)) ≡ b →
            program_refusal (program_of p) ≡ head_of (cond b (fault.CostSumTooLarge ∷ []) [])
        last_refusal b test =
            let faults = of_each (λ i b. cost_faults_in i 1 b.costs b.lower b.upper) 1 (program_of p).bricks in
            let sum = cond (nat_lt (2 ^ 120) (total_magnitude (program_of p))) (fault.CostSumTooLarge ∷ []) [] in
            ap (λ xs. head_of (xs ++ faults ++ sum)) (none_crossed uncrossed)
            ∙ ap (λ xs. head_of (xs ++ sum)) none_refused
            ∙ ap (λ t. head_of (cond t (fault.CostSumTooLarge ∷ []) [])) test

        pub refused_sum : 2 ^ 120 < min (sum_by cost_magnitude cs) (2 ^ 128 - 1) →
            program_refusal (program_of p) ≡ Some fault.CostSumTooLarge
        refused_sum large =
            let total = total_is in
            let past : 2 ^ 120 < total_magnitude (program_of p) = omega arith in
            let test : nat_lt (2 ^ 120) (total_magnitude (program_of p)) ≡ true = grind (arith, nat_tests) in
            last_refusal true test

        pub accepted : total_magnitude (program_of p) ≤ 2 ^ 120 → program_refusal (program_of p) ≡ None
        accepted small =
            let test : nat_lt (2 ^ 120) (total_magnitude (program_of p)) ≡ false = grind (arith, nat_tests) in
            last_refusal false test

      -- there are as many right sides as rows
      rights_are : length (flat p.right.rows) ≡ length p.link.rows + length p.lower.rows * length p.brick.rows
      rights_are =
          one p.right.rows shaped.right_rows
          (recursion_from_All (λ row. length row ≡ p.right.cols) p.right.rows even.right) ∙ shaped.right_cols
        where
          one : (rows : List Vector) → length rows ≡ 1 → AllByRecursion (λ row. length row ≡ p.right.cols) rows →
              length (flat rows) ≡ p.right.cols
          one [] count widths = absurd (omega arith)
          one (row ∷ []) count widths = ap length (append-nil row) ∙ widths.0
          one (row ∷ more ∷ rows) count widths = absurd (omega arith)

      pub is_program : IsProgram (program_of p)
      is_program =
          let rights = rights_are in
          let left = drop (length p.link.rows) (flat p.right.rows) in
          let size : length left ≡ length p.lower.rows * length p.brick.rows =
          simp length-drop (omega arith) in
          let good = recursion_from_All IsGood cs bound.good in
          let bricks = bricks_fit p.link.cols (length p.brick.rows) p.lower.rows p.upper.rows
          (drop (length p.link.rows) (flat p.right.rows)) cs lower_even upper_even shaped.upper_rows size bound.lower_is
          bound.upper_is good in
          let fit = subst
          (λ (costs : List Cost). AllByRecursion (IsBrick p.link.cols (length p.brick.rows))
          (bricks_from p.link.cols (length p.brick.rows) p.lower.rows p.upper.rows
          (drop (length p.link.rows) (flat p.right.rows)) costs)) bound.costs_are bricks in
          record {
            link_shape = record { height = refl; width = refl; each_row = even.link };
            brick_shape = record {
              height = refl;
              width = shaped.brick_cols;
              each_row = subst (λ (n : ℕ). All (λ row. length row ≡ n) p.brick.rows) shaped.brick_cols even.brick;
            };
            right_size = simp length-take (omega arith);
            relations_size = length-replicate (length p.link.rows) Equal;
            each_brick = All-from_recursion (IsBrick p.link.cols (length p.brick.rows)) (program_of p).bricks fit;
          }

-- the fault of the costs is that of the parts
pub is_program_fault : (p : Parts) → None ≡ first_misshaped p → AreEven p →
    AllZip ◌≤ℤ◌ (flat p.lower.rows) (flat p.upper.rows) → (f : ProgramFault) →
    IsCostRefusal p.link.cols p.costs.items (flat p.lower.rows) (flat p.upper.rows) f → IsProgramFault p f
is_program_fault p fits even uncrossed (fault.Cost i j f) refused =
    let inside : refused.0 < length (flat p.lower.rows) =
    omega (arith, lowers_are p fits even, slice_get_within p.costs.items refused.0 refused.3.cost refused.3.there) in (
      sym fits,
      refused_cost p fits even uncrossed refused.0 f inside refused.3
          ∙ sym (λ k. Some (fault.Cost (refused.1 k) (refused.2 k) f)),
    )
is_program_fault p fits even uncrossed (fault.Shape k) refused = absurd refused
is_program_fault p fits even uncrossed (fault.CrossedBounds i j) refused = absurd refused
is_program_fault p fits even uncrossed fault.CostSumTooLarge refused = absurd refused
is_program_fault p fits even uncrossed fault.Memory refused = tt

-- a program with other relations, one for each linking row
pub is_related : (p : Program) (relations : List Relation) → IsProgram p → length relations ≡ length p.link.rows →
    IsProgram (related relations p)
is_related p relations program size = record {
  link_shape = program.link_shape;
  brick_shape = program.brick_shape;
  right_size = program.right_size;
  relations_size = size;
  each_brick = program.each_brick;
}

-- all that a program keeps is true of parts that are accepted
pub is_kept : (p : Parts) → None ≡ first_misshaped p → AreEven p → AreWithinLimits p → (cs : Vec BoundedCost) →
    AreBoundCosts p.costs.items (flat p.lower.rows) (flat p.upper.rows) cs.items →
    min (sum_by cost_magnitude cs.items) (2 ^ 128 - 1) ≤ 2 ^ 120 → (relations : Vec Relation) →
    length relations.items ≡ length p.link.rows →
    IsKept (record {
      link = p.link;
      brick = p.brick;
      lower = p.lower;
      upper = p.upper;
      right = p.right;
      costs = cs;
      relations = relations;
    })
is_kept p fits even limits cs bound small relations size =
    let shaped = shaped_from_none p (sym fits) in
    record {
      link_rows = shaped.link_rows;
      cols_from = shaped.cols_from;
      cols_to = shaped.cols_to;
      brick_rows = shaped.brick_rows;
      brick_cols = shaped.brick_cols;
      bricks_from = shaped.lower_from;
      bricks_to = shaped.lower_to;
      lower_cols = shaped.lower_cols;
      upper_rows = shaped.upper_rows;
      upper_cols = shaped.upper_cols;
      right_rows = shaped.right_rows;
      right_cols = shaped.right_cols;
      link_narrow = limits.link;
      brick_narrow = limits.brick;
      lower_bounded = limits.lower;
      upper_bounded = limits.upper;
      lower_widths = subst (λ (n : ℕ). All (λ row. length row ≡ n) p.lower.rows) shaped.lower_cols even.lower;
      upper_widths = subst (λ (n : ℕ). All (λ row. length row ≡ n) p.upper.rows) shaped.upper_cols even.upper;
      lowers = bound.lower_is;
      uppers = bound.upper_is;
      small =
          subst (λ (costs : List Cost). total_magnitude
          (fold_of p.link p.brick p.lower p.upper p.right relations.items costs) ≤ 2 ^ 120)
          (sym bound.costs_are) (small_sum p fits even cs.items bound small);
      program =
          subst (λ (costs : List Cost). IsProgram
          (fold_of p.link p.brick p.lower p.upper p.right relations.items costs))
          (sym bound.costs_are)
          (is_related (program_of p) relations.items (is_program p fits even cs.items bound) size);
    }
