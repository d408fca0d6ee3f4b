-- The parts that are made from customers are accepted.
use Rattle.std.proofs.Common.{◌≡◌, ℕ, zero, suc, ◌+◌, ◌*◌, ◌^◌, ◌≤◌, nat_lt, not, Bool, true, max, pos, int_lt, false}
use Rattle.std.proofs.Common.{List, [], ◌∷◌, length, map, sum_by, refl, ap, arith, sym, ◌∙◌, Option, Some, None, cond}
use Rattle.std.specs.List.{AllByRecursion}
use Rattle.std.specs.Option.{option_or}
use Rattle.std.proofs.lemmas.Int.{ints}
use Rattle.std.proofs.lemmas.Bool.Decides.{nat_tests}
use Rattle.std.proofs.lemmas.List.Sums.{sum_by-cons}
use Rattle.std.proofs.Math.Nat.{mul-le-mul_left, mul-le-mul_right}
use Rattle.lattice_theory.specs.Matrices.{Matrix}
use Rattle.fold_theory.specs.Costs.{magnitude}
use Rattle.lattice_laws.proofs.Tests.{nat_eq_of, nat_le_of}
use Rattle.convex_costs.specs.Faults.{cost_fault}
use Rattle.convex_costs.specs.declared.fault.CostFault.TheVariants.{TooLarge}
use Rattle.fold_program.specs.declared.parts.Parts.{Parts}
use Rattle.fold_program.specs.declared.fault.FileKind.{FileKind}
use Rattle.fold_program.specs.declared.fault.ProgramFault.{ProgramFault}
use Rattle.fold_program.specs.declared.fault.ProgramFault.TheVariants as fault
use Rattle.fold_program.specs.Parts.{program_of}
use Rattle.fold_program.specs.Faults.{IsProgramFault}
use Rattle.fold_program.specs.Refusals.{in_shape, first_misshaped, crossed_in, cost_faults_in, of_each, brick_magnitude}
use Rattle.fold_program.specs.Refusals.{total_magnitude, program_refusal}
use Rattle.fold_gen.specs.declared.customers.Price.{Price}
use Rattle.fold_gen.specs.declared.customers.Customer.{Customer}
use Rattle.fold_gen.specs.Draws.{after, price, demand, customers}
use Rattle.fold_gen.specs.Transports.{cost_of, brick_of, links, shares, transport_of}

-- ---- small numbers

pub record IsLowPrice (p : Price) : Type 0 where
  pub a : p.a ≤ 2
  pub b : p.b ≤ 6

pub record IsSmall (c : Customer) : Type 0 where
  pub demand : c.demand ≤ 4
  pub first : IsLowPrice c.first
  pub second : IsLowPrice c.second
  pub third : IsLowPrice c.third

low_price : (z : ℕ) → IsLowPrice (price z)
low_price z = record { a = omega arith; b = omega arith }

pub all_small : (n z : ℕ) → AllByRecursion IsSmall (customers n z)
all_small zero z = tt
all_small (suc n) z = (
  record {
    demand = omega arith;
    first = low_price (after 1 z);
    second = low_price (after 3 z);
    third = low_price (after 5 z);
  },
  all_small n (after (demand z) (after 7 z)),
)

-- ---- one customer

magnitude_small : (d : ℕ) (p : Price) → d ≤ 4 → IsLowPrice p → magnitude (cost_of p) (pos 0) (pos d) ≤ 56
magnitude_small d p few low =
    let m : max 0 d ≡ d = omega arith in
    let square : d * d ≤ d * 4 = mul-le-mul_left d few in
    let first : p.a * (d * d) ≤ 2 * (d * d) = mul-le-mul_right (d * d) low.a in
    let second : p.b * d ≤ 6 * d = mul-le-mul_right d low.b in
    rw m (omega (arith, square, first, second, few))

uncrossed : (d : ℕ) → int_lt (pos d) (pos 0) ≡ false
uncrossed d = grind (arith, ints)

accepted : (d : ℕ) (p : Price) → d ≤ 4 → IsLowPrice p → cost_fault (cost_of p) (pos 0) (pos d) ≡ None
accepted d p few low = rw (uncrossed p.a) (by (magnitude (cost_of p) (pos 0) (pos d)) (magnitude_small d p few low))
  where
    by : (m : ℕ) → m ≤ 56 → option_or None (cond (nat_lt (2 ^ 120) m) (Some TooLarge) None) ≡ None
    by m small = let test : nat_lt (2 ^ 120) m ≡ false = grind (arith, nat_tests) in rw test refl

-- ---- all customers

none_crossed : (i : ℕ) (cs : List Customer) → of_each (λ k b. crossed_in k 1 b.lower b.upper) i (map brick_of cs) ≡ []
none_crossed i [] = refl
none_crossed i (c ∷ cs) = rw (uncrossed c.demand) (none_crossed (suc i) cs)

none_refused : (i : ℕ) (cs : List Customer) → AllByRecursion IsSmall cs →
    of_each (λ k b. cost_faults_in k 1 b.costs b.lower b.upper) i (map brick_of cs) ≡ []
none_refused i [] small = refl
none_refused i (c ∷ cs) small =
    rw (
      accepted c.demand c.first small.0.demand small.0.first,
      accepted c.demand c.second small.0.demand small.0.second,
      accepted c.demand c.third small.0.demand small.0.third,
    )
    (none_refused (suc i) cs small.1)

brick_small : (c : Customer) → IsSmall c → brick_magnitude (brick_of c) ≤ 168
brick_small c small =
    omega (
      arith,
      magnitude_small c.demand c.first small.demand small.first,
      magnitude_small c.demand c.second small.demand small.second,
      magnitude_small c.demand c.third small.demand small.third,
    )

total_small : (cs : List Customer) → AllByRecursion IsSmall cs →
    sum_by brick_magnitude (map brick_of cs) ≤ 168 * length cs
total_small [] small = omega arith
total_small (c ∷ cs) small =
    omega (
      arith,
      sum_by-cons brick_magnitude (brick_of c) (map brick_of cs),
      brick_small c small.0,
      total_small cs small.1,
    )

-- nothing is refused of the program
pub not_refused : (cs : List Customer) → AllByRecursion IsSmall cs → length cs ≤ 10000 →
    program_refusal (transport_of cs) ≡ None
not_refused cs small few =
    let total = total_small cs small in
    let test : nat_lt (2 ^ 120) (total_magnitude (transport_of cs)) ≡ false = grind (arith, nat_tests) in
    rw (none_crossed 1 cs, none_refused 1 cs small, test) refl

-- ---- shapes

fits : (a b c d : ℕ) (m : Matrix) → a ≤ length m.rows → length m.rows ≤ b → c ≤ m.cols → m.cols ≤ d →
    in_shape a b c d m ≡ true
fits a b c d m rows_from rows_to cols_from cols_to =
    rw (
      nat_le_of a (length m.rows) rows_from,
      nat_le_of (length m.rows) b rows_to,
      nat_le_of c m.cols cols_from,
      nat_le_of m.cols d cols_to,
    ) refl

passed : (b : Bool) (kind : FileKind) (rest : Option FileKind) → b ≡ true → rest ≡ None →
    cond (not b) (Some kind) rest ≡ None
passed b kind rest e none = rw e none

counted : (b : Bool) (kind : FileKind) → b ≡ true → cond b None (Some kind) ≡ None
counted b kind e = rw e refl

-- the parts of these sizes fit each other
pub well_shaped : (p : Parts) (n : ℕ) → 1 ≤ n → n ≤ 10000 → p.link ≡ links → p.brick ≡ shares →
    length p.lower.rows ≡ n → p.lower.cols ≡ 3 →
    length p.upper.rows ≡ n → p.upper.cols ≡ 3 → length p.right.rows ≡ 1 → p.right.cols ≡ 3 + n →
    length p.costs.items ≡ n * 3 → first_misshaped p ≡ None
well_shaped p n some few link brick lower_rows lower_cols upper_rows upper_cols right_rows right_cols costs =
    let links_rows : length p.link.rows ≡ 3 = ap (λ (m : Matrix). length m.rows) link in
    let links_cols : p.link.cols ≡ 3 = ap (λ (m : Matrix). m.cols) link in
    let brick_rows : length p.brick.rows ≡ 1 = ap (λ (m : Matrix). length m.rows) brick in
    let brick_cols : p.brick.cols ≡ 3 = ap (λ (m : Matrix). m.cols) brick in
    let wide : length p.link.rows + length p.lower.rows * length p.brick.rows ≡ 3 + n =
    ap (λ k. length p.link.rows + length p.lower.rows * k) brick_rows ∙ omega (arith, links_rows, lower_rows) in
    let many : length p.lower.rows * p.link.cols ≡ n * 3 = ap (λ k. length p.lower.rows * k) links_cols
    ∙ ap (λ k. k * 3) lower_rows in
    passed _ _ _ (fits 0 16 1 32 p.link (omega arith) (omega arith) (omega arith) (omega arith))
    (passed _ _ _ (fits 0 16 p.link.cols p.link.cols p.brick (omega arith) (omega arith) (omega arith) (omega arith))
    (passed _ _ _ (fits 1 10000 p.link.cols p.link.cols p.lower (omega arith) (omega arith) (omega arith) (omega arith))
    (passed _ _ _
    (fits (length p.lower.rows) (length p.lower.rows) p.link.cols p.link.cols p.upper (omega arith) (omega arith)
    (omega arith) (omega arith))
    (passed _ _ _
    (fits 1 1 (length p.link.rows + length p.lower.rows * length p.brick.rows)
    (length p.link.rows + length p.lower.rows * length p.brick.rows) p.right (omega arith) (omega arith)
    (omega (arith, wide)) (omega (arith, wide)))
    (counted _ _ (nat_eq_of (length p.costs.items) (length p.lower.rows * p.link.cols) (costs ∙ sym many)))))))

-- ---- the faults

none_some : (o : Option ProgramFault) (r : ProgramFault) → o ≡ None → o ≡ Some r → ⊥
none_some o r none some = differ (sym none ∙ some)
  where
    differ : None ≡ Some r → ⊥
    differ e = cc

-- so they have no fault but want of memory
pub no_fault : (p : Parts) (f : ProgramFault) → first_misshaped p ≡ None → program_refusal (program_of p) ≡ None →
    IsProgramFault p f → f ≡ fault.Memory
no_fault p (fault.Shape kind) shaped accepted is = absurd (differ (sym shaped ∙ is))
  where
    differ : None ≡ Some kind → ⊥
    differ e = cc
no_fault p (fault.CrossedBounds i j) shaped accepted is =
    absurd (none_some (program_refusal (program_of p)) _ accepted is.1)
no_fault p (fault.Cost i j f) shaped accepted is = absurd (none_some (program_refusal (program_of p)) _ accepted is.1)
no_fault p fault.CostSumTooLarge shaped accepted is =
    absurd (none_some (program_refusal (program_of p)) _ accepted is.1)
no_fault p fault.Memory shaped accepted is = refl
