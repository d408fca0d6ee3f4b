-- The costs of a program with their bounds, one after the other.
use Rattle.std.specs.Prelude.{◌≡◌, ℕ, ◌+◌, ◌/◌, ◌%◌, pos, ◌≤ℤ◌, ◌<ℤ◌, List, map, take, get_or, slice_get, None, All}
use Rattle.std.specs.Prelude.{Some}
use Rattle.std.specs.List.{AllZip}
use Rattle.lattice_theory.specs.Vectors.{Vector}
use Rattle.fold_theory.specs.declared.Cost.{Cost}
use Rattle.fold_theory.specs.Costs.{BoundedCost, value, magnitude, IsConvexOn}
use Rattle.fold_theory.specs.Programs.{Brick}
use Rattle.convex_costs.specs.declared.CostFault.{CostFault}
use Rattle.convex_costs.specs.Faults.{cost_fault}
use Rattle.fold_program.specs.declared.fault.ProgramFault.{ProgramFault}
use Rattle.fold_program.specs.declared.fault.ProgramFault.TheVariants as fault

abbrev pub cost_magnitude : BoundedCost → ℕ
cost_magnitude c = magnitude c.cost c.lower c.upper

-- the costs and bounds of a brick are these
pub record AreCostsOf (b : Brick) (cs : List BoundedCost) : Type 0 where
  pub costs : b.costs ≡ map (λ c. c.cost) cs
  pub lower : b.lower ≡ map (λ c. c.lower) cs
  pub upper : b.upper ≡ map (λ c. c.upper) cs

-- the cost is accepted over its bounds, which do not cross, and convex there
pub record IsGood (c : BoundedCost) : Type 0 where
  pub faultless : cost_fault c.cost c.lower c.upper ≡ None
  pub uncrossed : c.lower ≤ℤ c.upper
  pub convex : IsConvexOn (value c.cost) c.lower c.upper

-- the costs with these bounds are these, and each is good
pub record AreBoundCosts (costs : List Cost) (lower upper : Vector) (cs : List BoundedCost) : Type 0 where
  pub costs_are : map (λ c. c.cost) cs ≡ costs
  pub lower_is : map (λ c. c.lower) cs ≡ lower
  pub upper_is : map (λ c. c.upper) cs ≡ upper
  pub good : All IsGood cs

-- the bounds at this place, from 0, are the first that are crossed
pub record IsFirstCrossed (lower upper : Vector) (at : ℕ) : Type 0 where
  pub before : AllZip ◌≤ℤ◌ (take at lower) (take at upper)
  pub crossed : get_or upper at (pos 0) <ℤ get_or lower at (pos 0)

-- the cost at this place, from 0, is refused with this fault, and is the first that is refused
pub record IsFirstRefused (costs : List Cost) (lower upper : Vector) (at : ℕ) (f : CostFault) : Type 0 where
  pub before : (cs : List BoundedCost) × AreBoundCosts (take at costs) (take at lower) (take at upper) cs
  pub cost : Cost
  pub there : slice_get costs at ≡ Some cost
  pub refused : cost_fault cost (get_or lower at (pos 0)) (get_or upper at (pos 0)) ≡ Some f

-- the fault is that of the first cost that is refused, where each brick has t columns; want of memory may come at any
-- time
abbrev pub IsCostRefusal : ℕ → List Cost → Vector → Vector → ProgramFault → Type 0
IsCostRefusal t costs lower upper (fault.Cost i j f) =
    (at : ℕ) × (i ≡ at / t + 1) × (j ≡ at % t + 1) × IsFirstRefused costs lower upper at f
IsCostRefusal t costs lower upper fault.Memory = Unit {0}
IsCostRefusal t costs lower upper f = ⊥
