-- Transport from three suppliers: each customer is a brick, and each supplier a column and a linking row.
use Rattle.std.specs.Prelude.{◌≡◌, ℕ, pos, List, [], ◌∷◌, map, replicate, sum_by}
use Rattle.fold_theory.specs.declared.Cost.{Cost}
use Rattle.fold_theory.specs.declared.Cost.TheVariants.{Quadratic}
use Rattle.fold_theory.specs.declared.Relation.TheVariants.{Equal}
use Rattle.lattice_theory.specs.Vectors.{Vector, zeros}
use Rattle.lattice_theory.specs.Matrices.{Matrix, unit_vector}
use Rattle.fold_theory.specs.Programs.{Program, Brick}
use Rattle.fold_gen.specs.declared.customers.Price.{Price}
use Rattle.fold_gen.specs.declared.customers.Customer.{Customer}
use Rattle.fold_gen.specs.Draws.{customers}

-- what v units of a supplier cost: a·v² + b·v
abbrev pub cost_of : Price → Cost
cost_of p = Quadratic (pos p.a) (pos p.b) (pos 0)

-- the shares of the suppliers add up to the demand
abbrev pub brick_of : Customer → Brick
brick_of c = record {
  lower = zeros 3;
  upper = replicate 3 (pos c.demand);
  right = pos c.demand ∷ [];
  costs = cost_of c.first ∷ cost_of c.second ∷ cost_of c.third ∷ [];
}

-- what the suppliers are planted to send, in all
abbrev pub sent : List Customer → Vector
sent cs =
    pos (sum_by (λ c. c.planted.first) cs) ∷ pos (sum_by (λ c. c.planted.second) cs) ∷ pos
    (sum_by (λ c. c.planted.third) cs) ∷ []

-- each supplier has a linking row, and each customer takes from all
abbrev pub links : Matrix
links = record { cols = 3; rows = unit_vector 3 0 ∷ unit_vector 3 1 ∷ unit_vector 3 2 ∷ [] }

abbrev pub shares : Matrix
shares = record { cols = 3; rows = (pos 1 ∷ pos 1 ∷ pos 1 ∷ []) ∷ [] }

-- each supplier sends just what is planted
abbrev pub transport_of : List Customer → Program
transport_of cs = record {
  link = links;
  link_right = sent cs;
  relations = Equal ∷ Equal ∷ Equal ∷ [];
  brick = shares;
  bricks = map brick_of cs;
}

-- the program of this number with so many customers
abbrev pub transport : ℕ → ℕ → Program
transport number bricks = transport_of (customers bricks number)
