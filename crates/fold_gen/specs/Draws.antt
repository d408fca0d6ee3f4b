-- The draws of the generator, and what is drawn for a customer.
use Rattle.std.specs.Prelude.{ℕ, zero, suc, ◌+◌, ◌*◌, ◌%◌, nat_eq, List, [], ◌∷◌, count_by}
use Rattle.fold_gen.specs.declared.customers.Price.{Price}
use Rattle.fold_gen.specs.declared.customers.Planted.{Planted}
use Rattle.fold_gen.specs.declared.customers.Customer.{Customer}

-- the number that comes after z
unfoldable pub next : ℕ → ℕ
next z = (75 * z + 74) % 65537

-- the number that comes after z in so many turns
abbrev pub after : ℕ → ℕ → ℕ
after zero z = z
after (suc turns) z = after turns (next z)

-- the draw after z of one of the m numbers from 0 on
abbrev pub draw : ℕ → ℕ → ℕ
draw m z = next z % m

-- so many draws of a supplier
abbrev pub suppliers : ℕ → ℕ → List ℕ
suppliers zero z = []
suppliers (suc units) z = draw 3 z ∷ suppliers units (next z)

-- how often this supplier is drawn
abbrev pub share : ℕ → List ℕ → ℕ
share j drawn = count_by (λ supplier. nat_eq supplier j) drawn

abbrev pub planted : List ℕ → Planted
planted drawn = record { first = share 0 drawn; second = share 1 drawn; third = share 2 drawn }

abbrev pub price : ℕ → Price
price z = record { a = draw 3 z; b = draw 7 (next z) }

abbrev pub demand : ℕ → ℕ
demand z = 1 + draw 4 z

-- the customer: a demand of 1 to 4, the price of each supplier, and a supplier for each unit of the demand
abbrev pub customer : ℕ → Customer
customer z = record {
  demand = demand z;
  first = price (after 1 z);
  second = price (after 3 z);
  third = price (after 5 z);
  planted = planted (suppliers (demand z) (after 7 z));
}

-- so many customers, one after the other
abbrev pub customers : ℕ → ℕ → List Customer
customers zero z = []
customers (suc n) z = customer z ∷ customers n (after (demand z) (after 7 z))
