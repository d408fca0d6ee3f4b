use Rattle.std.proofs.Common.{◌≡◌, ◌<◌, ◌≤◌, ◌*◌, ◌^◌, pos, sum_by, take}
use Rattle.fold_gen.proofs.programs.sent_in_all.Given as goal

-- what the customers so far are sent
abbrev pub invariant-loop-customer : goal.invariant-loop-customer
invariant-loop-customer l = record {
  first : l.first ≡ pos (sum_by (λ c. c.planted.first) (take l.customer-index l.customers));
  second : l.second ≡ pos (sum_by (λ c. c.planted.second) (take l.customer-index l.customers));
  third : l.third ≡ pos (sum_by (λ c. c.planted.third) (take l.customer-index l.customers));
  few_first : sum_by (λ c. c.planted.first) (take l.customer-index l.customers) ≤ 2 ^ 32 * l.customer-index;
  few_second : sum_by (λ c. c.planted.second) (take l.customer-index l.customers) ≤ 2 ^ 32 * l.customer-index;
  few_third : sum_by (λ c. c.planted.third) (take l.customer-index l.customers) ≤ 2 ^ 32 * l.customer-index;
}
