-- What is drawn, one turn on.
use Rattle.std.proofs.Common.{◌≡◌, ℕ, zero, suc, ◌+◌, ◌-◌, ◌<◌, nat_eq, ◌∷◌, length, cond, refl, ap, arith, ◌∙◌}
use Rattle.std.proofs.lemmas.List.Sums.{sum_by-cons}
use Rattle.fold_gen.specs.Draws.{next, after, draw, suppliers, share, demand, customer, customers}

-- what is left, where something is
left : (n i : ℕ) → i < n → n - i ≡ suc (n - (i + 1))
left n i low = omega arith

pub share_step : (j n i z : ℕ) → i < n →
    share j (suppliers (n - i) z) ≡ cond (nat_eq (draw 3 z) j) 1 0 + share j (suppliers (n - (i + 1)) (next z))
share_step j n i z low =
    ap (λ k. share j (suppliers k z)) (left n i low)
    ∙ sum_by-cons (λ s. cond (nat_eq s j) 1 0) (draw 3 z) (suppliers (n - (i + 1)) (next z))

pub after_step : (n i z : ℕ) → i < n → after (n - i) z ≡ after (n - (i + 1)) (next z)
after_step n i z low = ap (λ k. after k z) (left n i low)

pub length-customers : (n z : ℕ) → length (customers n z) ≡ n
length-customers zero z = refl
length-customers (suc n) z = ap suc (length-customers n (after (demand z) (after 7 z)))

pub customers_step : (n i z : ℕ) → i < n →
    customers (n - i) z ≡ customer z ∷ customers (n - (i + 1)) (after (demand z) (after 7 z))
customers_step n i z low = ap (λ k. customers k z) (left n i low)

-- one unit more of the supplier that is drawn
pub share_more : (j n i z after_z s one so_far whole : ℕ) → i < n → s ≡ draw 3 z → after_z ≡ next z →
    one ≡ cond (nat_eq s j) 1 0 →
    so_far + share j (suppliers (n - i) z) ≡ whole → so_far + one + share j (suppliers (n - (i + 1)) after_z) ≡ whole
share_more j n i z after_z s one so_far whole low drawn turned is so_far_is =
    let step = share_step j n i z low in
    let same : ◌≡◌ {A = ℕ} (cond (nat_eq s j) 1 0) (cond (nat_eq (draw 3 z) j) 1 0) =
    ap (λ d. cond (nat_eq d j) 1 0) drawn in
    let rest : share j (suppliers (n - (i + 1)) after_z) ≡ share j (suppliers (n - (i + 1)) (next z)) =
    ap (λ y. share j (suppliers (n - (i + 1)) y)) turned in
    omega (arith, step, same, rest, is, so_far_is)
