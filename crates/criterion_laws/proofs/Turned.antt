-- Signs turned on the one vector or on the other: they clash at the same place, and the sums are opposites.
use Rattle.std.proofs.Common.{◌≡◌, ℕ, suc, ℤ, neg_ℤ, nat_lt, Bool, true, false, ◌||◌, cond, List, [], ◌∷◌, take, Option}
use Rattle.std.proofs.Common.{Some, None, refl, ap, arith, sym, ◌∙◌}
use Rattle.std.specs.List.{list_any}
use Rattle.std.specs.Option.{option_map}
use Rattle.std.proofs.lemmas.Int.{ints}
use Rattle.lattice_theory.specs.Vectors.{Vector, conforms, add, opposite}
use Rattle.lattice_laws.proofs.Tests.{and_true}
use Rattle.lattice_laws.proofs.Signs.{agrees, agrees_opposites}
use Rattle.lattice_laws.proofs.Conformal.{agree, conforms_turned, opposite-add, opposite-opposite, opposite-take}
use Rattle.criterion_laws.specs.Prefixes.{first_clash, is_below_in, clash_settles}

agrees_turned : (a b : ℤ) → agrees a (neg_ℤ b) ≡ agrees (neg_ℤ a) b
agrees_turned a b =
    let twice : neg_ℤ (neg_ℤ a) ≡ a = omega (arith, ints) in
    ap (λ x. agrees x (neg_ℤ b)) (sym twice) ∙ agrees_opposites (neg_ℤ a) b

clash_turned : (u v : Vector) → first_clash u (opposite v) ≡ first_clash (opposite u) v
clash_turned [] [] = refl
clash_turned [] (b ∷ v) = refl
clash_turned (a ∷ u) [] = refl
clash_turned (a ∷ u) (b ∷ v) = λ i. cond (agrees_turned a b i) (option_map suc (clash_turned u v i)) (Some 0)

sum_turned : (u v : Vector) → add u (opposite v) ≡ opposite (add (opposite u) v)
sum_turned u v = ap (λ w. add w (opposite v)) (sym (opposite-opposite u)) ∙ sym (opposite-add (opposite u) v)

-- a member is below the opposite of z where it is below z, with one sign or the other
below_turned : (n : ℕ) (z e : Vector) → is_below_in n (opposite z) e ≡ is_below_in n z e
below_turned n z e =
    (λ i. as_it_is i || turned i) ∙ exchanged (conforms (take n (opposite e)) (take n z))
    (conforms (take n e) (take n z))
  where
    as_it_is : conforms (take n e) (take n (opposite z)) ≡ conforms (take n (opposite e)) (take n z)
    as_it_is =
        ap (conforms (take n e)) (sym (opposite-take n z)) ∙ conforms_turned (take n e) (take n z)
        ∙ ap (λ v. conforms v (take n z)) (opposite-take n e)

    turned : conforms (take n (opposite e)) (take n (opposite z)) ≡ conforms (take n e) (take n z)
    turned =
        ap (conforms (take n (opposite e))) (sym (opposite-take n z))
        ∙ conforms_turned (take n (opposite e)) (take n z)
        ∙ ap (λ v. conforms v (take n z)) (opposite-take n (opposite e) ∙ ap (take n) (opposite-opposite e))

    exchanged : (a b : Bool) → (a || b) ≡ (b || a)
    exchanged true true = refl
    exchanged true false = refl
    exchanged false true = refl
    exchanged false false = refl

any_turned : (n : ℕ) (z : Vector) (vs : List Vector) →
    list_any (is_below_in n (opposite z)) vs ≡ list_any (is_below_in n z) vs
any_turned n z [] = refl
any_turned n z (v ∷ vs) = λ i. below_turned n z v i || any_turned n z vs i

-- the signs of the second vector may be turned on the first instead
pub settles_turned : (cols : ℕ) (basis : List Vector) (u v : Vector) →
    clash_settles cols basis u (opposite v) ≡ clash_settles cols basis (opposite u) v
settles_turned cols basis u v = ap settled (clash_turned u v) ∙ by (first_clash (opposite u) v)
  where
    settled : Option ℕ → Bool
    settled None = true
    settled (Some at) = nat_lt at cols || list_any (is_below_in (suc at) (add u (opposite v))) basis

    after : Option ℕ → Bool
    after None = true
    after (Some at) = nat_lt at cols || list_any (is_below_in (suc at) (add (opposite u) v)) basis

    by : (o : Option ℕ) → settled o ≡ after o
    by None = refl
    by (Some at) =
        ap (λ t. nat_lt at cols || t)
        (ap (λ z. list_any (is_below_in (suc at) z) basis) (sum_turned u v)
        ∙ any_turned (suc at) (add (opposite u) v) basis)

-- vectors that agree do not clash
pub agree_clash : (u v : Vector) → agree u v ≡ true → first_clash u v ≡ None
agree_clash [] [] agreed = refl
agree_clash [] (b ∷ v) agreed = refl
agree_clash (a ∷ u) [] agreed = refl
agree_clash (a ∷ u) (b ∷ v) agreed =
    let parts = and_true (agrees a b) (agree u v) agreed in
    (λ i. cond (parts.0 i) (option_map suc (agree_clash u v parts.1 i)) (Some 0))
