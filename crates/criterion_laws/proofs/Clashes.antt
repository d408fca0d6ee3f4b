-- The first clash of two vectors is the one entry after which the pair counts.
use Rattle.std.proofs.Common.{◌≡◌, ℕ, zero, suc, ◌≤◌, ℤ, pos, Bool, true, false, not, ◌&&◌, cond, [], ◌∷◌, take, Option}
use Rattle.std.proofs.Common.{Some, None, refl, ap, arith, ◌∙◌}
use Rattle.std.specs.Option.{option_map}
use Rattle.std.proofs.lemmas.Int.{ints}
use Rattle.std.proofs.lemmas.Bool.Decides.{nat_tests}
use Rattle.lattice_theory.specs.Vectors.{Vector}
use Rattle.lattice_laws.proofs.Tests.{and_true, not_both}
use Rattle.lattice_laws.proofs.Signs.{agrees, agrees_comm}
use Rattle.lattice_laws.proofs.Conformal.{agree}
use Rattle.lattice_laws.proofs.Completion.{new_entry, counts, counts_parts}
use Rattle.criterion_laws.specs.Prefixes.{first_clash}

zero_agrees : (x : ℤ) → agrees (pos 0) x ≡ true
zero_agrees x = grind (arith, nat_tests, ints)

-- what counts clashes there, and agrees before
pub counts_clash : (at : ℕ) (u v : Vector) → counts at u v ≡ true → first_clash u v ≡ Some at
counts_clash at [] v counted =
    absurd (not_both (agrees (new_entry at []) (new_entry at v)) (zero_agrees (new_entry at v))
    (counts_parts at [] v counted).1)
counts_clash at (a ∷ u) [] counted =
    let clash = (counts_parts at (a ∷ u) [] counted).1 in
    let x = new_entry at (a ∷ u) in
    absurd (not_both (agrees x (pos 0)) (agrees_comm x (pos 0) ∙ zero_agrees x) clash)
counts_clash zero (a ∷ u) (b ∷ v) counted =
    ap (λ t. cond t (option_map suc (first_clash u v)) (Some 0)) (counts_parts zero (a ∷ u) (b ∷ v) counted).1
counts_clash (suc at) (a ∷ u) (b ∷ v) counted =
    let parts = counts_parts (suc at) (a ∷ u) (b ∷ v) counted in
    let first = and_true (agrees a b) (agree (take at u) (take at v)) parts.0 in
    let rest : counts at u v ≡ true =
    ap (λ t. t && not (agrees (new_entry at u) (new_entry at v))) first.1 ∙ ap not parts.1 in
    ap (λ t. cond t (option_map suc (first_clash u v)) (Some 0)) first.0
    ∙ ap (option_map suc) (counts_clash at u v rest)

-- before the first clash the vectors agree
pub clash_agrees : (at : ℕ) (u v : Vector) → first_clash u v ≡ Some at → agree (take at u) (take at v) ≡ true
clash_agrees at [] v first = absurd (cc)
clash_agrees at (a ∷ u) [] first = absurd (cc)
clash_agrees zero (a ∷ u) (b ∷ v) first = refl
clash_agrees (suc at) (a ∷ u) (b ∷ v) first = by (agrees a b) refl (first_clash u v) refl first
    (λ k. clash_agrees at u v k)
  where
    by : (t : Bool) → agrees a b ≡ t → (o : Option ℕ) → first_clash u v ≡ o →
        cond t (option_map suc o) (Some 0) ≡ Some (suc at) →
        (first_clash u v ≡ Some at → agree (take at u) (take at v) ≡ true) →
        (agrees a b && agree (take at u) (take at v)) ≡ true
    by false e o f is rest = absurd (cc)
    by true e None f is rest = absurd (cc)
    by true e (Some k) f is rest =
        let same : k ≡ at = cc in
        ap (λ t. t && agree (take at u) (take at v)) e ∙ rest (f ∙ ap Some same)

-- vectors that agree in more entries agree in fewer
pub agree-take : (n k : ℕ) (u v : Vector) → n ≤ k → agree (take k u) (take k v) ≡ true →
    agree (take n u) (take n v) ≡ true
agree-take zero k u v less agreed = refl
agree-take (suc n) zero u v less agreed = absurd (omega arith)
agree-take (suc n) (suc k) [] [] less agreed = refl
agree-take (suc n) (suc k) [] (b ∷ v) less agreed = absurd (cc)
agree-take (suc n) (suc k) (a ∷ u) [] less agreed = absurd (cc)
agree-take (suc n) (suc k) (a ∷ u) (b ∷ v) less agreed =
    let parts = and_true (agrees a b) (agree (take k u) (take k v)) agreed in
    ap (λ t. t && agree (take n u) (take n v)) parts.0 ∙ agree-take n k u v (omega arith) parts.1
