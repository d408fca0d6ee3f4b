-- Vectors that agree and vectors that clash: sums of parts of the former, norms of the latter.
use Rattle.std.proofs.Common.{◌≡◌, ℕ, zero, suc, ◌+◌, ◌<◌, ◌+ℤ◌, Bool, true, false, ◌&&◌, ◌∷◌, length, refl, ap, arith}
use Rattle.std.proofs.Common.{◌∙◌, [], ℤ}
use Rattle.lattice_theory.specs.Vectors.{Vector, norm1, add, zeros, ◌⊑◌, conforms, is_between}
use Rattle.lattice_laws.proofs.Tests.{and_true}
use Rattle.lattice_laws.proofs.Signs.{agrees, abs_sum, clash, agrees_zero, abs_clash, between_parts}
use Rattle.lattice_laws.proofs.Conformal.{agree, norm1-cons, norm_sum}
use Rattle.lattice_laws.proofs.Products.{times_sum}
use Rattle.std.proofs.lemmas.Bool.Decides.{nat_tests}
use Rattle.std.proofs.lemmas.Int.{ints}

-- ---- what agrees with two vectors agrees with their sum

agrees_sum : (x y z : ℤ) → agrees x y ≡ true → agrees x z ≡ true → agrees x (y +ℤ z) ≡ true
agrees_sum x y z agreeing agreed = grind (arith, nat_tests, ints, times_sum x y z)

pub agree_sum : (u v w : Vector) → agree u v ≡ true → agree u w ≡ true → agree u (add v w) ≡ true
agree_sum [] [] w agreeing agreed = refl
agree_sum [] (b ∷ v) w agreeing agreed = absurd (cc)
agree_sum (a ∷ u) [] w agreeing agreed = absurd (cc)
agree_sum (a ∷ u) (b ∷ v) [] agreeing agreed = absurd (cc)
agree_sum (a ∷ u) (b ∷ v) (c ∷ w) agreeing agreed =
    let p = and_true (agrees a b) (agree u v) agreeing in
    let q = and_true (agrees a c) (agree u w) agreed in
    ap (λ t. t && agree u (add v w)) (agrees_sum a b c p.0 q.0) ∙ agree_sum u v w p.1 q.1

pub agree_zeros : (u : Vector) (n : ℕ) → length u ≡ n → agree u (zeros n) ≡ true
agree_zeros [] zero size = refl
agree_zeros [] (suc n) size = absurd (omega arith)
agree_zeros (a ∷ u) zero size = absurd (omega arith)
agree_zeros (a ∷ u) (suc n) size = ap (λ t. t && agree u (zeros n)) (agrees_zero a) ∙ agree_zeros u n (omega arith)

-- ---- parts and norms

-- where s and t agree, parts of s and t add up to a part of s + t
pub parts_sum : (u v s t : Vector) → u ⊑ s → v ⊑ t → agree s t ≡ true → add u v ⊑ add s t
parts_sum [] v [] [] below part agreeing = refl
parts_sum [] v [] (d ∷ t) below part agreeing = absurd (cc)
parts_sum [] v (c ∷ s) t below part agreeing = absurd (cc)
parts_sum (a ∷ u) v [] t below part agreeing = absurd (cc)
parts_sum (a ∷ u) v (c ∷ s) [] below part agreeing = absurd (cc)
parts_sum (a ∷ u) [] (c ∷ s) (d ∷ t) below part agreeing = absurd (cc)
parts_sum (a ∷ u) (b ∷ v) (c ∷ s) (d ∷ t) below part agreeing =
    let p = and_true (is_between a c) (conforms u s) below in
    let q = and_true (is_between b d) (conforms v t) part in
    let r = and_true (agrees c d) (agree s t) agreeing in
    ap (λ x. x && conforms (add u v) (add s t)) (between_parts a b c d p.0 q.0 r.0) ∙ parts_sum u v s t p.1 q.1 r.1

-- the sum of two vectors that clash is lighter than the two
pub norm_clash : (u v : Vector) → length u ≡ length v → agree u v ≡ false → norm1 (add u v) < norm1 u + norm1 v
norm_clash [] [] size clash = absurd (cc)
norm_clash [] (b ∷ v) size clash = absurd (omega arith)
norm_clash (a ∷ u) [] size clash = absurd (omega arith)
norm_clash (a ∷ u) (b ∷ v) size clash = by (agrees a b) refl clash (λ k. norm_clash u v (omega arith) k)
  where
    by : (t : Bool) → agrees a b ≡ t → (t && agree u v) ≡ false →
        (agree u v ≡ false → norm1 (add u v) < norm1 u + norm1 v) →
        norm1 (add (a ∷ u) (b ∷ v)) < norm1 (a ∷ u) + norm1 (b ∷ v)
    by true p q rest =
        omega (arith, norm1-cons (a +ℤ b) (add u v), norm1-cons a u, norm1-cons b v, abs_sum a b, rest q)
    by false p q rest =
        omega (arith, norm1-cons (a +ℤ b) (add u v), norm1-cons a u, norm1-cons b v, abs_clash a b p, norm_sum u v)
