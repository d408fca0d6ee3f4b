-- Products of rows and vectors are linear in the vector.
use Rattle.std.proofs.Common.{sym, ◌≡◌, ℕ, zero, suc, ◌+◌, ℤ, pos, negsuc, ◌+ℤ◌, ◌*ℤ◌, neg_ℤ, true, List, ◌∷◌, ◌++◌}
use Rattle.std.proofs.Common.{length, map, refl, ap, arith, ◌∙◌, []}
use Rattle.std.proofs.lemmas.Int.{ints}
use Rattle.std.proofs.Math.IntN.{zero-*ℤ, *ℤ-zero, suc_ℤ-*ℤ, pred_ℤ-*ℤ, +ℤ_invr}
use Rattle.std.proofs.lemmas.List.{length-replicate}
use Rattle.std.specs.Ordering.{int_eq}
use Rattle.lattice_theory.specs.Vectors.{Vector, add, opposite, zeros, dot, is_zero, sub}
use Rattle.lattice_laws.proofs.Tests.{and_true, int_eq_true}
use Rattle.lattice_laws.proofs.Conformal.{sub-opposite, length-opposite}

pub times_sum : (a b c : ℤ) → a *ℤ (b +ℤ c) ≡ a *ℤ b +ℤ a *ℤ c
times_sum (pos zero) b c = omega (arith, ints, zero-*ℤ (b +ℤ c), zero-*ℤ b, zero-*ℤ c)
times_sum (pos (suc n)) b c =
    omega (arith, ints, suc_ℤ-*ℤ (pos n) (b +ℤ c), suc_ℤ-*ℤ (pos n) b, suc_ℤ-*ℤ (pos n) c, times_sum (pos n) b c)
times_sum (negsuc zero) b c =
    omega (
      arith,
      ints,
      pred_ℤ-*ℤ (pos zero) (b +ℤ c),
      pred_ℤ-*ℤ (pos zero) b,
      pred_ℤ-*ℤ (pos zero) c,
      zero-*ℤ (b +ℤ c),
      zero-*ℤ b,
      zero-*ℤ c,
    )
times_sum (negsuc (suc n)) b c =
    omega (
      arith,
      ints,
      pred_ℤ-*ℤ (negsuc n) (b +ℤ c),
      pred_ℤ-*ℤ (negsuc n) b,
      pred_ℤ-*ℤ (negsuc n) c,
      times_sum (negsuc n) b c,
    )

pub times_opposite : (x z : ℤ) → x *ℤ neg_ℤ z ≡ neg_ℤ (x *ℤ z)
times_opposite x z =
    omega (arith, ints, times_sum x z (neg_ℤ z), ap (λ k. x *ℤ k) (+ℤ_invr z), *ℤ-zero x)

pub dot-add : (u v w : Vector) → length v ≡ length w → dot u (add v w) ≡ dot u v +ℤ dot u w
dot-add [] v w e = refl
dot-add (a ∷ u) [] [] e = refl
dot-add (a ∷ u) [] (c ∷ w) e = absurd (omega arith)
dot-add (a ∷ u) (b ∷ v) [] e = absurd (omega arith)
dot-add (a ∷ u) (b ∷ v) (c ∷ w) e = omega (arith, ints, dot-add u v w (omega arith), times_sum a b c)

pub dot-opposite : (u v : Vector) → dot u (opposite v) ≡ neg_ℤ (dot u v)
dot-opposite [] v = refl
dot-opposite (x ∷ u) [] = refl
dot-opposite (x ∷ u) (y ∷ v) = omega (arith, ints, times_opposite x y, dot-opposite u v)

pub dot-zeros : (u : Vector) (n : ℕ) → dot u (zeros n) ≡ pos 0
dot-zeros [] n = refl
dot-zeros (x ∷ u) zero = refl
dot-zeros (x ∷ u) (suc n) = omega (arith, ints, *ℤ-zero x, dot-zeros u n)

-- ---- the same for several rows

pub rows-add : (rows : List Vector) (u v : Vector) → length u ≡ length v →
    map (λ row. dot row (add u v)) rows ≡ add (map (λ row. dot row u) rows) (map (λ row. dot row v) rows)
rows-add [] u v e = refl
rows-add (row ∷ rows) u v e =
    let one : dot row (add u v) ≡ dot row u +ℤ dot row v = dot-add row u v e in
    let rest : map (λ row. dot row (add u v)) rows ≡ add (map (λ row. dot row u) rows) (map (λ row. dot row v) rows) =
    rows-add rows u v e in
    λ i. one i ∷ rest i

pub rows-opposite : (rows : List Vector) (v : Vector) →
    map (λ row. dot row (opposite v)) rows ≡ opposite (map (λ row. dot row v) rows)
rows-opposite [] v = refl
rows-opposite (row ∷ rows) v = λ i. dot-opposite row v i ∷ rows-opposite rows v i

pub rows-zeros : (rows : List Vector) (n : ℕ) → map (λ row. dot row (zeros n)) rows ≡ zeros (length rows)
rows-zeros [] n = refl
rows-zeros (row ∷ rows) n = λ i. dot-zeros row n i ∷ rows-zeros rows n i

pub length-rows : (rows : List Vector) (v : Vector) → length (map (λ row. dot row v) rows) ≡ length rows
length-rows [] v = refl
length-rows (row ∷ rows) v = ap suc (length-rows rows v)

-- products are linear
pub rows-sub : (rows : List Vector) (u v : Vector) → length u ≡ length v →
    map (λ row. dot row (sub u v)) rows ≡ sub (map (λ row. dot row u) rows) (map (λ row. dot row v) rows)
rows-sub rows u v size =
    ap (λ w. map (λ row. dot row w) rows) (sub-opposite u v)
    ∙ rows-add rows u (opposite v) (size ∙ sym (length-opposite v))
    ∙ ap (add (map (λ row. dot row u) rows)) (rows-opposite rows v)
    ∙ sym (sub-opposite (map (λ row. dot row u) rows) (map (λ row. dot row v) rows))

-- ---- vectors in two parts

pub add-append : (u v u' v' : Vector) → length u ≡ length v → add (u ++ u') (v ++ v') ≡ add u v ++ add u' v'
add-append [] [] u' v' e = refl
add-append [] (b ∷ v) u' v' e = absurd (omega arith)
add-append (a ∷ u) [] u' v' e = absurd (omega arith)
add-append (a ∷ u) (b ∷ v) u' v' e = ap (λ t. (a +ℤ b) ∷ t) (add-append u v u' v' (omega arith))

pub length-zeros : (n : ℕ) → length (zeros n) ≡ n
length-zeros n = length-replicate n (pos 0)

pub zeros_is : (v : Vector) → is_zero v ≡ true → v ≡ zeros (length v)
zeros_is [] h = refl
zeros_is (a ∷ v) h =
    let p = and_true (int_eq a (pos 0)) (is_zero v) h in
    λ i. int_eq_true a (pos 0) p.0 i ∷ zeros_is v p.1 i

pub zero-zeros : (n : ℕ) → is_zero (zeros n) ≡ true
zero-zeros zero = refl
zero-zeros (suc n) = zero-zeros n

pub zeros-append : (m n : ℕ) → zeros m ++ zeros n ≡ zeros (m + n)
zeros-append zero n = ap zeros (omega arith)
zeros-append (suc m) n = let e : suc (m + n) ≡ suc m + n = omega arith in
    ap (λ v. pos 0 ∷ v) (zeros-append m n) ∙ ap zeros e
