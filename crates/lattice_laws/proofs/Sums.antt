-- Sums and differences of vectors: their order, and what is 0.
use Rattle.std.proofs.Common.{◌≡◌, ℕ, zero, suc, pos, ◌+ℤ◌, ◌-ℤ◌, true, ◌&&◌, ◌∷◌, length, refl, ap, arith, sym, ◌∙◌}
use Rattle.std.proofs.Common.{subst, []}
use Rattle.std.proofs.lemmas.Int.{ints}
use Rattle.lattice_theory.specs.Vectors.{Vector, is_zero, norm1, add, sub, opposite, zeros, ◌⊑◌, conforms}
use Rattle.lattice_laws.proofs.Products.{zeros_is, length-zeros, zero-zeros}
use Rattle.lattice_laws.proofs.Conformal.{norm1-cons, add_comm_v, add_sub, sub-opposite, length-add, length-opposite}
use Rattle.lattice_laws.proofs.Conformal.{length_below, norm_of_zero, norm_none, norm_below}
use Rattle.lattice_laws.proofs.Signs.{between_zero}

-- ---- sums

pub add_assoc_v : (u v w : Vector) → add u (add v w) ≡ add (add u v) w
add_assoc_v [] v w = refl
add_assoc_v (a ∷ u) [] w = refl
add_assoc_v (a ∷ u) (b ∷ v) [] = refl
add_assoc_v (a ∷ u) (b ∷ v) (c ∷ w) =
    let here : a +ℤ (b +ℤ c) ≡ (a +ℤ b) +ℤ c = omega (arith, ints) in
    λ i. here i ∷ add_assoc_v u v w i

pub add_swap : (u v w : Vector) → add u (add v w) ≡ add v (add u w)
add_swap u v w = add_assoc_v u v w ∙ ap (λ t. add t w) (add_comm_v u v) ∙ sym (add_assoc_v v u w)

pub add_zeros : (u : Vector) (n : ℕ) → length u ≡ n → add u (zeros n) ≡ u
add_zeros [] n size = refl
add_zeros (a ∷ u) zero size = absurd (omega arith)
add_zeros (a ∷ u) (suc n) size =
    let here : a +ℤ pos 0 ≡ a = omega (arith, ints) in
    λ i. here i ∷ add_zeros u n (omega arith) i

pub zeros_add : (u : Vector) (n : ℕ) → length u ≡ n → add (zeros n) u ≡ u
zeros_add u n size = add_comm_v (zeros n) u ∙ add_zeros u n size

pub interchange : (a b c d : Vector) → add (add a b) (add c d) ≡ add (add a c) (add b d)
interchange a b c d =
    sym (add_assoc_v a b (add c d)) ∙ ap (add a) (add_swap b c d) ∙ add_assoc_v a c (add b d)

-- ---- differences

pub length-sub : (u v : Vector) (n : ℕ) → length u ≡ n → length v ≡ n → length (sub u v) ≡ n
length-sub u v n e f = ap length (sub-opposite u v) ∙ length-add u (opposite v) n e (length-opposite v ∙ f)

pub sub_swap : (u v w : Vector) → sub (sub u v) w ≡ sub (sub u w) v
sub_swap [] v w = refl
sub_swap (a ∷ u) [] [] = refl
sub_swap (a ∷ u) [] (c ∷ w) = refl
sub_swap (a ∷ u) (b ∷ v) [] = refl
sub_swap (a ∷ u) (b ∷ v) (c ∷ w) =
    let here : (a -ℤ b) -ℤ c ≡ (a -ℤ c) -ℤ b = omega (arith, ints) in
    λ i. here i ∷ sub_swap u v w i

pub sub_sub : (r u v : Vector) → sub (sub r u) v ≡ sub r (add u v)
sub_sub [] u v = refl
sub_sub (c ∷ r) [] v = refl
sub_sub (c ∷ r) (a ∷ u) [] = refl
sub_sub (c ∷ r) (a ∷ u) (b ∷ v) =
    let here : (c -ℤ a) -ℤ b ≡ c -ℤ (a +ℤ b) = omega (arith, ints) in
    λ i. here i ∷ sub_sub r u v i

-- the order of a sum in a difference
pub sub_interchange : (a b c d : Vector) → sub (add a b) (add c d) ≡ add (sub a c) (sub b d)
sub_interchange [] b c d = refl
sub_interchange (a ∷ u) [] [] d = refl
sub_interchange (a ∷ u) [] (c ∷ w) d = refl
sub_interchange (a ∷ u) (b ∷ v) [] d = refl
sub_interchange (a ∷ u) (b ∷ v) (c ∷ w) [] = refl
sub_interchange (a ∷ u) (b ∷ v) (c ∷ w) (d ∷ z) =
    let here : (a +ℤ b) -ℤ (c +ℤ d) ≡ (a -ℤ c) +ℤ (b -ℤ d) = omega (arith, ints) in
    λ i. here i ∷ sub_interchange u v w z i

-- ---- zeros

pub opposite-zeros : (n : ℕ) → opposite (zeros n) ≡ zeros n
opposite-zeros zero = refl
opposite-zeros (suc n) = ap (λ v. pos 0 ∷ v) (opposite-zeros n)

pub sub_zeros : (v : Vector) (n : ℕ) → length v ≡ n → sub v (zeros n) ≡ v
sub_zeros v n size = sub-opposite v (zeros n) ∙ ap (add v) (opposite-zeros n) ∙ add_zeros v n size

pub norm-zeros : (n : ℕ) → norm1 (zeros n) ≡ 0
norm-zeros n = norm_of_zero (zeros n) (zero-zeros n)

pub zeros_below : (u : Vector) → zeros (length u) ⊑ u
zeros_below [] = refl
zeros_below (a ∷ u) = ap (λ t. t && conforms (zeros (length u)) u) (between_zero a) ∙ zeros_below u

pub zeros_below_sized : (u : Vector) (n : ℕ) → length u ≡ n → zeros n ⊑ u
zeros_below_sized u n size = subst (λ k. zeros k ⊑ u) size (zeros_below u)

-- below 0 stands only 0
pub below_zeros : (q : Vector) (n : ℕ) → q ⊑ zeros n → q ≡ zeros n
below_zeros q n below =
    let none : norm1 q ≡ 0 = omega (arith, norm_below q (zeros n) below, norm_of_zero (zeros n) (zero-zeros n)) in
    zeros_is q (norm_none q none) ∙ ap zeros (length_below q (zeros n) below ∙ length-zeros n)

-- ---- differences that are 0

-- nothing is missed where the rows are met
pub no_rest : (v : Vector) → norm1 (sub v v) ≡ 0
no_rest [] = refl
no_rest (a ∷ v) = omega (arith, ints, norm1-cons (a -ℤ a) (sub v v), no_rest v)

pub sub_itself : (u : Vector) (n : ℕ) → length u ≡ n → sub u u ≡ zeros n
sub_itself u n size = zeros_is (sub u u) (norm_none (sub u u) (no_rest u)) ∙ ap zeros (length-sub u u n size size)

-- where the difference is 0, the two are one vector
pub same_vector : (u v : Vector) → length u ≡ length v → is_zero (sub v u) ≡ true → u ≡ v
same_vector u v size none =
    sym (add_zeros u (length (sub v u)) (sym (length-sub v u (length u) (sym size) refl)))
    ∙ ap (add u) (sym (zeros_is (sub v u) none))
    ∙ add_sub u v size
