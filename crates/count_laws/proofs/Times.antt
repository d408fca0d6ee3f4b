-- So many times a move: the points along it, their sums and images, and that the changes of the phase cost fall.
use Rattle.std.proofs.Common.{◌≡◌, ℕ, suc, ◌+◌, ◌*◌, ◌≤◌, ◌^◌, ℤ, pos, ◌+ℤ◌, ◌-ℤ◌, ◌*ℤ◌, true, ◌&&◌, [], ◌∷◌, length}
use Rattle.std.proofs.Common.{refl, ap, arith, sym, ◌∙◌}
use Rattle.std.proofs.lemmas.Int.{ints}
use Rattle.std.proofs.lemmas.Bool.Decides.{nat_tests}
use Rattle.std.proofs.Math.IntN.{suc_ℤ-*ℤ}
use Rattle.std.specs.List.{AllZip, AllByRecursion}
use Rattle.lattice_theory.specs.Vectors.{Vector, ◌⊑◌, conforms, is_between, norm1, add, sub, scale, zeros}
use Rattle.lattice_theory.specs.Matrices.{product}
use Rattle.lattice_laws.proofs.Signs.{agrees_same, between_sum}
use Rattle.lattice_laws.proofs.Conformal.{conforms_trans}
use Rattle.fold_theory.specs.Programs.{Program, Bricks}
use Rattle.run_theory.specs.Steps.{moved}
use Rattle.lattice_laws.proofs.Sums.{add_zeros}
use Rattle.lattice_laws.proofs.Multiples.{scale_zero, scale-zeros, length-scale, rows-scale, norm-scale, scale_once}
use Rattle.lattice_laws.proofs.Multiples.{scale-below, scale-add}
use Rattle.lattice_laws.specs.VectorLists.{AreSized, sum_of, weight}
use Rattle.piece_laws.specs.Points.{forth, back, ArePartsOf}
use Rattle.count_laws.proofs.Clipped.{times}

-- ---- vectors

-- one more time
entry_next : (a : ℕ) (p k : ℤ) → p +ℤ pos (suc a) *ℤ k ≡ (p +ℤ pos a *ℤ k) +ℤ k
entry_next a p k = omega (arith, ints, suc_ℤ-*ℤ (pos a) k)

vector_next : (a : ℕ) (u d : Vector) → add u (scale (pos (suc a)) d) ≡ add (add u (scale (pos a) d)) d
vector_next a [] d = refl
vector_next a (p ∷ u) [] = refl
vector_next a (p ∷ u) (k ∷ d) = λ i. entry_next a p k i ∷ vector_next a u d i

-- two more times, and one back
entry_back : (a : ℕ) (p k : ℤ) → (p +ℤ pos (suc (suc a)) *ℤ k) -ℤ k ≡ p +ℤ pos (suc a) *ℤ k
entry_back a p k = omega (arith, ints, entry_next (suc a) p k)

vector_back : (a : ℕ) (u d : Vector) → sub (add u (scale (pos (suc (suc a))) d)) d ≡ add u (scale (pos (suc a)) d)
vector_back a [] d = refl
vector_back a (p ∷ u) [] = refl
vector_back a (p ∷ u) (k ∷ d) = λ i. entry_back a p k i ∷ vector_back a u d i

-- once is a part of twice
entry_twice : (a : ℕ) (p k : ℤ) → is_between k ((p +ℤ pos (suc (suc a)) *ℤ k) -ℤ (p +ℤ pos a *ℤ k)) ≡ true
entry_twice a p k =
    let twice : (p +ℤ pos (suc (suc a)) *ℤ k) -ℤ (p +ℤ pos a *ℤ k) ≡ k +ℤ k =
    omega (arith, ints, entry_next (suc a) p k, entry_next a p k) in
    ap (is_between k) twice ∙ between_sum k k (agrees_same k)

pub vector_twice : (a : ℕ) (u d : Vector) → length d ≡ length u →
    d ⊑ sub (add u (scale (pos (suc (suc a))) d)) (add u (scale (pos a) d))
vector_twice a [] [] size = refl
vector_twice a [] (k ∷ d) size = absurd (omega arith)
vector_twice a (p ∷ u) [] size = absurd (omega arith)
vector_twice a (p ∷ u) (k ∷ d) size =
    ap (λ t. t && conforms d (sub (add u (scale (pos (suc (suc a))) d)) (add u (scale (pos a) d)))) (entry_twice a p k)
    ∙ vector_twice a u d (omega arith)

-- fewer times is a part of more times
fewer : (a m : ℕ) → a ≤ m → is_between (pos a) (pos m) ≡ true
fewer a m low = grind (arith, nat_tests, ints)

pub fewer_below : (a m : ℕ) (d v : Vector) → a ≤ m → scale (pos m) d ⊑ v → scale (pos a) d ⊑ v
fewer_below a m d v low below =
    conforms_trans (scale (pos a) d) (scale (pos m) d) v (scale-below (pos a) (pos m) d (fewer a m low)) below

-- ---- points

pub length-times : (m : ℕ) (h : Bricks) → length (times m h) ≡ length h
length-times m [] = refl
length-times m (d ∷ h) = ap suc (length-times m h)

pub times_once : (h : Bricks) → times 1 h ≡ h
times_once [] = refl
times_once (d ∷ h) = λ i. scale_once d i ∷ times_once h i

pub times-sized : (t m : ℕ) (h : Bricks) → AreSized t h → AreSized t (times m h)
times-sized t m [] sized = tt
times-sized t m (d ∷ h) sized = (length-scale (pos m) d ∙ sized.0, times-sized t m h sized.1)

pub weight-times : (m : ℕ) (h : Bricks) → weight (times m h) ≡ m * weight h
weight-times m [] = omega arith
weight-times m (d ∷ h) =
    let next : m * (norm1 d + weight h) ≡ m * norm1 d + m * weight h = grind arith in
    omega (arith, norm-scale m d, weight-times m h, next)

pub sum-times : (t m : ℕ) (h : Bricks) → sum_of t (times m h) ≡ scale (pos m) (sum_of t h)
sum-times t m [] = sym (scale-zeros (pos m) t)
sum-times t m (d ∷ h) =
    ap (add (scale (pos m) d)) (sum-times t m h) ∙ sym (scale-add (pos m) d (sum_of t h))

pub image-times : (p : Program) (t m : ℕ) (h : Bricks) →
    product p.link (sum_of t (times m h)) ≡ scale (pos m) (product p.link (sum_of t h))
image-times p t m h = ap (product p.link) (sum-times t m h) ∙ rows-scale p.link.rows (pos m) (sum_of t h)

pub times-still : (p : Program) (m : ℕ) (h : Bricks) →
    AllByRecursion (λ v. product p.brick v ≡ zeros (length p.brick.rows)) h →
    AllByRecursion (λ v. product p.brick v ≡ zeros (length p.brick.rows)) (times m h)
times-still p m [] still = tt
times-still p m (d ∷ h) still = (
  rows-scale p.brick.rows (pos m) d ∙ ap (scale (pos m)) still.0 ∙ scale-zeros (pos m) (length p.brick.rows),
  times-still p m h still.1,
)

pub fewer_times : (a m : ℕ) (h ds : Bricks) → a ≤ m → AllZip ◌⊑◌ (times m h) ds → AllZip ◌⊑◌ (times a h) ds
fewer_times a m [] [] low below = tt
fewer_times a m [] (v ∷ ds) low below = absurd below
fewer_times a m (d ∷ h) [] low below = absurd below
fewer_times a m (d ∷ h) (v ∷ ds) low below = (fewer_below a m d v low below.0, fewer_times a m h ds low below.1)

-- after so many times the move
abbrev pub along : Bricks → Bricks → ℕ → Bricks
along x h a = forth x (times a h)

pub moved_along : (x h : Bricks) (k : ℕ) → moved x k h ≡ along x h (2 ^ k)
moved_along [] h k = refl
moved_along (u ∷ x) [] k = refl
moved_along (u ∷ x) (d ∷ h) k = ap (λ r. add u (scale (pos (2 ^ k)) d) ∷ r) (moved_along x h k)

pub along_none : (t : ℕ) (x h : Bricks) → AreSized t x → AreSized t h → length h ≡ length x → along x h 0 ≡ x
along_none t [] h sx sh size = refl
along_none t (u ∷ x) [] sx sh size = absurd (omega arith)
along_none t (u ∷ x) (d ∷ h) sx sh size =
    let here : add u (scale (pos 0) d) ≡ u = ap (add u) (scale_zero d) ∙ add_zeros u (length d) (sx.0 ∙ sym sh.0) in
    λ i. here i ∷ along_none t x h sx.1 sh.1 (omega arith) i

pub along_next : (a : ℕ) (x h : Bricks) → along x h (suc a) ≡ forth (along x h a) h
along_next a [] h = refl
along_next a (u ∷ x) [] = refl
along_next a (u ∷ x) (d ∷ h) = λ i. vector_next a u d i ∷ along_next a x h i

pub along_back : (a : ℕ) (x h : Bricks) → back (along x h (suc (suc a))) h ≡ along x h (suc a)
along_back a [] h = refl
along_back a (u ∷ x) [] = refl
along_back a (u ∷ x) (d ∷ h) = λ i. vector_back a u d i ∷ along_back a x h i

pub along_parts : (t a : ℕ) (x h : Bricks) → AreSized t x → AreSized t h → length h ≡ length x →
    ArePartsOf h (along x h a) (along x h (suc (suc a)))
along_parts t a [] [] sx sh size = tt
along_parts t a [] (d ∷ h) sx sh size = absurd (omega arith)
along_parts t a (u ∷ x) [] sx sh size = absurd (omega arith)
along_parts t a (u ∷ x) (d ∷ h) sx sh size =
    (vector_twice a u d (sh.0 ∙ sym sx.0), along_parts t a x h sx.1 sh.1 (omega arith))

pub length-along : (x h : Bricks) (a : ℕ) → length h ≡ length x → length (along x h a) ≡ length x
length-along [] h a size = refl
length-along (u ∷ x) [] a size = absurd (omega arith)
length-along (u ∷ x) (d ∷ h) a size = ap suc (length-along x h a (omega arith))
