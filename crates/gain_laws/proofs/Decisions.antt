-- Whether a move augments can be told: each part of the definition holds or not.
use Rattle.std.proofs.Common.{◌≡◌, ℕ, zero, suc, ◌<◌, ◌≤◌, ◌^◌, ◌⊎◌, max, Bool, true, false, ℤ, pos, negsuc, ◌<ℤ◌, ◌≤ℤ◌}
use Rattle.std.proofs.Common.{List, [], ◌∷◌, length, refl, ap, ap₂, subst, arith, inl, inr, ⊎_elim, true≢false}
use Rattle.std.proofs.lemmas.Int.{ints}
use Rattle.std.proofs.lemmas.Bool.Decides.{eqb_tells, leb_tells}
use Rattle.std.proofs.lemmas.List.Elements.{All-nil, All-cons, All-head, All-tail, Contains-append_left}
use Rattle.std.proofs.lemmas.List.Elements.{Contains-append_right, Contains-append_cases, Contains-push}
use Rattle.std.proofs.lemmas.List.Elements.{Contains-push_cases}
use Rattle.std.specs.List.{All, AllZip, Contains, list_all}
use Rattle.fold_theory.specs.declared.Phase.{Phase}
use Rattle.fold_theory.specs.declared.Phase.TheVariants.{Closed, Counted}
use Rattle.lattice_theory.specs.Vectors.{Vector, is_zero, zeros}
use Rattle.fold_theory.specs.Programs.{Program, Brick, Bricks, IsWithin, AreWithin, link_miss, link_rests, IsLength}
use Rattle.fold_theory.specs.Programs.{widest}
use Rattle.run_theory.specs.Steps.{moved, partial_sums, IsWalk, AllowsEnd, gain, Augments}

-- it holds, or it doesn't
abbrev pub Decided : Type 0 → Type 0
Decided P = P ⊎ (P → ⊥)

-- what a decided fact implies and is implied by is decided
pub decided_as : {P Q : Type 0} → (P → Q) → (Q → P) → Decided P → Decided Q
decided_as to back (inl p) = inl (to p)
decided_as to back (inr n) = inr (λ q. n (back q))

pub decided_both : {P Q : Type 0} → Decided P → Decided Q → Decided (P × Q)
decided_both (inl p) (inl q) = inl (p, q)
decided_both (inl p) (inr n) = inr (λ r. n r.1)
decided_both (inr n) d = inr (λ r. n r.0)

-- ---- numbers, lists of numbers

decided_nat : (a b : ℕ) → Decided (a ≡ b)
decided_nat a b = ⊎_elim (λ t. inl t.1) (λ t. inr t.1) (eqb_tells a b)

decided_le : (a b : ℕ) → Decided (a ≤ b)
decided_le a b = ⊎_elim (λ t. inl t.1) (λ t. inr (λ e. let lt = t.1 in absurd (omega (arith, e, lt)))) (leb_tells a b)

decided_bool : (a : Bool) → Decided (a ≡ false)
decided_bool true = inr (λ e. true≢false e)
decided_bool false = inl refl

decided_int : (a b : ℤ) → Decided (a ≡ b)
decided_int (pos m) (pos n) = decided_as (ap pos) (λ e. omega (arith, ints, e)) (decided_nat m n)
decided_int (pos m) (negsuc n) = inr (λ e. absurd (omega (arith, ints, e)))
decided_int (negsuc m) (pos n) = inr (λ e. absurd (omega (arith, ints, e)))
decided_int (negsuc m) (negsuc n) = decided_as (ap negsuc) (λ e. omega (arith, ints, e)) (decided_nat m n)

decided_int_le : (a b : ℤ) → Decided (a ≤ℤ b)
decided_int_le (pos m) (pos n) = decided_as (λ e. omega (arith, ints, e)) (λ e. omega (arith, ints, e)) (decided_le m n)
decided_int_le (pos m) (negsuc n) = inr (λ e. absurd (omega (arith, ints, e)))
decided_int_le (negsuc m) (pos n) = inl (omega (arith, ints))
decided_int_le (negsuc m) (negsuc n) = decided_as (λ e. omega (arith, ints, e)) (λ e. omega (arith, ints, e))
    (decided_le n m)

decided_vector : (u v : Vector) → Decided (u ≡ v)
decided_vector [] [] = inl refl
decided_vector [] (b ∷ v) = inr (λ e. cc)
decided_vector (a ∷ u) [] = inr (λ e. cc)
decided_vector (a ∷ u) (b ∷ v) =
    decided_as (λ (e : (a ≡ b) × (u ≡ v)). ap₂ (λ c w. c ∷ w) e.0 e.1) (λ e. (cc, cc))
    (decided_both (decided_int a b) (decided_vector u v))

-- ---- lists

contains_cons : (v z : Vector) (zs : List Vector) → (z ≡ v) ⊎ Contains zs v → Contains (z ∷ zs) v
contains_cons v z zs (inl e) = subst (Contains (z ∷ zs)) e (Contains-append_left (z ∷ []) zs z (Contains-push [] z))
contains_cons v z zs (inr c) = Contains-append_right (z ∷ []) zs v c

contains_none : (v : Vector) → Contains [] v → ⊥
contains_none v c = let lt : c.0 < 0 = c.1 in absurd (omega (arith, lt))

cons_contains : (v z : Vector) (zs : List Vector) → Contains (z ∷ zs) v → (z ≡ v) ⊎ Contains zs v
cons_contains v z zs c = ⊎_elim
    (λ one. ⊎_elim (λ none. absurd (contains_none v none)) (λ e. inl e) (Contains-push_cases [] z v one))
    (λ rest. inr rest)
    (Contains-append_cases (z ∷ []) zs v c)

decided_either : {P Q : Type 0} → Decided P → Decided Q → Decided (P ⊎ Q)
decided_either (inl p) d = inl (inl p)
decided_either (inr n) (inl q) = inl (inr q)
decided_either (inr n) (inr m) = inr (⊎_elim n m)

decided_contains : (zs : List Vector) (v : Vector) → Decided (Contains zs v)
decided_contains [] v = inr (contains_none v)
decided_contains (z ∷ zs) v =
    decided_as (contains_cons v z zs) (cons_contains v z zs)
    (decided_either (decided_vector z v) (decided_contains zs v))

decided_all : {X : Type 0} (P : X → Type 0) → ((x : X) → Decided (P x)) → (xs : List X) → Decided (All P xs)
decided_all P each [] = inl (All-nil P)
decided_all P each (x ∷ xs) =
    decided_as (λ h. All-cons P x xs h.0 h.1) (λ h. (All-head P x xs h, All-tail P x xs h))
    (decided_both (each x) (decided_all P each xs))

decided_zip : {X Y : Type 0} (R : X → Y → Type 0) → ((x : X) (y : Y) → Decided (R x y)) → (xs : List X) (ys : List Y)
    → Decided (AllZip R xs ys)
decided_zip R each [] [] = inl tt
decided_zip R each [] (y ∷ ys) = inr (λ h. h)
decided_zip R each (x ∷ xs) [] = inr (λ h. h)
decided_zip R each (x ∷ xs) (y ∷ ys) = decided_both (each x y) (decided_zip R each xs ys)

-- ---- moves

decided_within : (bs : List Brick) (x : Bricks) → Decided (AreWithin bs x)
decided_within bs x = decided_zip IsWithin (λ b v.
    decided_both (decided_zip ◌≤ℤ◌ decided_int_le b.lower v) (decided_zip ◌≤ℤ◌ decided_int_le v b.upper)) bs x

decided_walk : (zs : List Vector) (k : ℕ) (bricks : List Brick) (x : Bricks) (w : Vector) (h : Bricks)
    → Decided (IsWalk zs k bricks x w h)
decided_walk zs k bricks x w h =
    decided_as
    (λ (d : (length h ≡ length x) × (All (Contains zs) h × (All (Contains zs) (partial_sums w h) × AreWithin bricks (moved x k h)))).
    record { size = d.0; moves = d.1.0; sums = d.1.1.0; within = d.1.1.1 })
    (λ (walk : IsWalk zs k bricks x w h). (walk.size, (walk.moves, (walk.sums, walk.within))))
    (decided_both (decided_nat (length h) (length x)) (decided_both (decided_all (Contains zs) (decided_contains zs) h)
    (decided_both (decided_all (Contains zs) (decided_contains zs) (partial_sums w h))
    (decided_within bricks (moved x k h)))))

decided_end : (p : Program) (phase : Phase) (y : Bricks) → Decided (AllowsEnd p phase y)
decided_end p Closed y = decided_nat (link_miss p (link_rests p y)) 0
decided_end p Counted y = inl tt

decided_positive : (z : ℤ) → Decided (pos 0 <ℤ z)
decided_positive (pos zero) = inr (λ e. absurd (omega (arith, ints, e)))
decided_positive (pos (suc n)) = inl (omega (arith, ints))
decided_positive (negsuc n) = inr (λ e. absurd (omega (arith, ints, e)))

module _ (p : Program) (phase : Phase) (zs : List Vector) (x : Bricks) (k : ℕ) where
  -- whether a move augments
  pub decided_augments : (h : Bricks) → Decided (Augments p phase zs x k h)
  decided_augments h =
      decided_as
      (λ (d : ((list_all is_zero h ≡ false) × (IsWalk zs k p.bricks x (zeros p.brick.cols) h × (IsLength p k × AllowsEnd p phase (moved x k h))))
      × (pos 0 <ℤ gain p phase x k h)).
      record {
        candidate = record { nonzero = d.0.0; walk = d.0.1.0; length = d.0.1.1.0; end = d.0.1.1.1 };
        lowers = d.1;
      })
      (λ (a : Augments p phase zs x k h). let c = a.candidate in ((c.nonzero, (c.walk, (c.length, c.end))), a.lowers))
      (decided_both (decided_both (decided_bool (list_all is_zero h))
      (decided_both (decided_walk zs k p.bricks x (zeros p.brick.cols) h)
      (decided_both (decided_le (2 ^ k) (max 1 (widest p))) (decided_end p phase (moved x k h)))))
      (decided_positive (gain p phase x k h)))
