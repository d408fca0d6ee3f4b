-- The completion step over the lattice of a matrix, whose elements have n entries before the last one (their
-- cut): where each sum of two signed members that agree in the cut and clash in the last entry is reducible,
-- the members cover the lattice; and a sum that is not reducible is minimal.
use Rattle.std.proofs.Common.{◌≡◌, ℕ, suc, ◌+◌, ◌<◌, ◌≤◌, ℤ, pos, ◌-ℤ◌, ◌+ℤ◌, Bool, true, false, not, ◌&&◌, List}
use Rattle.std.proofs.Common.{length, take, get_or, refl, ap, arith, sym, ◌∙◌, Contains, ◌⊎◌, inl, inr, subst}
use Rattle.std.specs.List.{AllPairs}
use Rattle.std.proofs.lemmas.Int.{ints}
use Rattle.std.proofs.lemmas.Bool.{cases_lt}
use Rattle.std.proofs.lemmas.List.{take-take}
use Rattle.lattice_theory.specs.Vectors.{Vector, ◌⊑◌, is_between, is_zero, norm1, add, sub, opposite}
use Rattle.lattice_theory.specs.Matrices.{Matrix}
use Rattle.lattice_theory.specs.Lattices.{InLattice, IsMinimal}
use Rattle.lattice_laws.proofs.Tests.{and_true, not_both, same_or_not}
use Rattle.lattice_laws.proofs.Members.{pair_cases}
use Rattle.lattice_laws.proofs.Signs.{agrees, agrees_comm, agrees_opposites, agrees_same, between_sum, clash}
use Rattle.lattice_laws.proofs.Signs.{clash_none, clash_some, part_of}
use Rattle.lattice_laws.proofs.Conformal.{agree, agree_comm, agree_opposites, agree_own_opposite, agree_parts}
use Rattle.lattice_laws.proofs.Conformal.{conforms_refl, conforms_trans, conforms-take, conforms_by_last}
use Rattle.lattice_laws.proofs.Conformal.{conforms-opposite, between_entries, entry-sub, entry-opposite, rest_below}
use Rattle.lattice_laws.proofs.Conformal.{norm_split, norm_below, norm_some, below_same, add_sub, sub-sub, take-sub}
use Rattle.lattice_laws.proofs.Conformal.{add_comm_v, opposite-opposite, opposite-add, opposite-take, norm-opposite}
use Rattle.lattice_laws.proofs.Conformal.{nonzero_by_take, nonzero_of_norm, norm-take}
use Rattle.lattice_laws.proofs.Elements.{width, known_by_first, closed_sub, first_nonzero}
use Rattle.lattice_laws.proofs.SlackBases.{IsSigned, IsReducible, signed_opposite}
use Rattle.lattice_laws.proofs.Descent.{Stage, Below, descended}

-- the entry after the cut
abbrev pub new_entry : ℕ → Vector → ℤ
new_entry n z = get_or z n (pos 0)

-- the pair counts: its two vectors agree in the cut and clash in the entry after it
abbrev pub counts : ℕ → Vector → Vector → Bool
counts n p q = agree (take n p) (take n q) && not (agrees (new_entry n p) (new_entry n q))

-- every nonzero element has a signed member below it in the cut
abbrev pub CoversCut : Matrix → ℕ → List Vector → Type 0
CoversCut m n vs = (y : Vector) → InLattice m y → is_zero y ≡ false → (e : Vector) × IsSigned vs e
    × (take n e ⊑ take n y)

-- every nonzero element whose cut has a norm below the bound has a signed member below it
abbrev pub CoversBelow : Matrix → ℕ → ℕ → List Vector → Type 0
CoversBelow m n bound vs = (y : Vector) → InLattice m y → is_zero y ≡ false → norm1 (take n y) < bound →
    IsReducible vs y

-- each sum of a counting pair of members, of a norm below the bound, is reducible
abbrev pub PairsReduce : ℕ → ℕ → List Vector → Type 0
PairsReduce n bound vs =
    (p q : Vector) → IsSigned vs p → IsSigned vs q → counts n p q ≡ true → norm1 (take n (add p q)) < bound →
    IsReducible vs (add p q)

-- the same for one place and another: the second member is taken with either sign
abbrev pub Settles : ℕ → ℕ → List Vector → Vector → Vector → Type 0
Settles n bound vs a b =
    (q : Vector) → (q ≡ b) ⊎ (q ≡ opposite b) → counts n a q ≡ true → norm1 (take n (add a q)) < bound →
    IsReducible vs (add a q)

-- ---- pairs

pub counts_parts : (n : ℕ) (p q : Vector) → counts n p q ≡ true → (agree (take n p) (take n q) ≡ true)
    × (agrees (new_entry n p) (new_entry n q) ≡ false)
counts_parts n p q h =
    let b = and_true (agree (take n p) (take n q)) (not (agrees (new_entry n p) (new_entry n q))) h in
    (b.0, turned _ b.1)
  where
    turned : (b : Bool) → not b ≡ true → b ≡ false
    turned true e = absurd (cc)
    turned false e = refl

counts_of : (n : ℕ) (p q : Vector) → agree (take n p) (take n q) ≡ true →
    agrees (new_entry n p) (new_entry n q) ≡ false → counts n p q ≡ true
counts_of n p q h k = ap (λ t. t && not (agrees (new_entry n p) (new_entry n q))) h ∙ ap not k

counts_comm : (n : ℕ) (p q : Vector) → counts n p q ≡ counts n q p
counts_comm n p q =
    (λ i. agree_comm (take n p) (take n q) i && not (agrees_comm (new_entry n p) (new_entry n q) i))

counts_opposites : (n : ℕ) (p q : Vector) → counts n (opposite p) (opposite q) ≡ counts n p q
counts_opposites n p q =
    (λ i. agree (sym (opposite-take n p) i) (sym (opposite-take n q) i) && not
    (agrees (entry-opposite n p i) (entry-opposite n q i)))
    ∙ (λ i. agree_opposites (take n p) (take n q) i && not (agrees_opposites (new_entry n p) (new_entry n q) i))

-- a vector makes no pair with itself
counts_itself : (n : ℕ) (p : Vector) → counts n p p ≡ true → ⊥
counts_itself n p h = not_both _ (agrees_same (new_entry n p)) (counts_parts n p p h).1

-- nor with its opposite
counts_own_opposite : (n : ℕ) (p : Vector) → is_zero (take n p) ≡ false → counts n p (opposite p) ≡ true → ⊥
counts_own_opposite n p h k =
    let a : agree (take n p) (opposite (take n p)) ≡ true = ap (agree (take n p)) (opposite-take n p)
    ∙ (counts_parts n p (opposite p) k).0 in
    absurd (omega (arith, agree_own_opposite (take n p) a, norm_some (take n p) h))

pub reducible-opposite : (vs : List Vector) (z : Vector) → IsReducible vs z → IsReducible vs (opposite z)
reducible-opposite vs z (e, s, b) = (opposite e, signed_opposite vs e s, conforms-opposite e z b)

norm_turned : (n : ℕ) (z : Vector) → norm1 (take n (opposite z)) ≡ norm1 (take n z)
norm_turned n z = ap norm1 (sym (opposite-take n z)) ∙ norm-opposite (take n z)

module _ (n bound : ℕ) (vs : List Vector) where
  -- the second place settled with the first
  exchanged : (p b q : Vector) → Settles n bound vs b p → (q ≡ b) ⊎ (q ≡ opposite b) → counts n p q ≡ true →
      norm1 (take n (add p q)) < bound → IsReducible vs (add p q)
  exchanged p b q h (inl e) k low =
      let sum : add b p ≡ add p q = add_comm_v b p ∙ ap (add p) (sym e) in
      subst (IsReducible vs) sum
      (h p (inl refl) (counts_comm n b p ∙ ap (counts n p) (sym e) ∙ k)
      (subst (λ z. norm1 (take n z) < bound) (sym sum) low))
  exchanged p b q h (inr e) k low =
      let back : opposite q ≡ b = ap opposite e ∙ opposite-opposite b in
      let sum : add b (opposite p) ≡ opposite (add p q) = add_comm_v b (opposite p) ∙ ap (add (opposite p)) (sym back)
      ∙ sym (opposite-add p q) in
      let norm : norm1 (take n (add b (opposite p))) ≡ norm1 (take n (add p q)) =
      ap (λ z. norm1 (take n z)) sum ∙ norm_turned n (add p q) in
      let count : counts n b (opposite p) ≡ true =
      counts_comm n b (opposite p) ∙ ap (counts n (opposite p)) (sym back) ∙ counts_opposites n p q ∙ k in
      subst (IsReducible vs) (ap opposite sum ∙ opposite-opposite (add p q))
      (reducible-opposite vs (add b (opposite p)) (h (opposite p) (inr refl) count (omega (arith, norm, low))))

  by_place : (p b q : Vector) → is_zero (take n p) ≡ false →
      (p ≡ b) ⊎ (Settles n bound vs p b ⊎ Settles n bound vs b p) → (q ≡ b) ⊎ (q ≡ opposite b) →
      counts n p q ≡ true → norm1 (take n (add p q)) < bound → IsReducible vs (add p q)
  by_place p b q c (inl same) (inl e) k low = absurd (counts_itself n p (ap (counts n p) (same ∙ sym e) ∙ k))
  by_place p b q c (inl same) (inr e) k low =
      absurd (counts_own_opposite n p c (ap (counts n p) (ap opposite same ∙ sym e) ∙ k))
  by_place p b q c (inr (inl h)) s k low = h q s k low
  by_place p b q c (inr (inr h)) s k low = exchanged p b q h s k low

  member_first : ((e : Vector) → Contains vs e → is_zero (take n e) ≡ false) → AllPairs (Settles n bound vs) vs →
      (p q : Vector) → Contains vs p → IsSigned vs q → counts n p q ≡ true → norm1 (take n (add p q)) < bound →
      IsReducible vs (add p q)
  member_first nonzero settled p q c (inl d) k low =
      by_place p q q (nonzero p c) (pair_cases (Settles n bound vs) vs p q settled c d) (inl refl) k low
  member_first nonzero settled p q c (inr d) k low =
      by_place p (opposite q) q (nonzero p c) (pair_cases (Settles n bound vs) vs p (opposite q) settled c d)
      (inr (sym (opposite-opposite q))) k low

  -- where each pair of places is settled, the sums of all counting pairs are reducible
  pub pairs_reduce : ((e : Vector) → Contains vs e → is_zero (take n e) ≡ false) → AllPairs (Settles n bound vs) vs →
      PairsReduce n bound vs
  pairs_reduce nonzero settled p q (inl c) s k low = member_first nonzero settled p q c s k low
  pairs_reduce nonzero settled p q (inr c) s k low =
      let turned : add (opposite p) (opposite q) ≡ opposite (add p q) = sym (opposite-add p q) in
      let norm : norm1 (take n (add (opposite p) (opposite q))) ≡ norm1 (take n (add p q)) =
      ap (λ z. norm1 (take n z)) turned ∙ norm_turned n (add p q) in
      subst (IsReducible vs) (ap opposite turned ∙ opposite-opposite (add p q))
      (reducible-opposite vs (add (opposite p) (opposite q))
      (member_first nonzero settled (opposite p) (opposite q) c (signed_opposite vs q s) (counts_opposites n p q ∙ k)
      (omega (arith, norm, low))))

-- ---- the step

module _ (m : Matrix) (n : ℕ) (wide : width m ≡ n + 1) (first : m.cols ≤ n) where
  -- u is below v in the cut, and both are elements
  record IsCutBelow (u v : Vector) : Type 0 where
    pub inside : InLattice m u
    pub whole : InLattice m v
    pub cut : take n u ⊑ take n v

  record IsBelow (u v : Vector) : Type 0 where
    pub inside : InLattice m u
    pub whole : InLattice m v
    pub all : u ⊑ v

  record IsNonzero (v : Vector) : Type 0 where
    pub inside : InLattice m v
    pub nonzero : is_zero v ≡ false

  size_of : (u : Vector) → InLattice m u → length u ≡ n + 1
  size_of u h = omega (arith, h.size)

  same_size : (u v : Vector) → InLattice m u → InLattice m v → length u ≡ length v
  same_size u v h k = omega (arith, h.size, k.size)

  first-cut : (u : Vector) → take m.cols (take n u) ≡ take m.cols u
  first-cut u = take-take m.cols n u first

  -- an element is known by its cut
  known_by_cut : (u v : Vector) → InLattice m u → InLattice m v → take n u ≡ take n v → u ≡ v
  known_by_cut u v h k e = known_by_first m u v h k (sym (first-cut u) ∙ ap (take m.cols) e ∙ first-cut v)

  pub cut_nonzero : (u : Vector) → InLattice m u → is_zero u ≡ false → is_zero (take n u) ≡ false
  cut_nonzero u h k = nonzero_by_take m.cols (take n u) (ap is_zero (first-cut u) ∙ first_nonzero m u h k)

  -- another element below v in the cut has a smaller cut
  pub smaller_cut : (u v : Vector) → InLattice m u → InLattice m v → take n u ⊑ take n v → (u ≡ v → ⊥) →
      norm1 (take n u) < norm1 (take n v)
  smaller_cut u v h k b other = elim (cases_lt (norm1 (take n u)) (norm1 (take n v))) [
    | inl low ↦ low
    | inr heavy ↦ absurd (other (known_by_cut u v h k (below_same (take n u) (take n v) b heavy)))
  ]

  rest_cut : (p y : Vector) → IsCutBelow p y → take n (sub y p) ⊑ take n y
  rest_cut p y c = subst (λ z. z ⊑ take n y) (sym (take-sub n y p)) (rest_below (take n p) (take n y) c.cut)

  new_of_rest : (p y : Vector) → IsCutBelow p y → new_entry n (sub y p) ≡ (new_entry n y -ℤ new_entry n p)
  new_of_rest p y c = entry-sub n y p (same_size y p c.whole c.inside)

  stage : Stage Vector
  stage = record {
    sub = sub;
    NonZero = IsNonzero;
    size = λ v. norm1 (take n v);
    new = new_entry n;
    Cut = IsCutBelow;
    Full = IsBelow;
    same = same_or_not;
    full_refl = λ u h. record { inside = h.inside; whole = h.inside; all = conforms_refl u };
    full_trans = λ u v w h k. record { inside = h.inside; whole = k.whole; all = conforms_trans u v w h.all k.all };
    cut_trans = λ u v w h k. record {
      inside = h.inside;
      whole = k.whole;
      cut = conforms_trans (take n u) (take n v) (take n w) h.cut k.cut;
    };
    full_cut = λ u v h. record { inside = h.inside; whole = h.whole; cut = conforms-take n u v h.all };
    full_new = λ u v h. part_of (new_entry n u) (new_entry n v) (between_entries n u v h.all);
    full_rest = λ u v h. record {
      inside = closed_sub m u v h.inside h.whole;
      whole = h.whole;
      all = rest_below u v h.all;
    };
    smaller = λ p y c other. smaller_cut p y c.inside c.whole c.cut other;
    not_smaller = λ p y c. norm_below (take n p) (take n y) c.cut;
    rest_cut = λ p y c. record { inside = closed_sub m p y c.inside c.whole; whole = c.whole; cut = rest_cut p y c };
    rest_nonzero = λ p y c other. record {
      inside = closed_sub m p y c.inside c.whole;
      nonzero = rest_some p y c other;
    };
    rest_differs = λ p y c h e. rest_other p y c h e;
    back = λ p y c. sub-sub p y (same_size p y c.inside c.whole);
    new_sub = new_of_rest;
    agree_full = λ p y c z. record {
      inside = c.inside;
      whole = c.whole;
      all = conforms_by_last n p y (size_of p c.inside) (size_of y c.whole) c.cut (last_between p y c z);
    };
  }
    where
      split : (p y : Vector) → IsCutBelow p y → norm1 (take n y) ≡ norm1 (take n p) + norm1 (take n (sub y p))
      split p y c = norm_split (take n p) (take n y) c.cut ∙ ap (λ z. norm1 (take n p) + norm1 z) (sym (take-sub n y p))

      rest_some : (p y : Vector) → IsCutBelow p y → (p ≡ y → ⊥) → is_zero (sub y p) ≡ false
      rest_some p y c other =
          nonzero_of_norm (sub y p) (omega (
            arith,
            smaller_cut p y c.inside c.whole c.cut other,
            split p y c,
            norm-take n (sub y p),
          ))

      rest_other : (p y : Vector) → IsCutBelow p y → IsNonzero p → sub y p ≡ y → ⊥
      rest_other p y c h e =
          absurd (omega (
            arith,
            split p y c,
            ap (λ z. norm1 (take n z)) e,
            norm_some (take n p) (cut_nonzero p h.inside h.nonzero),
          ))

      last_between : (p y : Vector) → IsCutBelow p y → clash (new_entry n p) (new_entry n (sub y p)) ≡ 0 →
          is_between (new_entry n p) (new_entry n y) ≡ true
      last_between p y c z =
          let sum : new_entry n p +ℤ new_entry n (sub y p) ≡ new_entry n y = omega (arith, ints, new_of_rest p y c) in
          subst (λ w. is_between (new_entry n p) w ≡ true) sum
          (between_sum (new_entry n p) (new_entry n (sub y p)) (clash_none (new_entry n p) (new_entry n (sub y p)) z))

  -- where the members cover the cuts and the sums of their counting pairs below the bound are reducible,
  -- the elements below the bound are covered
  pub completed : (vs : List Vector) (bound : ℕ) → ((e : Vector) → IsSigned vs e → InLattice m e × (is_zero e ≡ false))
      →
      CoversCut m n vs → PairsReduce n bound vs → CoversBelow m n bound vs
  unfolding stage
  completed vs bound members covers pairs y inside nonzero low =
      let found = descended stage (IsSigned vs) bound
      (λ e s. let k = members e s in record { inside = k.0; nonzero = k.1 })
      (λ z k. let c = covers z k.inside k.nonzero in
      (c.0, c.1, record { inside = (members c.0 c.1).0; whole = k.inside; cut = c.2 }))
      pair (suc (norm1 (take n y))) y (record { inside = inside; nonzero = nonzero }) (omega arith) low in
      (found.0, found.1, found.2.all)
    where
      pair : (y p : Vector) → norm1 (take n y) < bound → IsSigned vs p → IsSigned vs (sub y p) → IsCutBelow p y →
          0 < clash (new_entry n p) (new_entry n (sub y p)) → Below stage (IsSigned vs) y
      pair y p low s t c k =
          let sum : add p (sub y p) ≡ y = add_sub p y (same_size p y c.inside c.whole) in
          let count = counts_of n p (sub y p) (agree_parts (take n p) (take n (sub y p)) (take n y) c.cut
          (rest_cut p y c)) (clash_some (new_entry n p) (new_entry n (sub y p)) k) in
          let r = pairs p (sub y p) s t count (subst (λ z. norm1 (take n z) < bound) (sym sum) low) in
          (r.0, r.1, record { inside = (members r.0 r.1).0; whole = c.whole; all = subst (λ z. r.0 ⊑ z) sum r.2 })

  -- an element that is not reducible, where all with a smaller cut are, is minimal
  pub minimal_sum : (vs : List Vector) (bound : ℕ) (z : Vector) → CoversBelow m n bound vs → InLattice m z →
      is_zero z ≡ false → norm1 (take n z) ≤ bound →
      (IsReducible vs z → ⊥) → IsMinimal m z
  minimal_sum vs bound z covers inside nonzero low none = record {
    member = inside;
    nonzero = nonzero;
    least = λ y i k b. elim (same_or_not y z) [
      | inl e ↦ e
      | inr other ↦
          let r = covers y i k (omega (arith, low, smaller_cut y z i inside (conforms-take n y z b) other)) in
          absurd (none (r.0, r.1, conforms_trans r.0 y z r.2 b))
    ];
  }
