-- Laws of the map from the vectors that were found to their levels, and of the copies of those of the last level.
use Rattle.std.proofs.Common.{◌≡◌, ℕ, zero, suc, ◌≤◌, ℤ, Bool, true, false, List, [], ◌∷◌, ◌++◌, cond, refl, ap, arith}
use Rattle.std.proofs.Common.{sym, subst, ◌∙◌, inl, inr, IsTrue, Vec, Some}
use Rattle.std.specs.declared.alloc.Global.{Global}
use Rattle.std.specs.declared.cmp.Ordering.{Ordering}
use Rattle.std.specs.declared.cmp.Ordering.TheVariants.{Less, Equal, Greater}
use Rattle.std.specs.Ordering.{is_lt, is_eq, match_ordering}
use Rattle.std.specs.List.{All, AllByRecursion, Contains}
use Rattle.std.specs.List.Sorted.{IsPermutation, IsStrictlySortedBy}
use Rattle.std.specs.Map.{keys_of, lookup}
use Rattle.std.specs.Option.{is_some}
use Rattle.std.specs.BTreeMap.{insert_entry}
use Rattle.std.proofs.lemmas.Map.Keys.{sorted_head, sorted_tail}
use Rattle.std.proofs.lemmas.List.{append_assoc, map_push}
use Rattle.std.proofs.lemmas.List.Elements.{All-weaker, All-push, All-cons, All-nil, Contains-push}
use Rattle.std.proofs.lemmas.List.Elements.{Contains-append_left}
use Rattle.std.proofs.lemmas.List.Sorted.{All-permutation, IsPermutation-refl, IsPermutation-cons, IsPermutation-trans}
use Rattle.std.proofs.lemmas.List.Sorted.{IsPermutation-middle}
use Rattle.std.proofs.lemmas.Bool.{and_from}
use Rattle.lattice_theory.specs.Vectors.{Vector, zeros, lex_cmp, is_rising}
use Rattle.lattice_theory.specs.SignedSums.{Sum, IsSignedSum, AreSums, vectors}
use Rattle.lattice_laws.proofs.Rising.{lex_same, lex_equal}
use Rattle.brick_sums.specs.Levels.{sums_of, kept, IsFound, AreLast, IsSumUpTo}

-- ---- the map

-- the order of the keys
abbrev pub key_order : Vec ℤ Global → Vec ℤ Global → Ordering
key_order x y = lex_cmp x.items y.items

abbrev pub sum_of : Vec ℤ Global → ℕ → Sum
sum_of k level = record { level = level; vector = k.items }

-- keys in order give a rising list
pub ordered-rises : (es : List (Vec ℤ Global × ℕ)) → IsStrictlySortedBy key_order (keys_of es) →
    IsTrue (is_rising (vectors (sums_of es)))
ordered-rises [] h = refl
ordered-rises (e ∷ []) h = refl
ordered-rises (e ∷ f ∷ es) h =
    let head : AllByRecursion (λ y. key_order e.0 y ≡ Less) (keys_of (f ∷ es)) =
    sorted_head key_order e.0 (keys_of (f ∷ es)) h in
    and_from _ _ (ap is_lt head.0) (ordered-rises (f ∷ es) (sorted_tail key_order e.0 (keys_of (f ∷ es)) h))

-- whether the key is there
abbrev pub has_key : Vector → List (Vec ℤ Global × ℕ) → Bool
has_key v es = is_some (lookup (λ k. is_eq (lex_cmp v k.items)) es)

is_eq-Equal : (o : Ordering) → is_eq o ≡ true → o ≡ Equal
is_eq-Equal Less h = absurd (cc)
is_eq-Equal Equal h = refl
is_eq-Equal Greater h = absurd (cc)

pub key-there : (v : Vector) (es : List (Vec ℤ Global × ℕ)) → has_key v es ≡ true → Contains (vectors (sums_of es)) v
key-there v [] h = absurd (cc)
key-there v (e ∷ es) h = by (key-there v es) (is_eq (lex_cmp v e.0.items)) refl h
  where
    by : (has_key v es ≡ true → Contains (vectors (sums_of es)) v) → (b : Bool) → is_eq (lex_cmp v e.0.items) ≡ b →
        is_some (cond b (Some e.1) (lookup (λ k. is_eq (lex_cmp v k.items)) es)) ≡ true →
        Contains (vectors (sums_of (e ∷ es))) v
    by rest true t k = (0, omega arith, sym (lex_equal v e.0.items (is_eq-Equal (lex_cmp v e.0.items) t)))
    by rest false t k = let found = rest k in (suc found.0, omega (arith, found.1), found.2)

-- a vector that is no key is no listed one
pub key-lacks : (v : Vector) (es : List (Vec ℤ Global × ℕ)) → ((u : Vector) → lex_cmp u u ≡ Equal) →
    has_key v es ≡ false → Contains (vectors (sums_of es)) v → ⊥
key-lacks v [] same h (k, low, e) = absurd (omega arith)
key-lacks v (e ∷ es) same h c = by (key-lacks v es same) (is_eq (lex_cmp v e.0.items)) refl h c
  where
    by : (has_key v es ≡ false → Contains (vectors (sums_of es)) v → ⊥) → (b : Bool) → is_eq (lex_cmp v e.0.items) ≡ b →
        is_some (cond b (Some e.1) (lookup (λ k. is_eq (lex_cmp v k.items)) es)) ≡ false →
        Contains (vectors (sums_of (e ∷ es))) v → ⊥
    by rest true t k d = absurd (cc)
    by rest false t k (zero, low, f) = let again : is_eq (lex_cmp v e.0.items) ≡ true = ap (λ u. is_eq (lex_cmp v u)) f
        ∙ ap is_eq (same v) in absurd (cc)
    by rest false t k (suc i, low, f) = rest k (i, omega arith, f)

-- a new key is one entry more
pub key-came : (k : Vec ℤ Global) (level : ℕ) (es : List (Vec ℤ Global × ℕ)) → has_key k.items es ≡ false →
    IsPermutation (sum_of k level ∷ sums_of es) (sums_of (insert_entry key_order es k level))
key-came k level [] h = IsPermutation-refl _
key-came k level (e ∷ es) h = by (key-came k level es) (key_order k e.0) refl
  where
    behind : (b : Bool) → is_eq (lex_cmp k.items e.0.items) ≡ b → b ≡ false →
        is_some (cond b (Some e.1) (lookup (λ y. is_eq (lex_cmp k.items y.items)) es)) ≡ false →
        has_key k.items es ≡ false
    behind true t u g = absurd (cc)
    behind false t u g = g

    by : (has_key k.items es ≡ false → IsPermutation (sum_of k level ∷ sums_of es)
        (sums_of (insert_entry key_order es k level))) → (o : Ordering) → key_order k e.0 ≡ o →
        IsPermutation (sum_of k level ∷ sum_of e.0 e.1 ∷ sums_of es)
        (sums_of (match_ordering o ((k, level) ∷ e ∷ es) ((e.0, level) ∷ es) (e ∷ insert_entry key_order es k level)))
    by later Less t = IsPermutation-refl _
    by later Equal t =
        let there : is_eq (lex_cmp k.items e.0.items) ≡ true = ap is_eq t in
        let some : has_key k.items (e ∷ es) ≡ true =
        ap (λ b. is_some (cond b (Some e.1) (lookup (λ y. is_eq (lex_cmp k.items y.items)) es))) there in
        absurd (cc)
    by later Greater t =
        let rest : has_key k.items es ≡ false = behind (is_eq (lex_cmp k.items e.0.items)) refl (ap is_eq t) h in
        IsPermutation-trans _ _ _ (IsPermutation-middle (sum_of k level ∷ []) (sum_of e.0 e.1) (sums_of es))
        (IsPermutation-cons (sum_of e.0 e.1) _ _ (later rest))

-- ---- one vector that is offered

-- it was there
pub found-there : (level : ℕ) (v : Vector) (es : List (Vec ℤ Global × ℕ)) (last : List Vector) →
    IsTrue (is_rising (vectors (sums_of es))) → Contains (vectors (sums_of es)) v →
    IsFound (record { level = level; vector = v }) (sums_of es) (sums_of es) last last
found-there level v es last rising there = record {
  offered = record { rising = rising; either = inl (refl, there) };
  copied = inl (refl, refl);
}

-- it came in
pub found-came : (level : ℕ) (k copy : Vec ℤ Global) (es more : List (Vec ℤ Global × ℕ))
    (before after : List (Vec ℤ Global)) → more ≡ insert_entry key_order es k level →
    IsStrictlySortedBy key_order (keys_of more) → has_key k.items es ≡ false → after ≡ before ++ copy ∷ [] →
    copy.items ≡ k.items →
    IsFound (record { level = level; vector = k.items }) (sums_of es) (sums_of more) (kept before) (kept after)
found-came level k copy es more before after made ordered lacks copied same = record {
  offered = record {
    rising = ordered-rises more ordered;
    either = inr (
      key-lacks k.items es lex_same lacks,
      subst
          (λ fs. IsPermutation (sum_of k level ∷ sums_of es) (sums_of fs)) (sym made) (key-came k level es lacks),
    );
  };
  copied = inr (ap kept copied ∙ map_push (λ v. v.items) before copy ∙ ap (λ v. kept before ++ v ∷ []) same);
}

-- ---- the vectors of a level

module _ (t : ℕ) (gens : List Vector) where
  pub AreLast-zero : AreLast t gens 0 (record { level = 0; vector = zeros t } ∷ []) (zeros t ∷ [])
  AreLast-zero = record {
    sound = All-cons (IsSignedSum t gens 0) (zeros t) [] refl (All-nil (IsSignedSum t gens 0));
    all = All-cons (λ s. s.level ≡ 0 → Contains (zeros t ∷ []) s.vector) (record { level = 0; vector = zeros t }) []
        (λ e. (0, omega arith, refl))
        (All-nil (λ s. s.level ≡ 0 → Contains (zeros t ∷ []) s.vector));
  }

  -- zero is the one sum of no generators
  pub AreSums-zero : AreSums t gens 0 (record { level = 0; vector = zeros t } ∷ [])
  AreSums-zero = record {
    rising = refl;
    sound = All-cons (IsSumUpTo t gens 0) (record { level = 0; vector = zeros t }) [] (
      omega arith,
      record { reached = refl; least = λ n h. omega arith },
    ) (All-nil (IsSumUpTo t gens 0));
    complete = λ n w within sum. none n w within sum;
  }
    where
      none : (n : ℕ) (w : Vector) → n ≤ 0 → IsSignedSum t gens n w → Contains (zeros t ∷ []) w
      none zero w within is = (0, omega arith, sym is)
      none (suc n) w within is = absurd (omega arith)

  -- none is of a level past those of the list
  pub AreLast-none : (level : ℕ) (sums : List Sum) → AreSums t gens level sums → AreLast t gens (suc level) sums []
  AreLast-none level sums these = record {
    sound = All-nil (IsSignedSum t gens (suc level));
    all = All-weaker (IsSumUpTo t gens level) (λ s. s.level ≡ suc level →
        Contains [] s.vector) (λ s known its. absurd (omega (arith, known.0, its))) sums these.sound;
  }

  -- a sum was offered
  pub AreLast-found : (level n : ℕ) (v : Vector) (old new : List Sum) (before after : List Vector) → n ≡ level →
      AreLast t gens level old before → IsSignedSum t gens level v →
      IsFound (record { level = n; vector = v }) old new before after → AreLast t gens level new after
  AreLast-found level n v old new before after next last sum found = elim found.copied [
    | inl same ↦ subst (λ vs. AreLast t gens level new vs) (sym same.1)
        (subst (λ ss. AreLast t gens level ss before) (sym same.0) last)
    | inr more ↦ subst (λ vs. AreLast t gens level new vs) (sym more) (record {
      sound = All-push (IsSignedSum t gens level) before v last.sound sum;
      all = elim found.offered.either [
        | inl same ↦ subst (All (λ s. s.level ≡ level → Contains (before ++ v ∷ []) s.vector)) (sym same.0) olds
        | inr came ↦ All-permutation (λ s. s.level ≡ level → Contains (before ++ v ∷ []) s.vector)
            (record { level = n; vector = v } ∷ old) new came.1 (All-cons (λ s. s.level ≡ level →
            Contains (before ++ v ∷ []) s.vector) (record { level = n; vector = v }) old (λ e. Contains-push before v)
            olds)
      ];
    })
  ]
    where
      olds : All (λ s. s.level ≡ level → Contains (before ++ v ∷ []) s.vector) old
      olds = All-weaker (λ s. s.level ≡ level → Contains before s.vector) (λ s. s.level ≡ level →
          Contains (before ++ v ∷ []) s.vector) (λ s h e. Contains-append_left before (v ∷ []) s.vector (h e)) old
          last.all

-- ---- the list that is made in the end

pub listed-more : (es done rest more : List (Vec ℤ Global × ℕ)) (e : Vec ℤ Global × ℕ) → es ≡ done ++ rest →
    rest ≡ e ∷ more → es ≡ (done ++ e ∷ []) ++ more
listed-more es done rest more e f g = f ∙ ap (λ r. done ++ r) g ∙ sym (append_assoc done (e ∷ []) more)

pub listed-push : (sums more : List Sum) (done : List (Vec ℤ Global × ℕ)) (e : Vec ℤ Global × ℕ) (s : Sum) →
    sums ≡ sums_of done → more ≡ sums ++ s ∷ [] → s ≡ record { level = e.1; vector = e.0.items } →
    more ≡ sums_of (done ++ e ∷ [])
listed-push sums more done e s h f g = f ∙ (λ i. h i ++ g i ∷ [])
    ∙ sym (map_push (λ (x : Vec ℤ Global × ℕ). record { level = x.1; vector = x.0.items }) done e)
