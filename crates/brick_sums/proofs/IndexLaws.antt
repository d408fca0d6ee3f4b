-- Laws of the map from vectors to their places: it is made vector by vector, and a look-up in it finds a vector's
-- place.
use Rattle.std.proofs.Common.{◌≡◌, ℕ, zero, suc, ◌+◌, ◌<◌, ◌≤◌, ℤ, Bool, true, false, cond, List, [], ◌∷◌, length}
use Rattle.std.proofs.Common.{get_or, refl, ap, arith, sym, subst, ◌∙◌, ◌⊎◌, inl, inr, IsTrue, Vec, Option, Some, None}
use Rattle.std.specs.declared.alloc.Global.{Global}
use Rattle.std.specs.Ordering.{int_eq}
use Rattle.std.specs.Prelude.{MatchOption}
use Rattle.std.specs.List.{All, Contains, slice_get}
use Rattle.std.specs.List.Sorted.{IsPermutation}
use Rattle.std.specs.Map.{lookup, set_value}
use Rattle.std.specs.Cmp.Lexicographic.{pointwise}
use Rattle.std.specs.Cmp.Rules.{signed_items}
use Rattle.std.proofs.lemmas.Bool.{cases_lt}
use Rattle.std.proofs.lemmas.List.Elements.{All-nil, All-cons, All-weaker, All-contains}
use Rattle.std.proofs.lemmas.List.Sorted.{All-permutation, Contains-permutation}
use Rattle.std.proofs.lemmas.Option.{slice_get-get_or}
use Rattle.lattice_theory.specs.Vectors.{Vector, is_rising}
use Rattle.lattice_theory.specs.SignedSums.{Sum, vectors}
use Rattle.lattice_laws.proofs.Rising.{stands_once}
use Rattle.lattice_laws.proofs.Members.{contains_head}
use Rattle.brick_sums.specs.Places.{Entry, IsIndex}

-- ---- look-ups

contains_later : {A : Type 0} (x y : A) (xs : List A) → Contains xs y → Contains (x ∷ xs) y
contains_later x y xs (i, low, e) = (suc i, omega (arith, low), e)

-- the key of a vector
abbrev pub is_key : Vector → Vec ℤ Global → Bool
is_key v key = pointwise int_eq v key.items

-- the entry that a look-up finds
record Hit (v : Vector) (entries : List Entry) (place : ℕ) : Type 0 where
  key : Vec ℤ Global
  among : Contains entries (key, place)
  same : v ≡ key.items

hit : (v : Vector) (entries : List Entry) (place : ℕ) → lookup (is_key v) entries ≡ Some place → Hit v entries place
hit v [] place found = absurd (cc)
hit v (e ∷ entries) place found = by (hit v entries place) (is_key v e.0) refl found
  where
    by : (lookup (is_key v) entries ≡ Some place → Hit v entries place) → (b : Bool) → is_key v e.0 ≡ b →
        cond b (Some e.1) (lookup (is_key v) entries) ≡ Some place →
        Hit v (e ∷ entries) place
    by go_on true passes at =
        let place_is : e.1 ≡ place = cc in
        record {
          key = e.0;
          among = subst (λ p. Contains (e ∷ entries) (e.0, p)) place_is (contains_head e entries);
          same = (signed_items v (e.0).items).0 passes;
        }
    by go_on false fails at =
        let later = go_on at in
        record { key = later.key; among = contains_later e (later.key, place) entries later.among; same = later.same }

-- where it finds none, no entry is the vector's
miss : (v : Vector) (entries : List Entry) → lookup (is_key v) entries ≡ None → (e : Entry) → Contains entries e →
    v ≡ (e.0).items → ⊥
miss v [] none e among same = absurd (omega (arith, among.1))
miss v (d ∷ entries) none e among same = by (λ at c. miss v entries at e c same) (is_key v d.0) refl none among
  where
    by : (lookup (is_key v) entries ≡ None → Contains entries e → ⊥) → (b : Bool) → is_key v d.0 ≡ b →
        cond b (Some d.1) (lookup (is_key v) entries) ≡ None → Contains (d ∷ entries) e → ⊥
    by go_on true passes at c = absurd (cc)
    by go_on false fails at (zero, low, f) =
        let passes : is_key v d.0 ≡ true = (signed_items v (d.0).items).1 (same
        ∙ sym (ap (λ (x : Entry). (x.0).items) f)) in
        absurd (cc)
    by go_on false fails at (suc i, low, f) = go_on at (i, omega (arith, low), f)

-- ---- the map is made vector by vector

module _ (sums : List Sum) where
  -- the map of the first n vectors
  pub record IsIndexUpTo (entries : List Entry) (n : ℕ) : Type 0 where
    pub sound : All (λ e. (e.1 < n) × (slice_get (vectors sums) e.1 ≡ Some (e.0).items)) entries
    pub complete : (i : ℕ) (v : Vector) → i < n → slice_get (vectors sums) i ≡ Some v →
        (e : Entry) × Contains entries e × ((e.0).items ≡ v)

  pub index_none : (entries : List Entry) → entries ≡ [] → IsIndexUpTo entries 0
  index_none entries empty = record {
    sound = subst (All (λ (e : Entry). (e.1 < 0) × (slice_get (vectors sums) e.1 ≡ Some (e.0).items))) (sym empty)
        (All-nil (λ (e : Entry). (e.1 < 0) × (slice_get (vectors sums) e.1 ≡ Some (e.0).items)));
    complete = λ i v low there. absurd (omega (arith, low));
  }

  -- a vector behind the first n has no entry yet
  new_key : (entries : List Entry) (n place : ℕ) (v : Vector) → IsTrue (is_rising (vectors sums)) →
      slice_get (vectors sums) n ≡ Some v → IsIndexUpTo entries n → lookup (is_key v) entries ≡ Some place → ⊥
  new_key entries n place v rising there so_far found =
      let h = hit v entries place found in
      let known = All-contains (λ (e : Entry). (e.1 < n) × (slice_get (vectors sums) e.1 ≡ Some (e.0).items)) entries
      (h.key, place) so_far.sound h.among in
      stands_once (vectors sums) place n v rising known.0 (known.1 ∙ ap Some (sym h.same)) there

  -- one more vector
  pub index_more : (entries more : List Entry) (n : ℕ) (key : Vec ℤ Global) (old : Option ℕ) →
      IsTrue (is_rising (vectors sums)) → slice_get (vectors sums) n ≡ Some key.items →
      old ≡ lookup (is_key key.items) entries →
      MatchOption old (IsPermutation ((key, n) ∷ entries) more) (λ _. more ≡ set_value (is_key key.items) entries n) →
      IsIndexUpTo entries n → IsIndexUpTo more (n + 1)
  index_more entries more n key (Some place) rising there was put so_far =
      absurd (new_key entries n place key.items rising there so_far (sym was))
  index_more entries more n key None rising there was put so_far = record {
    sound = All-permutation Sound ((key, n) ∷ entries) more put
        (All-cons Sound (key, n) entries (omega arith, there)
        (All-weaker (λ (e : Entry). (e.1 < n) × (slice_get (vectors sums) e.1 ≡ Some (e.0).items)) Sound
        (λ e known. (omega (arith, known.0), known.1)) entries so_far.sound));
    complete = λ i v low at. by i v at (cases_lt i n) low;
  }
    where
      Sound : Entry → Type 0
      Sound e = (e.1 < n + 1) × (slice_get (vectors sums) e.1 ≡ Some (e.0).items)

      by : (i : ℕ) (v : Vector) → slice_get (vectors sums) i ≡ Some v → (i < n) ⊎ (n ≤ i) → i < n + 1 →
          (e : Entry) × Contains more e × ((e.0).items ≡ v)
      by i v at (inl before) low =
          let (e, among, same) = so_far.complete i v before at in
          (e, Contains-permutation ((key, n) ∷ entries) more e put (contains_later (key, n) e entries among), same)
      by i v at (inr high) low =
          let place : n ≡ i = omega (arith, high, low) in
          let here : slice_get (vectors sums) i ≡ Some key.items = ap (slice_get (vectors sums)) (sym place) ∙ there in
          let same : key.items ≡ v = cc in (
            (key, n),
            Contains-permutation ((key, n) ∷ entries) more (key, n) put (contains_head (key, n) entries),
            same,
          )

  pub index_all : (entries : List Entry) (n : ℕ) → length (vectors sums) ≤ n → IsIndexUpTo entries n →
      IsIndex sums entries
  index_all entries n all so_far = record {
    sound = All-weaker (λ (e : Entry). (e.1 < n) × (slice_get (vectors sums) e.1 ≡ Some (e.0).items))
        (λ (e : Entry). slice_get (vectors sums) e.1 ≡ Some (e.0).items) (λ e known. known.1) entries so_far.sound;
    complete = λ i d low.
        so_far.complete i (get_or (vectors sums) i d) (omega (arith, all, low))
        (slice_get-get_or (vectors sums) i d low);
  }

  -- ---- a look-up

  module _ (entries : List Entry) (index : IsIndex sums entries) (v : Vector) where
    found_at : (place : ℕ) → lookup (is_key v) entries ≡ Some place → slice_get (vectors sums) place ≡ Some v
    found_at place found =
        let h = hit v entries place found in
        All-contains (λ (e : Entry). slice_get (vectors sums) e.1 ≡ Some (e.0).items) entries (
          h.key,
          place,
        ) index.sound h.among
        ∙ ap Some (sym h.same)

    found_nowhere : lookup (is_key v) entries ≡ None → Contains (vectors sums) v → ⊥
    found_nowhere none among =
        let (e, there, same) = All-contains (λ (u : Vector). (e : Entry) × Contains entries e × ((e.0).items ≡ u))
        (vectors sums) v index.complete among in
        miss v entries none e there (sym same)

    -- it finds the vector's place, and none exactly where the vector is not listed
    pub looked_up : (o : Option ℕ) → o ≡ lookup (is_key v) entries →
        MatchOption o (Contains (vectors sums) v → ⊥) (λ i. slice_get (vectors sums) i ≡ Some v)
    looked_up None is = found_nowhere (sym is)
    looked_up (Some place) is = found_at place (sym is)
