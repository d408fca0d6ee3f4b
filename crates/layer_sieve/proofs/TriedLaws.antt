-- A move leads from different sums to different places, so the places tell how many moves were tried.
use Rattle.std.proofs.Common.{◌≡◌, ℕ, ◌+◌, ◌*◌, ◌<◌, ◌≤◌, ℤ, ◌+ℤ◌, true, List, [], ◌∷◌, length, refl, ap, arith, sym}
use Rattle.std.proofs.Common.{◌∙◌, Some, ◌⊎◌, inl, inr, All, Contains}
use Rattle.std.proofs.lemmas.Int.{ints}
use Rattle.std.proofs.lemmas.Bool.{cases_lt}
use Rattle.std.proofs.lemmas.List.Elements.{All-nil, All-cons, All-contains}
use Rattle.std.proofs.lemmas.Option.{slice_get_within, get_or_from_slice_get}
use Rattle.std.proofs.Math.Nat.{mul-le-mul_left}
use Rattle.std.specs.Prelude.{slice_get}
use Rattle.lattice_theory.specs.Vectors.{Vector, add, is_rising}
use Rattle.lattice_laws.proofs.Places.{same_value}
use Rattle.sieve_laws.specs.Sieve.{Layer, Leads, Reaches, IsAtMost, live}
use Rattle.sieve_laws.proofs.Live.{live_is}
use Rattle.sieve_laws.proofs.Lowering.{one_place}
use Rattle.layer_sieve.specs.Tried.{AreDifferent, IsTried}

-- vectors that become the same by the same vector are the same
add_once : (u v d : Vector) → length u ≡ length d → length v ≡ length d → add u d ≡ add v d → u ≡ v
add_once [] [] d e f same = refl
add_once [] (b ∷ v) [] e f same = absurd (omega (arith, f))
add_once [] (b ∷ v) (c ∷ d) e f same = absurd (omega (arith, e))
add_once (a ∷ u) v [] e f same = absurd (omega (arith, e))
add_once (a ∷ u) [] (c ∷ d) e f same = absurd (omega (arith, f))
add_once (a ∷ u) (b ∷ v) (c ∷ d) e f same =
    let sums : a +ℤ c ≡ b +ℤ c = cc in
    let tails : add u d ≡ add v d = cc in
    let first : a ≡ b = omega (arith, ints, sums) in
    λ i. first i ∷ add_once u v d (omega (arith, e)) (omega (arith, f)) tails i

module _ (zs : List Vector) (rising : is_rising zs ≡ true) (t : ℕ) (widths : All (λ v. length v ≡ t) zs) where
  width_at : (j : ℕ) (v : Vector) → slice_get zs j ≡ Some v → length v ≡ t
  width_at j v there =
      All-contains (λ u. length u ≡ t) zs v widths
      (j, slice_get_within zs j v there, get_or_from_slice_get zs j v v there)

  -- a move leads to a place from one sum
  from_once : (h u w j : ℕ) → Leads zs h u j → Leads zs h w j → u ≡ w
  from_once h u w j one two =
      let moves : one.by ≡ two.by = same_value (slice_get zs h) one.by two.by one.move two.move in
      let ends : add one.from one.by ≡ add two.from two.by =
      same_value (slice_get zs j) (add one.from one.by) (add two.from two.by) one.end two.end in
      let first = width_at u one.from one.start in
      let second = width_at w two.from two.start in
      let move = width_at h two.by two.move in
      let starts : one.from ≡ two.from =
      add_once one.from two.from two.by (first ∙ sym move) (second ∙ sym move)
      (ap (add one.from) (sym moves) ∙ ends) in
      one_place zs rising u w two.from (one.start ∙ ap Some starts) two.start

module _ (zs : List Vector) (h : ℕ) (next : Layer) (limit : ℤ) where
  -- the move leads to the place from one of the first n sums
  abbrev IsLed : ℕ → ℕ → Type 0
  IsLed n j = (w : ℕ) × (w < n) × Leads zs h w j

  -- the live places to which the move leads from the first n sums are as many as the moves that were tried, or more
  pub record IsTriedUpTo (n moves : ℕ) : Type 0 where
    pub places : List ℕ
    pub different : AreDifferent places
    pub live : All (λ j. IsAtMost next j limit) places
    pub led : All (IsLed n) places
    pub few : moves ≤ length places

  pub tried_none : (moves : ℕ) → moves ≡ 0 → IsTriedUpTo 0 moves
  tried_none moves is = record {
    places = [];
    different = tt;
    live = All-nil (λ j. IsAtMost next j limit);
    led = All-nil (IsLed 0);
    few = omega (arith, is);
  }

  later : (n : ℕ) (places : List ℕ) → All (IsLed n) places → All (IsLed (n + 1)) places
  later n places led i d low = let (w, under, leads) = led i d low in (w, omega (arith, under), leads)

  -- one more sum, from which nothing was tried
  pub tried_unmoved : (n moves more : ℕ) → more ≡ moves → IsTriedUpTo n moves → IsTriedUpTo (n + 1) more
  tried_unmoved n moves more is so_far = record {
    places = so_far.places;
    different = so_far.different;
    live = so_far.live;
    led = later n so_far.places so_far.led;
    few = omega (arith, is, so_far.few);
  }

  -- one more sum, from which the move leads to a live cell
  pub tried_more : is_rising zs ≡ true → (t : ℕ) → All (λ v. length v ≡ t) zs → (n moves more : ℕ) (a : ℤ) →
      Reaches zs (live limit next) h n a → more ≤ moves + 1 →
      IsTriedUpTo n moves → IsTriedUpTo (n + 1) more
  tried_more rising t widths n moves more a reach up so_far = record {
    places = reach.to ∷ so_far.places;
    different = (new, so_far.different);
    live =
        let (is, low) = live_is limit next reach.to a reach.cell in
        All-cons (λ j. IsAtMost next j limit) reach.to so_far.places (a, is, low) so_far.live;
    led = All-cons (IsLed (n + 1)) reach.to so_far.places (n, omega arith, reach.leads)
        (later n so_far.places so_far.led);
    few = omega (arith, up, so_far.few);
  }
    where
      new : Contains so_far.places reach.to → ⊥
      new there =
          let (w, low, leads) = All-contains (IsLed n) so_far.places reach.to so_far.led there in
          let same : w ≡ n = from_once zs rising t widths h w n reach.to leads reach.leads in
          omega (arith, low, same)

  pub tried_all : (n moves : ℕ) → IsTriedUpTo n moves → IsTried 1 next limit moves
  tried_all n moves so_far = (so_far.places, so_far.different, so_far.live, omega (arith, so_far.few))

-- ---- one move after the other

module _ (next : Layer) (limit : ℤ) where
  pub none_tried : (moves : ℕ) → moves ≡ 0 → IsTried 0 next limit moves
  none_tried moves is = ([], tt, All-nil (λ j. IsAtMost next j limit), omega (arith, is))

  -- a move that was left out
  pub tried_out : (each moves more : ℕ) → more ≡ moves → IsTried each next limit moves →
      IsTried (each + 1) next limit more
  tried_out each moves more is (places, different, live, few) = (places, different, live, omega (arith, is, few))

  -- one more move: of its places and those before the longer list tells how many there were
  pub tried_by : (each moves now more : ℕ) → more ≡ moves + now → IsTried each next limit moves →
      IsTried 1 next limit now → IsTried (each + 1) next limit more
  tried_by each moves now more is (ps, p_different, p_live, p_few) (qs, q_different, q_live, q_few) =
      by (cases_lt (length ps) (length qs))
    where
      by : (length ps < length qs) ⊎ (length qs ≤ length ps) → IsTried (each + 1) next limit more
      by (inl longer) =
          let most : each * length ps ≤ each * length qs = mul-le-mul_left each (omega (arith, longer)) in
          (qs, q_different, q_live, omega (arith, is, p_few, q_few, most))
      by (inr shorter) = (ps, p_different, p_live, omega (arith, is, p_few, q_few, shorter))
