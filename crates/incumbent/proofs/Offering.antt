-- The views of a seat that offers a length, and which index may come next.
use Rattle.std.proofs.Common.{◌≡◌, ◌≢◌, ℕ, zero, suc, ◌+◌, ◌-◌, ◌*◌, ◌/◌, ◌%◌, ◌^◌, ◌<◌, ◌≤◌, Bool, true, false, cond}
use Rattle.std.proofs.Common.{eqb, ltb, ◌&&◌, ◌||◌, List, [], ◌∷◌, length, Option, Some, None, IsTrue, option_map, refl}
use Rattle.std.proofs.Common.{ap, sym, ◌∙◌, subst, arith, div-add-mod'}
use Rattle.std.proofs.lemmas.Bool.Decides.{nat_tests}
use Rattle.run_theory.specs.declared.Key.{Key}
use Rattle.run_theory.specs.Keys.{beats, beaten}
use Rattle.round_core.specs.declared.parts.Fate.TheVariants.{Open, HalfWritten, Written, Offered, Beaten}
use Rattle.round_core.specs.Rounds.{outranks}
use Rattle.board_laws.specs.declared.views.Owned.{Owned}
use Rattle.board_laws.specs.declared.views.View.{View}
use Rattle.board_laws.specs.Indexes.{gain_of, length_key, index_key, IsIndex, is_beaten_by}
use Rattle.board_laws.specs.Views.{HasFate, marked, looked_view, marked_view, settling_view}
use Rattle.board_laws.proofs.Fates.{marked_has, marked_marked}
use Rattle.board_laws.proofs.Orders.{IsShort, rank, rank_rises, beaten_by_key}

-- ---- keys and gains

-- a gain is that of one of the lengths
pub gain_within : (gains : List (Option ℕ)) (k g : ℕ) → gain_of gains k ≡ Some g → k < length gains
gain_within [] k g e = absurd (cc)
gain_within (x ∷ xs) zero g e = omega arith
gain_within (x ∷ xs) (suc k) g e = let r = gain_within xs k g e in omega arith

-- a length that has a key has the key's gain
pub key_gain : (gains : List (Option ℕ)) (key : Key) → length_key gains key.k ≡ Some key →
    gain_of gains key.k ≡ Some key.gain
key_gain gains key is = by (gain_of gains key.k) refl where
  none_some : None ≡ Some key → ⊥
  none_some e = cc

  same_gain : (g : ℕ) → Some (record { gain = g; k = key.k }) ≡ Some key → g ≡ key.gain
  same_gain g e = cc

  by : (o : Option ℕ) → gain_of gains key.k ≡ o → gain_of gains key.k ≡ Some key.gain
  by None e = absurd (none_some (ap (option_map (λ g. record { gain = g; k = key.k })) (sym e) ∙ is))
  by (Some g) e = e ∙ ap Some (same_gain g (ap (option_map (λ h. record { gain = h; k = key.k })) (sym e) ∙ is))

pub key_within : (gains : List (Option ℕ)) (key : Key) → length_key gains key.k ≡ Some key → key.k < length gains
key_within gains key is = gain_within gains key.k key.gain (key_gain gains key is)

pub index_small : (gains : List (Option ℕ)) (i : ℕ) → IsIndex gains i → i ≤ length gains
index_small gains zero index = omega arith
index_small gains (suc k) index = let a = gain_within gains k index.0 index.1 in omega arith

pub index_short : (gains : List (Option ℕ)) (i : ℕ) → length gains ≤ 64 → IsIndex gains i → IsShort (index_key gains i)
index_short gains zero few index = tt
index_short gains (suc k) few index =
    subst IsShort (sym (ap (option_map (λ g. record { gain = g; k = k })) index.1))
    (let a = gain_within gains k index.0 index.1 in omega (arith, a, few))

-- the halves make the gain of the length that the index stands for
pub key_found : (gains : List (Option ℕ)) (index high low : ℕ) → index ≢ 0 → IsIndex gains index
    → ((g : ℕ) → gain_of gains (index - 1) ≡ Some g → high ≡ g / 2 ^ 64)
    → ((g : ℕ) → gain_of gains (index - 1) ≡ Some g → low ≡ g % 2 ^ 64)
    → Some (record { gain = high * 2 ^ 64 + low; k = index - 1 }) ≡ index_key gains index
key_found gains zero high low some index above below = absurd (some refl)
key_found gains (suc k) high low some index above below =
    let before : suc k - 1 ≡ k = omega arith in
    let g = index.0 in
    let at : gain_of gains (suc k - 1) ≡ Some g = ap (gain_of gains) before ∙ index.1 in
    let a = above g at in
    let b = below g at in
    let c = div-add-mod' g (2 ^ 64) in
    let whole : high * 2 ^ 64 + low ≡ g = omega (arith, a, b, c) in
    (λ i. Some (record { gain = whole i; k = before i }))
    ∙ ap (option_map (λ h. record { gain = h; k = k })) (sym index.1)

-- ---- the next exchange

-- an index that does not beat the key, and is not its own, is beaten by it
pub not_beaten_beats : (gains : List (Option ℕ)) (key : Key) (i : ℕ) → IsIndex gains i → i ≢ suc key.k
    → beaten key (index_key gains i) ≡ false → IsTrue (outranks (Some key) (index_key gains i))
not_beaten_beats gains key zero index other not = refl
not_beaten_beats gains key (suc j) index other not =
    subst (λ o. IsTrue (outranks (Some key) o)) (sym keyed)
    (other_way key.gain index.0 key.k j (λ e. other (ap suc e)) (ap (beaten key) (sym keyed) ∙ not)) where
      keyed : index_key gains (suc j) ≡ Some (record { gain = index.0; k = j })
      keyed = ap (option_map (λ g. record { gain = g; k = j })) index.1

      other_way : (g h k j : ℕ) → j ≢ k → (ltb g h || (eqb h g && ltb j k)) ≡ false
          → (ltb h g || (eqb g h && ltb k j)) ≡ true
      other_way g h k j n e = grind (arith, nat_tests)

-- each index that an exchange finds is nearer to the key
pub nearer : (gains : List (Option ℕ)) (key : Key) (i j : ℕ) → length gains ≤ 64 → length_key gains key.k ≡ Some key
    → IsIndex gains i → IsIndex gains j → IsTrue (outranks (Some key) (index_key gains i))
    → IsTrue (outranks (index_key gains j) (index_key gains i))
    → rank (Some key) - rank (index_key gains j) < rank (Some key) - rank (index_key gains i)
nearer gains key i j few is index found beats above =
    let a = rank_rises (Some key) (index_key gains i)
    (let w = key_within gains key is in omega (arith, w, few)) (index_short gains i few index) beats in
    let b = rank_rises (index_key gains j) (index_key gains i) (index_short gains j few found)
    (index_short gains i few index) above in
    omega (arith, a, b)

-- ---- views

module _ (gains : List (Option ℕ)) (v : View) (key : Key) (is : length_key gains key.k ≡ Some key) where
  pub written_twice : marked_view key.k Written (marked_view key.k HalfWritten v) ≡ marked_view key.k Written v
  written_twice = ap (λ (es : List Owned). record v { owned = es }) (marked_marked key.k HalfWritten Written v.owned)

  -- the view after the seat saw the index i
  abbrev pub offering_view : ℕ → View
  offering_view i = looked_view gains (Some key.k) (marked_view key.k Written v) i

  abbrev decided_view : Bool → ℕ → View
  decided_view b i = record v {
    seen = i;
    owned = cond b (marked key.k Beaten (marked key.k Written v.owned)) (marked key.k Written v.owned);
  }

  decided : (i : ℕ) (b : Bool) → beaten key (index_key gains i) ≡ b → offering_view i ≡ decided_view b i
  decided i b e = ap (λ t. decided_view t i) (beaten_by_key gains i key is ∙ e)

  -- the index beats the key
  pub beaten_view : (u : View) (i : ℕ) → u ≡ offering_view i → beaten key (index_key gains i) ≡ true
      → u ≡ settling_view v key.k Beaten u.seen
  beaten_view u i looked e =
      let w : u ≡ settling_view v key.k Beaten i = looked ∙ decided i true e
      ∙ ap (λ (es : List Owned). record v { seen = i; owned = es }) (marked_marked key.k Written Beaten v.owned) in
      w ∙ ap (settling_view v key.k Beaten) (sym (ap (λ (x : View). x.seen) w))

  -- it does not
  pub written_view : (u : View) (i : ℕ) → u ≡ offering_view i → beaten key (index_key gains i) ≡ false
      → u ≡ settling_view v key.k Written i
  written_view u i looked e = looked ∙ decided i false e

  pub written_has : (u : View) (i : ℕ) → u ≡ settling_view v key.k Written i → HasFate key.k Open v.owned
      → HasFate key.k Written u.owned
  written_has u i written has =
      subst (λ (x : View). HasFate key.k Written x.owned) (sym written) (marked_has key.k Open Written v.owned has)

  pub offered_view : (u : View) (i : ℕ) → u ≡ settling_view v key.k Written i
      → settling_view u key.k Offered (suc key.k) ≡ settling_view v key.k Offered (suc key.k)
  offered_view u i written =
      ap (λ (x : View). settling_view x key.k Offered (suc key.k)) written
      ∙ ap (λ (es : List Owned). record v { seen = suc key.k; owned = es })
      (marked_marked key.k Written Offered v.owned)

  pub missed_view : (u : View) (i j : ℕ) → u ≡ settling_view v key.k Written i
      → looked_view gains (Some key.k) u j ≡ offering_view j
  missed_view u i j written = ap (λ (x : View). looked_view gains (Some key.k) x j) written

-- the length of a load that settles it is Beaten
pub settled_view : (gains : List (Option ℕ)) (v u : View) (k i : ℕ) → u ≡ looked_view gains (Some k) v i
    → is_beaten_by gains i k ≡ true → u ≡ settling_view v k Beaten u.seen
settled_view gains v u k i looked e =
    let w : u ≡ settling_view v k Beaten i = looked
    ∙ ap (λ (b : Bool). record v { seen = i; owned = cond b (marked k Beaten v.owned) v.owned }) e in
    w ∙ ap (settling_view v k Beaten) (sym (ap (λ (x : View). x.seen) w))
