-- Which index beats which, by the keys of the lengths, and a number that rises with the key.
use Rattle.std.proofs.Common.{◌≡◌, ℕ, zero, suc, ◌+◌, ◌-◌, ◌*◌, ◌<◌, true, false, eqb, ltb, ◌&&◌, ◌||◌, List, Option}
use Rattle.std.proofs.Common.{Some, None, IsTrue, is_none, option_map, refl, ap, sym, ◌∙◌, subst, arith, ⊎_elim}
use Rattle.std.proofs.Common.{true≢false}
use Rattle.std.proofs.lemmas.Bool.Decides.{nat_tests}
use Rattle.std.proofs.lemmas.Bool.{or_right}
use Rattle.run_theory.specs.declared.Key.{Key}
use Rattle.run_theory.specs.Keys.{beaten, IsNoWorse}
use Rattle.round_core.specs.declared.parts.Length.{Length}
use Rattle.round_core.specs.declared.parts.Fate.TheVariants.{Offered}
use Rattle.round_core.specs.Rounds.{Round, unclaimed, length_at, gain_at, fate_at, key_at, outranks, index_beats}
use Rattle.round_core.specs.Rounds.{gains_of}
use Rattle.round_core.specs.Steps.{is_beaten}
use Rattle.round_core.specs.Sound.{NamesOffered, HoldsGain, HoldsHigh, IsSound}
use Rattle.round_core.proofs.Places.{get_map}
use Rattle.board_laws.specs.Indexes.{gain_of, length_key, index_key, IsIndex, IsOutdone, is_beaten_by}

-- ---- the round's order is that of the keys

module _ (gains : List (Option ℕ)) (r : Round) (same : gains_of r ≡ gains) where
  pub gain_is : (k : ℕ) → gain_at r k ≡ gain_of gains k
  gain_is k = sym (get_map (λ (l : Length). l.gain) r.lengths k (unclaimed None) None refl)
      ∙ ap (λ gs. gain_of gs k) same

  key_is : (k : ℕ) → key_at r k ≡ length_key gains k
  key_is k = ap (option_map (λ g. record { gain = g; k = k })) (gain_is k)

  pub beats_length : (i k : ℕ) → index_beats r i (suc k) ≡ outranks (index_key gains i) (length_key gains k)
  beats_length zero k = refl
  beats_length (suc i) k = λ t. outranks (key_is i t) (key_is k t)

  pub beats_index : (i j : ℕ) → IsIndex gains i → index_beats r i j ≡ outranks (index_key gains i) (index_key gains j)
  beats_index zero j index = refl
  beats_index (suc i) zero index = sym (ap (λ o. outranks (option_map (λ g. record { gain = g; k = i }) o) None)
      index.1)
  beats_index (suc i) (suc j) index = beats_length (suc i) j

  pub beaten_is : (k : ℕ) → is_beaten r k ≡ is_beaten_by gains r.best k
  beaten_is k = λ t. is_none (gain_is k t) || beats_length r.best k t

  module _ (sound : IsSound r) where
    -- an Offered length has a gain, whose halves are stored
    pub offered_holds : (k : ℕ) → fate_at r k ≡ Offered → HoldsGain (length_at r k) Offered
    offered_holds k is = subst (HoldsGain (length_at r k)) is (sound.stored k)

    pub offered_index : (i : ℕ) → NamesOffered r i → IsIndex gains i
    offered_index zero names = tt
    offered_index (suc k) names =
        let holds : HoldsHigh (length_at r k) = (offered_holds k names).0 in (holds.0, sym (gain_is k) ∙ holds.1)

-- ---- keys that are no worse

pub no_worse : (a b : Option Key) → outranks a b ≡ false → IsNoWorse a b
no_worse None b e = tt
no_worse (Some a) None e = absurd (true≢false e)
no_worse (Some a) (Some b) e = e

-- what beats a key is no worse
pub no_worse_above : (a b : Option Key) → IsTrue (outranks b a) → IsNoWorse a b
no_worse_above None b e = tt
no_worse_above (Some a) None e = absurd (true≢false (sym e))
no_worse_above (Some a) (Some b) e = above a.gain b.gain a.k b.k e where
  above : (g h k j : ℕ) → (ltb g h || (eqb h g && ltb j k)) ≡ true → (ltb h g || (eqb g h && ltb k j)) ≡ false
  above g h k j e = grind (arith, nat_tests)

-- what beats a key, or a later one that is no worse, beats it
pub beats_before : (a b c : Option Key) → IsTrue (outranks a c) → IsNoWorse a b → IsTrue (outranks b c)
beats_before None b c e p = absurd (true≢false (sym e))
beats_before (Some a) None c e p = absurd p
beats_before (Some a) (Some b) None e p = refl
beats_before (Some a) (Some b) (Some c) e p = onward a.gain b.gain c.gain a.k b.k c.k e p where
  onward : (g h i k j l : ℕ) → (ltb i g || (eqb g i && ltb k l)) ≡ true → (ltb h g || (eqb g h && ltb k j)) ≡ false
      → (ltb i h || (eqb h i && ltb j l)) ≡ true
  onward g h i k j l e p = grind (arith, nat_tests)

-- ---- bounds

-- a bound beats a key
pub outranks-beaten : (key : Key) (bound : Option Key) → outranks bound (Some key) ≡ beaten key bound
outranks-beaten key None = refl
outranks-beaten key (Some b) = refl

-- an index that leaves no hope for a length beats it, where it has a gain
pub beaten_by_key : (gains : List (Option ℕ)) (i : ℕ) (key : Key) → length_key gains key.k ≡ Some key
    → is_beaten_by gains i key.k ≡ beaten key (index_key gains i)
beaten_by_key gains i key is = by (gain_of gains key.k) refl where
  none_some : None ≡ Some key → ⊥
  none_some e = cc

  by : (o : Option ℕ) → gain_of gains key.k ≡ o → is_beaten_by gains i key.k ≡ beaten key (index_key gains i)
  by None e = absurd (none_some (ap (option_map (λ g. record { gain = g; k = key.k })) (sym e) ∙ is))
  by (Some g) e =
      (λ t. is_none (e t) || outranks (index_key gains i) (is t)) ∙ outranks-beaten key (index_key gains i)

-- where the seat knew that a length is outdone, a load that finds no worse an index settles it
pub outdone_settles : (gains : List (Option ℕ)) (k i j : ℕ) → IsOutdone gains k (index_key gains i)
    → IsNoWorse (index_key gains i) (index_key gains j) → is_beaten_by gains j k ≡ true
outdone_settles gains k i j outdone later = ⊎_elim
    (λ none. λ t. is_none (none t) || outranks (index_key gains j) (length_key gains k))
    (λ (o : (key : Key) × (length_key gains k ≡ Some key) × IsTrue (beaten key (index_key gains i))).
    or_right (is_none (gain_of gains k)) (outranks (index_key gains j) (length_key gains k))
    (beats_before (index_key gains i) (index_key gains j) (length_key gains k)
    (ap (outranks (index_key gains i)) o.1 ∙ outranks-beaten o.0 (index_key gains i) ∙ o.2) later))
    outdone

-- ---- a number for each key

-- the greater number is that of the better key, as there are at most 64 lengths
abbrev pub rank : Option Key → ℕ
rank None = 0
rank (Some key) = suc key.gain * 64 + (64 - key.k)

-- none, or the key of one of 64 lengths
abbrev pub IsShort : Option Key → Type 0
IsShort None = Unit {0}
IsShort (Some key) = key.k < 64

pub rank_rises : (a b : Option Key) → IsShort a → IsShort b → IsTrue (outranks a b) → rank b < rank a
rank_rises None b short too e = absurd (true≢false (sym e))
rank_rises (Some a) None short too e = omega arith
rank_rises (Some a) (Some b) short too e = rises a.gain b.gain a.k b.k short too e where
  rises : (g h k j : ℕ) → k < 64 → j < 64 → (ltb h g || (eqb g h && ltb k j)) ≡ true
      → suc h * 64 + (64 - j) < suc g * 64 + (64 - k)
  rises g h k j short too e = grind (arith, nat_tests)
