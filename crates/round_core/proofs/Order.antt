-- Which index beats which: a strict order.
use Rattle.std.proofs.Common.{◌≡◌, ◌≢◌, ℕ, zero, suc, Bool, true, false, eqb, ltb, ◌&&◌, ◌||◌, Option, Some, None}
use Rattle.std.proofs.Common.{IsTrue, option_map, refl, ap, sym, ◌∙◌, arith, true≢false}
use Rattle.std.proofs.lemmas.Bool.Decides.{nat_tests}
use Rattle.run_theory.specs.declared.Key.{Key}
use Rattle.round_core.specs.Rounds.{Round, gain_at, key_at, outranks, index_beats}

abbrev key : ℕ → ℕ → Key
key g k = record { gain = g; k = k }

not_beats : (g k : ℕ) → (ltb g g || (eqb g g && ltb k k)) ≡ false
not_beats g k = grind (arith, nat_tests)

beats_on : (g h i k j l : ℕ) → IsTrue (ltb h g || (eqb g h && ltb k j)) → IsTrue (ltb i h || (eqb h i && ltb j l))
    → IsTrue (ltb i g || (eqb g i && ltb k l))
beats_on g h i k j l a b = grind (arith, nat_tests)

beats_else : (g h k j : ℕ) → j ≢ k → (ltb h g || (eqb g h && ltb k j)) ≡ false
    → IsTrue (ltb g h || (eqb h g && ltb j k))
beats_else g h k j n a = grind (arith, nat_tests)

not_itself : (a : Option Key) → outranks a a ≡ false
not_itself None = refl
not_itself (Some a) = not_beats a.gain a.k

onward : (a b c : Option Key) → IsTrue (outranks a b) → IsTrue (outranks b c) → IsTrue (outranks a c)
onward None b c p q = absurd (true≢false (sym p))
onward (Some a) None c p q = absurd (true≢false (sym q))
onward (Some a) (Some b) None p q = refl
onward (Some a) (Some b) (Some c) p q = beats_on a.gain b.gain c.gain a.k b.k c.k p q

-- no index beats itself
pub beats_itself : (r : Round) (i : ℕ) → index_beats r i i ≡ false
beats_itself r zero = refl
beats_itself r (suc i) = not_itself (key_at r i)

pub beats_through : (r : Round) (i j k : ℕ) → IsTrue (index_beats r i j) → IsTrue (index_beats r j k)
    → IsTrue (index_beats r i k)
beats_through r zero j k p q = absurd (true≢false (sym p))
beats_through r (suc i) zero k p q = absurd (true≢false (sym q))
beats_through r (suc i) (suc j) zero p q = refl
beats_through r (suc i) (suc j) (suc k) p q = onward (key_at r i) (key_at r j) (key_at r k) p q

false_of : (b : Bool) → (IsTrue b → ⊥) → b ≡ false
false_of true n = absurd (n refl)
false_of false n = refl

-- what does not beat an index does not beat a better one
pub beats_neither : (r : Round) (i j k : ℕ) → index_beats r i j ≡ false → IsTrue (index_beats r k j)
    → index_beats r i k ≡ false
beats_neither r i j k n p =
    false_of (index_beats r i k) (λ q. true≢false (sym (beats_through r i k j q p) ∙ n))

keyed : (o : Option ℕ) (k g : ℕ) → o ≡ Some g → option_map (λ h. key h k) o ≡ Some (key g k)
keyed o k g e = ap (option_map (λ h. key h k)) e

-- of two lengths that have gains one beats the other
pub beats_one_way : (r : Round) (j k g h : ℕ) → j ≢ k → gain_at r j ≡ Some g → gain_at r k ≡ Some h
    → index_beats r (suc j) (suc k) ≡ false → IsTrue (index_beats r (suc k) (suc j))
beats_one_way r j k g h n a b e =
    let x : key_at r j ≡ Some (key g j) = keyed (gain_at r j) j g a in
    let y : key_at r k ≡ Some (key h k) = keyed (gain_at r k) k h b in
    (λ t. outranks (y t) (x t)) ∙ beats_else g h j k (λ e. n (sym e)) ((λ t. outranks (sym x t) (sym y t)) ∙ e)

-- a length that has a gain beats one without
pub beats_none : (r : Round) (j k h : ℕ) → gain_at r j ≡ None → gain_at r k ≡ Some h
    → IsTrue (index_beats r (suc k) (suc j))
beats_none r j k h a b =
    let x : key_at r j ≡ None = ap (option_map (λ g. key g j)) a in
    let y : key_at r k ≡ Some (key h k) = keyed (gain_at r k) k h b in
    λ t. outranks (y t) (x t)

-- the order depends on the gains alone
pub beats_same : (r s : Round) (i j : ℕ) → ((k : ℕ) → gain_at s k ≡ gain_at r k)
    → index_beats s i j ≡ index_beats r i j
beats_same r s zero j e = refl
beats_same r s (suc i) zero e = refl
beats_same r s (suc i) (suc j) e = λ t. outranks (option_map (λ g. key g i) (e i t)) (option_map (λ g. key g j) (e j t))
