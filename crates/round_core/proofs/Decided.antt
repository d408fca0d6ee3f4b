-- What the tests of the definitions say.
use Rattle.std.proofs.Common.{◌≡◌, ◌≢◌, ℕ, ◌<◌, ◌≤◌, ◌⊎◌, Bool, true, false, cond, eqb, ltb, not, ◌&&◌, ◌||◌, Option}
use Rattle.std.proofs.Common.{Some, None, IsTrue, is_some, is_none, refl, ap, sym, ◌∙◌, arith, inl, inr, true≢false}
use Rattle.std.proofs.lemmas.Bool.Decides.{nat_tests}
use Rattle.round_core.specs.declared.parts.Fate.{Fate}
use Rattle.round_core.specs.declared.parts.Fate.TheVariants.{Open, HalfWritten, Written, Offered, Beaten}
use Rattle.round_core.specs.declared.parts.Stand.{Stand}
use Rattle.round_core.specs.declared.parts.Stand.TheVariants.{Absent, Working, Finished, Joined}
use Rattle.round_core.specs.Allowed.{is_fate, is_working, is_absent, owned_by}

-- what holds of both outcomes of a choice holds of the chosen one
pub by_test : {A : Type 0} (P : A → Type 0) (b : Bool) (x y : A)
    → (b ≡ true → P x) → (b ≡ false → P y) → P (cond b x y)
by_test P true x y f g = f refl
by_test P false x y f g = g refl

pub not_true : {A : Type 0} → false ≡ true → A
not_true e = absurd (true≢false (sym e))

-- ---- several tests

pub both_true : (a b : Bool) → IsTrue (a && b) → IsTrue a × IsTrue b
both_true true b h = (refl, h)
both_true false b h = not_true h

pub one_true : (a b : Bool) → IsTrue (a || b) → IsTrue a ⊎ IsTrue b
one_true true b h = inl refl
one_true false b h = inr h

pub three_true : (a b c : Bool) → IsTrue (a && b && c) → IsTrue a × IsTrue b × IsTrue c
three_true true true c h = (refl, refl, h)
three_true true false c h = not_true h
three_true false b c h = not_true h

pub four_true : (a b c d : Bool) → IsTrue (a && b && c && d) → IsTrue a × IsTrue b × IsTrue c × IsTrue d
four_true true true true d h = (refl, refl, refl, h)
four_true true true false d h = not_true h
four_true true false c d h = not_true h
four_true false b c d h = not_true h

-- ---- numbers and options

pub equal_of : (a b : ℕ) → IsTrue (eqb a b) → a ≡ b
equal_of a b h = grind (arith, nat_tests)

pub apart_of : (a b : ℕ) → IsTrue (not (eqb a b)) → a ≢ b
apart_of a b h = λ e. grind (arith, nat_tests)

pub less_of : (a b : ℕ) → ltb a b ≡ true → a < b
less_of a b h = grind (arith, nat_tests)

pub not_less_of : (a b : ℕ) → ltb a b ≡ false → b ≤ a
not_less_of a b h = grind (arith, nat_tests)

pub equal_itself : (a : ℕ) → eqb a a ≡ true
equal_itself a = grind (arith, nat_tests)

pub less_or_not : (a b : ℕ) → (a < b) ⊎ (b ≤ a)
less_or_not a b = by (ltb a b) refl where
  by : (t : Bool) → ltb a b ≡ t → (a < b) ⊎ (b ≤ a)
  by true e = inl (less_of a b e)
  by false e = inr (not_less_of a b e)

pub some_is : (o : Option ℕ) → IsTrue (is_some o) → (g : ℕ) × (o ≡ Some g)
some_is None h = not_true h
some_is (Some g) h = (g, refl)

pub none_is : (o : Option ℕ) → IsTrue (is_none o) → o ≡ None
none_is None h = refl
none_is (Some g) h = not_true h

-- ---- owners, fates and stands

pub owner_is : (w : ℕ) (o : Option ℕ) → IsTrue (owned_by w o) → o ≡ Some w
owner_is w None h = not_true h
owner_is w (Some v) h = ap Some (equal_of v w h)

pub working_is : (s : Stand) → IsTrue (is_working s) → s ≡ Working
working_is Absent h = not_true h
working_is Working h = refl
working_is Finished h = not_true h
working_is Joined h = not_true h

pub absent_is : (s : Stand) → IsTrue (is_absent s) → s ≡ Absent
absent_is Absent h = refl
absent_is Working h = not_true h
absent_is Finished h = not_true h
absent_is Joined h = not_true h

fate_itself : (f : Fate) → is_fate f f ≡ true
fate_itself Open = refl
fate_itself HalfWritten = refl
fate_itself Written = refl
fate_itself Offered = refl
fate_itself Beaten = refl

-- a fate that is one is not another
pub fates_differ : (f g h : Fate) → f ≡ g → is_fate g h ≡ false → f ≢ h
fates_differ f g h e n q = true≢false (sym (fate_itself g) ∙ (ap (is_fate g) (sym e ∙ q) ∙ n))

pub fate_is : (f g : Fate) → IsTrue (is_fate f g) → f ≡ g
fate_is Open Open h = refl
fate_is HalfWritten HalfWritten h = refl
fate_is Written Written h = refl
fate_is Offered Offered h = refl
fate_is Beaten Beaten h = refl
fate_is Open HalfWritten h = not_true h
fate_is Open Written h = not_true h
fate_is Open Offered h = not_true h
fate_is Open Beaten h = not_true h
fate_is HalfWritten Open h = not_true h
fate_is HalfWritten Written h = not_true h
fate_is HalfWritten Offered h = not_true h
fate_is HalfWritten Beaten h = not_true h
fate_is Written Open h = not_true h
fate_is Written HalfWritten h = not_true h
fate_is Written Offered h = not_true h
fate_is Written Beaten h = not_true h
fate_is Offered Open h = not_true h
fate_is Offered HalfWritten h = not_true h
fate_is Offered Written h = not_true h
fate_is Offered Beaten h = not_true h
fate_is Beaten Open h = not_true h
fate_is Beaten HalfWritten h = not_true h
fate_is Beaten Written h = not_true h
fate_is Beaten Offered h = not_true h
