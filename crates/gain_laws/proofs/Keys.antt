-- Keys that are no worse than others.
use Rattle.std.proofs.Common.{◌≡◌, ℕ, false, eqb, ltb, ◌&&◌, ◌||◌, Option, Some, None, arith}
use Rattle.std.proofs.lemmas.Bool.Decides.{nat_tests}
use Rattle.run_theory.specs.declared.Key.{Key}
use Rattle.run_theory.specs.Keys.{IsNoWorse}

pub no_worse_itself : (a : Option Key) → IsNoWorse a a
no_worse_itself None = tt
no_worse_itself (Some a) = not_itself a.gain a.k where
  not_itself : (g k : ℕ) → (ltb g g || (eqb g g && ltb k k)) ≡ false
  not_itself g k = grind (arith, nat_tests)

pub no_worse_through : (a b c : Option Key) → IsNoWorse a b → IsNoWorse b c → IsNoWorse a c
no_worse_through None b c p q = tt
no_worse_through (Some a) None c p q = absurd p
no_worse_through (Some a) (Some b) None p q = absurd q
no_worse_through (Some a) (Some b) (Some c) p q = onward a.gain b.gain c.gain a.k b.k c.k p q where
  onward : (g h i k j l : ℕ) → (ltb h g || (eqb g h && ltb k j)) ≡ false → (ltb i h || (eqb h i && ltb j l)) ≡ false
      → (ltb i g || (eqb g i && ltb k l)) ≡ false
  onward g h i k j l p q = grind (arith, nat_tests)
