-- Keys of step lengths: what the best candidate of a length gains, and the length.
use Rattle.std.specs.Prelude.{◌≡◌, Bool, false, ◌&&◌, ◌||◌, nat_eq, nat_lt, Option, Some, None}
use Rattle.run_theory.specs.declared.Key.{Key}

-- the order of the rule on keys: the greater gain, and for equal gains the lesser length
abbrev pub beats : Key → Key → Bool
beats a b = nat_lt b.gain a.gain || (nat_eq a.gain b.gain && nat_lt a.k b.k)

-- a bound is there and beats the key
abbrev pub beaten : Key → Option Key → Bool
beaten key None = false
beaten key (Some bound) = beats bound key

-- of two bounds, the later one is not beaten by the earlier one, where every key beats none
abbrev pub IsNoWorse : Option Key → Option Key → Type 0
IsNoWorse None now = Unit {0}
IsNoWorse (Some a) None = ⊥
IsNoWorse (Some a) (Some b) = beats a b ≡ false
