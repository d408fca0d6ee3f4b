-- Vectors of whole numbers: the conformal order, the 1-norm, the lexicographic order, sums and products.
use Rattle.std.specs.Prelude.{ℕ, suc, zero, ◌≤◌, ◌^◌, ℤ, pos, negsuc, ◌+ℤ◌, ◌-ℤ◌, ◌*ℤ◌, neg_ℤ, unsigned_abs, int_le}
use Rattle.std.specs.Prelude.{nat_le, Bool, true, false, ◌&&◌, not, IsTrue, List, [], ◌∷◌, map, sum_by, replicate}
use Rattle.std.specs.Prelude.{Option, All}
use Rattle.std.specs.List.{list_all, list_any, position_from}
use Rattle.std.specs.Ordering.{int_cmp, int_eq, is_lt}
use Rattle.std.specs.Cmp.Lexicographic.{slice_cmp, pointwise}
use Rattle.std.specs.declared.cmp.Ordering.{Ordering}
use Rattle.lattice_theory.specs.Lists.{zip_with, sum_zip, all_zip}

abbrev pub Vector : Type 0
Vector = List ℤ

-- a is between 0 and b
abbrev pub is_between : ℤ → ℤ → Bool
is_between a b = int_le (pos 0) (a *ℤ b) && nat_le (unsigned_abs a) (unsigned_abs b)

-- whether u is conformally below v: no entry has the other sign, and none is larger in absolute value
abbrev pub conforms : Vector → Vector → Bool
conforms u v = all_zip is_between u v

-- the conformal order
infix 50 ◌⊑◌
abbrev pub ◌⊑◌ : Vector → Vector → Type 0
u ⊑ v = IsTrue (conforms u v)

-- every entry is 0
abbrev pub is_zero : Vector → Bool
is_zero v = list_all (λ a. int_eq a (pos 0)) v

-- the sum of the absolute values
abbrev pub norm1 : Vector → ℕ
norm1 v = sum_by unsigned_abs v

-- there is a nonzero entry, and the first such is positive
abbrev pub leads_positive : Vector → Bool
leads_positive [] = false
leads_positive (pos zero ∷ v) = leads_positive v
leads_positive (pos (suc n) ∷ v) = true
leads_positive (negsuc n ∷ v) = false

-- the lexicographic order
abbrev pub lex_cmp : Vector → Vector → Ordering
lex_cmp u v = slice_cmp int_cmp u v

abbrev pub lex_less : Vector → Vector → Bool
lex_less u v = is_lt (lex_cmp u v)

abbrev pub same : Vector → Vector → Bool
same u v = pointwise int_eq u v

-- each vector is less than the next one
abbrev pub is_rising : List Vector → Bool
is_rising [] = true
is_rising (v ∷ []) = true
is_rising (u ∷ v ∷ vs) = lex_less u v && is_rising (v ∷ vs)

-- v is one of the vectors
abbrev pub is_listed : List Vector → Vector → Bool
is_listed vs v = list_any (λ u. same u v) vs

abbrev pub add : Vector → Vector → Vector
add u v = zip_with ◌+ℤ◌ u v

abbrev pub sub : Vector → Vector → Vector
sub u v = zip_with ◌-ℤ◌ u v

abbrev pub scale : ℤ → Vector → Vector
scale m v = map (λ a. m *ℤ a) v

abbrev pub opposite : Vector → Vector
opposite v = map neg_ℤ v

abbrev pub dot : Vector → Vector → ℤ
dot u v = sum_zip ◌*ℤ◌ u v

abbrev pub zeros : ℕ → Vector
zeros n = replicate n (pos 0)

-- m is the greatest number such that m times e is conformally below v
pub record IsGreatestMultiple (e v : Vector) (m : ℕ) : Type 0 where
  pub below : scale (pos m) e ⊑ v
  pub greatest : (k : ℕ) → scale (pos k) e ⊑ v → k ≤ m

-- at most 2 ^ 62 in absolute value
abbrev pub is_bounded : ℤ → Bool
is_bounded a = nat_le (unsigned_abs a) (2 ^ 62)

-- each entry is at most 2 ^ 62 in absolute value
abbrev pub IsBoundedRow : Vector → Type 0
IsBoundedRow v = All (λ a. IsTrue (is_bounded a)) v

-- the first place whose entry is not
abbrev pub first_unbounded : Vector → Option ℕ
first_unbounded v = position_from (λ a. not (is_bounded a)) 0 v
