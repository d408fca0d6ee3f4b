-- The order of vectors does not change as one vector is taken from all of them, and places of a rising list have it.
use Rattle.std.proofs.Common.{◌≡◌, ℤ, ◌-ℤ◌, true, List, [], ◌∷◌, length, refl, ap, arith, ◌∙◌, IsTrue}
use Rattle.std.proofs.lemmas.Int.{ints}
use Rattle.std.proofs.lemmas.Cmp.{tied_itself}
use Rattle.std.specs.Ordering.{int_cmp, ordering_then, is_le, is_lt}
use Rattle.std.specs.Cmp.Lexicographic.{slice_cmp}
use Rattle.std.specs.declared.cmp.Ordering.{Ordering}
use Rattle.std.specs.declared.cmp.Ordering.TheVariants.{Less, Equal, Greater}
use Rattle.lattice_theory.specs.Vectors.{Vector, lex_cmp, lex_less, sub}
use Rattle.lattice_laws.proofs.Rising.{lex_total}

-- ---- the order, with one vector taken from both

int_cmp-sub : (a b c : ℤ) → int_cmp (a -ℤ c) (b -ℤ c) ≡ int_cmp a b
int_cmp-sub a b c = grind (arith, ints)

pub lex_cmp-sub : (u v w : Vector) → length u ≡ length w → length v ≡ length w →
    lex_cmp (sub u w) (sub v w) ≡ lex_cmp u v
lex_cmp-sub [] [] w e f = refl
lex_cmp-sub [] (b ∷ v) [] e f = absurd (omega arith)
lex_cmp-sub [] (b ∷ v) (c ∷ w) e f = absurd (omega arith)
lex_cmp-sub (a ∷ u) [] w e f = absurd (omega arith)
lex_cmp-sub (a ∷ u) (b ∷ v) [] e f = absurd (omega arith)
lex_cmp-sub (a ∷ u) (b ∷ v) (c ∷ w) e f =
    λ i. ordering_then (int_cmp-sub a b c i) (lex_cmp-sub u v w (omega arith) (omega arith) i)

-- ---- the order of lists of vectors

-- a lesser head decides
pub first_decides : (u v : Vector) (us vs : List Vector) → lex_less u v ≡ true →
    IsTrue (is_le (slice_cmp lex_cmp (u ∷ us) (v ∷ vs)))
first_decides u v us vs h = by (lex_cmp u v) h
  where
    by : (o : Ordering) → is_lt o ≡ true → IsTrue (is_le (ordering_then o (slice_cmp lex_cmp us vs)))
    by Less e = refl
    by Equal e = absurd (cc)
    by Greater e = absurd (cc)

-- a head that is the same leaves it to the tails
pub tails_decide : (u : Vector) (us vs : List Vector) → IsTrue (is_le (slice_cmp lex_cmp us vs)) →
    IsTrue (is_le (slice_cmp lex_cmp (u ∷ us) (u ∷ vs)))
tails_decide u us vs h = let e : lex_cmp u u ≡ Equal = tied_itself lex_total u in
    ap (λ o. is_le (ordering_then o (slice_cmp lex_cmp us vs))) e ∙ h
