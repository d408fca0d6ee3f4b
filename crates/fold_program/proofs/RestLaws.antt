-- The rest of a row, while its product is taken away place by place; and the rests of all linking rows.
use Rattle.std.proofs.Common.{◌≡◌, ℕ, suc, ◌+◌, ◌^◌, ◌≤◌, ℤ, pos, ◌+ℤ◌, ◌-ℤ◌, ◌*ℤ◌, unsigned_abs, List, [], ◌∷◌, ◌++◌}
use Rattle.std.proofs.Common.{length, map, take, get_or, refl, ap, ◌∙◌, sym, subst, arith, ◌⊎◌, inl, inr, Some}
use Rattle.std.proofs.Common.{slice_get, All}
use Rattle.std.proofs.lemmas.Int.{ints}
use Rattle.std.proofs.lemmas.List.{take_more}
use Rattle.std.proofs.lemmas.List.Elements.{All-push}
use Rattle.std.proofs.lemmas.Option.{slice_get_within, get_or_from_slice_get}
use Rattle.lattice_theory.specs.Lists.{zip_with, total}
use Rattle.lattice_theory.specs.Vectors.{Vector, dot}
use Rattle.fold_theory.specs.Programs.{Program, Bricks, link_rests}

-- one place on, the product at that place goes from what is left into the rest
pub rest-step : (rest a x whole : ℤ) (u v u' v' : Vector) → u ≡ a ∷ u' → v ≡ x ∷ v' → rest -ℤ dot u v ≡ whole →
    (rest -ℤ a *ℤ x) -ℤ dot u' v' ≡ whole
rest-step rest a x whole u v u' v' left right so_far =
    let opened : rest -ℤ (a *ℤ x +ℤ dot u' v') ≡ whole = rw (left, right) at so_far in
    omega (arith, ints, opened)

-- where nothing is left of one of the two, the rest so far is all of it
pub rest-done : (rest whole : ℤ) (u v : Vector) → (length u ≡ 0) ⊎ (length v ≡ 0) → rest -ℤ dot u v ≡ whole →
    rest ≡ whole
rest-done rest whole [] v ended so_far = omega (arith, ints, so_far)
rest-done rest whole (x ∷ u) [] ended so_far = omega (arith, ints, so_far)
rest-done rest whole (x ∷ u) (y ∷ v) (inl e) so_far = absurd (omega arith)
rest-done rest whole (x ∷ u) (y ∷ v) (inr e) so_far = absurd (omega arith)

-- ---- the rests of all linking rows

-- the number at a place, of a list that has so many first ones
pub take_next : (xs now next : List ℤ) (at : ℕ) (x : ℤ) → slice_get xs at ≡ Some x → next ≡ now ++ x ∷ [] →
    now ≡ take at xs → next ≡ take (at + 1) xs
take_next xs now next at x there pushed so_far =
    let low = slice_get_within xs at x there in
    let entry : get_or xs at (pos 0) ≡ x = get_or_from_slice_get xs at x (pos 0) there in
    pushed ∙ (λ i. so_far i ++ sym entry i ∷ []) ∙ sym (take_more xs at (pos 0) low)

pub all_next : (now next : Vector) (x : ℤ) → next ≡ now ++ x ∷ [] → All (λ rest. unsigned_abs rest ≤ 2 ^ 113) now →
    unsigned_abs x ≤ 2 ^ 113 →
    All (λ rest. unsigned_abs rest ≤ 2 ^ 113) next
all_next now next x is so_far here =
    subst (All (λ rest. unsigned_abs rest ≤ 2 ^ 113)) (sym is)
    (All-push (λ rest. unsigned_abs rest ≤ 2 ^ 113) now x so_far here)

pub length-rests : (p : Program) (x : Bricks) → length p.link_right ≡ length p.link.rows →
    length (link_rests p x) ≡ length p.link.rows
length-rests p x same = by p.link.rows p.link_right same
  where
    by : (rows : List Vector) (rights : Vector) → length rights ≡ length rows →
        length (zip_with (λ row right. right -ℤ total (map (dot row) x)) rows rights) ≡ length rows
    by [] rights e = refl
    by (row ∷ rows) [] e = absurd (omega arith)
    by (row ∷ rows) (r ∷ rights) e = ap suc (by rows rights (omega arith))
