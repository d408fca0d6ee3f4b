-- The lengths of a seat with their fates, and another fate of one of them.
use Rattle.std.proofs.Common.{◌≡◌, ◌≢◌, ℕ, ◌<◌, cond, eqb, List, [], ◌∷◌, ◌++◌, map, refl, ap, ap₂, sym, ◌∙◌, subst}
use Rattle.std.proofs.Common.{arith, ⊎_elim, eq-eqb, ne_eqb}
use Rattle.std.specs.List.{All, Contains}
use Rattle.std.proofs.lemmas.List.{length-map}
use Rattle.std.proofs.lemmas.List.Elements.{All-map, All-weaker, Contains-append_left, Contains-append_right}
use Rattle.round_core.specs.declared.parts.Fate.{Fate}
use Rattle.round_core.proofs.Places.{same_or_else, get_map}
use Rattle.board_laws.specs.declared.views.Owned.{Owned}
use Rattle.board_laws.specs.Views.{owned, HasFate, HasLength, marked}

-- what is in a list is, made over, in the list that is made over
Contains-map : (f : Owned → Owned) (es : List Owned) (e : Owned) → Contains es e → Contains (map f es) (f e)
Contains-map f es e has =
    let count = length-map es f in
    (has.0, subst (λ n. has.0 < n) (sym count) has.1, get_map f es has.0 e (f e) refl ∙ ap f has.2)

abbrev mark : ℕ → Fate → Owned → Owned
mark k f e = cond (eqb e.k k) (owned k f) e

mark_here : (k : ℕ) (f : Fate) (e : Owned) → e.k ≡ k → mark k f e ≡ owned k f
mark_here k f e is = ap (λ b. cond b (owned k f) e) (eq-eqb e.k k is)

mark_else : (k : ℕ) (f : Fate) (e : Owned) → e.k ≢ k → mark k f e ≡ e
mark_else k f e other = ap (λ b. cond b (owned k f) e) (ne_eqb e.k k other)

-- the length that is marked has the fate
pub marked_has : (k : ℕ) (f g : Fate) (es : List Owned) → HasFate k f es → HasFate k g (marked k g es)
marked_has k f g es has =
    subst (Contains (marked k g es)) (mark_here k g (owned k f) refl) (Contains-map (mark k g) es (owned k f) has)

-- no length is lost
pub marked_keeps : (j k : ℕ) (g : Fate) (es : List Owned) → HasLength j es → HasLength j (marked k g es)
marked_keeps j k g es (f, has) = ⊎_elim
    (λ e. (
      g,
      subst (λ i. HasFate i g (marked k g es)) (sym e)
          (marked_has k f g es (subst (λ i. HasFate i f es) e has)),
    ))
    (λ n. (
      f,
      subst (Contains (marked k g es)) (mark_else k g (owned j f) n)
          (Contains-map (mark k g) es (owned j f) has),
    ))
    (same_or_else j k)

-- what holds of the marked length and held of all others holds of all
pub All-marked : (P Q : Owned → Type 0) (k : ℕ) (f : Fate) (es : List Owned) → Q (owned k f)
    → ((e : Owned) → e.k ≢ k → P e → Q e) → All P es → All Q (marked k f es)
All-marked P Q k f es here else all =
    All-map Q (mark k f) es (All-weaker P (λ e. Q (mark k f e)) (λ e p. ⊎_elim
    (λ is. subst Q (sym (mark_here k f e is)) here)
    (λ other. subst Q (sym (mark_else k f e other)) (else e other p))
    (same_or_else e.k k)) es all)

-- the last mark counts
pub marked_marked : (k : ℕ) (f g : Fate) (es : List Owned) → marked k g (marked k f es) ≡ marked k g es
marked_marked k f g [] = refl
marked_marked k f g (e ∷ es) = ap₂ (λ (o : Owned) (os : List Owned). o ∷ os) (twice e) (marked_marked k f g es) where
  twice : (e : Owned) → mark k g (mark k f e) ≡ mark k g e
  twice e = ⊎_elim
      (λ is. ap (mark k g) (mark_here k f e is) ∙ mark_here k g (owned k f) refl ∙ sym (mark_here k g e is))
      (λ other. ap (mark k g) (mark_else k f e other))
      (same_or_else e.k k)

-- ---- two lists

pub HasLength-append_left : (k : ℕ) (es fs : List Owned) → HasLength k es → HasLength k (es ++ fs)
HasLength-append_left k es fs has = (has.0, Contains-append_left es fs (owned k has.0) has.1)

pub HasLength-append_right : (k : ℕ) (es fs : List Owned) → HasLength k fs → HasLength k (es ++ fs)
HasLength-append_right k es fs has = (has.0, Contains-append_right es fs (owned k has.0) has.1)

-- an empty list has no length
pub HasLength-none : (k : ℕ) → HasLength k [] → ⊥
HasLength-none k has = let lt : has.1.0 < 0 = has.1.1 in absurd (omega arith)
