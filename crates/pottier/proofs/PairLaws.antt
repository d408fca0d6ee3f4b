-- Laws of narrow vectors, of their sums, and of the members below a vector.
use Rattle.std.proofs.Common.{◌≡◌, ℕ, ◌+◌, ◌*◌, ◌<◌, ◌≤◌, ◌^◌, ℤ, neg_ℤ, unsigned_abs, true, false, ◌||◌, List, ◌++◌}
use Rattle.std.proofs.Common.{length, take, drop, get_or, ap, arith, sym, ◌∙◌, Contains, inl, inr, subst}
use Rattle.std.proofs.lemmas.List.{get_or-append-add, get_or-drop, length-map, length-take-le}
use Rattle.std.proofs.lemmas.List.Elements.{recursion_from_All, All-take}
use Rattle.lattice_theory.specs.Vectors.{Vector, conforms, norm1, opposite}
use Rattle.lattice_theory.specs.BasisLimits.{IsNarrow}
use Rattle.lattice_laws.proofs.Conformal.{norm_agree, take-add, opposite-opposite}
use Rattle.lattice_laws.proofs.SlackBases.{IsReducible}
use Rattle.lattice_laws.proofs.Completion.{counts_parts}
use Rattle.lattice_laws.proofs.Narrow.{norm1-narrow}
use Rattle.pottier.specs.Ranks.{lies_below}
use Rattle.pottier.specs.Partners.{partner, pair_counts, norm_of_sum}
use Rattle.pottier.proofs.PartnerLaws.{partner_norm}

-- ---- narrow vectors

pub norm_of_narrow : (n : ℕ) (v : Vector) → IsNarrow v → norm1 (take n v) ≤ 2 ^ 31 * length (take n v)
norm_of_narrow n v h = norm1-narrow (take n v) (recursion_from_All (λ a. unsigned_abs a < 2 ^ 31) (take n v)
    (All-take (λ a. unsigned_abs a < 2 ^ 31) n v h))

pub norm_of_pair : (at : ℕ) (p q : Vector) → pair_counts at p q ≡ true →
    norm1 (take at p) + norm1 (take at q) ≡ norm_of_sum at p q
norm_of_pair at p q h =
    ap (λ n. norm1 (take at p) + n) (sym (partner_norm at p q))
    ∙ sym (norm_agree (take at p) (take at (partner at p q)) (counts_parts at p (partner at p q) h).0)
    ∙ ap norm1 (sym (take-add at p (partner at p q)))

-- what a loop that turns the signs has not yet reached is as it was
pub unturned : (z now : Vector) (i : ℕ) (d : ℤ) → now ≡ opposite (take i z) ++ drop i z → i < length z →
    get_or now i d ≡ get_or z i d
unturned z now i d h low =
    ap (λ v. get_or v i d) h ∙ ap (λ n. get_or (opposite (take i z) ++ drop i z) n d) here
    ∙ get_or-append-add (opposite (take i z)) (drop i z) 0 d ∙ get_or-drop i z 0 d
    ∙ ap (λ n. get_or z n d) (omega arith)
  where
    here : i ≡ length (opposite (take i z)) + 0
    here = omega (arith, length-map (take i z) neg_ℤ, length-take-le i z, low)

-- ---- a member below z

pub reducible_as : (vs : List Vector) (v z : Vector) → Contains vs v → conforms v z ≡ true → IsReducible vs z
reducible_as vs v z c below = (v, inl c, below)

pub reducible_turned : (vs : List Vector) (v z : Vector) → Contains vs v → conforms (opposite v) z ≡ true →
    IsReducible vs z
reducible_turned vs v z c below = (opposite v, inr (subst (Contains vs) (sym (opposite-opposite v)) c), below)

pub not_below : (v z : Vector) → conforms v z ≡ false → conforms (opposite v) z ≡ false → lies_below v z ≡ false
not_below v z plain other = ap (λ t. t || conforms (opposite v) z) plain ∙ other
