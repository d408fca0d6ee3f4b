-- Laws of the sign with which the second vector of a pair is taken.
use Rattle.std.proofs.Common.{◌≡◌, ℕ, suc, zero, ◌<◌, ℤ, pos, negsuc, neg_ℤ, unsigned_abs, ◌^◌, Bool, true, false, not}
use Rattle.std.proofs.Common.{◌&&◌, cond, take, length, refl, ap, arith, sym, ◌∙◌, Contains, List, [], ◌∷◌, ◌⊎◌, inl}
use Rattle.std.proofs.Common.{inr, subst}
use Rattle.std.specs.List.{All}
use Rattle.std.proofs.lemmas.Int.{ints}
use Rattle.std.proofs.lemmas.List.Elements.{All-weaker}
use Rattle.std.proofs.lemmas.Bool.Decides.{nat_tests}
use Rattle.lattice_theory.specs.Vectors.{Vector, norm1, opposite}
use Rattle.lattice_theory.specs.BasisLimits.{IsNarrow}
use Rattle.lattice_laws.proofs.Signs.{agrees}
use Rattle.lattice_laws.proofs.Conformal.{agree, length-opposite, entry-opposite, opposite-opposite, opposite-take}
use Rattle.lattice_laws.proofs.Conformal.{norm-opposite}
use Rattle.lattice_laws.proofs.SlackBases.{IsSigned}
use Rattle.lattice_laws.proofs.Completion.{counts, counts_parts, new_entry}
use Rattle.lattice_laws.proofs.Narrow.{narrow-opposite}
use Rattle.pottier.specs.Partners.{partner, pair_counts, agrees_turned, agree_turned}

-- ---- vectors with their signs turned

pub narrow_small : (v : Vector) → IsNarrow v → All (λ a. unsigned_abs a < 2 ^ 62) v
narrow_small v h = All-weaker (λ a. unsigned_abs a < 2 ^ 31) (λ a. unsigned_abs a < 2 ^ 62) (λ a k. omega arith) v h

-- ---- two numbers, the second with its sign turned

-- a number that clashes with the opposite of another agrees with that
turned_clash : (x y : ℤ) → agrees x (neg_ℤ y) ≡ false → agrees x y ≡ true
turned_clash (pos a) (pos b) h = grind (arith, nat_tests, ints)
turned_clash (pos zero) (negsuc b) h = grind (arith, nat_tests, ints)
turned_clash (pos (suc a)) (negsuc b) h = grind (arith, nat_tests, ints)
turned_clash (negsuc a) (pos zero) h = grind (arith, nat_tests, ints)
turned_clash (negsuc a) (pos (suc b)) h = grind (arith, nat_tests, ints)
turned_clash (negsuc a) (negsuc b) h = grind (arith, nat_tests, ints)

-- ---- the partner

-- a pair counts with no other sign
pub partner_is : (at : ℕ) (p q w : Vector) → (w ≡ q) ⊎ (w ≡ opposite q) → counts at p w ≡ true → w ≡ partner at p q
partner_is at p q w (inl e) h =
    let clash : agrees (new_entry at p) (new_entry at q) ≡ false =
    ap (λ v. agrees (new_entry at p) (new_entry at v)) (sym e) ∙ (counts_parts at p w h).1 in
    e ∙ sym (ap (λ b. cond b (opposite q) q) clash)
partner_is at p q w (inr e) h =
    let clash : agrees (new_entry at p) (neg_ℤ (new_entry at q)) ≡ false =
    ap (agrees (new_entry at p)) (sym (entry-opposite at q))
    ∙ ap (λ v. agrees (new_entry at p) (new_entry at v)) (sym e) ∙ (counts_parts at p w h).1 in
    e ∙ sym (ap (λ b. cond b (opposite q) q) (turned_clash (new_entry at p) (new_entry at q) clash))

pub partner_either : (at : ℕ) (p q : Vector) → (partner at p q ≡ q) ⊎ (partner at p q ≡ opposite q)
partner_either at p q = by (agrees (new_entry at p) (new_entry at q))
  where
    by : (b : Bool) → (cond b (opposite q) q ≡ q) ⊎ (cond b (opposite q) q ≡ opposite q)
    by true = inr refl
    by false = inl refl

pub partner_signed : (at : ℕ) (vs : List Vector) (p q : Vector) → Contains vs q → IsSigned vs (partner at p q)
partner_signed at vs p q c = elim (partner_either at p q) [
  | inl e ↦ inl (subst (Contains vs) (sym e) c)
  | inr e ↦ inr (subst (Contains vs) (sym (ap opposite e ∙ opposite-opposite q)) c)
]

pub partner_fits : (at size : ℕ) (p q : Vector) → (length q ≡ size) × IsNarrow q → (length (partner at p q) ≡ size)
    × IsNarrow (partner at p q)
partner_fits at size p q h = elim (partner_either at p q) [
  | inl e ↦ subst (λ v. (length v ≡ size) × IsNarrow v) (sym e) h
  | inr e ↦ subst (λ v. (length v ≡ size) × IsNarrow v) (sym e) (length-opposite q ∙ h.0, narrow-opposite q h.1)
]

pub partner_norm : (at : ℕ) (p q : Vector) → norm1 (take at (partner at p q)) ≡ norm1 (take at q)
partner_norm at p q = elim (partner_either at p q) [
  | inl e ↦ ap (λ v. norm1 (take at v)) e
  | inr e ↦ ap (λ v. norm1 (take at v)) e ∙ ap norm1 (sym (opposite-take at q)) ∙ norm-opposite (take at q)
]

-- ---- when a pair counts

pub turned_agree : (u v : Vector) → agree_turned u v ≡ agree u (opposite v)
turned_agree [] [] = refl
turned_agree [] (b ∷ v) = refl
turned_agree (a ∷ u) [] = refl
turned_agree (a ∷ u) (b ∷ v) = ap (λ t. agrees a (neg_ℤ b) && t) (turned_agree u v)

and_comm : (s t : Bool) → (s && t) ≡ (t && s)
and_comm true true = refl
and_comm true false = refl
and_comm false true = refl
and_comm false false = refl

and_all : (s t : Bool) → t ≡ false → (s && not t) ≡ s
and_all true t e = ap not e
and_all false t e = refl

-- where the new entries clash, the second vector is taken as it is
pub plain_counts : (at : ℕ) (p q : Vector) → agrees (new_entry at p) (new_entry at q) ≡ false →
    pair_counts at p q ≡ agree (take at p) (take at q)
plain_counts at p q h =
    let is : partner at p q ≡ q = ap (λ b. cond b (opposite q) q) h in
    ap (counts at p) is ∙ and_all (agree (take at p) (take at q)) (agrees (new_entry at p) (new_entry at q)) h

-- where they agree, it is turned
pub turned_counts : (at : ℕ) (p q : Vector) → agrees (new_entry at p) (new_entry at q) ≡ true →
    pair_counts at p q ≡ (not (agrees_turned (new_entry at p) (new_entry at q)) && agree_turned (take at p) (take at q))
turned_counts at p q h =
    let is : partner at p q ≡ opposite q = ap (λ b. cond b (opposite q) q) h in
    ap (counts at p) is ∙ ap (λ y. agree (take at p) (take at (opposite q)) && not (agrees (new_entry at p) y))
    (entry-opposite at q)
    ∙ ap (λ v. agree (take at p) v && not (agrees_turned (new_entry at p) (new_entry at q))) (sym (opposite-take at q))
    ∙ ap (λ b. b && not (agrees_turned (new_entry at p) (new_entry at q))) (sym (turned_agree (take at p) (take at q)))
    ∙ and_comm (agree_turned (take at p) (take at q)) (not (agrees_turned (new_entry at p) (new_entry at q)))

-- the two tests together
pub counts_by : (at : ℕ) (p q : Vector) (same turned : Bool) → same ≡ agrees (new_entry at p) (new_entry at q) →
    turned ≡ agrees_turned (new_entry at p) (new_entry at q) → same ≡ true →
    pair_counts at p q ≡ (not turned && agree_turned (take at p) (take at q))
counts_by at p q same turned e f h = turned_counts at p q (sym e ∙ h)
    ∙ ap (λ b. not b && agree_turned (take at p) (take at q)) (sym f)
