-- Laws of total orders, and the order of offers as one.
use Rattle.std.proofs.Common.{◌≡◌, true, false, refl, sym, subst, IsTrue}
use Rattle.std.specs.Ordering.{is_le, is_lt, is_gt, ordering_reverse}
use Rattle.std.specs.Cmp.{IsTotalOrder}
use Rattle.std.specs.declared.cmp.Ordering.{Ordering}
use Rattle.std.specs.declared.cmp.Ordering.TheVariants.{Less, Equal, Greater}
use Rattle.std.proofs.lemmas.Cmp.{tied_itself, upto, on_total, then_total, nat_cmp_total}
use Rattle.lattice_laws.proofs.Rising.{lex_total}
use Rattle.brick_phase.specs.declared.offers.Offer.{Offer}
use Rattle.brick_phase.specs.Offers.{offer_cmp}

not_greater : (o : Ordering) → IsTrue (is_le o) → is_gt o ≡ false
not_greater Less le = refl
not_greater Equal le = refl
not_greater Greater le = absurd (cc)

up_to : (o : Ordering) → is_gt o ≡ false → IsTrue (is_le o)
up_to Less at_most = refl
up_to Equal at_most = refl
up_to Greater at_most = absurd (cc)

-- what is less is at most
pub le_from_lt : (o : Ordering) → is_lt o ≡ true → IsTrue (is_le o)
le_from_lt Less less = refl
le_from_lt Equal less = absurd (cc)
le_from_lt Greater less = absurd (cc)

le_from_back : (o : Ordering) → is_lt o ≡ false → IsTrue (is_le (ordering_reverse o))
le_from_back Less not_less = absurd (cc)
le_from_back Equal not_less = refl
le_from_back Greater not_less = refl

module _ {K : Type 0} {R : K → K → Ordering} (total : IsTotalOrder R) where
  pub le_itself : (x : K) → IsTrue (is_le (R x x))
  le_itself x = subst (λ o. IsTrue (is_le o)) (sym (tied_itself total x)) refl

  pub le_trans : (x y z : K) → IsTrue (is_le (R x y)) → IsTrue (is_le (R y z)) → IsTrue (is_le (R x z))
  le_trans x y z first second = up_to (R x z) (upto total x y z (not_greater (R x y) first)
      (not_greater (R y z) second))

  -- what is not less is at least
  pub le_from_not_lt : (x y : K) → is_lt (R x y) ≡ false → IsTrue (is_le (R y x))
  le_from_not_lt x y not_less = subst (λ o. IsTrue (is_le o)) (sym (total.antisymm y x)) (le_from_back (R x y) not_less)

pub offer_total : IsTotalOrder offer_cmp
offer_total =
    then_total (on_total (λ (o : Offer). o.place.residual) nat_cmp_total)
    (then_total (on_total (λ (o : Offer). o.step.k) nat_cmp_total) (on_total (λ (o : Offer). o.step.vector) lex_total))
