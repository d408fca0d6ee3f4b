use Rattle.std.proofs.Common.{IsTrue, IfSome, ◌∙◌, sym, subst}
use Rattle.std.specs.Ordering.{is_le}
use Rattle.brick_phase.specs.Offers.{offer_cmp}
use Rattle.brick_phase.proofs.OrderLaws.{offer_total, le_itself, le_from_lt, le_from_not_lt}
use Rattle.brick_phase.proofs.offers.earlier.Goals as goal

pub returns-in_default-clause-first : goal.returns-in_default-clause-first
returns-in_default-clause-first c = le_itself offer_total c.args.offer

pub returns-then-precedes-clause-first : goal.returns-then-precedes-clause-first
returns-then-precedes-clause-first c = le_itself offer_total c.args.offer

pub returns-then-precedes-clause-best : goal.returns-then-precedes-clause-best
returns-then-precedes-clause-best c =
    subst (λ best. IfSome best (λ b. IsTrue (is_le (offer_cmp c.args.offer b)))) (sym c.in-Some.is)
    (le_from_lt (offer_cmp c.args.offer c.in-Some.best) (sym c.precedes.ensures ∙ c.if-precedes.true))

pub returns-else-precedes-clause-first : goal.returns-else-precedes-clause-first
returns-else-precedes-clause-first c =
    le_from_not_lt offer_total c.args.offer c.in-Some.best (sym c.precedes.ensures ∙ c.if-precedes.false)

pub returns-else-precedes-clause-best : goal.returns-else-precedes-clause-best
returns-else-precedes-clause-best c =
    subst (λ best. IfSome best (λ b. IsTrue (is_le (offer_cmp c.in-Some.best b)))) (sym c.in-Some.is)
    (le_itself offer_total c.in-Some.best)
