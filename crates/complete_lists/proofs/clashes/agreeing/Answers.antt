use Rattle.std.proofs.Common.{◌∙◌, sym}
use Rattle.int_vectors.specs.Signs.{are_apart}
use Rattle.complete_lists.proofs.PlaceLaws.{agree-apart}
use Rattle.complete_lists.proofs.clashes.agreeing.Goals as goal

pub returns-then-are_apart-clause-agree : goal.returns-then-are_apart-clause-agree
returns-then-are_apart-clause-agree c =
    λ f g same own other.
    agree-apart c.args.places f g same
    (sym (λ i. are_apart (own i) (other i)) ∙ sym c.are_apart.ensures ∙ c.if-are_apart.true)
