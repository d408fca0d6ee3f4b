use Rattle.std.proofs.Common.{arith, ◌≤◌, ◌+◌, ◌∙◌, sym, ap, length, length-take}
use Rattle.std.specs.List.{list_any}
use Rattle.lattice_theory.specs.Vectors.{add}
use Rattle.criterion_laws.specs.Prefixes.{is_below_in}
use Rattle.complete_lists.specs.Searches.{Search}
use Rattle.complete_lists.proofs.ClashLaws.{length-sum, prefix-any, settles-behind}
use Rattle.complete_lists.proofs.clashes.Settlers.clash_settles.Goals as goal

pub first_clash-requires-clause-same : goal.first_clash-requires-clause-same
first_clash-requires-clause-same c = c.requires.first.width ∙ sym c.requires.second.width

pub has_below-requires-clause-behind : goal.has_below-requires-clause-behind
has_below-requires-clause-behind c =
    let f = c.args.f.now in
    let g = c.args.g.now in
    let cols = ap (λ (s : Search). s.cols) c.self.view_is in
    omega (
      arith,
      ap length (c.deref.ensures.value ∙ c.in_ok-sum.ensures),
      length-take (c.in-Some.at + 1) (add f g),
      length-sum f g (c.requires.first.width ∙ sym c.requires.second.width),
      c.in-Some.ensures.inside,
      c.if-at-self.false,
      cols,
    )

pub has_below-requires-clause-within : goal.has_below-requires-clause-within
has_below-requires-clause-within c =
    omega (
      arith,
      ap length (c.deref.ensures.value ∙ c.in_ok-sum.ensures),
      length-take (c.in-Some.at + 1) (add c.args.f.now c.args.g.now),
      c.in-Some.ensures.inside,
      c.requires.first.width,
    )

pub returns : goal.returns
returns c =
    let f = c.args.f.now in
    let g = c.args.g.now in
    let at = c.in-Some.at in
    let rows = c.args.self.now.basis.rows in
    let z = c.deref.ensures.value ∙ c.in_ok-sum.ensures in
    let same = c.requires.first.width ∙ sym c.requires.second.width in
    let size : at + 1 ≤ length (add f g) = omega (arith, length-sum f g same, c.in-Some.ensures.inside) in
    let cols = ap (λ (s : Search). s.cols) c.self.view_is in
    c.has_below.ensures ∙ (λ i. list_any (is_below_in (length (z i)) (z i)) rows)
    ∙ prefix-any (at + 1) (add f g) rows size
    ∙ sym (settles-behind c.args.self.now.cols rows f g at (sym c.in-Some.ensures.first)
    (omega (arith, c.if-at-self.false, cols)))
