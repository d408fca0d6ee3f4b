use Rattle.std.proofs.Common.{◌≡◌, arith, rules, sym, ap, ◌∙◌, FitsSigned, ◌+ℤ◌, get_or, pos, ℕ, ◌<◌, to_z, of_z}
use Rattle.std.specs.Int.{w128}
use Rattle.std.proofs.lemmas.Int.{to_z-of_z}
use Rattle.std.proofs.lemmas.Option.{slice_get-get_or, slice_get_within}
use Rattle.lattice_theory.specs.SignedSums.{vectors}
use Rattle.lattice_laws.proofs.Places.{same_value}
use Rattle.sieve_laws.specs.declared.PricedMove.{PricedMove}
use Rattle.sieve_laws.specs.Sieve.{Goes}
use Rattle.layer_sieve.specs.declared.reaching.Reach.{Reach}
use Rattle.layer_sieve.proofs.ReachLaws.{sum_fits, choice_here, choice_later}
use Rattle.layer_sieve.proofs.choices.first_choice.Goals as goal

pub overflow_add-m : goal.overflow_add-m
overflow_add-m c =
    let m : PricedMove = get_or c.args.menu.now c.loop-m.m-index (record { place = 0; change = pos 0 }) in
    let change : FitsSigned w128 m.change = search rules in
    let rest : FitsSigned w128 c.in-Some.reached.rest = search rules in
    simp to_z-of_z (
    sum_fits m.change c.in-Some.reached.rest (c.requires.fair c.loop-m.m-index _
    (omega (arith, c.loop-m-test.true))).small
    (c.requires.small c.in-Some.reached.to c.in-Some.reached.rest c.in-Some.ensures.1)
    )

pub returns-then-m-reached : goal.returns-then-m-reached
returns-then-m-reached c =
    let m : PricedMove = get_or c.args.menu.now c.loop-m.m-index (record { place = 0; change = pos 0 }) in
    let change : FitsSigned w128 m.change = search rules in
    let rest : FitsSigned w128 c.in-Some.reached.rest = search rules in
    let cost : FitsSigned w128 c.args.cost = search rules in
    let sum : FitsSigned w128 (m.change +ℤ c.in-Some.reached.rest) =
    sum_fits m.change c.in-Some.reached.rest (c.requires.fair c.loop-m.m-index _
    (omega (arith, c.loop-m-test.true))).small
    (c.requires.small c.in-Some.reached.to c.in-Some.reached.rest c.in-Some.ensures.1) in
    let none : (i : ℕ) → i < c.loop-m.m-index →
    Goes (vectors c.args.targets.now) c.args.menu.now c.args.next.now c.args.from i c.args.cost → ⊥ =
    (λ i low. simp to_z-of_z at (c.loop-m.invariant i low)) in
    simp to_z-of_z (
    choice_here (vectors c.args.targets.now) c.requires.rising c.args.menu.now c.args.next.now c.args.from c.args.cost
    c.loop-m.m-index m c.in-Some.reached
    (slice_get-get_or c.args.menu.now c.loop-m.m-index _ c.loop-m-test.true) c.in-Some.ensures.0 c.in-Some.ensures.1
    (sym (simp to_z-of_z at (ap (to_z w128) c.if-m-reached.true))) none
    )

pub loop-m-preserved-in_default : goal.loop-m-preserved-in_default
loop-m-preserved-in_default c =
    let m : PricedMove = get_or c.args.menu.now c.loop-m.m-index (record { place = 0; change = pos 0 }) in
    let cost : FitsSigned w128 c.args.cost = search rules in
    let none : (i : ℕ) → i < c.loop-m.m-index →
    Goes (vectors c.args.targets.now) c.args.menu.now c.args.next.now c.args.from i c.args.cost → ⊥ =
    (λ i low. simp to_z-of_z at (c.loop-m.invariant i low)) in
    simp to_z-of_z (
    choice_later (vectors c.args.targets.now) c.requires.rising c.args.menu.now c.args.next.now c.args.from c.args.cost
    c.loop-m.m-index m c.reached_from.result
    (slice_get-get_or c.args.menu.now c.loop-m.m-index _ c.loop-m-test.true) c.reached_from.ensures (λ r e is.
    c.in_default.not-Some r e) none
    )

pub loop-m-preserved : goal.loop-m-preserved
loop-m-preserved c =
    let m : PricedMove = get_or c.args.menu.now c.loop-m.m-index (record { place = 0; change = pos 0 }) in
    let cost : FitsSigned w128 c.args.cost = search rules in
    let none : (i : ℕ) → i < c.loop-m.m-index →
    Goes (vectors c.args.targets.now) c.args.menu.now c.args.next.now c.args.from i c.args.cost → ⊥ =
    (λ i low. simp to_z-of_z at (c.loop-m.invariant i low)) in
    let change : FitsSigned w128 m.change = search rules in
    let rest : FitsSigned w128 c.in-Some.reached.rest = search rules in
    simp to_z-of_z (
    choice_later (vectors c.args.targets.now) c.requires.rising c.args.menu.now c.args.next.now c.args.from c.args.cost
    c.loop-m.m-index m c.reached_from.result
    (slice_get-get_or c.args.menu.now c.loop-m.m-index _ c.loop-m-test.true) c.reached_from.ensures
    (λ r e is.
    let same : r ≡ c.in-Some.reached = same_value c.reached_from.result r c.in-Some.reached e c.in-Some.is in
    let costs : m.change +ℤ c.in-Some.reached.rest ≡ c.args.cost =
    sym (is ∙ ap (λ (r : Reach). m.change +ℤ r.rest) same) in
    c.if-m-reached.false (simp to_z-of_z (ap (of_z w128) costs)))
    none
    )

pub returns : goal.returns
returns c = λ i goes.
    let low = slice_get_within c.args.menu.now i _ goes.there in
    let cost : FitsSigned w128 c.args.cost = search rules in
    let none : Goes (vectors c.args.targets.now) c.args.menu.now c.args.next.now c.args.from i c.args.cost → ⊥ =
    simp to_z-of_z at (c.loop-m.invariant i (omega (arith, low, c.loop-m-test.false))) in
    none goes
