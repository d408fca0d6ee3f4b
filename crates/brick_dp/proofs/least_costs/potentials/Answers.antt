use Rattle.std.proofs.Common.{◌≡◌, ◌^◌, ◌≤◌, ◌+◌, ◌∙◌, pos, ap, sym, subst, length, All}
use Rattle.lattice_theory.specs.SignedSums.{vectors}
use Rattle.fold_theory.specs.Programs.{Program}
use Rattle.fold_program.specs.Refusals.{total_magnitude}
use Rattle.run_theory.specs.Certificates.{Table}
use Rattle.run_theory.specs.Outcomes.{ArePotentials}
use Rattle.layer_sieve.specs.Reaching.{AreAtMost}
use Rattle.sieve_laws.specs.Sieve.{Layer}
use Rattle.brick_dp.proofs.BestLaws.{zero_listed}
use Rattle.brick_dp.proofs.PotentialLaws.{all_sized, are_potentials, potentials_small}
use Rattle.brick_dp.proofs.least_costs.potentials.Goals as goal

pub layers-requires-clause-zero : goal.layers-requires-clause-zero
layers-requires-clause-zero c =
    zero_listed c.args.fold.now.sums _ c.args.fold.now.program.brick.cols c.zero.result c.sums.ensures.fold.widths
    c.sums.ensures.sums c.zero.ensures

pub returns-clause-potentials : goal.returns-clause-potentials
returns-clause-potentials c =
    let f = c.args.fold.now in
    subst (ArePotentials f.program f.phase (vectors f.sums) c.args.point.now) (sym c.new-3.ensures) (
    are_potentials f c.args.point.now c.in_ok-layers.layers c.len-2.result c.in_ok-layers.ensures.layers
    (c.len-2.ensures ∙ ap length c.sums-4.ensures.sums)
    )

pub returns-clause-small : goal.returns-clause-small
returns-clause-small c =
    let f = c.args.fold.now in
    subst (λ (t : Table). All (AreAtMost (2 ^ 122)) t.rows) (sym c.new-3.ensures) (
    potentials_small f c.args.point.now c.in_ok-layers.layers c.len-2.result c.in_ok-layers.ensures.layers
    (subst (λ (q : Program). total_magnitude q ≤ 2 ^ 120) c.program.ensures c.n-bricks.ensures.magnitude)
    )

pub new-requires-3-clause-width : goal.new-requires-3-clause-width
new-requires-3-clause-width c =
    let f = c.args.fold.now in
    let cols : c.len-2.result ≡ length f.sums = c.len-2.ensures ∙ ap length c.sums-4.ensures.sums in
    subst (λ n. All (λ (layer : Layer). length layer ≡ n) c.in_ok-layers.layers) (sym cols)
    (all_sized f c.args.point.now 0 (length f.program.bricks + 1) c.in_ok-layers.layers c.in_ok-layers.ensures.layers)

pub new-requires-3-clause-height : goal.new-requires-3-clause-height
new-requires-3-clause-height c =
    let f = c.args.fold.now in
    let bricks : c.n-bricks.result ≡ length f.program.bricks =
    c.n-bricks.ensures.bricks ∙ ap (λ (p : Program). length p.bricks) c.program.ensures in
    (c.in_ok-layers.ensures.layers (pos 0)).size ∙ ap (λ n. n + 1) (sym bricks)
