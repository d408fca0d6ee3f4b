use Rattle.std.proofs.Common.{◌≡◌, ◌*◌, ◌/◌, ◌-◌, ◌+◌, arith, rules, FitsSigned}
use Rattle.std.specs.Int.{w128}
use Rattle.std.proofs.lemmas.Int.{to_z-of_z}
use Rattle.std.proofs.lemmas.Bool.{OnTrue_from, OnTrue_at}
use Rattle.lattice_theory.specs.SignedSums.{vectors}
use Rattle.sieve_laws.specs.Sieve.{live}
use Rattle.sieve_laws.proofs.Idle.{idle_above}
use Rattle.brick_dp.specs.Blocks.{AreIdleFrom}
use Rattle.brick_dp.proofs.filling.is_idle_block.Goals as goal

pub returns-in-Some-clause-idle : goal.returns-in-Some-clause-idle
returns-in-Some-clause-idle c =
    let limit : FitsSigned w128 c.args.limit = search rules in
    let told = simp to_z-of_z at c.all_idle.ensures.idle in
    let block : 16 * (c.args.brick / 16 - 1) + 16 ≡ c.args.brick =
    omega (arith, c.if-brick-ne0.false, c.if-brick-lt-BRICKS.false) in
    OnTrue_from c.all_idle.result (AreIdleFrom (vectors c.args.targets.now) (live c.args.limit c.args.layer.now)
    c.args.layer.now c.args.menus.now (c.args.brick - 16) c.args.brick) (λ e i menu high low there.
    idle_above (vectors c.args.targets.now) c.args.layer.now (live c.args.limit c.args.layer.now) c.in-Some.changes.now
    menu (OnTrue_at e told)
    (c.in-Some.ensures i menu (omega (arith, block, high)) (omega (arith, block, low)) there))

pub returns-in-Some-clause-tops : goal.returns-in-Some-clause-tops
returns-in-Some-clause-tops c =
    let limit : FitsSigned w128 c.args.limit = search rules in
    simp to_z-of_z at c.all_idle.ensures.tops
