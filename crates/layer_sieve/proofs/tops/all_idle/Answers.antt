use Rattle.std.proofs.Common.{◌≡◌, arith, rules, FitsSigned, sym, subst}
use Rattle.std.specs.Int.{w128}
use Rattle.std.proofs.lemmas.Int.{to_z-of_z}
use Rattle.std.proofs.lemmas.Bool.{OnTrue_at}
use Rattle.lattice_theory.specs.SignedSums.{vectors}
use Rattle.lattice_laws.proofs.Places.{same_value}
use Rattle.sieve_laws.specs.Sieve.{IsIdle, AreTops, live}
use Rattle.sieve_laws.proofs.Idle.{AreIdleUpTo, idle_none, idle_more, idle_all}
use Rattle.layer_sieve.proofs.ReachLaws.{size_vectors}
use Rattle.layer_sieve.proofs.tops.all_idle.Goals as goal
use Rattle.layer_sieve.proofs.tops.all_idle.Goals.{in-Some+else-not-is_idle, in_default}

pub loop-place-init : goal.loop-place-init
loop-place-init c =
    let limit : FitsSigned w128 c.args.limit = search rules in
    simp to_z-of_z (record {
      idle = idle_none (vectors c.args.targets.now) (live c.args.limit c.args.next.now) c.args.next.now
          c.args.changes.now;
      tops = c.requires.tops;
    })

pub returns-then-not-is_idle-clause-tops : goal.returns-then-not-is_idle-clause-tops
returns-then-not-is_idle-clause-tops c =
    let limit : FitsSigned w128 c.args.limit = search rules in
    simp to_z-of_z at c.is_idle.ensures.tops

pub loop-place-preserved : goal.loop-place-preserved
loop-place-preserved c =
    let limit : FitsSigned w128 c.args.limit = search rules in
    let zs = vectors c.args.targets.now in
    let from = live c.args.limit c.args.next.now in
    let so_far : AreIdleUpTo zs from c.args.next.now c.args.changes.now c.loop-place.place =
    simp to_z-of_z at c.loop-place.invariant.idle in
    elim c.match-change_at.branch [
      | in-Some+else-not-is_idle w ↦
          let fits : FitsSigned w128 w.in-Some.change = search rules in
          let told = OnTrue_at w.if-not-is_idle.false (simp to_z-of_z at w.is_idle.ensures.idle) in
          simp to_z-of_z (record {
            idle = idle_more zs from c.args.next.now c.args.changes.now c.loop-place.place (λ change there.
                let same : w.in-Some.change ≡ change =
                same_value c.change_at.result w.in-Some.change change w.in-Some.is (c.change_at.ensures change there) in
                subst (λ a. IsIdle zs from c.args.next.now (record { place = c.loop-place.place; change = a }))
                same told) so_far;
            tops = subst (AreTops zs from c.args.next.now) (sym w.tops-is)
                (simp to_z-of_z at w.is_idle.ensures.tops);
          })
      | in_default w ↦
          simp to_z-of_z (record {
            idle = idle_more zs from c.args.next.now c.args.changes.now c.loop-place.place (λ change there.
                absurd (w.in_default.not-Some change (c.change_at.ensures change there))) so_far;
            tops = subst (AreTops zs from c.args.next.now) (sym w.tops-is)
                (simp to_z-of_z at c.loop-place.invariant.tops);
          })
    ]

pub returns-clause-idle : goal.returns-clause-idle
returns-clause-idle c =
    let limit : FitsSigned w128 c.args.limit = search rules in
    idle_all (vectors c.args.targets.now) (live c.args.limit c.args.next.now) c.args.next.now c.args.changes.now
    c.loop-place.place
    (omega (arith, c.loop-place-test.false, c.len-place-end.ensures.count, size_vectors c.args.targets.now))
    (simp to_z-of_z at c.loop-place.invariant.idle)

pub returns-clause-tops : goal.returns-clause-tops
returns-clause-tops c =
    let limit : FitsSigned w128 c.args.limit = search rules in
    simp to_z-of_z at c.loop-place.invariant.tops
