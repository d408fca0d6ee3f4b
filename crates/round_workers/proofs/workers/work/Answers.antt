use Rattle.std.proofs.Common.{ap, sym, subst, ◌∙◌, refl}
use Rattle.round_core.specs.declared.parts.Fate.TheVariants.{Open}
use Rattle.board_laws.specs.declared.views.View.{View}
use Rattle.board_laws.specs.Views.{HasFate}
use Rattle.round_workers.specs.Workers.{ceiling}
use Rattle.round_workers.proofs.Steps.{claimed_has, tried_keeps, tried_same, tried_ceiling, ceiling_below, nearer}
use Rattle.round_workers.proofs.Steps.{finished_keeps}
use Rattle.round_workers.proofs.workers.work.Goals as goal

pub tried-requires-clause-fate : goal.tried-requires-clause-fate
tried-requires-clause-fate g c _ _ =
    subst (λ (u : View). HasFate c.in-Some.k Open u.owned) (sym c.in-Some.ensures.claimed)
    (claimed_has c.loop-k.worker.held.view c.in-Some.k)

pub tried-requires-clause-best : goal.tried-requires-clause-best
tried-requires-clause-best g c _ _ =
    λ known. c.loop-k.invariant.6 (sym c.in-Some.ensures.at_best ∙ known)

pub loop-k-smaller : goal.loop-k-smaller
loop-k-smaller g c =
    let claimed = c.in-Some.ensures in
    let r = tried_ceiling c.args.task.now.fold.now c.args.task.now.point.now c.in-Some.k c.loop-k.worker
    c.claimed.new.worker c.in_ok-worker.worker c.loop-k.invariant.2 claimed.claimed claimed.steps
    c.in_ok-worker.ensures in
    nearer _ c.in-Some.k (ceiling c.loop-k.worker.held.view.owned) (ceiling c.in_ok-worker.worker.held.view.owned)
    claimed.length (ceiling_below c.in-Some.k c.loop-k.worker.held.view.owned claimed.rising) r

pub loop-k-preserved : goal.loop-k-preserved
loop-k-preserved g c =
    let f = c.args.task.now.fold.now in
    let x = c.args.task.now.point.now in
    let k = c.in-Some.k in
    let w = c.loop-k.worker in
    let d = c.claimed.new.worker in
    let r = c.in_ok-worker.worker in
    let before = c.loop-k.invariant in
    let claimed = c.in-Some.ensures in
    let tried = c.in_ok-worker.ensures in (
      tried.of ∙ claimed.table ∙ before.0,
      tried_same f x k w d r before.2 claimed.claimed claimed.steps tried (λ (v : View). v.stand) (λ v fate i. refl)
          ∙ before.1,
      tried_keeps f x k w d r before.2 claimed.claimed claimed.steps tried,
      tried_same f x k w d r before.2 claimed.claimed claimed.steps tried (λ (v : View). v.number) (λ v fate i. refl)
          ∙ before.3,
      tried_same f x k w d r before.2 claimed.claimed claimed.steps tried (λ (v : View). v.joined) (λ v fate i. refl)
          ∙ before.4,
      tried_same f x k w d r before.2 claimed.claimed claimed.steps tried (λ (v : View). v.made) (λ v fate i. refl)
          ∙ before.5,
      tried.best,
    )

pub returns : goal.returns
returns g c =
    let f = c.args.task.now.fold.now in
    let x = c.args.task.now.point.now in
    let last = c.in_default.ensures in record {
      of = last.table ∙ c.loop-k.invariant.0;
      finished = ap (λ (v : View). v.stand) last.past;
      keeps = finished_keeps f x c.loop-k.worker c.claimed.new.worker c.loop-k.invariant.2 last.past last.steps;
      number = ap (λ (v : View). v.number) last.past ∙ c.loop-k.invariant.3;
      joined = ap (λ (v : View). v.joined) last.past ∙ c.loop-k.invariant.4;
      made = ap (λ (v : View). v.made) last.past ∙ c.loop-k.invariant.5;
    }
