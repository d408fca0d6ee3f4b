use Rattle.augment_run.proofs.PlanLaws.{links_few}
use Rattle.augment_run.proofs.solving.plans.link_basis.Goals as goal

pub slack_basis-requires-clause-cols : goal.slack_basis-requires-clause-cols
slack_basis-requires-clause-cols c =
    links_few c.args.program.now c.args.settings c.requires.settled.0 c.args.bricks.now.elements c.args.links.now
    c.requires.limits
    c.requires.settled.1 c.requires.links
