use Rattle.round_workers.proofs.TableLaws.{closed_fold}
use Rattle.round_workers.proofs.tests.closed_sums.Goals as goal

pub returns-clause-sums : goal.returns-clause-sums
returns-clause-sums c =
    let bricks = c.in_ok-bricks.ensures in
    let links = c.in_ok-links.ensures in
    (closed_fold c.args.program.now c.brick.result.now c.in_ok-bricks.bricks.matrix c.in_ok-bricks.bricks.elements
    c.in_ok-kernel.kernel c.link.result.now c.in_ok-links.links c.in_ok-basis.basis.elements c.relations-2.result.now
    c.complexity-bound.result c.in_ok-sums.field-0 c.brick.ensures.brick bricks.matrix bricks.basis.slack
    c.in_ok-kernel.ensures.rows c.in_ok-kernel.ensures.width c.link.ensures.link links.links links.small
    c.in_ok-basis.ensures.basis.slack c.relations-2.ensures.relations c.complexity-bound.ensures.complexity
    c.in_ok-sums.ensures.sums c.in_ok-sums.ensures.few).has

pub returns-clause-widths : goal.returns-clause-widths
returns-clause-widths c =
    let bricks = c.in_ok-bricks.ensures in
    let links = c.in_ok-links.ensures in
    (closed_fold c.args.program.now c.brick.result.now c.in_ok-bricks.bricks.matrix c.in_ok-bricks.bricks.elements
    c.in_ok-kernel.kernel c.link.result.now c.in_ok-links.links c.in_ok-basis.basis.elements c.relations-2.result.now
    c.complexity-bound.result c.in_ok-sums.field-0 c.brick.ensures.brick bricks.matrix bricks.basis.slack
    c.in_ok-kernel.ensures.rows c.in_ok-kernel.ensures.width c.link.ensures.link links.links links.small
    c.in_ok-basis.ensures.basis.slack c.relations-2.ensures.relations c.complexity-bound.ensures.complexity
    c.in_ok-sums.ensures.sums c.in_ok-sums.ensures.few).wide

pub returns-clause-images : goal.returns-clause-images
returns-clause-images c =
    let bricks = c.in_ok-bricks.ensures in
    let links = c.in_ok-links.ensures in
    (closed_fold c.args.program.now c.brick.result.now c.in_ok-bricks.bricks.matrix c.in_ok-bricks.bricks.elements
    c.in_ok-kernel.kernel c.link.result.now c.in_ok-links.links c.in_ok-basis.basis.elements c.relations-2.result.now
    c.complexity-bound.result c.in_ok-sums.field-0 c.brick.ensures.brick bricks.matrix bricks.basis.slack
    c.in_ok-kernel.ensures.rows c.in_ok-kernel.ensures.width c.link.ensures.link links.links links.small
    c.in_ok-basis.ensures.basis.slack c.relations-2.ensures.relations c.complexity-bound.ensures.complexity
    c.in_ok-sums.ensures.sums c.in_ok-sums.ensures.few).small
