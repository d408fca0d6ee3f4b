use Rattle.convex_costs.proofs.Bits.{two_terms_fit, three_terms_fit, quadratic_read}
use Rattle.convex_costs.proofs.quadratic.quadratic.Goals as goal

pub overflow_add-result : goal.overflow_add-result
overflow_add-result c =
    two_terms_fit c.args.a c.args.b c.args.c c.args.v c.ranges.a c.ranges.b c.ranges.c c.ranges.v c.requires.small

pub overflow_add-result-2 : goal.overflow_add-result-2
overflow_add-result-2 c =
    three_terms_fit c.args.a c.args.b c.args.c c.args.v c.ranges.a c.ranges.b c.ranges.c c.ranges.v c.requires.small

pub returns : goal.returns
returns c =
    quadratic_read c.args.a c.args.b c.args.c c.args.v c.ranges.a c.ranges.b c.ranges.c c.ranges.v c.requires.small
