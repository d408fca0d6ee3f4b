use Rattle.std.proofs.Common.{arith}
use Rattle.incumbent.proofs.Offering.{index_small, key_found}
use Rattle.incumbent.proofs.board.Board.load_key.Goals as goal

pub overflow_cast-k : goal.overflow_cast-k
overflow_cast-k g c =
    let few = c.self.invariant.1 in
    let all = c.self.invariant.0 in
    let small = index_small g.N.Gains.gains c.args.index c.requires.index in
    omega arith

pub returns-clause-key : goal.returns-clause-key
returns-clause-key g c =
    key_found g.N.Gains.gains c.args.index _ _ c.if-index-eq0.false c.requires.index
    c.step_load_high-high.ensures.half c.step_load_low-low.ensures.half
