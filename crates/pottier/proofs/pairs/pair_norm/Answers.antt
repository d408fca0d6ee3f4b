use Rattle.std.proofs.Common.{arith, length-take}
use Rattle.pottier.proofs.PairLaws.{norm_of_narrow, norm_of_pair}
use Rattle.pottier.proofs.pairs.pair_norm.Goals as goal

pub overflow_add-result : goal.overflow_add-result
overflow_add-result c =
    omega (
      arith,
      c.norm1.ensures,
      c.norm1-2.ensures,
      norm_of_narrow c.args.at c.args.p.now c.requires.narrow,
      norm_of_narrow c.args.at c.args.q.now c.requires.narrower,
      length-take c.args.at c.args.p.now,
      length-take c.args.at c.args.q.now,
    )

pub overflow_cast-result : goal.overflow_cast-result
overflow_cast-result c =
    omega (
      arith,
      c.norm1.ensures,
      c.norm1-2.ensures,
      norm_of_narrow c.args.at c.args.p.now c.requires.narrow,
      norm_of_narrow c.args.at c.args.q.now c.requires.narrower,
      length-take c.args.at c.args.p.now,
      length-take c.args.at c.args.q.now,
    )

pub returns : goal.returns
returns c = record {
  norm = λ h. omega (
    arith,
    c.norm1.ensures,
    c.norm1-2.ensures,
    norm_of_pair c.args.at c.args.p.now c.args.q.now h,
  );
}
