use Rattle.sum_laws.proofs.FoldLaws.{sums_wide, sums_small, sums_low}
use Rattle.sum_laws.proofs.brick_sums_make_a_fold.Goals as goal

pub returns-clause-widths : goal.returns-clause-widths
returns-clause-widths c = λ p phase b sums bases are. sums_wide p b bases phase sums are

pub returns-clause-images : goal.returns-clause-images
returns-clause-images c = λ p phase b sums bases are narrow few. sums_small p b bases phase sums are narrow few

pub returns-clause-entries : goal.returns-clause-entries
returns-clause-entries c = λ p phase b sums bases are narrow few. sums_low p b bases phase sums are narrow few
