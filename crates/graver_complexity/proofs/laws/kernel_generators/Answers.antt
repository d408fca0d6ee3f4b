use Rattle.graver_complexity.proofs.KernelLaws.{kernel-AreGenerators}
use Rattle.graver_complexity.proofs.laws.kernel_generators.Goals as goal

pub returns : goal.returns
returns c = kernel-AreGenerators
