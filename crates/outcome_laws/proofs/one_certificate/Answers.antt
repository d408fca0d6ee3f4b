use Rattle.outcome_laws.proofs.OneCertificate.{certificate_unique}
use Rattle.outcome_laws.proofs.one_certificate.Goals as goal

pub returns : goal.returns
returns c = λ p o first second program outcome left right. certificate_unique p o first second left right
