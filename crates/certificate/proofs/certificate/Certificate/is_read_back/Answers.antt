use Rattle.std.proofs.Common.{subst}
use Rattle.certificate.specs.Readable.{IsReadable}
use Rattle.certificate.proofs.RoundTrip.{parsed_certificate-text}
use Rattle.certificate.proofs.certificate.Certificate.is_read_back.Goals as goal

pub returns : goal.returns
returns c = parsed_certificate-text c.args.self.now (subst IsReadable c.self.view_is c.self.invariant)
