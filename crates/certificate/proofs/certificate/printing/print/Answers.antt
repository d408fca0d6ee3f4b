use Rattle.std.proofs.Common.{◌≡◌, ap, ◌∙◌, arith}
use Rattle.std.proofs.lemmas.Grind.{common_steps}
use Rattle.certificate.specs.CertificateText.{certificate_text, parsed_certificate}
use Rattle.certificate.proofs.certificate.printing.print.Goals as goal

pub returns-clause-back : goal.returns-clause-back
returns-clause-back c =
    let text : c.extend_from_slice-6.new.self.items ≡ certificate_text c.args.c.now = grind (arith, common_steps) in
    ap parsed_certificate text ∙ c.is_read_back.ensures
