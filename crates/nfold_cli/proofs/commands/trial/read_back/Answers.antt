use Rattle.std.proofs.Common.{sym, ap, ◌∙◌}
use Rattle.certificate.specs.CertificateText.{parsed_certificate}
use Rattle.nfold_cli.proofs.SolvedLaws.{same_value}
use Rattle.nfold_cli.proofs.commands.trial.read_back.Goals as goal

pub returns-in-Ok : goal.returns-in-Ok
returns-in-Ok c =
    same_value c.in-Ok.certificate c.args.certificate.now
    (sym c.in-Ok.ensures ∙ ap parsed_certificate c.deref.ensures.value ∙ c.in_ok-text.ensures.back)
