use Rattle.std.proofs.Common.{rules, ◌≡◌, ◌∙◌, ◌&&◌, not, ap, sym, take}
use Rattle.lattice_laws.proofs.Signs.{agrees}
use Rattle.lattice_laws.proofs.Completion.{new_entry}
use Rattle.pottier.specs.Partners.{agrees_turned, agree_turned}
use Rattle.pottier.proofs.PartnerLaws.{counts_by}
use Rattle.pottier.proofs.pairs.counts.Goals as goal

pub returns-then-not-agrees_turned : goal.returns-then-not-agrees_turned
returns-then-not-agrees_turned c =
    let p = c.args.p.now in
    let q = c.args.q.now in
    let same : c.agrees.result ≡ agrees (new_entry c.args.at p) (new_entry c.args.at q) = search rules in
    let turned : c.agrees_turned.result ≡ agrees_turned (new_entry c.args.at p) (new_entry c.args.at q) =
    search rules in
    c.agree_turned.ensures
    ∙ sym (counts_by c.args.at p q c.agrees.result c.agrees_turned.result same turned c.if-agrees.true
    ∙ ap (λ b. not b && agree_turned (take c.args.at p) (take c.args.at q)) c.if-not-agrees_turned.true)

pub returns-else-not-agrees_turned : goal.returns-else-not-agrees_turned
returns-else-not-agrees_turned c =
    let p = c.args.p.now in
    let q = c.args.q.now in
    let same : c.agrees.result ≡ agrees (new_entry c.args.at p) (new_entry c.args.at q) = search rules in
    let turned : c.agrees_turned.result ≡ agrees_turned (new_entry c.args.at p) (new_entry c.args.at q) =
    search rules in
    ap not c.if-not-agrees_turned.false
    ∙ sym (counts_by c.args.at p q c.agrees.result c.agrees_turned.result same turned c.if-agrees.true
    ∙ ap (λ b. not b && agree_turned (take c.args.at p) (take c.args.at q)) c.if-not-agrees_turned.false)
