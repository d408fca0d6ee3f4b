use Rattle.std.proofs.Common.{◌≡◌, ◌∙◌, false, sym}
use Rattle.int_vectors.specs.Signs as words
use Rattle.int_vectors.proofs.SignLaws.{apart}
use Rattle.pottier.proofs.below.lies_below.Goals as goal

pub returns-else-fits : goal.returns-else-fits
returns-else-fits c =
    let none : words.fits (words.signs_of c.args.member.now) (words.signs_of c.args.z.now) ≡ false =
    (λ i. words.fits (sym c.requires.signs i) (sym c.requires.others i)) ∙ sym c.fits.ensures ∙ c.if-fits.false in
    c.if-fits.false ∙ sym (apart c.args.member.now c.args.z.now none)
