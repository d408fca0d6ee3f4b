use Rattle.std.proofs.Common.{◌≡◌, ◌∙◌, ap, ◌++◌, ◌∷◌, [], arith, rules}
use Rattle.sieve_laws.specs.Sieve.{Layer}
use Rattle.layer_sieve.proofs.KeptLaws.{pushed}
use Rattle.layer_sieve.proofs.layers.Layers.push.Goals as goal

pub returns : goal.returns
returns c =
    let copied : c.in_ok-to_vec.field-0.items ≡ c.args.layer.now = search rules in
    (pushed c.self.inside.rows.items c.push.new.self.items c.self.inside.places.items c.push-2.new.self.items
    c.in_ok-to_vec.field-0 c.len-place.result
    c.in_ok-push.ensures.items c.in_ok-push-2.ensures.items
    (omega (arith, c.len-place.ensures, c.self.inside.rows.ok.0)) c.self.invariant).1
    ∙ ap (λ ls. ls ++ c.in_ok-to_vec.field-0.items ∷ []) c.self.view_is
    ∙ ap (λ (l : Layer). c.args.self.now ++ l ∷ []) copied
