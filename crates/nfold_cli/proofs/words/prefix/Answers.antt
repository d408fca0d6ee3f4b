use Rattle.std.proofs.Common.{◌≡◌, true, List, ℕ, Some, None, cond, ap, ◌∙◌, sym, Bor, arith}
use Rattle.std.specs.Option.{option_map}
use Rattle.nfold_cli.specs.Words as specs
use Rattle.nfold_cli.proofs.PrefixLaws.{prefix_is_utf8, read_as_text}
use Rattle.nfold_cli.proofs.words.prefix.Goals as goal

pub returns : goal.returns
returns c =
    let word = c.args.word.now in
    let is : specs.is_prefix word ≡ true = grind arith in
    ap (option_map (λ (s : Bor (List ℕ)). s.now)) c.ok.ensures.value
    ∙ read_as_text _ word c.from_utf8.result (prefix_is_utf8 word is) c.from_utf8.ensures.cases
    ∙ sym (ap (λ b. cond b (Some word) None) is)
