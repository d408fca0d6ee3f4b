use Rattle.std.proofs.Common.{◌≡◌, Some, None, sym, ap, ◌∙◌, map, arith}
use Rattle.nfold_cli.specs.Words.{with_flag, with_number, options_in}
use Rattle.nfold_cli.proofs.WordLaws.{rest_whole, flag_first, value_first}
use Rattle.nfold_cli.proofs.words.+options_in.Goals as goal

pub returns-in-Some-clause-options : goal.returns-in-Some-clause-options
returns-in-Some-clause-options t c =
    let options = c.args.options in
    let more = c.in-Some.options in
    let word = c.word-item-2.result in
    let flag : with_flag options word.items ≡ Some more =
    ap (with_flag options) (sym c.deref-in-len2-up.ensures.value) ∙ sym c.in-Some.ensures.options in
    flag_first (λ w. w.items) options more c.args.words.now word c.options_in.result (omega arith) c.word-item-2.is flag
    (c.options_in.ensures.options ∙ ap (λ ws. options_in more (map (λ w. w.items) ws))
    (rest_whole (λ w. w.items) 1 c.args.words.now))

pub returns-in_ok-with_number-in-None-clause-options :
    goal.returns-in_ok-with_number-in-None-clause-options
returns-in_ok-with_number-in-None-clause-options t c =
    let options = c.args.options in
    let more = c.in_ok-with_number-in-None.field-0 in
    let word = c.word-item-2.result in
    let value = c.value-item.result in
    let flag : with_flag options word.items ≡ None =
    ap (with_flag options) (sym c.deref-in-len2-up.ensures.value) ∙ sym c.in-None.ensures.options in
    let number : with_number options word.items value.items ≡ Some more =
    ap (λ w. with_number options w value.items) (sym c.deref-in-None.ensures.value)
    ∙ ap (with_number options c.deref-in-None.result.now) (sym c.deref-in-None-2.ensures.value)
    ∙ sym c.with_number.ensures.options ∙ c.in_ok-with_number-in-None.was in
    value_first (λ w. w.items) options more c.args.words.now word value c.options_in-in-None.result (omega arith)
    c.word-item-2.is c.value-item.is flag number
    (c.options_in-in-None.ensures.options ∙ ap (λ ws. options_in more (map (λ w. w.items) ws))
    (rest_whole (λ w. w.items) 2 c.args.words.now))
