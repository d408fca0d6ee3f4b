use Rattle.std.proofs.Common.{ℕ, List, Bor, sym, ap, ◌∙◌, map, codes, arith}
use Rattle.std.specs.Option.{option_map}
use Rattle.nfold_cli.specs.Words.{is_word, is_prefix, options_in, no_options, command_form}
use Rattle.nfold_cli.proofs.WordLaws.{prefix_found, rest_whole, few_words, form_found}
use Rattle.nfold_cli.proofs.words.form_of.Goals as goal

pub returns-in_default-clause-form : goal.returns-in_default-clause-form
returns-in_default-clause-form c = few_words (λ w. w.items) c.args.words.now c.in_default.len_below

pub returns-clause-form : goal.returns-clause-form
returns-clause-form c =
    let word = c.word-item.result in
    let found = prefix_found (is_prefix c.as_slice.result.now) c.in_ok-prefix.prefix.now c.as_slice.result.now
    (ap (option_map (λ (p : Bor (List ℕ)). p.now)) (sym c.in_ok-prefix.was) ∙ c.prefix.ensures) in
    form_found (λ w. w.items) c.args.words.now c.command-item.result word c.in_ok-prefix.prefix.now
    c.in_ok-options.options _ (omega arith)
    c.command-item.is c.word-item.is
    (ap (λ w. is_word w (codes "trial")) (sym c.deref.ensures.value) ∙ sym c.is_word.ensures ∙ c.if-is_word.false)
    (ap is_prefix (sym c.as_slice.ensures.value) ∙ found.0)
    (found.1 ∙ c.as_slice.ensures.value)
    (ap (λ ws. options_in no_options (map (λ w. w.items) ws)) (sym (rest_whole (λ w. w.items) 2 c.args.words.now)) ∙ sym
    c.options_in.ensures.options ∙ c.in_ok-options.was)
    (c.command_form.ensures.form ∙ ap (λ w. command_form w c.in_ok-prefix.prefix.now c.in_ok-options.options)
    c.deref-2.ensures.value)
