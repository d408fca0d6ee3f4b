-- The words of a line, one after the other.
use Rattle.std.proofs.Common.{◌≡◌, ◌-◌, ◌<◌, ◌≤◌, Bool, true, false, ◌&&◌, not, cond, List, [], ◌∷◌, length, take, drop}
use Rattle.std.proofs.Common.{map, get_or, Option, Some, None, refl, ap, subst, ◌∙◌, ℕ, arith, length-drop, codes}
use Rattle.std.proofs.lemmas.List.{take_all}
use Rattle.nfold_cli.specs.declared.words.Options.{Options}
use Rattle.nfold_cli.specs.Words.{Word, FormValue, is_word, is_prefix, with_flag, with_number, options_in, no_options}
use Rattle.nfold_cli.specs.Words.{command_form, form_of}

-- a test on an option that is there already fails
pub not_again : (test there : Bool) → there ≡ true → (test && not there) ≡ false
not_again true there is = rw is refl
not_again false there is = refl

pub not_this : (test other : Bool) → test ≡ false → (test && other) ≡ false
not_this test other is = rw is refl

pub not_there : (test there : Bool) → test ≡ true → there ≡ false → (test && not there) ≡ true
not_there test there is absent = rw (is, absent) refl

-- a prefix that was found is the word
pub prefix_found : (is : Bool) (p w : Word) → Some p ≡ cond is (Some w) None → (is ≡ true) × (p ≡ w)
prefix_found true p w found = (refl, cc)
prefix_found false p w found = absurd (cc)

module _ {V : Type 0} (f : V → Word) where
  -- what follows so many words, to the last one
  pub rest_whole : (k : ℕ) (ws : List V) → take (length ws - k) (drop k ws) ≡ drop k ws
  rest_whole k ws = take_all (length ws - k) (drop k ws) (omega (arith, length-drop k ws))

  -- an option that is a word alone, and more words after it
  pub flag_first : (o more : Options) (ws : List V) (w : V) (found : Option Options) → 2 ≤ length ws → w ≡ get_or ws 0 w
      → with_flag o (f w) ≡ Some more
      → found ≡ options_in more (map f (drop 1 ws))
      → found ≡ options_in o (map f ws)
  flag_first o more [] w found long is flag rest = absurd (omega arith)
  flag_first o more (a ∷ []) w found long is flag rest = absurd (omega arith)
  flag_first o more (a ∷ b ∷ ws) w found long is flag rest =
      let here : with_flag o (f a) ≡ Some more = subst (λ (v : V). with_flag o (f v) ≡ Some more) is flag in
      rw (here, options_in) rest

  -- an option with its value
  pub value_first : (o more : Options) (ws : List V) (w v : V) (found : Option Options) → 2 ≤ length ws
      → w ≡ get_or ws 0 w → v ≡ get_or ws 1 v → with_flag o (f w) ≡ None → with_number o (f w) (f v) ≡ Some more
      → found ≡ options_in more (map f (drop 2 ws))
      → found ≡ options_in o (map f ws)
  value_first o more [] w v found long first second flag number rest = absurd (omega arith)
  value_first o more (a ∷ []) w v found long first second flag number rest = absurd (omega arith)
  value_first o more (a ∷ b ∷ ws) w v found long first second flag number rest =
      let no : with_flag o (f a) ≡ None = subst (λ (u : V). with_flag o (f u) ≡ None) first flag in
      let here : with_number o (f a) (f b) ≡ Some more =
      subst (λ (u : V). with_number o (f a) (f u) ≡ Some more) second
      (subst (λ (u : V). with_number o (f u) (f v) ≡ Some more) first number) in
      rw (no, here, options_in) rest

  -- one word is no form
  pub few_words : (ws : List V) → length ws < 2 → None ≡ form_of (map f ws)
  few_words [] few = refl
  few_words (a ∷ []) few = refl
  few_words (a ∷ b ∷ ws) few = absurd (omega arith)

  -- a command, a prefix and options
  pub form_found : (ws : List V) (command word : V) (prefix : Word) (o : Options) (form : Option FormValue)
      → 2 ≤ length ws
      → command ≡ get_or ws 0 command → word ≡ get_or ws 1 word → is_word (f command) (codes "trial") ≡ false
      → is_prefix (f word) ≡ true → prefix ≡ f word
      → options_in no_options (map f (drop 2 ws)) ≡ Some o → form ≡ command_form (f command) prefix o
      → form ≡ form_of (map f ws)
  form_found [] command word prefix o form long first second other is named options found = absurd (omega arith)
  form_found (a ∷ []) command word prefix o form long first second other is named options found = absurd (omega arith)
  form_found (a ∷ b ∷ ws) command word prefix o form long first second other is named options found =
      let no_trial : is_word (f a) (codes "trial") ≡ false =
      subst (λ (u : V). is_word (f u) (codes "trial") ≡ false) first other in
      let here : is_prefix (f b) ≡ true = subst (λ (u : V). is_prefix (f u) ≡ true) second is in
      let same : prefix ≡ f b = named ∙ ap f second in
      let made : form ≡ command_form (f a) (f b) o =
      subst (λ (u : V). form ≡ command_form (f u) (f b) o) first
      (subst (λ (p : Word). form ≡ command_form (f command) p o) same found) in
      rw (no_trial, here, options) made
