use Rattle.std.proofs.Common.{List, rules, ap, sym, ◌∙◌, drop, take, length, ◌-◌}
use Rattle.mat_files.specs.Tokens.{Token, Left}
use Rattle.mat_files.proofs.TokenLaws.{IsScanned, scanned_token, scanned_nothing}
use Rattle.mat_files.proofs.tokens.Scanner.next.Goals as goal
use Rattle.mat_files.proofs.tokens.Scanner.next.Goals.{After-split_at-2}

-- what was cut off is white space and then a token
cut : (c : After-split_at-2) → IsScanned c.self.inside.at (length c.split_at.result.0.now)
    (length c.split_at-2.result.0.now)
    c.self.inside.bytes.now c.split_at.result.1.now c.split_at-2.result.0.now
cut c =
    let bytes = c.self.inside.bytes.now in
    let at = c.self.inside.at in
    let front = c.split_at.ensures in
    let token = c.split_at-2.ensures in
    record {
      white_is = front.front_len ∙ c.white_len.ensures.value;
      left_is = front.back ∙ ap (λ k. drop k (take (length bytes - at) (drop at bytes))) (sym front.front_len);
      size_is = token.front_len ∙ c.token_len.ensures.value;
      text_is = token.front ∙ ap (λ k. take k c.split_at.result.1.now) (sym token.front_len);
    }

-- these tokens, and the end of the text
abbrev left_of : After-split_at-2 → List Token → Left
left_of c tokens = record { tokens = tokens; end = length c.self.inside.bytes.now }

pub returns : goal.returns
returns c =
    let before = (goal.at.returns c).After-split_at-2 in
    sym c.self.view_is ∙ ap (left_of before) (scanned_token (cut before) (search rules))

pub returns-then-is_empty : goal.returns-then-is_empty
returns-then-is_empty c =
    let before = (goal.at.returns-then-is_empty c).After-split_at-2 in
    let ends = scanned_nothing (cut before) (search rules) in
    (ap (λ l. l.tokens) (sym c.self.view_is) ∙ ends.0, ap (left_of before) (ends.1 ∙ sym ends.0) ∙ c.self.view_is)
