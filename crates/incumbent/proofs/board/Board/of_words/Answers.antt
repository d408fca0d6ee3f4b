use Rattle.std.proofs.Common.{ℕ, List, sym, ◌∙◌, subst, ap, ◌+◌, ◌*◌, ◌≤◌, take, replicate, ◌∷◌, []}
use Rattle.board_laws.specs.Views.{opening_view}
use Rattle.board_laws.specs.Boards.{IsBoard}
use Rattle.incumbent.proofs.Allowed.{first_allowed}
use Rattle.incumbent.proofs.board.Board.of_words.Goals as goal

pub of_words-requires : goal.of_words-requires
of_words-requires g c =
    let few = subst (λ (n : ℕ). n ≤ 64) c.requires.all c.requires.few in
    subst (λ (ws : List ℕ). IsBoard g.N.Gains.gains ws (opening_view ∷ []))
    (sym (c.requires.words ∙ ap (λ n. take (2 + 2 * n) (replicate 130 0)) c.requires.all))
    (first_allowed g.N.Gains.gains few)
