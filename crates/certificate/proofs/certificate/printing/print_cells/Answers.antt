use Rattle.std.proofs.Common.{◌≡◌, ℕ, ℤ, List, ap, ◌∙◌, ◌++◌, ◌∷◌, [], map, take, get_or, Option, None, append_assoc}
use Rattle.std.proofs.Common.{arith}
use Rattle.std.specs.List.{join_with_byte}
use Rattle.std.proofs.lemmas.List.{take_all}
use Rattle.mat_files.proofs.PrintingLaws.{first_word_written, next_word_written}
use Rattle.certificate.specs.CertificateText.{cell_text}
use Rattle.certificate.proofs.certificate.printing.print_cells.Goals as goal
use Rattle.certificate.proofs.certificate.printing.print_cells.Goals.{then-i-gt0+in_ok-push, else-i-gt0}

pub loop-i-preserved : goal.loop-i-preserved
loop-i-preserved c =
    let row = c.args.row.now in
    let old = c.args.out.now.items in
    elim c.if-i-gt0.branch [
      | then-i-gt0+in_ok-push w ↦
          c.in_ok-print_cell.ensures ∙ next_word_written cell_text row c.loop-i.i None old c.loop-i.out.items
          c.if-i-gt0.out.items
          c.loop-i-test.true w.if-i-gt0.true c.loop-i.invariant (ap (λ t. t.items) w.out-is
          ∙ w.in_ok-push.ensures.items)
      | else-i-gt0 w ↦
          c.in_ok-print_cell.ensures ∙ first_word_written cell_text row c.loop-i.i None old c.if-i-gt0.out.items
          c.loop-i-test.true w.if-i-gt0.false (ap (λ t. t.items) w.out-is ∙ c.loop-i.invariant)
    ]

pub returns : goal.returns
returns c =
    let row = c.args.row.now in
    let old = c.args.out.now.items in
    let all : take c.loop-i.i row ≡ row = take_all c.loop-i.i row (omega (arith, c.loop-i-test.false)) in
    c.in_ok-push-2.ensures.items ∙ ap (λ (t : List ℕ). t ++ 10 ∷ []) c.loop-i.invariant
    ∙ ap (λ (v : List (Option ℤ)). (old ++ join_with_byte 32 (map cell_text v)) ++ 10 ∷ []) all
    ∙ append_assoc old (join_with_byte 32 (map cell_text row)) (10 ∷ [])
