use Rattle.std.proofs.Common.{◌≡◌, arith, ap, ◌∙◌, ◌-◌, ◌++◌, ◌∷◌, [], length, subst, All, FitsSigned}
use Rattle.std.specs.Int.{w64}
use Rattle.std.specs.Fmt.{decimal, signed_decimal}
use Rattle.std.proofs.lemmas.Grind.{common_steps}
use Rattle.mat_files.specs.MatrixText.{parsed_matrix}
use Rattle.mat_files.proofs.RoundTrip.{parsed_matrix-text}
use Rattle.mat_files.proofs.PrintingLaws.{AreWritten, one_row_more, no_row, all_written}
use Rattle.mat_files.proofs.printing.print.Goals as goal
use Rattle.mat_files.proofs.printing.print.Goals.{else-loop-row-test}
use Rattle.mat_files.proofs.printing.print.Goals.{then-loop-row-test+in_ok-print_row+else-row-row-end}

pub loop-row-init : goal.loop-row-init
loop-row-init c =
    let m = c.args.m.now in
    let sizes : c.push-2.new.self.items ≡ decimal (length m.rows) ++ 32 ∷ decimal m.cols ++ 10 ∷ [] = grind
    (arith, common_steps) in
    record {
      from = omega arith;
      to = omega arith;
      rows = no_row signed_decimal (All (λ a. FitsSigned w64 a)) _ _ _
          sizes;
    }

pub loop-row-preserved : goal.loop-row-preserved
loop-row-preserved c = record {
  from = omega arith;
  to = omega (arith, c.rows-row-end.ensures);
  rows = one_row_more signed_decimal (All (λ a. FitsSigned w64 a)) _ _ c.row.result.now _ _ (c.loop-row.row - 1) _
      (omega (arith, c.rows-row-end.ensures, c.loop-row.invariant.from)) (omega (arith, c.loop-row.invariant.from))
      c.row.ensures.entries c.in_ok-print_row.ensures.narrow c.in_ok-print_row.ensures.text c.loop-row.invariant.rows;
}

pub returns : goal.returns
returns c =
    let m = c.args.m.now in
    let head = decimal (length m.rows) ++ 32 ∷ decimal m.cols ++ 10 ∷ [] in
    let is_whole : AreWritten signed_decimal (All (λ a. FitsSigned w64 a)) head m.rows c.loop-row-test.text.items
    (length m.rows) =
    elim c.loop-row-test.branch [
      | else-loop-row-test w ↦
          let all : c.loop-row.row - 1 ≡ length m.rows = omega
          (arith, c.rows-row-end.ensures, w.loop-row-test.false, c.loop-row.invariant.to) in
          rw w.text-is (subst (λ i. AreWritten signed_decimal (All (λ a. FitsSigned w64 a)) head m.rows
          c.loop-row.text.items i) all c.loop-row.invariant.rows)
      | then-loop-row-test+in_ok-print_row+else-row-row-end w ↦
          one_row_more signed_decimal (All (λ a. FitsSigned w64 a)) head m.rows w.row.result.now c.loop-row.text.items
          c.loop-row-test.text.items (c.loop-row.row - 1) (length m.rows)
          (omega (arith, c.rows-row-end.ensures, w.loop-row-test.true, c.loop-row.invariant.from))
          (omega (arith, c.rows-row-end.ensures, c.loop-row.invariant.from, w))
          w.row.ensures.entries w.in_ok-print_row.ensures.narrow
          (ap (λ t. t.items) w.text-is ∙ w.in_ok-print_row.ensures.text) c.loop-row.invariant.rows
    ] in
    let whole = all_written signed_decimal (All (λ a. FitsSigned w64 a)) head m.rows c.loop-row-test.text.items
    is_whole in
    record {
      text = whole.0;
      back = λ s admits.
          ap (parsed_matrix s) whole.0
          ∙ parsed_matrix-text s m admits (omega (arith, c.rows-row-end.ensures, c.rows-row-end.type_inv))
          (omega (arith, c.cols.ensures, c.cols.type_inv)) whole.1;
    }
