use Rattle.std.proofs.Common.{◌≡◌, rules, arith, pos, ap, ◌∙◌, ◌++◌, get_or, below_more, FitsSigned, to_z-of_z}
use Rattle.std.specs.Int.{w64}
use Rattle.std.specs.Fmt.{signed_decimal}
use Rattle.std.proofs.lemmas.List.Elements.{All-from_get_or}
use Rattle.mat_files.proofs.PrintingLaws.{first_word_written, next_word_written}
use Rattle.mat_files.proofs.printing.print_row.Goals as goal
use Rattle.mat_files.proofs.printing.print_row.Goals.{then-i-gt0+in_ok-push, else-i-gt0}

pub loop-i-preserved : goal.loop-i-preserved
loop-i-preserved c =
    let row = c.args.row.now in
    let old = c.args.out.now.items in
    let a = get_or row c.loop-i.i (pos 0) in
    let fits : FitsSigned w64 a = search rules in
    let number : c.as_bytes.result.now ≡ signed_decimal a = c.as_bytes.ensures.value
    ∙ (simp to_z-of_z at c.format.ensures.text) in
    let written : c.extend_from_slice.new.self.items ≡ c.if-i-gt0.out.items ++ signed_decimal a =
    rw (← number) c.in_ok-extend_from_slice.ensures.items in
    record {
      text =
          elim c.if-i-gt0.branch [
            | then-i-gt0+in_ok-push w ↦
                written ∙ next_word_written signed_decimal row c.loop-i.i (pos 0) old c.loop-i.out.items
                c.if-i-gt0.out.items
                c.loop-i-test.true w.if-i-gt0.true c.loop-i.invariant.text (ap (λ t. t.items) w.out-is
                ∙ w.in_ok-push.ensures.items)
            | else-i-gt0 w ↦
                written ∙ first_word_written signed_decimal row c.loop-i.i (pos 0) old c.if-i-gt0.out.items
                c.loop-i-test.true w.if-i-gt0.false (ap (λ t. t.items) w.out-is ∙ c.loop-i.invariant.text)
          ];
      narrow = below_more _ _ c.loop-i.invariant.narrow fits;
    }

pub returns-clause-narrow : goal.returns-clause-narrow
returns-clause-narrow c =
    All-from_get_or (λ a. FitsSigned w64 a) c.args.row.now (pos 0)
    (λ k inside. c.loop-i.invariant.narrow k (omega arith))
