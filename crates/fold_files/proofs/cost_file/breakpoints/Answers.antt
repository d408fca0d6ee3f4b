use Rattle.std.proofs.Common.{◌≡◌, Err, arith, ◌++◌, ◌∷◌, [], rules}
use Rattle.std.proofs.lemmas.List.Elements.{All-push}
use Rattle.convex_costs.specs.Bounds.{IsBoundedPoint}
use Rattle.mat_files.proofs.RepeatLaws.{one_more_read, repeated_refused}
use Rattle.mat_files.specs.Reading.{repeated}
use Rattle.fold_files.specs.CostText.{next_breakpoint}
use Rattle.fold_files.proofs.cost_file.breakpoints.Goals as goal

pub returns-in_err-breakpoint-clause-read : goal.returns-in_err-breakpoint-clause-read
returns-in_err-breakpoint-clause-read c =
    let refused : repeated next_breakpoint c.args.count c.args.tokens.now ≡ Err c.in_err-breakpoint.field-0.0 =
    repeated_refused next_breakpoint c.loop.counter c.args.count c.args.tokens.now c.loop.tokens c.loop.points.items _
    c.loop-test.true
    c.loop.invariant.read c.in_err-breakpoint.ensures.read in
    search (rules, refused)

pub loop-preserved : goal.loop-preserved
loop-preserved c =
    let pushed : c.push.new.self.items ≡ c.loop.points.items ++ c.in_ok-breakpoint.field-0 ∷ [] =
    c.in_ok-push.ensures.items in
    record {
      read = rw pushed (one_more_read next_breakpoint c.loop.counter c.args.tokens.now c.loop.tokens
          c.breakpoint.new.tokens c.loop.points.items
          c.in_ok-breakpoint.field-0 c.loop.invariant.read c.in_ok-breakpoint.ensures.read);
      bounded =
          rw pushed (All-push IsBoundedPoint c.loop.points.items c.in_ok-breakpoint.field-0 c.loop.invariant.bounded
          c.in_ok-breakpoint.ensures.bounded);
      many = omega (arith, c.in_ok-push.ensures.len, c.loop.invariant.many);
    }
