use Rattle.std.proofs.Common.{◌≡◌, arith, ◌++◌, ◌∷◌, [], rules}
use Rattle.std.proofs.lemmas.List.Elements.{All-push}
use Rattle.convex_costs.specs.Bounds.{AreBounded}
use Rattle.mat_files.proofs.RepeatLaws.{one_more_read, refused_so_far}
use Rattle.mat_files.specs.Reading.{repeated, IsTokenFault}
use Rattle.fold_files.specs.CostText.{next_cost}
use Rattle.fold_files.proofs.cost_file.costs.Goals as goal

pub returns-in_err-cost-clause-read : goal.returns-in_err-cost-clause-read
returns-in_err-cost-clause-read c =
    let refused : IsTokenFault (repeated next_cost c.args.count c.args.tokens.now) c.in_err-cost.field-0.0 =
    refused_so_far next_cost c.loop.counter c.args.count c.args.tokens.now c.loop.tokens c.loop.costs.items _
    c.loop-test.true
    c.loop.invariant.read c.in_err-cost.ensures.read in
    search (rules, refused)

pub loop-preserved : goal.loop-preserved
loop-preserved c =
    let pushed : c.push.new.self.items ≡ c.loop.costs.items ++ c.in_ok-cost.field-0 ∷ [] = c.in_ok-push.ensures.items in
    record {
      read = rw pushed (one_more_read next_cost c.loop.counter c.args.tokens.now c.loop.tokens c.cost.new.tokens
          c.loop.costs.items
          c.in_ok-cost.field-0 c.loop.invariant.read c.in_ok-cost.ensures.read);
      bounded =
          rw pushed (All-push AreBounded c.loop.costs.items c.in_ok-cost.field-0 c.loop.invariant.bounded
          c.in_ok-cost.ensures.bounded);
      many = omega (arith, c.in_ok-push.ensures.len, c.loop.invariant.many);
    }
