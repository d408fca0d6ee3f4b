use Rattle.std.proofs.Common.{◌≡◌, Err, arith, ◌++◌, ◌∷◌, [], rules}
use Rattle.mat_files.proofs.RepeatLaws.{one_more_read, repeated_refused}
use Rattle.mat_files.specs.Reading.{repeated}
use Rattle.fold_files.specs.RelationText.{next_relation}
use Rattle.fold_files.proofs.relation_file.relations.Goals as goal

pub returns-in_err-relation-clause-read : goal.returns-in_err-relation-clause-read
returns-in_err-relation-clause-read c =
    let refused : repeated next_relation c.args.count c.args.tokens.now ≡ Err c.in_err-relation.field-0.0 =
    repeated_refused next_relation c.loop.counter c.args.count c.args.tokens.now c.loop.tokens c.loop.relations.items _
    c.loop-test.true
    c.loop.invariant.read c.in_err-relation.ensures in
    search (rules, refused)

pub loop-preserved : goal.loop-preserved
loop-preserved c =
    let pushed : c.push.new.self.items ≡ c.loop.relations.items ++ c.in_ok-relation.field-0 ∷ [] =
    c.in_ok-push.ensures.items in
    record {
      read = rw pushed (one_more_read next_relation c.loop.counter c.args.tokens.now c.loop.tokens c.relation.new.tokens
          c.loop.relations.items
          c.in_ok-relation.field-0 c.loop.invariant.read c.in_ok-relation.ensures);
      many = omega (arith, c.in_ok-push.ensures.len, c.loop.invariant.many);
    }
