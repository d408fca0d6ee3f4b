use Rattle.std.proofs.Common.{◌≡◌, ◌++◌, ◌∷◌, [], List, ℤ, Err, ap, ◌∙◌, rules, append_assoc, FitsSigned, to_z-of_z}
use Rattle.std.specs.Int.{w64}
use Rattle.mat_files.specs.Reading.{next_number, repeated}
use Rattle.mat_files.proofs.RepeatLaws.{one_more_read, repeated_refused}
use Rattle.mat_files.proofs.tokens.Scanner.add_numbers.Goals as goal

pub returns-in_err-number : goal.returns-in_err-number
returns-in_err-number c =
    let so_far = c.loop.invariant in
    let refused : repeated (next_number c.args.largest) c.args.count c.args.self.now ≡ Err c.in_err-number.field-0.0 =
    repeated_refused (next_number c.args.largest) c.loop.counter c.args.count c.args.self.now c.loop.self so_far.0 _
    c.loop-test.true
    so_far.1 c.in_err-number.ensures.number in
    search (rules, refused)

pub loop-preserved : goal.loop-preserved
loop-preserved c =
    let a = c.in_ok-number.field-0 in
    let so_far = c.loop.invariant in
    let fits : FitsSigned w64 a = search rules in
    let pushed : c.push.new.self.items ≡ c.loop.numbers.items ++ a ∷ [] = simp to_z-of_z at
    c.in_ok-push.ensures.items in (
      so_far.0 ++ a ∷ [],
      one_more_read (next_number c.args.largest) c.loop.counter c.args.self.now c.loop.self c.number.new.self so_far.0
          a so_far.1
          c.in_ok-number.ensures.number,
      pushed ∙ ap (λ (front : List ℤ). front ++ a ∷ []) so_far.2 ∙ append_assoc c.args.numbers.now.items so_far.0
          (a ∷ []),
    )
